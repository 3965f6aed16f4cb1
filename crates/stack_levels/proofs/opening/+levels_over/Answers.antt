use Rattle.std.proofs.Common.{◌<◌, ◌+◌, length, arith}
use Rattle.stack_levels.specs.Levels.{opening_refusal}
use Rattle.stack_levels.specs.Opening.{defined_views}
use Rattle.stack_levels.proofs.OpeningLemmas.{among_more, longer, some_behind, limit_then, above_then, none_then}
use Rattle.stack_levels.proofs.opening.+levels_over.Goals as goal

pub one_up-requires : goal.one_up-requires
one_up-requires g t c =
    let ds = c.take_first.new.definitions.items in
    let long = longer c.args.definitions.items ds c.in-Some.definition c.in-Some.ensures.first in
    let few : length ds < 18446744073709551615 = omega (arith, long, c.args.definitions.ok, c.args.definitions.small) in
    (length ds, c.in-Err-levels_over.ensures.within, few)

pub returns-in_ok-levels-in-Ok-levels_over-clause-unrefused :
    goal.returns-in_ok-levels-in-Ok-levels_over-clause-unrefused
returns-in_ok-levels-in-Ok-levels_over-clause-unrefused g t c =
    let one = c.in_ok-level.ensures in
    let given = c.in-Ok.ensures in
    none_then c.args.catalogue.databases c.args.definitions.items c.take_first.new.definitions.items c.in-Some.definition c.in-Some.ensures.first c.in_ok-level.level one.level one.unrefused c.in-Ok.given.databases given.given given.within
    c.in-Ok-levels_over.ensures.unrefused

pub returns-in-Err-levels_over-clause-refused : goal.returns-in-Err-levels_over-clause-refused
returns-in-Err-levels_over-clause-refused g t c =
    let one = c.in_ok-level.ensures in
    let given = c.in-Ok.ensures in
    let ds = c.take_first.new.definitions.items in
    above_then c.args.catalogue.databases c.args.definitions.items ds c.in-Some.definition c.in-Some.ensures.first c.in_ok-level.level one.level one.unrefused c.in-Ok.given.databases given.given given.within c.one_up.result
    (c.one_up.ensures.refused (opening_refusal c.in-Ok.given.databases (defined_views ds)) c.in-Err-levels_over.ensures.refused)

pub returns-in-Err-levels_over-clause-within : goal.returns-in-Err-levels_over-clause-within
returns-in-Err-levels_over-clause-within g t c =
    let ds = c.take_first.new.definitions.items in
    let long = longer c.args.definitions.items ds c.in-Some.definition c.in-Some.ensures.first in
    among_more (length ds + 1) (length c.args.definitions.items) c.one_up.result (omega (arith, long)) (c.one_up.ensures.within (length ds) c.in-Err-levels_over.ensures.within)

pub returns-in-Err-clause-refused : goal.returns-in-Err-clause-refused
returns-in-Err-clause-refused g t c =
    let one = c.in_ok-level.ensures in
    let behind = c.take_first.new.definitions in
    limit_then c.args.catalogue.databases c.args.definitions.items behind.items c.in-Some.definition c.in-Some.ensures.first c.in_ok-level.level one.level one.unrefused c.in-Err.limit
    (some_behind behind.items behind.len behind.ok.0 c.if-is_empty.ensures) c.in-Err.ensures.refused

pub returns-in-Err-clause-within : goal.returns-in-Err-clause-within
returns-in-Err-clause-within g t c =
    let behind = c.take_first.new.definitions in
    let long = longer c.args.definitions.items behind.items c.in-Some.definition c.in-Some.ensures.first in
    let some = some_behind behind.items behind.len behind.ok.0 c.if-is_empty.ensures in
    among_more 2 (length c.args.definitions.items) c.in-Err.limit (omega (arith, long, some)) c.in-Err.ensures.among
