use Rattle.std.proofs.Common.{◌≡◌, List, Vec, length, arith, ap, sym, ◌∙◌}
use Rattle.std.specs.Global.{Global}
use Rattle.std.proofs.lemmas.List.{length-map}
use Rattle.ss_text.specs.Texts.{Row}
use Rattle.plan_translate.specs.Parts.{own_tests}
use Rattle.plan_translate.proofs.OwnRows.{listed_long}
use Rattle.plan_translate.proofs.listed.listed.Goals as goal

pub remove-first-requires : goal.remove-first-requires
remove-first-requires c =
    let all : List (Vec Row Global) = c.in_ok-further.further.items in
    let tests = c.args.tests.now in
    let few : length (own_tests tests) ≡ length tests = length-map tests _ in
    let long : length all ≡ length tests = sym (length-map all _) ∙ ap length c.in_ok-further.ensures ∙ listed_long c.args.catalogue.now.databases c.args.specs.now (own_tests tests) (c.requires.each ∙ sym few) ∙ few in
    omega (arith, long, c.requires.each, c.requires.some, c.in_ok-further.further.ok.0)
