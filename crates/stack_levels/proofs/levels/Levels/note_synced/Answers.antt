use Rattle.std.proofs.Common.{◌∙◌, List, length, drop, map, sym, ap, subst}
use Rattle.std.proofs.lemmas.List.{take_at}
use Rattle.stack_levels.specs.States.{LevelState, level_synced, lowest_catalogue, databases_of, views_of, AreLevels}
use Rattle.stack_levels.specs.Opening.{AreFresh}
use Rattle.stack_levels.proofs.KeptLemmas.{databases_synced, levels_synced, fresh_synced}
use Rattle.stack_levels.proofs.levels.Levels.note_synced.Goals as goal

pub invariant_of-self : goal.invariant_of-self
invariant_of-self c =
    let own = c.self.inside.levels in
    let new = c.note_all.new.levels in
    let is = take_at new (drop (length new) own.items) own.len (c.note_all.auto.levels ∙ c.deref_mut.ensures.len) ∙ c.note_all.ensures ∙ ap (map level_synced) c.deref_mut.ensures.value in
    c.self.invariant ∙ sym (databases_synced own.items) ∙ ap databases_of (sym is)

pub returns-clause-all : goal.returns-clause-all
returns-clause-all c =
    let own = c.self.inside.levels in
    let new = c.note_all.new.levels in
    take_at new (drop (length new) own.items) own.len (c.note_all.auto.levels ∙ c.deref_mut.ensures.len) ∙ c.note_all.ensures ∙ ap (map level_synced) (c.deref_mut.ensures.value ∙ c.self.view_is)

pub returns-clause-levels : goal.returns-clause-levels
returns-clause-levels c =
    let own = c.self.inside.levels in
    let new = c.note_all.new.levels in
    let is = take_at new (drop (length new) own.items) own.len (c.note_all.auto.levels ∙ c.deref_mut.ensures.len) ∙ c.note_all.ensures ∙ ap (map level_synced) (c.deref_mut.ensures.value ∙ c.self.view_is) in
    subst AreLevels (sym is) (levels_synced c.args.self.now c.requires.levels)

pub returns-clause-fresh : goal.returns-clause-fresh
returns-clause-fresh c =
    let own = c.self.inside.levels in
    let new = c.note_all.new.levels in
    let old = c.args.self.now in
    let is = take_at new (drop (length new) own.items) own.len (c.note_all.auto.levels ∙ c.deref_mut.ensures.len) ∙ c.note_all.ensures ∙ ap (map level_synced) (c.deref_mut.ensures.value ∙ c.self.view_is) in
    subst (λ (ls : List LevelState). AreFresh ls (lowest_catalogue old) (views_of old)) (sym is) (fresh_synced old c.requires.levels)
