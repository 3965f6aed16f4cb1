-- Replays, entry by entry.
use Rattle.std.proofs.Common.{◌≡◌, inl, inr, ℕ, ◌+◌, ◌<◌, ◌≤◌, Bool, true, false, cond, List, [], ◌∷◌, ◌++◌, length, drop, get_or, Option, None, Some, is_some, Result, Ok, Err, refl, sym, ap, ◌∙◌, subst, append_assoc, arith, length-append}
use Rattle.std.specs.Prelude.{not}
use Rattle.std.specs.Option.{option_or}
use Rattle.std.proofs.lemmas.List.{at_drop_more, at_drop_all}
use Rattle.disk.specs.Disk.{Content, DiskState, MayLeave}
use Rattle.disk.specs.Moments.{Elapses}
use Rattle.schema_model.specs.Catalogue.{CatalogueValue}
use Rattle.schema_model.specs.Changes.{after, after_all}
use Rattle.schema_model.specs.Refusals.{fault, group_fault}
use Rattle.schema_model.specs.declared.change.Change.{Change}
use Rattle.schema_model.specs.declared.refusal.Refusal.{Refusal}
use Rattle.change_journal.specs.Spelled.{Group}
use Rattle.change_journal.specs.States.{WindowState}
use Rattle.change_journal.specs.Opening.{HasRead, Says}
use Rattle.journal_log.specs.Replay.{replayed_from, by_groups, by_reading, replayed, Replays, Replaying}
use Rattle.journal_log.specs.declared.fault.JournalRefusal.TheVariants as refusal
use Rattle.journal_log.specs.declared.fault.ReplayFault.TheVariants as fault_is

by_first : (b : Bool) (n : ℕ) (rest : Result CatalogueValue ℕ) (d : CatalogueValue) → cond b (Err n) rest ≡ Ok d → (b ≡ false) × (rest ≡ Ok d)
by_first true n rest d e = absurd (cc)
by_first false n rest d e = (refl, e)

-- one group more is made
pub replayed_more : (groups : List Group) (n : ℕ) (c d : CatalogueValue) (group : Group) → replayed_from n c groups ≡ Ok d → is_some (group_fault d group) ≡ false → replayed_from n c (groups ++ group ∷ []) ≡ Ok (after_all d group)
replayed_more [] n c d group e fits =
    let same : c ≡ d = cc in
    ap (λ (x : CatalogueValue). cond (is_some (group_fault x group)) (Err n) (Ok (after_all x group))) same ∙ ap (λ (b : Bool). cond b (Err n) (Ok (after_all d group))) fits
replayed_more (first ∷ groups) n c d group e fits =
    let p = by_first (is_some (group_fault c first)) n (replayed_from (n + 1) (after_all c first) groups) d e in
    ap (λ (b : Bool). cond b (Err n) (replayed_from (n + 1) (after_all c first) (groups ++ group ∷ []))) p.0 ∙ replayed_more groups (n + 1) (after_all c first) d group p.1 fits

counted_none : (n : ℕ) → n ≡ n + 0
counted_none n = omega arith

counted_more : (first : Group) (groups : List Group) (n : ℕ) → n + 1 + length groups ≡ n + length (first ∷ groups)
counted_more first groups n = omega arith

-- or it is the first that is refused, whatever follows
pub replayed_stale : (groups : List Group) (n : ℕ) (c d : CatalogueValue) (group : Group) (more : List Group) → replayed_from n c groups ≡ Ok d → is_some (group_fault d group) ≡ true → replayed_from n c (groups ++ group ∷ more) ≡ Err (n + length groups)
replayed_stale [] n c d group more e refused =
    let same : c ≡ d = cc in
    ap (λ (x : CatalogueValue). cond (is_some (group_fault x group)) (Err n) (replayed_from (n + 1) (after_all x group) more)) same
    ∙ ap (λ (b : Bool). cond b (Err n) (replayed_from (n + 1) (after_all d group) more)) refused
    ∙ ap (λ (k : ℕ). Err k) (counted_none n)
replayed_stale (first ∷ groups) n c d group more e refused =
    let p = by_first (is_some (group_fault c first)) n (replayed_from (n + 1) (after_all c first) groups) d e in
    ap (λ (b : Bool). cond b (Err n) (replayed_from (n + 1) (after_all c first) (groups ++ group ∷ more))) p.0
    ∙ replayed_stale groups (n + 1) (after_all c first) d group more p.1 refused
    ∙ ap (λ (k : ℕ). Err k) (counted_more first groups n)

-- on the way
module _ (first now : CatalogueValue) (count : ℕ) (s t : WindowState) (content : Option Content) (r : Replaying first now count s content) where
  pub replaying_more : (later : CatalogueValue) (group : Group) (d : Option Content) (number : ℕ) → HasRead (r.groups ++ group ∷ []) t d → is_some (group_fault now group) ≡ false → later ≡ after_all now group → number ≡ count + 1 → Replaying first later number t d
  replaying_more later group d number read fits is one = record {
    groups = r.groups ++ group ∷ [];
    read = read;
    made = replayed_more r.groups 1 first now group r.made fits ∙ ap Ok (sym is);
    counted = omega (arith, length-append r.groups (group ∷ []), r.counted, one);
  }

  -- at the end
  pub replayed_whole : (end : ℕ) (shut : Bool) → Says (Ok (record { groups = r.groups; end = end })) content → (held : Content) → content ≡ Some held → Replays (replayed first held.bytes) now (Ok (record { end = end; is_shut = shut }))
  replayed_whole end shut says held told = ap (by_reading first) (says held told) ∙ ap (by_groups end) r.made

  pub replayed_bad : (c : CatalogueValue) (at : ℕ) → Says (Err at) content → (held : Content) → content ≡ Some held → Replays (replayed first held.bytes) c (Err (fault_is.Refused (refusal.BadJournal at)))
  replayed_bad c at says held told = ap (by_reading first) (says held told)

  pub replayed_refused : (c : CatalogueValue) (group : Group) (more : List Group) (end : ℕ) → is_some (group_fault now group) ≡ true → Says (Ok (record { groups = (r.groups ++ group ∷ []) ++ more; end = end })) content
      → (held : Content) → content ≡ Some held → Replays (replayed first held.bytes) c (Err (fault_is.Refused (refusal.Stale (count + 1))))
  replayed_refused c group more end refused says held told =
      let number : 1 + length r.groups ≡ count + 1 = omega (arith, r.counted) in
      ap (by_reading first) (says held told)
      ∙ ap (λ (gs : List Group). by_groups end (replayed_from 1 first gs)) (append_assoc r.groups (group ∷ []) more)
      ∙ ap (by_groups end) (replayed_stale r.groups 1 first now group more r.made refused)
      ∙ ap (λ (k : ℕ). Err (refusal.Stale k)) number

-- one call after another
pub elapses_then : (old mid new : DiskState) (past then since : ℕ → List ℕ → Type 0) → new.content ≡ mid.content → Elapses old mid past then → Elapses mid new then since → Elapses old new past since
elapses_then old mid new past then since same a b = record {
  later = omega (arith, a.later, b.later);
  nothing_else = λ t image le h. elim (b.nothing_else t image (omega (arith, le, a.later)) h) [
    | inl was ↦ elim (a.nothing_else t image le was) [ inl first ↦ inl first | inr now ↦ inr (subst (λ (x : Option Content). MayLeave x image) (sym same) now) ]
    | inr now ↦ inr now
  ];
  keeps = λ t image le h. b.keeps t image (omega (arith, le, a.later)) (a.keeps t image le h);
}

-- what a test says
pub not_true : (b : Bool) → not b ≡ true → b ≡ false
not_true true h = absurd (cc h)
not_true false h = refl

pub not_false : (b : Bool) → not b ≡ false → b ≡ true
not_false true h = refl
not_false false h = absurd (cc h)

-- the first of two faults
or_some : (x y : Option Refusal) → is_some x ≡ true → is_some (option_or x y) ≡ true
or_some None y h = absurd (cc h)
or_some (Some r) y h = refl

or_none : (x y : Option Refusal) → is_some x ≡ false → option_or x y ≡ y
or_none None y h = refl
or_none (Some r) y h = absurd (cc h)

-- changes of which some are made: the next one is refused, or made too
module _ (changes : List Change) (i : ℕ) (g : Change) (c now : CatalogueValue) (there : i < length changes) (is : g ≡ get_or changes i g) where
  next_fault : group_fault c changes ≡ group_fault now (drop i changes) → group_fault c changes ≡ option_or (fault now g) (group_fault (after now g) (drop (i + 1) changes))
  next_fault e = e ∙ at_drop_more (group_fault now) changes i g there ∙ ap (λ (h : Change). group_fault now (h ∷ drop (i + 1) changes)) (sym is)

  pub next_refused : group_fault c changes ≡ group_fault now (drop i changes) → is_some (fault now g) ≡ true → is_some (group_fault c changes) ≡ true
  next_refused e refused = ap is_some (next_fault e) ∙ or_some (fault now g) (group_fault (after now g) (drop (i + 1) changes)) refused

  pub next_fits : group_fault c changes ≡ group_fault now (drop i changes) → is_some (fault now g) ≡ false → (later : CatalogueValue) → later ≡ after now g → group_fault c changes ≡ group_fault later (drop (i + 1) changes)
  next_fits e fits later made = next_fault e ∙ or_none (fault now g) (group_fault (after now g) (drop (i + 1) changes)) fits ∙ ap (λ (d : CatalogueValue). group_fault d (drop (i + 1) changes)) (sym made)

  pub next_made : after_all c changes ≡ after_all now (drop i changes) → (later : CatalogueValue) → later ≡ after now g → after_all c changes ≡ after_all later (drop (i + 1) changes)
  next_made e later made = e ∙ at_drop_more (after_all now) changes i g there ∙ ap (λ (h : Change). after_all now (h ∷ drop (i + 1) changes)) (sym is) ∙ ap (λ (d : CatalogueValue). after_all d (drop (i + 1) changes)) (sym made)

-- all of them are made
pub all_fit : (changes : List Change) (i : ℕ) (c now : CatalogueValue) → length changes ≤ i → group_fault c changes ≡ group_fault now (drop i changes) → group_fault c changes ≡ None
all_fit changes i c now past e = e ∙ at_drop_all (group_fault now) changes i past

pub all_made : (changes : List Change) (i : ℕ) (c now : CatalogueValue) → length changes ≤ i → after_all c changes ≡ after_all now (drop i changes) → now ≡ after_all c changes
all_made changes i c now past e = sym (e ∙ at_drop_all (after_all now) changes i past)
