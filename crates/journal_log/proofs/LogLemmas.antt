-- What an append keeps, as a run sees it: by the lines of its entries.
use Rattle.std.proofs.Common.{◌≡◌, ◌<◌, ◌≤◌, ⊎_elim, inl, inr, ℕ, Bool, true, false, ◌&&◌, nat_le, List, [], ◌∷◌, ◌++◌, length, map, Option, Some, Result, Ok, Err, refl, sym, ap, ◌∙◌, subst, append-nil, arith}
use Rattle.std.proofs.lemmas.Bool.Decides.{nat_tests}
use Rattle.std.specs.Prelude.{IsTrue}
use Rattle.std.specs.List.{AllByRecursion, list_all}
use Rattle.disk.specs.Disk.{Content, DiskState, MayLeave}
use Rattle.disk.specs.Moments.{LeavesOnly}
use Rattle.schema_model.specs.Changes.{is_well_formed}
use Rattle.schema_model.specs.declared.change.Change.{Change}
use Rattle.outside.specs.Effects.{World, contents}
use Rattle.course.specs.declared.status.Verdict.{Verdict}
use Rattle.course.specs.declared.status.LineStop.{LineStop}
use Rattle.course.specs.Keeping.{Entry, Log, LeavesNow, HasFront, LeavesFrontNow, LeavesFronts, Keeps}
use Rattle.course.proofs.KeepingLemmas.{front_none, front_more, fronts_none}
use Rattle.change_journal.specs.Spelled.{Group, spelled, IsSpellable}
use Rattle.change_journal.specs.Entries.{entries}
use Rattle.change_journal.specs.Journals.{AllHave}
use Rattle.change_journal.specs.Journals as journal
use Rattle.change_journal.specs.Lines.{lines_in, read_lines}
use Rattle.change_journal.proofs.LineLemmas.{all_have}
use Rattle.journal_log.specs.Logs.{log_of, KeepsFirst}
use Rattle.journal_log.specs.Room.{appended_by, appended_to}

-- changes that a line can say, of which there are some
both : (a b : Bool) → a ≡ true → b ≡ true → (a && b) ≡ true
both true b p q = q
both false b p q = absurd (cc p)

all_formed : (gs : Group) → AllByRecursion (λ (g : Change). IsTrue (is_well_formed g)) gs → list_all is_well_formed gs ≡ true
all_formed [] h = refl
all_formed (g ∷ gs) h = both (is_well_formed g) (list_all is_well_formed gs) h.0 (all_formed gs h.1)

pub spellable : (group : Group) → 0 < length group → AllByRecursion (λ (g : Change). IsTrue (is_well_formed g)) group → IsSpellable group
spellable [] some formed = absurd (omega (arith, some))
spellable (g ∷ gs) some formed =
    let first : nat_le 1 (length (g ∷ gs)) ≡ true = grind (arith, nat_tests) in
    both (nat_le 1 (length (g ∷ gs))) (list_all is_well_formed (g ∷ gs)) first (all_formed (g ∷ gs) formed)

-- some changes for which there is room
pub room_appended : (end : ℕ) (group : Group) → 0 < length group → journal.is_full end group ≡ false → appended_to end group ≡ group ∷ []
room_appended end [] some room = absurd (omega (arith, some))
room_appended end (g ∷ gs) some room = ap (appended_by (g ∷ gs)) room

-- where no more than some entries were left, no more than a front of any others behind them was
wider : {D : Type 0} (log : Log D) (es notes : List Entry) (old new : D) → LeavesFronts log es [] old new → LeavesFronts log es notes old new
wider log es notes old new h = record { later = h.later; each = λ t c le since. ⊎_elim (λ past. inl past) (λ front. inr (front_more log es [] notes c front)) (h.each t c le since) }

-- the lines of groups behind others
pub lines_append : (groups more : List Group) → lines_in (groups ++ more) ≡ lines_in groups ++ lines_in more
lines_append [] more = refl
lines_append (group ∷ groups) more = ap (λ (t : List Entry). map spelled group ∷ t) (lines_append groups more)

-- an image has a front of groups, and of their lines
front_lines : (groups more : List Group) (image : List ℕ) → journal.HasFront groups more image → HasFront (λ bytes. read_lines (entries bytes)) (lines_in groups) (lines_in more) image
front_lines groups more image h = record {
  front = lines_in h.front;
  rest = lines_in h.rest;
  are = ap lines_in h.are ∙ lines_append h.front h.rest;
  hold = ap read_lines h.hold ∙ ap Some (lines_append groups h.front);
}

module _ {D : Type 0} (state : D → DiskState) (left_since : D → ℕ → List ℕ → Type 0) where
  abbrev log : Log D
  log = log_of state left_since

  -- the groups that every crash image has, where all have these lines
  pub groups_told : (es : List Entry) (d : D) → ((held : Content) → (state d).content ≡ Some held → held.stable ≤ length held.bytes) → ((t : ℕ) (image : List ℕ) → t ≤ (state d).moment → MayLeave (state d).content image → left_since d t image)
      → LeavesNow log es d → (groups : List Group) × (lines_in groups ≡ es) × AllHave groups (state d).content
  groups_told es d reads counts leaves = all_have (state d).content es reads (λ image may. leaves image (counts (state d).moment image (omega arith) may))

  -- and their lines, where all have these groups
  lines_told : (groups : List Group) (d : D) → ((image : List ℕ) → left_since d (state d).moment image → MayLeave (state d).content image) → AllHave groups (state d).content → LeavesNow log (lines_in groups) d
  lines_told groups d only all c since = ap read_lines (all c (only c since))

  fronts_told : (groups more : List Group) (old new : D) → LeavesOnly (state old) (state new) (left_since old) (left_since new) (journal.HasFront groups more) → LeavesFronts log (lines_in groups) (lines_in more) old new
  fronts_told groups more old new h = record {
    later = h.later;
    each = λ t c le since. ⊎_elim (λ past. inl past) (λ front. inr (front_lines groups more c front)) (h.before t c le since);
  }

  front_told : (groups more : List Group) (old new : D) → ((t : ℕ) (image : List ℕ) → t ≤ (state new).moment → MayLeave (state new).content image → left_since new t image) → ((image : List ℕ) → left_since new (state new).moment image → MayLeave (state new).content image)
      → LeavesOnly (state old) (state new) (left_since old) (left_since new) (journal.HasFront groups more) → LeavesFrontNow log (lines_in groups) (lines_in more) new
  front_told groups more old new counts only h c since = front_lines groups more c (h.each c (counts (state old).moment c h.later (only c since)))

  -- what is kept of a group that was appended, of one for which the disk failed, and of one for which memory lacked
  module _ (es : List Entry) (group : Group) (old new : D) (reads : (held : Content) → (state old).content ≡ Some held → held.stable ≤ length held.bytes) (counts_old : (t : ℕ) (image : List ℕ) → t ≤ (state old).moment → MayLeave (state old).content image → left_since old t image)
      (counts : (t : ℕ) (image : List ℕ) → t ≤ (state new).moment → MayLeave (state new).content image → left_since new t image) (only : (image : List ℕ) → left_since new (state new).moment image → MayLeave (state new).content image) (leaves : LeavesNow log es old) where
    pub group_kept : {A : Type 0} (a : A) → ((groups : List Group) → AllHave groups (state old).content → LeavesOnly (state old) (state new) (left_since old) (left_since new) (journal.HasFront groups (group ∷ [])))
        → ((groups : List Group) → AllHave groups (state old).content → AllHave (groups ++ group ∷ []) (state new).content) → KeepsFirst log es (lines_in (group ∷ [])) old new (Ok a)
    group_kept a moments there =
        let told = groups_told es old reads counts_old leaves in
        subst (λ (xs : List Entry). KeepsFirst log xs (lines_in (group ∷ [])) old new (Ok a)) told.1 (record {
          fronts = fronts_told told.0 (group ∷ []) old new (moments told.0 told.2);
          kept = λ c since. lines_told (told.0 ++ group ∷ []) new only (there told.0 told.2) c since ∙ ap Some (lines_append told.0 (group ∷ []));
        })

    pub group_doubted : {A : Type 0} (e : LineStop) → ((groups : List Group) → AllHave groups (state old).content → LeavesOnly (state old) (state new) (left_since old) (left_since new) (journal.HasFront groups (group ∷ []))) → KeepsFirst {A = A} log es (lines_in (group ∷ [])) old new (Err e)
    group_doubted {A = A} e moments =
        let told = groups_told es old reads counts_old leaves in
        subst (λ (xs : List Entry). KeepsFirst {A = A} log xs (lines_in (group ∷ [])) old new (Err e)) told.1 (record {
          fronts = fronts_told told.0 (group ∷ []) old new (moments told.0 told.2);
          kept = front_told told.0 (group ∷ []) old new counts only (moments told.0 told.2);
        })

    pub group_lacked : {A : Type 0} (e : LineStop) (notes : List Entry) → ((groups : List Group) → AllHave groups (state old).content → LeavesOnly (state old) (state new) (left_since old) (left_since new) (journal.HasFront groups []))
        → ((groups : List Group) → AllHave groups (state old).content → AllHave groups (state new).content) → KeepsFirst {A = A} log es notes old new (Err e)
    group_lacked {A = A} e notes moments there =
        let told = groups_told es old reads counts_old leaves in
        subst (λ (xs : List Entry). KeepsFirst {A = A} log xs notes old new (Err e)) told.1 (record {
          fronts = wider log (lines_in told.0) notes old new (fronts_told told.0 [] old new (moments told.0 told.2));
          kept = λ c since. front_none log (lines_in told.0) notes c (lines_told told.0 new only (there told.0 told.2) c since);
        })

module _ {D : Type 0} (log : Log D) (es : List Entry) where
  -- nothing was kept, and there was nothing to keep, or memory lacked before
  pub none_first : {A : Type 0} (notes : List Entry) (d : D) (a : A) → notes ≡ [] → LeavesNow log es d → KeepsFirst log es notes d d (Ok a)
  none_first notes d a none leaves = rw none (record { fronts = fronts_none log es d; kept = λ c since. leaves c since ∙ ap Some (sym (append-nil es)) })

  pub lacked_first : {A : Type 0} (notes : List Entry) (d : D) (e : LineStop) → LeavesNow log es d → KeepsFirst {A = A} log es notes d d (Err e)
  lacked_first notes d e leaves = record { fronts = wider log es notes d d (fronts_none log es d); kept = λ c since. front_none log es notes c (leaves c since) }

  module _ (notes : List Entry) (old new : D) (world later : World) where
    -- what was kept is kept whatever is done then
    pub kept_then : {A : Type 0} (a : A) (r : Result (Option Verdict) LineStop) → KeepsFirst log es notes old new (Ok a) → Keeps log es notes old new world later r
    kept_then a (Ok v) h = record { fronts = h.fronts; kept = h.kept }
    kept_then a (Err e) h = record { fronts = h.fronts; kept = inl h.kept }

    -- and where it was not, nothing else was done
    pub not_kept : {A : Type 0} (e f : LineStop) → KeepsFirst {A = A} log es notes old new (Err e) → contents later ≡ contents world → Keeps log es notes old new world later (Err f)
    not_kept e f h same = record { fronts = h.fronts; kept = inr (same, h.kept) }
