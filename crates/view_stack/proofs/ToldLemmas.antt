-- What levels tell where they take changes, or refuse them.
use Rattle.std.proofs.Common.{◌≡◌, ◌∙◌, ◌+◌, ℕ, zero, suc, List, [], ◌∷◌, Option, Some, None, map, drop, refl, sym, ap, subst}
use Rattle.std.specs.Prelude.{option_map, ⊤}
use Rattle.std.specs.Option.{option_or}
use Rattle.ss_text.specs.Texts.{Text}
use Rattle.flow_law.specs.Script.{script}
use Rattle.flow_law.specs.Tables.{TablesValue}
use Rattle.flow_law.specs.declared.line.TableLine.{TableLine}
use Rattle.schema_model.specs.Catalogue.{CatalogueValue}
use Rattle.schema_model.specs.Changes.{after, after_all}
use Rattle.schema_model.specs.Refusals.{fault, group_fault}
use Rattle.schema_model.specs.declared.change.Change.{Change}
use Rattle.schema_model.specs.declared.refusal.Refusal.{Refusal}
use Rattle.schema_model.specs.declared.refusal.Refusal.TheVariants.{NoDatabase, IllegalName, DatabaseThere, NoRelation, RelationThere, NoAttribute, AttributeThere, LastAttribute, ArityDiffers, NoRow, Limit}
use Rattle.schema_model.specs.declared.refusal.Which.{Which}
use Rattle.apply_law.specs.Standing.{Standing, Waiting, tables_of, verdict_after, made}
use Rattle.apply_law.specs.Verdicts.{Verdict, Makes, IsIllegal, Clashes, tables_in, IsScriptTo, first_fault_from, IsGroupRefused}
use Rattle.apply_law.specs.declared.refused.GroupRefused.{GroupRefused}
use Rattle.apply_law.specs.declared.refused.GroupRefused.TheVariants as refused
use Rattle.view_stack.specs.Stands.{catalogue_for}
use Rattle.view_stack.specs.Limits.{lifted_limit}
use Rattle.view_stack.specs.Lifted.{lifted}
use Rattle.view_stack.specs.Stacks.{AreStacked, changes_above, Takes, AreTaken, made_all, IsStackRefused, AreProposed, proposing_all, IsLifted, LiftsAbove, AreLifted, IsLiftRefused, HaveProposed}
use Rattle.view_stack.specs.Told.{Cause, Passes, cause_of, at_level, one_up, limit_above, given_above, first_refusal, lines_over, IsOver, lowest, comes_to, IsPassed, IsTold}
use Rattle.view_stack.proofs.StackLemmas.{all_taken}

-- ---- changes that are refused
abbrev pub refusal_in : ℕ × Refusal → Refusal
refusal_in x = x.1

-- the first that is refused, and the refusal of all
pub first_is : (n : ℕ) (c : CatalogueValue) (gs : List Change) → option_map refusal_in (first_fault_from n c gs) ≡ group_fault c gs
first_is n c [] = refl
first_is n c (g ∷ gs) = either_way (fault c g) (first_fault_from (n + 1) (after c g) gs) ∙ ap (option_or (fault c g)) (first_is (n + 1) (after c g) gs)
  where
    either_way : (o : Option Refusal) (f : Option (ℕ × Refusal)) → option_map refusal_in (option_or (option_map (λ (r : Refusal). (n, r)) o) f) ≡ option_or o (option_map refusal_in f)
    either_way None f = refl
    either_way (Some r) f = refl

-- tables that a level comes to, with the script to them
record Comes (s : Standing) (gs : List Change) (lines : List TableLine) : Type 0 where
  new : TablesValue
  verdict : verdict_after s gs ≡ Makes new
  script_is : lines ≡ script (tables_of s) new

comes : (s : Standing) (gs : List Change) (lines : List TableLine) → IsScriptTo (tables_of s) (verdict_after s gs) lines → Comes s gs lines
comes s gs lines h = by_verdict (verdict_after s gs) refl h
  where
    by_verdict : (v : Verdict) → verdict_after s gs ≡ v → IsScriptTo (tables_of s) v lines → Comes s gs lines
    by_verdict (Makes new) e is = record { new = new; verdict = e; script_is = is }
    by_verdict (IsIllegal label) e is = absurd is
    by_verdict (Clashes clash) e is = absurd is

-- ---- one level more below
passed_up : (o : Option (ℕ × Cause)) (level : ℕ) (r : Refusal) → IsPassed o level r → IsPassed (option_map one_up o) (suc level) r
passed_up o level (Limit which) h = ap (option_map one_up) h
passed_up o level NoDatabase h = absurd h
passed_up o level IllegalName h = absurd h
passed_up o level DatabaseThere h = absurd h
passed_up o level NoRelation h = absurd h
passed_up o level RelationThere h = absurd h
passed_up o level NoAttribute h = absurd h
passed_up o level (AttributeThere place) h = absurd h
passed_up o level LastAttribute h = absurd h
passed_up o level (ArityDiffers want got) h = absurd h
passed_up o level NoRow h = absurd h

told_up : (o : Option (ℕ × Cause)) (level : ℕ) (why : GroupRefused) → IsTold o level why → IsTold (option_map one_up o) (suc level) why
told_up o level (refused.Change place r) h = passed_up o level r h
told_up o level (refused.Illegal label) h = ap (option_map one_up) h
told_up o level (refused.Conflict clash) h = ap (option_map one_up) h
told_up o level refused.NoMemory h = tt

-- the lowest level has the verdict over this catalogue after changes
abbrev pub Starts : List Standing → List Change → CatalogueValue → Type 0
Starts [] gs d = ⊤
Starts (s ∷ levels) gs d = verdict_after s gs ≡ s.verdict d

module _ (s : Standing) (levels : List Standing) (names : List Text) where
  -- what is told behind the verdict of the lowest of levels, and with it
  abbrev behind : TablesValue → Option (ℕ × Cause)
  behind new = option_or (option_map (λ which. at_level 2 (Passes which)) (limit_above names s levels new)) (option_map one_up (first_refusal levels (drop 1 names) (given_above names s new)))

  abbrev judged : Verdict → Option (ℕ × Cause)
  judged v = option_or (option_map (at_level 1) (cause_of v)) (behind (tables_in v))

  own_told : (gs : List Change) (why : GroupRefused) (d : CatalogueValue) → verdict_after s gs ≡ s.verdict d → group_fault s.catalogue gs ≡ None → IsGroupRefused s.verdict s.catalogue gs why → IsTold (first_refusal (s ∷ levels) names d) 1 why
  own_told gs (refused.Change place r) d starts none h =
      let bad : Some r ≡ None = sym (ap (option_map refusal_in) h) ∙ first_is 0 s.catalogue gs ∙ none in
      absurd (cc)
  own_told gs (refused.Illegal label) d starts none h = ap judged (sym starts ∙ h.1)
  own_told gs (refused.Conflict clash) d starts none h = ap judged (sym starts ∙ h.1)
  own_told gs refused.NoMemory d starts none h = tt

-- ---- a level above refuses
module _ (s t : Standing) (levels : List Standing) (name : Text) (names : List Text) (gs : List Change) (d : CatalogueValue) (starts : verdict_after s gs ≡ s.verdict d) (lines : List TableLine) (takes : Takes s gs lines) (lift : IsLifted name s t gs lines) where
  abbrev changes : List Change
  changes = lifted name s.shape.constants (tables_of s) t.catalogue lines

  to : Comes s gs lines
  to = comes s gs lines takes.1

  abbrev limit : Option Which
  limit = lifted_limit name s.shape (tables_of s) lines

  abbrev above : Option (ℕ × Cause)
  above = first_refusal (t ∷ levels) names (catalogue_for name s.shape to.new)

  abbrev by_both : Option Which → Option (ℕ × Cause)
  by_both o = option_or (option_map (λ which. at_level 2 (Passes which)) o) (option_map one_up above)

  is_behind : first_refusal (s ∷ t ∷ levels) (name ∷ names) d ≡ by_both limit
  is_behind =
      ap (judged s (t ∷ levels) (name ∷ names)) (sym starts ∙ to.verdict)
      ∙ ap (λ (ls : List TableLine). by_both (lifted_limit name s.shape (tables_of s) ls)) (sym to.script_is)

  above_starts : group_fault t.catalogue changes ≡ None → verdict_after t changes ≡ t.verdict (catalogue_for name s.shape to.new)
  above_starts none = lift.verdict none ∙ ap (λ (v : Verdict). t.verdict (catalogue_for name s.shape (tables_in v))) to.verdict

  -- where a limit is passed on the way, it is the refusal
  limit_told : (which : Which) (k : ℕ) (why : GroupRefused) → group_fault t.catalogue changes ≡ Some (Limit which) → IsLiftRefused (t ∷ levels) names changes (suc k) why → IsTold (Some (2, Passes which)) (suc (suc k)) why
  limit_told which zero (refused.Change place r) e h =
      let same : Some r ≡ Some (Limit which) = sym (ap (option_map refusal_in) h) ∙ first_is 0 t.catalogue changes ∙ e in
      let is : r ≡ Limit which = cc in
      subst (IsPassed (Some (2, Passes which)) 2) (sym is) refl
  limit_told which zero (refused.Illegal label) e h = let bad : Some (Limit which) ≡ None = sym e ∙ h.0 in absurd (cc)
  limit_told which zero (refused.Conflict clash) e h = let bad : Some (Limit which) ≡ None = sym e ∙ h.0 in absurd (cc)
  limit_told which zero refused.NoMemory e h = tt
  limit_told which (suc k) why e h = let bad : Some (Limit which) ≡ None = sym e ∙ h.1.0 in absurd (cc)

  above_told : (k : ℕ) (why : GroupRefused) → IsLiftRefused (t ∷ levels) names changes (suc k) why
      → (verdict_after t changes ≡ t.verdict (catalogue_for name s.shape to.new) → group_fault t.catalogue changes ≡ None → IsTold above (suc k) why)
      → IsTold (first_refusal (s ∷ t ∷ levels) (name ∷ names) d) (suc (suc k)) why
  above_told k why h rest = by_limit limit refl
    where
      by_limit : (o : Option Which) → limit ≡ o → IsTold (first_refusal (s ∷ t ∷ levels) (name ∷ names) d) (suc (suc k)) why
      by_limit None e =
          let none : group_fault t.catalogue changes ≡ None = lift.limit ∙ ap (option_map Limit) e in
          subst (λ (o : Option (ℕ × Cause)). IsTold o (suc (suc k)) why) (sym (is_behind ∙ ap by_both e)) (told_up above (suc k) why (rest (above_starts none) none))
      by_limit (Some which) e = subst (λ (o : Option (ℕ × Cause)). IsTold o (suc (suc k)) why) (sym (is_behind ∙ ap by_both e)) (limit_told which k why (lift.limit ∙ ap (option_map Limit) e) h)

-- what refuses is told of the catalogue that the lowest comes to
pub refusal_told : (levels : List Standing) (names : List Text) (gs : List Change) (level : ℕ) (why : GroupRefused) (d : CatalogueValue)
    → AreStacked levels names → Starts levels gs d → group_fault (lowest levels) gs ≡ None → IsLiftRefused levels names gs level why → IsTold (first_refusal levels names d) level why
refusal_told [] names gs level why d stacked starts none h = absurd h
refusal_told (s ∷ levels) names gs zero why d stacked starts none h = absurd h
refusal_told (s ∷ levels) names gs (suc zero) why d stacked starts none h = own_told s levels names gs why d starts none h
refusal_told (s ∷ []) names gs (suc (suc k)) why d stacked starts none h = absurd (h.3)
refusal_told (s ∷ t ∷ levels) [] gs (suc (suc k)) why d stacked starts none h = absurd stacked
refusal_told (s ∷ t ∷ levels) (name ∷ names) gs (suc (suc k)) why d stacked starts none h =
    above_told s t levels name names gs d starts h.0 h.1 h.2 k why h.3
    (λ begins free. refusal_told (t ∷ levels) names (lifted name s.shape.constants (tables_of s) t.catalogue h.0) (suc k) why (catalogue_for name s.shape (to s t levels name names gs d starts h.0 h.1 h.2).new) stacked.1 begins free h.3)

-- ---- all take their changes
pub record IsToldOf (levels : List Standing) (names : List Text) (gs : List Change) (all : List (List TableLine)) (d : CatalogueValue) : Type 0 where
  pub unrefused : first_refusal levels names d ≡ None
  pub lines : all ≡ lines_over levels names d
  pub over : IsOver (made_all levels names gs all) names d

given_made : (names : List Text) (s : Standing) (gs : List Change) (new : TablesValue) → given_above names (made s gs) new ≡ given_above names s new
given_made [] s gs new = refl
given_made (name ∷ names) s gs new = refl

-- the next level starts, and passes no limit, where it takes what the lines come to
next_starts : (s : Standing) (levels : List Standing) (names : List Text) (gs : List Change) (lines : List TableLine) (all : List (List TableLine)) (to : Comes s gs lines)
    → AreStacked (s ∷ levels) names → LiftsAbove names s levels gs lines → AreTaken levels (drop 1 names) (changes_above names s levels lines) all
    → Starts levels (changes_above names s levels lines) (given_above names s to.new) × (limit_above names s levels to.new ≡ None)
next_starts s [] names gs lines all to stacked lift taken = (tt, refl)
next_starts s (t ∷ levels) [] gs lines all to stacked lift taken = absurd stacked
next_starts s (t ∷ levels) (name ∷ names) gs lines [] to stacked lift taken = absurd taken
next_starts s (t ∷ levels) (name ∷ names) gs lines (more ∷ all) to stacked lift taken = (
  lift.verdict taken.0.0 ∙ ap (λ (v : Verdict). t.verdict (catalogue_for name s.shape (tables_in v))) to.verdict,
  ap (lifted_limit name s.shape (tables_of s)) (sym to.script_is) ∙ none_limited (lifted_limit name s.shape (tables_of s) lines) (sym lift.limit ∙ taken.0.0),
)
  where
    none_limited : (o : Option Which) → option_map Limit o ≡ None → o ≡ None
    none_limited None h = refl
    none_limited (Some which) h = absurd (cc)

one_told : (s : Standing) (levels : List Standing) (names : List Text) (gs : List Change) (lines : List TableLine) (all : List (List TableLine)) (d : CatalogueValue)
    → AreStacked (s ∷ levels) names → verdict_after s gs ≡ s.verdict d → AreTaken (s ∷ levels) names gs (lines ∷ all) → AreLifted (s ∷ levels) names gs (lines ∷ all)
    → ((c : CatalogueValue) → Starts levels (changes_above names s levels lines) c → IsToldOf levels (drop 1 names) (changes_above names s levels lines) all c)
    → IsToldOf (s ∷ levels) names gs (lines ∷ all) d
one_told s levels names gs lines all d stacked starts taken lifts rest = record {
  unrefused = ap (judged s levels names) (sym now) ∙ (λ i. option_or (option_map (λ which. at_level 2 (Passes which)) (next.1 i)) (option_map one_up (later.unrefused i)));
  lines =
      (λ i. to.script_is i ∷ later.lines i)
      ∙ ap (λ (v : Verdict). script (tables_of s) (tables_in v) ∷ lines_over levels (drop 1 names) (given_above names s (tables_in v))) now;
  over = (
    starts,
    subst (λ (c : CatalogueValue). IsOver (made_all levels (drop 1 names) (changes_above names s levels lines) all) (drop 1 names) c)
        (ap (λ (v : Verdict). given_above names s (tables_in v)) now ∙ sym (given_made names s gs (tables_in (s.verdict d)))) later.over,
  );
}
  where
    to : Comes s gs lines
    to = comes s gs lines taken.0.1

    now : Makes to.new ≡ s.verdict d
    now = sym to.verdict ∙ starts

    next : Starts levels (changes_above names s levels lines) (given_above names s to.new) × (limit_above names s levels to.new ≡ None)
    next = next_starts s levels names gs lines all to stacked lifts.0 taken.1

    later : IsToldOf levels (drop 1 names) (changes_above names s levels lines) all (given_above names s to.new)
    later = rest (given_above names s to.new) next.0

stacked_above : (s : Standing) (levels : List Standing) (names : List Text) → AreStacked (s ∷ levels) names → AreStacked levels (drop 1 names)
stacked_above s [] names h = tt
stacked_above s (t ∷ levels) [] h = absurd h
stacked_above s (t ∷ levels) (name ∷ names) h = h.1

pub all_told : (levels : List Standing) (names : List Text) (gs : List Change) (all : List (List TableLine)) (d : CatalogueValue)
    → AreStacked levels names → Starts levels gs d → AreTaken levels names gs all → AreLifted levels names gs all → IsToldOf levels names gs all d
all_told [] names gs all d stacked starts taken lifts = record { unrefused = refl; lines = taken; over = tt }
all_told (s ∷ levels) names gs [] d stacked starts taken lifts = absurd taken
all_told (s ∷ levels) names gs (lines ∷ all) d stacked starts taken lifts =
    one_told s levels names gs lines all d stacked starts taken lifts (λ c begins. all_told levels (drop 1 names) (changes_above names s levels lines) all c (stacked_above s levels names stacked) begins taken.1 lifts.1)

-- ---- what a stack asks for
pub starts_at : (levels : List Standing) (gs : List Change) → Starts levels gs (after_all (lowest levels) gs)
starts_at [] gs = tt
starts_at (s ∷ levels) gs = refl

-- what is said of a refusal without the lifting
pub only_refused : (levels : List Standing) (names : List Text) (gs : List Change) (level : ℕ) (why : GroupRefused) → IsLiftRefused levels names gs level why → IsStackRefused levels names gs level why
only_refused [] names gs level why h = absurd h
only_refused (s ∷ levels) names gs zero why h = absurd h
only_refused (s ∷ levels) names gs (suc zero) why h = h
only_refused (s ∷ levels) names gs (suc (suc k)) why h = (h.0, h.1, only_refused levels (drop 1 names) (changes_above names s levels h.0) (suc k) why h.3)

-- all levels propose: what is told of them
pub accepted_told : {X : Type 0} (state : X → Standing) (propose : X → List Change → X) (old new : List X) (names : List Text) (gs : List Change) (all : List (List TableLine)) (ws : List Waiting)
    → AreStacked (map state old) names → HaveProposed state propose old new names gs all ws → IsToldOf (map state old) names gs all (comes_to (map state old) gs)
accepted_told state propose old new names gs all ws stacked have =
    all_told (map state old) names gs all (comes_to (map state old) gs) stacked (starts_at (map state old) gs) (all_taken (map state old) names gs all ws have.proposed) have.lifts

-- all levels have proposed, and then accepted: what is said of the levels and of the lines
pub record AreApplied {X : Type 0} (state : X → Standing) (propose : X → List Change → X) (accept : X → X) (old new : List X) (names : List Text) (gs : List Change) (all : List (List TableLine)) : Type 0 where
  pub taken : AreTaken (map state old) names gs all
  pub told : IsToldOf (map state old) names gs all (comes_to (map state old) gs)
  pub over : IsOver (map state new) names (comes_to (map state old) gs)
  pub made : map state new ≡ made_all (map state old) names gs all
  pub levels : new ≡ map accept (proposing_all state propose old names gs all)
  pub stacked : AreStacked (map state new) names

pub applied : {X : Type 0} (state : X → Standing) (propose : X → List Change → X) (accept : X → X) (old mid new : List X) (names : List Text) (gs : List Change) (more all : List (List TableLine)) (ws : List Waiting)
    → AreStacked (map state old) names → HaveProposed state propose old mid names gs more ws → map state mid ≡ map state old
    → (AreProposed (map state mid) names gs more ws → map state new ≡ made_all (map state mid) names gs more) → new ≡ map accept mid → all ≡ more
    → AreApplied state propose accept old new names gs all
applied state propose accept old mid new names gs more all ws stacked have same makes accepted items = subst (λ (xs : List (List TableLine)). AreApplied state propose accept old new names gs xs) (sym items) (record {
  taken = all_taken (map state old) names gs more ws have.proposed;
  told = told;
  over = subst (λ (ls : List Standing). IsOver ls names (comes_to (map state old) gs)) (sym made_now) told.over;
  made = made_now;
  levels = accepted ∙ ap (map accept) have.values;
  stacked = subst (λ (ls : List Standing). AreStacked ls names) (sym made_now) have.stacked;
})
  where
    told : IsToldOf (map state old) names gs more (comes_to (map state old) gs)
    told = accepted_told state propose old mid names gs more ws stacked have

    made_now : map state new ≡ made_all (map state old) names gs more
    made_now = makes (subst (λ (ls : List Standing). AreProposed ls names gs more ws) (sym same) have.proposed) ∙ ap (λ (ls : List Standing). made_all ls names gs more) same
