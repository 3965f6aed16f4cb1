-- What a plan keeps of the declarations, one after another.
use Rattle.std.proofs.Common.{◌≡◌, ◌<◌, ◌+◌, ℕ, suc, List, ◌∷◌, ◌++◌, length, drop, get_or, refl, ap, sym, ◌∙◌, append_assoc, append-nil, drop-cons, add-one}
use Rattle.view_def.specs.declared.typed.Term.{Term}
use Rattle.view_def.specs.declared.typed.Range.{Range}
use Rattle.view_def.specs.declared.typed.Range.TheVariants as range
use Rattle.view_def.specs.Query.{Query}
use Rattle.plan_law.specs.Columns.{header, headers_from}
use Rattle.plan_form.specs.Bases.{BaseValue, base_here, bases_from}

-- one declaration, and then the others
pub bases_step : (q : Query) (h : List Term) (k : ℕ) (d : Range) (ds : List Range) → bases_from q h k (d ∷ ds) ≡ base_here q h k d ++ bases_from q (h ++ header q k d) (suc k) ds
bases_step q h k range.Databases ds = refl
bases_step q h k (range.Relations p) ds = refl
bases_step q h k (range.Attributes p r) ds = refl
bases_step q h k (range.Tuples p r) ds = refl
bases_step q h k (range.Values p r a) ds = refl
bases_step q h k (range.Alias j a) ds = ap (λ h. bases_from q h (suc k) ds) (sym (append-nil h))

pub headers_step : (q : Query) (k : ℕ) (d : Range) (ds : List Range) → headers_from q k (d ∷ ds) ≡ header q k d ++ headers_from q (suc k) ds
headers_step q k range.Databases ds = refl
headers_step q k (range.Relations p) ds = refl
headers_step q k (range.Attributes p r) ds = refl
headers_step q k (range.Tuples p r) ds = refl
headers_step q k (range.Values p r a) ds = refl
headers_step q k (range.Alias j a) ds = refl

-- what was added, and what the declarations from here on add, stay all that is added
pub bases_more : (q : Query) (so_far : List BaseValue) (h h' : List Term) (k : ℕ) (d : Range) (ds : List Range) (all : List BaseValue) → so_far ++ bases_from q h k (d ∷ ds) ≡ all → h' ≡ h ++ header q k d → (so_far ++ base_here q h k d) ++ bases_from q h' (suc k) ds ≡ all
bases_more q so_far h h' k d ds all e is =
    ap (λ (h2 : List Term). (so_far ++ base_here q h k d) ++ bases_from q h2 (suc k) ds) is
    ∙ append_assoc so_far (base_here q h k d) (bases_from q (h ++ header q k d) (suc k) ds)
    ∙ ap (λ l. so_far ++ l) (sym (bases_step q h k d ds))
    ∙ e

pub headers_more : (q : Query) (so_far : List Term) (k : ℕ) (d : Range) (ds : List Range) (all : List Term) → so_far ++ headers_from q k (d ∷ ds) ≡ all → (so_far ++ header q k d) ++ headers_from q (suc k) ds ≡ all
headers_more q so_far k d ds all e =
    append_assoc so_far (header q k d) (headers_from q (suc k) ds)
    ∙ ap (λ (l : List Term). so_far ++ l) (sym (headers_step q k d ds))
    ∙ e

later : (ds : List Range) (i : ℕ) (d : Range) → i < length ds → d ≡ get_or ds i d → drop i ds ≡ d ∷ drop (suc i) ds
later ds i d lt is = drop-cons ds i d lt ∙ ap (λ (e : Range). e ∷ drop (suc i) ds) (sym is)

pub bases_turn : (q : Query) (ds : List Range) (i : ℕ) (d : Range) (so_far after all : List BaseValue) (h h' : List Term) → i < length ds → d ≡ get_or ds i d → so_far ++ bases_from q h i (drop i ds) ≡ all → after ≡ so_far ++ base_here q h i d → h' ≡ h ++ header q i d
    → after ++ bases_from q h' (i + 1) (drop (i + 1) ds) ≡ all
bases_turn q ds i d so_far after all h h' lt is e more above =
    ap (λ n. after ++ bases_from q h' n (drop n ds)) (add-one i)
    ∙ ap (λ l. l ++ bases_from q h' (suc i) (drop (suc i) ds)) more
    ∙ bases_more q so_far h h' i d (drop (suc i) ds) all (ap (λ l. so_far ++ bases_from q h i l) (sym (later ds i d lt is)) ∙ e) above

pub headers_turn : (q : Query) (ds : List Range) (i : ℕ) (d : Range) (all h h' : List Term) → i < length ds → d ≡ get_or ds i d → h ++ headers_from q i (drop i ds) ≡ all → h' ≡ h ++ header q i d → h' ++ headers_from q (i + 1) (drop (i + 1) ds) ≡ all
headers_turn q ds i d all h h' lt is e above =
    ap (λ n. h' ++ headers_from q n (drop n ds)) (add-one i)
    ∙ ap (λ (l : List Term). l ++ headers_from q (suc i) (drop (suc i) ds)) above
    ∙ headers_more q h i d (drop (suc i) ds) all (ap (λ l. h ++ headers_from q i l) (sym (later ds i d lt is)) ∙ e)

-- behind the last declaration nothing is left
