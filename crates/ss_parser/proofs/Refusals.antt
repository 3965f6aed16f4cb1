-- Where a view is refused, and that a text has one tree.
use Rattle.std.proofs.Common.{◌≡◌, ◌≢◌, ℕ, zero, suc, ◌+◌, ◌-◌, ◌<◌, ◌≤◌, Bool, true, false, List, [], ◌∷◌, ◌++◌, length, take, drop, Some, ◌⊎◌, ⊎_elim, refl, sym, ◌∙◌, ap, subst, inl, inr, arith, length-append, unwrap_or}
use Rattle.std.specs.Prelude.{slice_get, option_map}
use Rattle.std.proofs.lemmas.Bool.{cases_lt}
use Rattle.std.proofs.Math.Seq.{take-append_seam, take-append-add}
use Rattle.view_def.specs.Tree.{ViewTree}
use Rattle.ss_lexer.specs.Lexemes.{Lexeme, Ident, Key, Quoted, Literal, Mark, Finish, Bad_byte, Open_quote, Piece, pieces}
use Rattle.ss_parser.specs.Phrases.{next}
use Rattle.ss_parser.specs.Views.{view, most_open}
use Rattle.ss_parser.specs.declared.fault.ParseFault.{ParseFault}
use Rattle.ss_parser.specs.declared.fault.ParseFault.TheVariants as fault
use Rattle.ss_parser.specs.Refused.{AreView, Begin, FirstBad, IsRead, IsFaultAt, IsRefusedAt, IsRefused, fault_by, fault_at}
use Rattle.ss_parser.proofs.ViewLaws.{view_laws}
use Rattle.ss_parser.proofs.Deeper.{view_wider, view_stops_at}

-- d levels more
up : ℕ → ℕ → ℕ
up levels zero = levels
up levels (suc d) = suc (up levels d)

up_is : (levels d : ℕ) → up levels d ≡ levels + d
unfolding up
up_is levels zero = omega arith
up_is levels (suc d) = omega (arith, up_is levels d)

up_reads : (levels d : ℕ) (ts : List Piece) (t : ViewTree) (rest : List Piece) → (view levels).reads ts t rest → (view (up levels d)).reads ts t rest
unfolding up
up_reads levels zero ts t rest r = r
up_reads levels (suc d) ts t rest r = (view_wider (up levels d)).reads ts t rest (up_reads levels d ts t rest r)

up_stops : (levels d : ℕ) (ts rest : List Piece) → (view levels).stops false ts rest → (view (up levels d)).stops false ts rest
unfolding up
up_stops levels zero ts rest s = s
up_stops levels (suc d) ts rest s = (view_wider (up levels d)).stops ts rest (up_stops levels d ts rest s)

-- what is a view is one where more may be open
pub more_levels : (m n : ℕ) → m ≤ n → (ts : List Piece) (t : ViewTree) (rest : List Piece) → (view m).reads ts t rest → (view n).reads ts t rest
more_levels m n le ts t rest r =
    let e : up m (n - m) ≡ n = omega (arith, up_is m (n - m)) in
    subst (λ k. (view k).reads ts t rest) e (up_reads m (n - m) ts t rest r)

more_stops : (m n : ℕ) → m ≤ n → (ts rest : List Piece) → (view m).stops false ts rest → (view n).stops false ts rest
more_stops m n le ts rest s =
    let e : up m (n - m) ≡ n = omega (arith, up_is m (n - m)) in
    subst (λ k. (view k).stops false ts rest) e (up_stops m (n - m) ts rest s)

-- one tree only is read
pub one_tree : (bytes : List ℕ) (t u : ViewTree) → IsRead bytes t → IsRead bytes u → t ≡ u
unfolding AreView
one_tree bytes t u r s = ((view_laws most_open).one _ t u [] [] r s).0

-- the same pieces up to and with the next
same_next : (xs ys : List Piece) → take 1 xs ≡ take 1 ys → next ys ≡ next xs
same_next [] [] e = refl
same_next [] (y ∷ ys) e = cc
same_next (x ∷ xs) [] e = cc
same_next (x ∷ xs) (y ∷ ys) e = sym (ap next e)

agree : (done us rest : List Piece) → take (suc (length done)) us ≡ take (suc (length done)) (done ++ rest) → (vs : List Piece) × (us ≡ done ++ vs) × (next rest ≡ next vs)
agree [] us rest e = (us, refl, same_next us rest e)
agree (x ∷ done) [] rest e = cc
agree (x ∷ done) (u ∷ us) rest e =
    let tail = agree done us rest (ap (drop 1) e) in
    (tail.0, ap (λ m. u ∷ m) tail.1 ∙ ap (λ x'. x' ∷ (done ++ tail.0)) (ap (λ m. unwrap_or (next m) u) e), tail.2)

-- the pieces before the one where a view stops begin a view, and with it they begin none
module _ (levels : ℕ) (deep : Bool) (ts rest : List Piece) (s : (view levels).stops deep ts rest) (k : ℕ) (e : k + length rest ≡ length ts) where
  at_done : length ((view_laws levels).stuck deep ts rest s).done ≡ k
  at_done = let at = (view_laws levels).stuck deep ts rest s in omega (arith, ap length at.is, length-append at.done rest)

  begins : Begin levels ts k
  unfolding AreView
  begins =
      let at = (view_laws levels).stuck deep ts rest s in
      let whole = at.goes_on in
      subst (Begin levels ts) at_done (
        at.done ++ (whole.rest ++ []),
        whole.value,
        take-append_seam at.done (whole.rest ++ []) ∙ sym (take-append_seam at.done rest) ∙ ap (take (length at.done)) (sym at.is),
        whole.reads [] refl,
      )

  begins_no_more : Begin levels ts (suc k) → ⊥
  unfolding AreView
  begins_no_more other =
      let l = view_laws levels in
      let at = l.stuck deep ts rest s in
      let same_front = subst (λ n. take (suc n) other.0 ≡ take (suc n) ts) (sym at_done) other.2 in
      let same = agree at.done other.0 rest (same_front ∙ ap (take (suc (length at.done))) at.is) in
      l.not_both deep other.0 other.1 [] same.0 other.3 (subst (λ m. (view levels).stops deep m same.0) (sym same.1) (at.again same.0 same.2))

-- however many may be open
unexpected : (ts rest : List Piece) (k : ℕ) → (view most_open).stops false ts rest → k + length rest ≡ length ts → (m : ℕ) → Begin m ts (suc k) → ⊥
unfolding AreView
unexpected ts rest k s e m other = ⊎_elim
    (λ (le : m < most_open). begins_no_more most_open false ts rest s k e (other.0, other.1, other.2, more_levels m most_open (omega arith) other.0 other.1 [] other.3))
    (λ (le : most_open ≤ m). begins_no_more m false ts rest (more_stops most_open m le ts rest s) k e other) (cases_lt m most_open)

-- where one more may be open
too_deep : (ts rest : List Piece) (k : ℕ) → (view most_open).stops true ts rest → k + length rest ≡ length ts → Begin (suc most_open) ts (suc k)
unfolding AreView
too_deep ts rest k s e =
    let g = (view_wider most_open).goes ts rest s in
    let k_is : length g.done + 1 ≡ suc k = omega (arith, ap length g.is, length-append g.done rest) in (
      g.done ++ (g.one ∷ (g.some ++ [])),
      g.value,
      subst (λ n. take n (g.done ++ (g.one ∷ (g.some ++ []))) ≡ take n ts) k_is
          (take-append-add g.done (g.one ∷ (g.some ++ [])) 1 ∙ sym (ap (take (length g.done + 1)) (g.is ∙ ap (λ m. g.done ++ m) g.is_rest) ∙ take-append-add g.done (g.one ∷ g.left) 1)),
      g.reads [] refl,
    )

-- the piece where a view stops, by its place
got : (done rest : List Piece) (p : Piece) → next rest ≡ Some p → slice_get (done ++ rest) (length done) ≡ Some p
got [] [] p e = absurd (cc)
got [] (x ∷ rest) p e = e
got (x ∷ done) rest p e = got done rest p e

-- what is read, and what is refused, of a text
module _ (bytes : List ℕ) (ps : List Piece) (is : ps ≡ pieces bytes) where
  pub is_read : (t : ViewTree) → (view most_open).reads ps t [] → IsRead bytes t
  unfolding AreView
  is_read t r = subst (λ m. (view most_open).reads m t []) is r

  pub not_read : (deep : Bool) (rest : List Piece) (t : ViewTree) → (view most_open).stops deep ps rest → IsRead bytes t → ⊥
  unfolding AreView
  not_read deep rest t s r = (view_laws most_open).not_both deep (pieces bytes) t [] rest r (subst (λ m. (view most_open).stops deep m rest) is s)

  module _ (deep : Bool) (rest : List Piece) (p : Piece) (s : (view most_open).stops deep ps rest) (e : next rest ≡ Some p) where
    place : ℕ
    place = length ((view_laws most_open).stuck deep ps rest s).done

    place_is : place + length rest ≡ length ps
    unfolding place
    place_is = let at = (view_laws most_open).stuck deep ps rest s in sym (ap length at.is ∙ length-append at.done rest)

    at_place : slice_get ps place ≡ Some p
    unfolding place
    at_place = let at = (view_laws most_open).stuck deep ps rest s in ap (λ m. slice_get m (length at.done)) at.is ∙ got at.done rest p e

    refused_at : (f : ParseFault) → IsFaultAt ps place p f → IsRefusedAt ps f
    refused_at f h = (place, p, at_place, record { before = begins most_open deep ps rest s place place_is; not_with = begins_no_more most_open deep ps rest s place place_is }, h)

  module _ (rest : List Piece) (p : Piece) (s : (view most_open).stops false ps rest) (e : next rest ≡ Some p) where
    none_at : (m : ℕ) → Begin m ps (suc (place false rest p s e)) → ⊥
    none_at = unexpected ps rest (place false rest p s e) s (place_is false rest p s e)

    refused_by : (l : Lexeme) → p.says ≡ l → IsRefused bytes (fault_by l p.at)
    refused_by Bad_byte says = subst (λ m. IsRefusedAt m (fault.BadByte p.at)) is (refused_at false rest p s e (fault.BadByte p.at) (sym (ap (λ l. fault_by l p.at) says), none_at))
    refused_by Open_quote says = subst (λ m. IsRefusedAt m (fault.OpenQuote p.at)) is (refused_at false rest p s e (fault.OpenQuote p.at) (sym (ap (λ l. fault_by l p.at) says), none_at))
    refused_by (Ident t) says = subst (λ m. IsRefusedAt m (fault.Unexpected p.at)) is (refused_at false rest p s e (fault.Unexpected p.at) (sym (ap (λ l. fault_by l p.at) says), none_at))
    refused_by (Key t) says = subst (λ m. IsRefusedAt m (fault.Unexpected p.at)) is (refused_at false rest p s e (fault.Unexpected p.at) (sym (ap (λ l. fault_by l p.at) says), none_at))
    refused_by (Quoted t) says = subst (λ m. IsRefusedAt m (fault.Unexpected p.at)) is (refused_at false rest p s e (fault.Unexpected p.at) (sym (ap (λ l. fault_by l p.at) says), none_at))
    refused_by (Literal t) says = subst (λ m. IsRefusedAt m (fault.Unexpected p.at)) is (refused_at false rest p s e (fault.Unexpected p.at) (sym (ap (λ l. fault_by l p.at) says), none_at))
    refused_by (Mark t) says = subst (λ m. IsRefusedAt m (fault.Unexpected p.at)) is (refused_at false rest p s e (fault.Unexpected p.at) (sym (ap (λ l. fault_by l p.at) says), none_at))
    refused_by Finish says = subst (λ m. IsRefusedAt m (fault.Unexpected p.at)) is (refused_at false rest p s e (fault.Unexpected p.at) (sym (ap (λ l. fault_by l p.at) says), none_at))

  pub refused : (rest : List Piece) (f : ParseFault) → (view most_open).stops false ps rest → option_map fault_at (next rest) ≡ Some f → IsRefused bytes f
  refused [] f s e = absurd (cc)
  refused (p ∷ rest) f s e = subst (IsRefused bytes) (ap (λ o. unwrap_or o f) e) (refused_by (p ∷ rest) p s refl p.says refl)

  pub refused_too_deep : (rest : List Piece) (at : ℕ) → (view most_open).stops true ps rest → option_map (λ (p : Piece). p.at) (next rest) ≡ Some at → IsRefused bytes (fault.TooDeep at)
  refused_too_deep [] at s e = absurd (cc)
  refused_too_deep (p ∷ rest) at s e =
      let k = place true (p ∷ rest) p s refl in
      let same : at ≡ p.at = sym (ap (λ o. unwrap_or o at) e) in
      subst (λ m. IsRefusedAt m (fault.TooDeep at)) is (refused_at true (p ∷ rest) p s refl (fault.TooDeep at) (same, view_stops_at most_open ps (p ∷ rest) s, too_deep ps (p ∷ rest) k s (place_is true (p ∷ rest) p s refl)))

-- fewer pieces begin a view too
fewer : (ps us : List Piece) (m n : ℕ) → m ≤ n → take n us ≡ take n ps → take m us ≡ take m ps
fewer ps us zero n le e = refl
fewer ps us (suc m) zero le e = absurd (omega arith)
fewer [] [] (suc m) (suc n) le e = refl
fewer [] (u ∷ us) (suc m) (suc n) le e = absurd (cc)
fewer (p ∷ ps) [] (suc m) (suc n) le e = absurd (cc)
fewer (p ∷ ps) (u ∷ us) (suc m) (suc n) le e =
    let first : u ≡ p = cc in
    let rest : take n us ≡ take n ps = cc in
    (λ i. first i ∷ fewer ps us m n (omega arith) rest i)

begin_fewer : (levels : ℕ) (ps : List Piece) (m n : ℕ) → m ≤ n → Begin levels ps n → Begin levels ps m
begin_fewer levels ps m n le b = (b.0, b.1, fewer ps b.0 m n le b.2, b.3)

-- no place before is the first bad one
not_before : (ps : List Piece) (k j : ℕ) → FirstBad ps k → FirstBad ps j → j ≤ k
not_before ps k j f g = ⊎_elim (λ (lt : k < j). absurd (f.not_with (begin_fewer most_open ps (suc k) j (omega arith) g.before))) (λ (le : j ≤ k). le) (cases_lt k j)

-- too deep, or the fault of the piece
WhichFault : List Piece → ℕ → Piece → ParseFault → Type 0
WhichFault ps k p f = ((f ≡ fault.TooDeep p.at) × Begin (suc most_open) ps (suc k)) ⊎ ((f ≡ fault_at p) × ((levels : ℕ) → Begin levels ps (suc k) → ⊥))

which : (ps : List Piece) (k : ℕ) (p : Piece) (f : ParseFault) → IsFaultAt ps k p f → WhichFault ps k p f
unfolding WhichFault
which ps k p (fault.TooDeep at) h = inl (ap (λ n. fault.TooDeep n) h.0, h.2)
which ps k p (fault.BadByte at) h = inr h
which ps k p (fault.OpenQuote at) h = inr h
which ps k p (fault.Unexpected at) h = inr h
which ps k p fault.NoMemory h = inr h

same_fault : (ps : List Piece) (k : ℕ) (p : Piece) (f g : ParseFault) → WhichFault ps k p f → WhichFault ps k p g → f ≡ g
unfolding WhichFault
same_fault ps k p f g (inl a) (inl b) = a.0 ∙ sym b.0
same_fault ps k p f g (inl a) (inr b) = absurd (b.1 (suc most_open) a.1)
same_fault ps k p f g (inr a) (inl b) = absurd (a.1 (suc most_open) b.1)
same_fault ps k p f g (inr a) (inr b) = a.0 ∙ sym b.0

one_refusal_at : (ps : List Piece) (f g : ParseFault) → IsRefusedAt ps f → IsRefusedAt ps g → f ≡ g
one_refusal_at ps f g (k, p, at, first, is) (j, q, at', first', is') =
    let same : j ≡ k = omega (arith, not_before ps k j first first', not_before ps j k first' first) in
    let piece : q ≡ p = ap (λ o. unwrap_or o q) (sym at' ∙ ap (slice_get ps) same ∙ at) in
    let is'' = subst (λ r. IsFaultAt ps k r g) piece (subst (λ n. IsFaultAt ps n q g) same is') in
    same_fault ps k p f g (which ps k p f is) (which ps k p g is'')

at_pieces : (bytes : List ℕ) (f : ParseFault) → f ≢ fault.NoMemory → IsRefused bytes f → IsRefusedAt (pieces bytes) f
at_pieces bytes fault.NoMemory ne h = absurd (ne refl)
at_pieces bytes (fault.TooDeep at) ne h = h
at_pieces bytes (fault.BadByte at) ne h = h
at_pieces bytes (fault.OpenQuote at) ne h = h
at_pieces bytes (fault.Unexpected at) ne h = h

-- a text is refused in one way only
pub one_refusal : (bytes : List ℕ) (f g : ParseFault) → f ≢ fault.NoMemory → g ≢ fault.NoMemory → IsRefused bytes f → IsRefused bytes g → f ≡ g
one_refusal bytes f g nf ng hf hg = one_refusal_at (pieces bytes) f g (at_pieces bytes f nf hf) (at_pieces bytes g ng hg)

-- a text that is read is not refused
pub read_not_refused : (bytes : List ℕ) (t : ViewTree) (f : ParseFault) → f ≢ fault.NoMemory → IsRead bytes t → IsRefused bytes f → ⊥
read_not_refused bytes t f nf r h =
    let at = at_pieces bytes f nf h in
    at.3.not_with (pieces bytes, t, refl, r)
