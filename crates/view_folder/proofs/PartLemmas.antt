-- A record and its two parts.
use Rattle.std.proofs.Common.{◌≡◌, ◌≤◌, ◌+◌, ◌-◌, ◌∷◌, ◌++◌, ◌∙◌, [], ℕ, Option, Some, None, refl, sym, ap, subst, length, take, drop, append_assoc, arith, is_some, true}
use Rattle.std.specs.Prelude.{unwrap_or}
use Rattle.std.specs.List.{AllByRecursion}
use Rattle.std.proofs.Math.Seq.{take-append_seam, drop-append_seam}
use Rattle.std.proofs.lemmas.List.{append-nil, length-append, length-take-le, length-drop, take-append-drop, take_all, drop_all}
use Rattle.ss_text.specs.Texts.{Text, Row}
use Rattle.flow_law.specs.declared.shape.Shape.{Shape}
use Rattle.flow_law.specs.Records.{spliced}
use Rattle.view_folder.specs.Records.{before_spot, behind_spot, dynamic_count, dynamic_part, constant_part}
use Rattle.change_script.specs.Fits.{IsForm}

module _ (shape : Shape) (form : IsForm shape) where
  abbrev n : ℕ
  n = length shape.constants

  abbrev s : ℕ
  s = unwrap_or shape.spot n

  -- no cells without a variable column
  abbrev pub NoneWithout : Row → Type 0
  NoneWithout cells = AllByRecursion (λ (c : Text). is_some shape.spot ≡ true) cells

  pub no_cells : (o : Option ℕ) (cells : Row) → o ≡ None → AllByRecursion (λ (c : Text). is_some o ≡ true) cells → cells ≡ []
  no_cells o [] e h = refl
  no_cells o (c ∷ cs) e h = absurd (cc)

  -- a spliced record is its front, the cells, and its back
  module _ (key cells : Row) (fits : length key ≡ n) (none : NoneWithout cells) where
    front_length : length (take s key) ≡ s
    front_length = length-take-le s key (subst (λ m. s ≤ m) (sym fits) form.spot)

    by_spot : (o : Option ℕ) → shape.spot ≡ o → spliced o key cells ≡ take (unwrap_or o n) key ++ (cells ++ drop (unwrap_or o n) key)
    by_spot (Some i) e = append_assoc (take i key) cells (drop i key)
    by_spot None e =
        let all : length key ≤ n = omega (arith, fits) in
        sym (rw (take_all n key all, drop_all n key all, no_cells shape.spot cells e none) (append-nil key))

    pub whole : spliced shape.spot key cells ≡ take s key ++ (cells ++ drop s key)
    whole = by_spot shape.spot refl

    before_is : before_spot shape (spliced shape.spot key cells) ≡ take s key
    before_is = ap (take s) whole ∙ ap (λ m. take m (take s key ++ (cells ++ drop s key))) (sym front_length) ∙ take-append_seam (take s key) (cells ++ drop s key)

    behind_is : behind_spot shape (spliced shape.spot key cells) ≡ cells ++ drop s key
    behind_is = ap (drop s) whole ∙ ap (λ m. drop m (take s key ++ (cells ++ drop s key))) (sym front_length) ∙ drop-append_seam (take s key) (cells ++ drop s key)

    pub spliced_length : length (spliced shape.spot key cells) ≡ n + length cells
    spliced_length =
        let a = length-append (take s key) (cells ++ drop s key) in
        let b = length-append cells (drop s key) in
        let c = length-append (take s key) (drop s key) in
        let d = ap (λ (r : Row). length r) (take-append-drop s key) in
        ap (λ (r : Row). length r) whole ∙ sum (length (take s key ++ (cells ++ drop s key))) (length (take s key)) (length (cells ++ drop s key)) (length cells) (length (drop s key)) (length (take s key ++ drop s key)) (length key) n a b c d fits
      where
        sum : (t a r c d u k n : ℕ) → t ≡ a + r → r ≡ c + d → u ≡ a + d → u ≡ k → k ≡ n → t ≡ n + c
        sum t a r c d u k n e f g h i = omega arith

    count_is : dynamic_count shape (spliced shape.spot key cells) ≡ length cells
    count_is = ap (λ m. m - n) spliced_length ∙ rest n (length cells)
      where
        rest : (a b : ℕ) → a + b - a ≡ b
        rest a b = omega arith

    pub cells_back : dynamic_part shape (spliced shape.spot key cells) ≡ cells
    cells_back = ap (λ m. take m (behind_spot shape (spliced shape.spot key cells))) count_is ∙ ap (take (length cells)) behind_is ∙ take-append_seam cells (drop s key)

    pub key_back : constant_part shape (spliced shape.spot key cells) ≡ key
    key_back =
        ap (λ (r : Row). r ++ drop (dynamic_count shape (spliced shape.spot key cells)) (behind_spot shape (spliced shape.spot key cells))) before_is
        ∙ ap (λ m. take s key ++ drop m (behind_spot shape (spliced shape.spot key cells))) count_is
        ∙ ap (λ (r : Row). take s key ++ drop (length cells) r) behind_is
        ∙ ap (λ (r : Row). take s key ++ r) (drop-append_seam cells (drop s key))
        ∙ take-append-drop s key

  -- a record that is long enough is its parts spliced
  module _ (row : Row) (long : n ≤ length row) (none : NoneWithout (dynamic_part shape row)) where
    abbrev d : ℕ
    d = dynamic_count shape row

    row_front : length (take s row) ≡ s
    row_front = length-take-le s row (omega (arith, form.spot, long))

    together : take s row ++ (take d (drop s row) ++ drop d (drop s row)) ≡ row
    together = ap (λ (r : Row). take s row ++ r) (take-append-drop d (drop s row)) ∙ take-append-drop s row

    front_of : take s (constant_part shape row) ≡ take s row
    front_of = ap (λ m. take m (take s row ++ drop d (drop s row))) (sym row_front) ∙ take-append_seam (take s row) (drop d (drop s row))

    back_of : drop s (constant_part shape row) ≡ drop d (drop s row)
    back_of = ap (λ m. drop m (take s row ++ drop d (drop s row))) (sym row_front) ∙ drop-append_seam (take s row) (drop d (drop s row))

    by_place : (o : Option ℕ) → shape.spot ≡ o → spliced o (constant_part shape row) (dynamic_part shape row) ≡ take (unwrap_or o n) (constant_part shape row) ++ (dynamic_part shape row ++ drop (unwrap_or o n) (constant_part shape row))
    by_place (Some i) e = append_assoc (take i (constant_part shape row)) (dynamic_part shape row) (drop i (constant_part shape row))
    by_place None e = rw (no_cells shape.spot (dynamic_part shape row) e none) (sym (take-append-drop n (constant_part shape row)))

    pub parts_back : spliced shape.spot (constant_part shape row) (dynamic_part shape row) ≡ row
    parts_back =
        by_place shape.spot refl
        ∙ ap (λ (r : Row). r ++ (dynamic_part shape row ++ drop s (constant_part shape row))) front_of
        ∙ ap (λ (r : Row). take s row ++ (dynamic_part shape row ++ r)) back_of ∙ together

  -- a header of the view is long enough
  pub header_long : (header : Row) → constant_part shape header ≡ shape.constants → n ≤ length header
  header_long header is =
      let t = ap (λ (r : Row). length r) is in
      let a = length-append (before_spot shape header) (drop (dynamic_count shape header) (behind_spot shape header)) in
      let b = length-drop (dynamic_count shape header) (behind_spot shape header) in
      let c = length-append (take s header) (drop s header) in
      let e = ap (λ (r : Row). length r) (take-append-drop s header) in
      short (length header) n (length (before_spot shape header)) (length (behind_spot shape header)) (length (drop (dynamic_count shape header) (behind_spot shape header))) (length (constant_part shape header)) (length (take s header ++ drop s header)) t a b c e
    where
      short : (h n a r x k u : ℕ) → k ≡ n → k ≡ a + x → x ≡ r - (h - n) → u ≡ a + r → u ≡ h → n ≤ h
      short h n a r x k u e f g i j = omega arith
