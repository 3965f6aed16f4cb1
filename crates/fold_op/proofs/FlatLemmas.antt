-- How changes of a sheet move what it gives.
use Rattle.std.proofs.Common.{◌≡◌, ℕ, ◌+◌, List, [], ◌∷◌, ◌++◌, true, false, cond, refl, arith, ap, sym, ◌∙◌, map, length, ◌&&◌}
use Rattle.std.specs.Prelude.{remove, slice_set, bytes_eq, IsTrue}
use Rattle.std.specs.List.{list_any, AllByRecursion, IsDistinct}
use Rattle.ss_text.specs.Texts.{Text, Row, row_eq, is_in}
use Rattle.fold_op.specs.declared.change.SheetChange.{SheetChange}
use Rattle.fold_op.specs.declared.change.SheetChange.TheVariants.{Up, Down, Add, Drop, Rename, Born, Gone}
use Rattle.operator_law.specs.Bags.{weigh, MovesBag, all_signed, less_first}
use Rattle.fold_op.specs.Sheets.{SheetValue, sheet_after, IsSheet, FitsSheet, with_last, less_place}
use Rattle.operator_law.proofs.Weights.{weigh-push, weigh-map, weigh-same, weigh-none}
use Rattle.operator_law.proofs.SignedRows.{come-up, go-up, come-down, go-down, stays, all_come, all_go, moves_on, weigh-less_first}
use Rattle.fold_op.specs.Cells.{has_all, picked}
use Rattle.fold_op.specs.Flat.{pick_value, pick_moves, replaced}
use Rattle.fold_op.proofs.CellLemmas.{cell_more, cell_less, cell_renamed, same_cells, has_more, has_less, and_both}

-- what is given row by row
module _ (V : Row → List Row → List Row) (each : (f : Row → ℕ) (ns : Row) (rows : List Row) → weigh f (V ns rows) ≡ weigh (λ row. weigh f (V ns (row ∷ []))) rows) where
  pub row_comes : (ns : Row) (rows : List Row) (row : Row) → MovesBag (V ns rows) (all_signed true (V ns (row ∷ []))) (V ns (rows ++ row ∷ []))
  row_comes ns rows row f =
      omega (
        arith,
        each f ns rows,
        each f ns (rows ++ row ∷ []),
        weigh-push (λ row. weigh f (V ns (row ∷ []))) rows row,
        come-up f (V ns (row ∷ [])),
        go-up f (V ns (row ∷ [])),
      )

  pub row_goes : (ns : Row) (rows : List Row) (row : Row) → IsTrue (list_any (row_eq row) rows) → MovesBag (V ns rows) (all_signed false (V ns (row ∷ []))) (V ns (less_first row rows))
  row_goes ns rows row there f =
      omega (
        arith,
        each f ns rows,
        each f ns (less_first row rows),
        weigh-less_first (λ row. weigh f (V ns (row ∷ []))) row rows there,
        come-down f (V ns (row ∷ [])),
        go-down f (V ns (row ∷ [])),
      )

pub replaces : (xs ys : List Row) → MovesBag xs (replaced xs ys) ys
replaces xs ys = moves_on xs [] ys (all_signed false xs) (all_signed true ys) (all_go xs) (all_come ys)

-- rows that are changed alike
pub map_same_where : {X Y : Type 0} (P : X → Type 0) (f g : X → Y) (same : (x : X) → P x → f x ≡ g x) (xs : List X) → AllByRecursion P xs → map f xs ≡ map g xs
map_same_where P f g same [] all = refl
map_same_where P f g same (x ∷ xs) all = rw (same x all.0, map_same_where P f g same xs all.1) refl

pub map_twice : {X Y Z : Type 0} (g : Y → Z) (f : X → Y) (xs : List X) → map g (map f xs) ≡ map (λ x. g (f x)) xs
map_twice g f [] = refl
map_twice g f (x ∷ xs) = rw (map_twice g f xs) refl

abbrev pub Fit : Row → Row → Type 0
Fit ns row = length row ≡ length ns

-- the wanted cells of each row, where all are there
abbrev pub picks : Row → Row → List Row → List Row
picks w ns rows = cond (has_all w ns) (map (picked w ns) rows) []

picks_each : (w : Row) (f : Row → ℕ) (ns : Row) (rows : List Row) → weigh f (picks w ns rows) ≡ weigh (λ row. weigh f (picks w ns (row ∷ []))) rows
picks_each w f ns rows = elim (has_all w ns) as (λ b. weigh f (cond b (map (picked w ns) rows) []) ≡ weigh (λ row. weigh f (cond b (picked w ns row ∷ []) [])) rows) [
  | true ↦ weigh-map f (picked w ns) rows ∙ weigh-same (λ row. f (picked w ns row)) (λ row. f (picked w ns row) + 0) (λ row. omega arith) rows
  | false ↦ sym (weigh-none rows)
]

picks_none : (w ns : Row) → picks w ns [] ≡ []
picks_none w ns = elim (has_all w ns) as (λ b. cond {A = List Row} b [] [] ≡ []) [ true ↦ refl | false ↦ refl ]

-- the cells that a change leaves, in every row
picks_more : (w ns : Row) (name fill : Text) (rows : List Row) → AllByRecursion (Fit ns) rows → has_all w ns ≡ true → map (picked w (ns ++ name ∷ [])) (with_last fill rows) ≡ map (picked w ns) rows
picks_more w ns name fill rows fit h =
    map_twice (picked w (ns ++ name ∷ [])) (λ row. row ++ fill ∷ []) rows
    ∙ map_same_where (Fit ns) (λ row. picked w (ns ++ name ∷ []) (row ++ fill ∷ [])) (picked w ns)
    (λ row l. same_cells w ns (ns ++ name ∷ []) row (row ++ fill ∷ []) (λ a h k. cell_more ns row name fill a h l) h (has_more w ns name h)) rows fit

picks_less : (w ns : Row) (p : ℕ) (rows : List Row) → IsDistinct bytes_eq ns → AllByRecursion (Fit ns) rows → has_all w (remove ns p) ≡ true → map (picked w (remove ns p)) (less_place p rows) ≡ map (picked w ns) rows
picks_less w ns p rows d fit h =
    map_twice (picked w (remove ns p)) (λ row. remove row p) rows
    ∙ map_same_where (Fit ns) (λ row. picked w (remove ns p) (remove row p)) (picked w ns)
    (λ row l. same_cells w ns (remove ns p) row (remove row p) (λ a h k. cell_less ns row p a d k l) (has_less w ns p h) h) rows fit

picks_renamed : (w ns : Row) (p : ℕ) (to : Text) (rows : List Row) → IsDistinct bytes_eq ns → is_in to ns ≡ false → AllByRecursion (Fit ns) rows → has_all w ns ≡ true → has_all w (slice_set ns p to) ≡ true → map (picked w (slice_set ns p to)) rows ≡ map (picked w ns) rows
picks_renamed w ns p to rows d new fit h k =
    map_same_where (Fit ns) (picked w (slice_set ns p to)) (picked w ns)
    (λ row l. same_cells w ns (slice_set ns p to) row row (λ a h k. cell_renamed ns row p to a d new h k l) h k) rows fit

-- what `Pick` gives
pub pick_law : (w : Row) (x : SheetValue) (g : SheetChange) → IsSheet x → FitsSheet g x → MovesBag (pick_value w x) (pick_moves w x g) (pick_value w (sheet_after g x))
pick_law w x (Up row) s fit = row_comes (picks w) (picks_each w) x.0 x.1 row
pick_law w x (Down row) s fit = row_goes (picks w) (picks_each w) x.0 x.1 row fit
pick_law w x (Add name fill) s fit =
    let y = sheet_after (Add name fill) x in
    elim (has_all w x.0) as (λ b. has_all w x.0 ≡ b → MovesBag (cond b (map (picked w x.0) x.1) []) (cond b [] (all_signed true (pick_value w y))) (pick_value w y)) [
      | true ↦ λ e. rw (has_more w x.0 name e) (stays _ _ (sym (picks_more w x.0 name fill x.1 s.fits e)))
      | false ↦ λ e. all_come (pick_value w y)
    ] refl
pick_law w x (Drop place) s fit =
    let y = sheet_after (Drop place) x in
    elim (has_all w y.0) as (λ b. has_all w y.0 ≡ b → MovesBag (pick_value w x) (cond b [] (all_signed false (pick_value w x))) (cond b (map (picked w y.0) y.1) [])) [
      | true ↦ λ e. rw (has_less w x.0 place e) (stays _ _ (sym (picks_less w x.0 place x.1 s.distinct s.fits e)))
      | false ↦ λ e. all_go (pick_value w x)
    ] refl
pick_law w x (Rename place to) s fit =
    let y = sheet_after (Rename place to) x in
    elim (has_all w x.0 && has_all w y.0) as (λ b. (has_all w x.0 && has_all w y.0) ≡ b → MovesBag (pick_value w x) (cond b [] (replaced (pick_value w x) (pick_value w y))) (pick_value w y)) [
      | true ↦ λ e.
          let both = and_both (has_all w x.0) (has_all w y.0) e in
          rw (both.0, both.1) (stays _ _ (sym (picks_renamed w x.0 place to x.1 s.distinct fit.1 s.fits both.0 both.1)))
      | false ↦ λ e. replaces (pick_value w x) (pick_value w y)
    ] refl
pick_law w x (Born attributes) s fit =
    let none : pick_value w x ≡ [] = ap (pick_value w) fit.0 ∙ picks_none w [] in
    stays _ _ (none ∙ sym (picks_none w attributes))
pick_law w x Gone s fit = rw (picks_none w []) (all_go (pick_value w x))
