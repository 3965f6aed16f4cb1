-- The elements of a declaration as the code lists them.
use Rattle.std.proofs.Common.{◌≡◌, ◌<◌, ◌+◌, arith, ℕ, List, [], ◌∷◌, ◌++◌, Some, None, length, map, get_or, refl, sym, ap, ◌∙◌}
use Rattle.std.specs.List.{range_with_len}
use Rattle.std.proofs.lemmas.List.FromFn.{map-range_with_len_more}
use Rattle.std.specs.Prelude.{slice_get, option_map, filter_map, position}
use denote.Ref.{Bor}
use Rattle.std.proofs.lemmas.List.{length-map}
use Rattle.std.proofs.lemmas.Option.{slice_get-map, slice_get_read}
use Rattle.ss_text.specs.Texts.{Text, Row, text_eq}
use Rattle.schema_model.specs.Catalogue.{RelationValue, DatabaseValue}
use Rattle.schema_model.specs.States.{RelationState, DatabaseState, plain_relation, plain_databases}
use Rattle.valuation_meaning.specs.Indexed.{rows_now}
use Rattle.view_meaning.specs.Elements.{Element, A_text, A_row, cell_under}

-- the names are those of the plain lists
pub database_names : (ds : List DatabaseState) → map (λ (d : DatabaseState). A_text d.name) ds ≡ map (λ (d : DatabaseValue). A_text d.name) (plain_databases ds)
database_names [] = refl
database_names (d ∷ ds) = ap (λ l. A_text d.name ∷ l) (database_names ds)

pub relation_names : (rs : List RelationState) → map (λ (r : RelationState). A_text r.name) rs ≡ map (λ (r : RelationValue). A_text r.name) (map plain_relation rs)
relation_names [] = refl
relation_names (r ∷ rs) = ap (λ l. A_text r.name ∷ l) (relation_names rs)

-- the row at a position
pub row_there : (rows : List (Bor Row)) (all : List Row) (i : ℕ) (row : Bor Row) → rows_now rows ≡ all → i < length rows → row ≡ get_or rows i row → slice_get all i ≡ Some row.now
row_there rows all i row same lt is =
    ap (λ (l : List Row). slice_get l i) (sym same) ∙ slice_get-map (λ (r : Bor Row). r.now) rows i ∙ ap (option_map (λ (r : Bor Row). r.now)) (slice_get_read rows (length rows) i row refl lt is)

pub rows_long : (rows : List (Bor Row)) (all : List Row) → rows_now rows ≡ all → length rows ≡ length all
rows_long rows all same = sym (length-map rows (λ (r : Bor Row). r.now)) ∙ ap length same

-- no row has a cell under an attribute that is not there
pub none_under : (attributes : Row) (name : Text) (rows : List Row) → position (text_eq name) attributes ≡ None → filter_map (cell_under attributes name) rows ≡ []
none_under attributes name [] missing = refl
none_under attributes name (row ∷ rows) missing = rw missing (none_under attributes name rows missing)

-- one row more
pub one_row_more : (r : RelationValue) (n : ℕ) (es fs : List Element) (e : Element) → es ≡ map (A_row r) (range_with_len 0 n) → e ≡ A_row r n → fs ≡ es ++ e ∷ [] → fs ≡ map (A_row r) (range_with_len 0 (n + 1))
one_row_more r n es fs e before is pushed = rw (map-range_with_len_more (A_row r) 0 n n (omega arith), ← before) (pushed ∙ rw is refl)
