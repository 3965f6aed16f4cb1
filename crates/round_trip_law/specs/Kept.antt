-- What a relation says, and what views in other forms may keep of it.
use Rattle.std.specs.Prelude.{Bool, not, ◌&&◌, filter, map, unwrap_or, is_some, List, [], ◌∷◌, ◌++◌}
use Rattle.std.specs.List.{list_any}
use Rattle.ss_text.specs.Texts.{Text, Row, text_cmp, row_cmp, text_eq, row_eq, is_in}
use Rattle.ss_text.specs.Ascending.{ascending, least}
use Rattle.schema_model.specs.Catalogue.{RelationValue, CatalogueValue, relation_value, database_value}
use Rattle.view_def.specs.Query.{Query}
use Rattle.view_meaning.specs.Orders.{text_under, row_under}
use Rattle.view_meaning.specs.Refusal.{refusal}
use Rattle.view_stack.specs.Stands.{given_by}
use Rattle.round_trip_law.specs.Forms.{Named, Parts, header}

-- the catalogue that the tables of the view back are, which stands over the one that the view there gives
abbrev pub there_and_back : CatalogueValue → Query → Query → CatalogueValue
there_and_back c there back = given_by (given_by c there) back

abbrev pub is_refused : CatalogueValue → Query → Bool
is_refused c q = is_some (refusal c q)

abbrev pub has_text : Text → Bool
has_text t = not (text_eq t [])

-- ---- names as values
-- one relation alone: these rows, each once, under the header of values
abbrev pub alone : Parts → Named → List Row → CatalogueValue
alone p at rows = database_value at.db (relation_value at.rel (header p) (ascending row_cmp rows) ∷ []) ∷ []

-- a relation without the rows whose value is empty
abbrev pub with_values : Parts → RelationValue → RelationValue
with_values p r = record r { rows = filter (λ row. has_text (text_under r.attributes row p.value)) r.rows }

-- two rows that have one key and one name, and two values of which none is empty
abbrev pub clash : Parts → Row → Row → Row → Bool
clash p attributes x y =
    row_eq (row_under p.keys attributes x) (row_under p.keys attributes y) && text_eq (text_under attributes x p.name) (text_under attributes y p.name)
    && not (text_eq (text_under attributes x p.value) (text_under attributes y p.value)) && has_text (text_under attributes x p.value) && has_text (text_under attributes y p.value)

abbrev pub some_clash : Parts → RelationValue → Bool
some_clash p r = list_any (λ x. list_any (clash p r.attributes x) r.rows) r.rows

-- ---- names as columns
-- whether a row has a text under an attribute that is no key
abbrev pub says : Parts → Row → Text → Row → Bool
says p attributes name row = not (is_in name p.keys) && has_text (text_under attributes row name)

-- the names under which some row has a text, and the keys of the rows that have some
abbrev pub kept_names : Parts → RelationValue → Row
kept_names p r = ascending text_cmp (filter (λ name. list_any (says p r.attributes name) r.rows) r.attributes)

abbrev pub kept_keys : Parts → RelationValue → List Row
kept_keys p r = ascending row_cmp (map (row_under p.keys r.attributes) (filter (λ row. list_any (λ name. says p r.attributes name row) r.attributes) r.rows))

-- the text that the rows of a key have under a name: the empty one where they have none, and the least where they have several
abbrev pub text_for : Parts → RelationValue → Row → Text → Text
text_for p r key name =
    unwrap_or (least text_cmp (filter has_text (map (λ row. text_under r.attributes row name) (filter (λ row. row_eq key (row_under p.keys r.attributes row)) r.rows)))) []

-- two rows that have one key, and two texts under a name of which none is empty
abbrev pub clash_under : Parts → Row → Row → Row → Text → Bool
clash_under p attributes x y name =
    row_eq (row_under p.keys attributes x) (row_under p.keys attributes y)
    && not (text_eq (text_under attributes x name) (text_under attributes y name)) && has_text (text_under attributes x name) && has_text (text_under attributes y name)

abbrev pub some_clash_under : Parts → RelationValue → Bool
some_clash_under p r = list_any (λ x. list_any (λ y. list_any (clash_under p r.attributes x y) (kept_names p r)) r.rows) r.rows

-- one relation alone: a row for each kept key, and a column for each kept name
abbrev pub wide : Parts → Named → RelationValue → CatalogueValue
wide p at r =
    database_value at.db (relation_value at.rel (p.keys ++ kept_names p r) (map (λ key. key ++ map (text_for p r key) (kept_names p r)) (kept_keys p r)) ∷ []) ∷ []
