-- The canonical text of a record, and of many.
use Rattle.std.specs.Prelude.{ℕ, Bool, true, false, ◌==◌, ◌||◌, ◌&&◌, List, [], ◌∷◌, ◌++◌, map, if◌then◌else◌, length}
use Rattle.std.specs.List.{list_any, join_with_byte}
use Rattle.ss_text.specs.Texts.{Text, Row}
use Rattle.schema_model.specs.Catalogue.{RelationValue}

-- comma, double quote, CR and LF
abbrev pub is_mark : ℕ → Bool
is_mark b = (b == 44) || (b == 34) || (b == 13) || (b == 10)

-- the bytes with each double quote doubled
unfoldable pub doubled : List ℕ → List ℕ
doubled [] = []
doubled (b ∷ bs) = if b == 34 then 34 ∷ 34 ∷ doubled bs else b ∷ doubled bs

-- between double quotes
abbrev pub in_quotes : Text → List ℕ
in_quotes field = 34 ∷ doubled field ++ 34 ∷ []

-- a field stands in double quotes exactly where it holds a mark
abbrev pub field_text : Text → List ℕ
field_text field = if list_any is_mark field then in_quotes field else field

-- whether the record is one empty field
abbrev pub is_one_empty : Row → Bool
is_one_empty [] = false
is_one_empty (field ∷ []) = length field == 0
is_one_empty (field ∷ next ∷ rest) = false

-- the fields joined by commas, and LF at the end; one empty field is two double quotes
unfoldable pub record_text : Row → List ℕ
record_text fields = (if is_one_empty fields then in_quotes [] else join_with_byte 44 (map field_text fields)) ++ 10 ∷ []

-- the texts of the records, one after the other
unfoldable pub csv_text : List Row → List ℕ
csv_text [] = []
csv_text (row ∷ rows) = record_text row ++ csv_text rows

-- the records of a relation's file
abbrev pub relation_records : RelationValue → List Row
relation_records r = r.attributes ∷ r.rows

-- whether the bytes of a byte order mark stand at the front
abbrev pub begins_with_bom : Text → Bool
begins_with_bom [] = false
begins_with_bom (a ∷ []) = false
begins_with_bom (a ∷ b ∷ []) = false
begins_with_bom (a ∷ b ∷ c ∷ rest) = (a == 0xEF) && (b == 0xBB) && (c == 0xBF)

-- whether the first field of the first record begins with a byte order mark
abbrev pub starts_with_bom : List Row → Bool
starts_with_bom [] = false
starts_with_bom ([] ∷ rows) = false
starts_with_bom ((field ∷ fields) ∷ rows) = begins_with_bom field

-- whether a record has a field
abbrev pub has_field : Row → Bool
has_field [] = false
has_field (field ∷ fields) = true
