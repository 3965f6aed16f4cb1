-- The name and the fields of each refusal, as they are printed.
use Rattle.std.specs.Prelude.{ℕ, [], ◌∷◌, option_to_list, slice_index_or, codes, decimal}
use Rattle.ss_text.specs.Texts.{Text, Row}
use Rattle.schema_model.specs.declared.refusal.Which.{Which}
use Rattle.schema_model.specs.declared.refusal.Which.TheVariants.{Databases, Relations, Attributes, Rows}
use Rattle.schema_model.specs.declared.change.Change.{Change}
use Rattle.schema_model.specs.declared.change.Change.TheVariants.{Insert, Delete, AddAttribute, DropAttribute, RenameAttribute, CreateRelation, DropRelation, RenameRelation, CreateDatabase, DropDatabase, RenameDatabase}
use Rattle.schema_model.specs.declared.change.ChangeFault.{ChangeFault}
use Rattle.schema_model.specs.declared.change.ChangeFault.TheVariants as changes
use Rattle.schema_model.specs.declared.refusal.Refusal.{Refusal}
use Rattle.schema_model.specs.declared.refusal.Refusal.TheVariants as refusal
use Rattle.csv_catalog.specs.declared.fault.LoadFault.{LoadFault}
use Rattle.csv_catalog.specs.declared.fault.LoadFault.TheVariants as load
use Rattle.ss_parser.specs.declared.fault.ParseFault.{ParseFault}
use Rattle.ss_parser.specs.declared.fault.ParseFault.TheVariants as parse
use Rattle.var_typing.specs.declared.fault.TypeFault.{TypeFault}
use Rattle.var_typing.specs.declared.fault.TypeFault.TheVariants as typing
use Rattle.flow_law.specs.declared.refused.IllegalLabel.{IllegalLabel}
use Rattle.flow_law.specs.declared.refused.Clash.{Clash}

-- what a limit counts
abbrev pub counted : Which → Text
counted Databases = codes "databases"
counted Relations = codes "relations"
counted Attributes = codes "attributes"
counted Rows = codes "rows"

-- source relations that are refused; a fault of reading or of memory is none
abbrev pub load_fields : LoadFault → Row
load_fields (load.NoHeader db file) = codes "no-header" ∷ db ∷ file ∷ []
load_fields (load.NameTwice db file name) = codes "name-twice" ∷ db ∷ file ∷ name ∷ []
load_fields (load.Ragged db file nth want got) = codes "ragged" ∷ db ∷ file ∷ decimal nth ∷ decimal want ∷ decimal got ∷ []
load_fields (load.Limit which) = codes "limit" ∷ counted which ∷ []
load_fields load.ReadFault = []
load_fields load.NoMemory = []

-- a label that is not legal: the table's, and the column's where it is that
abbrev pub illegal_fields : IllegalLabel → Row
illegal_fields e = codes "illegal-label" ∷ e.table ∷ option_to_list e.column

-- two values for one cell: the table, the column, the values, and then the key
abbrev pub clash_fields : Clash → Row
clash_fields e = codes "conflict" ∷ e.table ∷ e.column ∷ e.first ∷ e.second ∷ e.key

-- a view text that is no view; want of memory is no refusal
abbrev pub parse_fields : ParseFault → Row
parse_fields (parse.BadByte at) = codes "bad-byte" ∷ decimal at ∷ []
parse_fields (parse.OpenQuote at) = codes "open-quote" ∷ decimal at ∷ []
parse_fields (parse.Unexpected at) = codes "unexpected" ∷ decimal at ∷ []
parse_fields (parse.TooDeep at) = codes "too-deep" ∷ decimal at ∷ []
parse_fields parse.NoMemory = []

-- a view that has no type; want of memory is no refusal
abbrev pub type_fields : TypeFault → Row
type_fields (typing.DeclaredTwice name) = codes "declared-twice" ∷ name ∷ []
type_fields (typing.NotDeclared name) = codes "not-declared" ∷ name ∷ []
type_fields (typing.WrongKind name) = codes "wrong-kind" ∷ name ∷ []
type_fields (typing.TwoVariableColumns name) = codes "two-variable-columns" ∷ name ∷ []
type_fields (typing.TwoFolds name) = codes "two-folds" ∷ name ∷ []
type_fields (typing.ColumnTwice name) = codes "column-twice" ∷ name ∷ []
type_fields (typing.CountDiffers columns terms) = codes "count-differs" ∷ decimal columns ∷ decimal terms ∷ []
type_fields typing.NoConstantColumn = codes "no-constant-column" ∷ []
type_fields (typing.TooMany name) = codes "too-many" ∷ name ∷ []
type_fields (typing.BadLabel name) = codes "bad-label" ∷ name ∷ []
type_fields typing.NoMemory = []

-- a line with a backslash, at this place, that spells nothing
abbrev pub escape_fields : ℕ → Row
escape_fields at = codes "bad-escape" ∷ decimal at ∷ []

-- the first field of a line
abbrev pub first_field : Row → Text
first_field row = slice_index_or row 0 []

-- a line that says no change; want of memory is no refusal
abbrev pub line_fields : Row → ChangeFault → Row
line_fields row changes.UnknownVerb = codes "unknown-verb" ∷ first_field row ∷ []
line_fields row (changes.FieldCount got) = codes "field-count" ∷ first_field row ∷ decimal got ∷ []
line_fields row changes.NoMemory = []

-- the database and the relation that a change names; one that names no relation has its database's name here
abbrev pub database_named_by : Change → Text
database_named_by (Insert db rel row) = db
database_named_by (Delete db rel row) = db
database_named_by (AddAttribute db rel name fill) = db
database_named_by (DropAttribute db rel name) = db
database_named_by (RenameAttribute db rel name to) = db
database_named_by (CreateRelation db rel attributes) = db
database_named_by (DropRelation db rel) = db
database_named_by (RenameRelation db rel to) = db
database_named_by (CreateDatabase db) = db
database_named_by (DropDatabase db) = db
database_named_by (RenameDatabase db to) = db

abbrev pub relation_named_by : Change → Text
relation_named_by (Insert db rel row) = rel
relation_named_by (Delete db rel row) = rel
relation_named_by (AddAttribute db rel name fill) = rel
relation_named_by (DropAttribute db rel name) = rel
relation_named_by (RenameAttribute db rel name to) = rel
relation_named_by (CreateRelation db rel attributes) = rel
relation_named_by (DropRelation db rel) = rel
relation_named_by (RenameRelation db rel to) = rel
relation_named_by g = database_named_by g

-- the name after the change of what it makes or renames
abbrev pub new_name : Change → Text
new_name (RenameRelation db rel to) = to
new_name (RenameDatabase db to) = to
new_name g = relation_named_by g

-- the attribute that a change is for; a change that is for none has its relation's name here
abbrev pub attribute_named_by : Change → Text
attribute_named_by (AddAttribute db rel name fill) = name
attribute_named_by (DropAttribute db rel name) = name
attribute_named_by (RenameAttribute db rel name to) = name
attribute_named_by g = relation_named_by g

-- the new attribute at a place in its list of names
abbrev pub new_attribute : Change → ℕ → Text
new_attribute (RenameAttribute db rel name to) place = to
new_attribute (CreateRelation db rel attributes) place = slice_index_or attributes place rel
new_attribute g place = attribute_named_by g

-- a change that the catalogue refuses
abbrev pub refusal_fields : Change → Refusal → Row
refusal_fields g refusal.NoDatabase = codes "no-database" ∷ database_named_by g ∷ []
refusal_fields g refusal.IllegalName = codes "illegal-name" ∷ new_name g ∷ []
refusal_fields g refusal.DatabaseThere = codes "database-there" ∷ new_name g ∷ []
refusal_fields g refusal.NoRelation = codes "no-relation" ∷ database_named_by g ∷ relation_named_by g ∷ []
refusal_fields g refusal.RelationThere = codes "relation-there" ∷ database_named_by g ∷ new_name g ∷ []
refusal_fields g refusal.NoAttribute = codes "no-attribute" ∷ database_named_by g ∷ relation_named_by g ∷ attribute_named_by g ∷ []
refusal_fields g (refusal.AttributeThere place) = codes "attribute-there" ∷ database_named_by g ∷ relation_named_by g ∷ new_attribute g place ∷ []
refusal_fields g refusal.LastAttribute = codes "last-attribute" ∷ database_named_by g ∷ relation_named_by g ∷ attribute_named_by g ∷ []
refusal_fields g (refusal.ArityDiffers want got) = codes "arity-differs" ∷ database_named_by g ∷ relation_named_by g ∷ decimal want ∷ decimal got ∷ []
refusal_fields g refusal.NoRow = codes "no-row" ∷ database_named_by g ∷ relation_named_by g ∷ []
refusal_fields g (refusal.Limit which) = codes "limit" ∷ counted which ∷ []

-- a group in which so many lines were refused, and a group of so many changes that the input ends in
abbrev pub group_broken_fields : ℕ → Row
group_broken_fields lines = codes "group-broken" ∷ decimal lines ∷ []

abbrev pub open_group_fields : ℕ → Row
open_group_fields changes = codes "open-group" ∷ decimal changes ∷ []

-- a word that does not stand in a group, and one that stands only in a group
abbrev pub in_group_fields : Row → Row
in_group_fields row = codes "in-group" ∷ first_field row ∷ []

abbrev pub no_group_fields : Row → Row
no_group_fields row = codes "no-group" ∷ first_field row ∷ []

-- a line of a feed: a word or a verb that is none, a wrong number of fields behind one, and a number that is none
abbrev pub verb_fields : Text → Row
verb_fields verb = codes "unknown-verb" ∷ verb ∷ []

abbrev pub count_fields : Text → ℕ → Row
count_fields verb got = codes "field-count" ∷ verb ∷ decimal got ∷ []

abbrev pub number_fields : Text → Row
number_fields number = codes "bad-number" ∷ number ∷ []

-- an arrival before its turn, with the number that its source wants, and one with another change than the one under its number
abbrev pub early_fields : Text → ℕ → Row
early_fields source want = codes "early" ∷ source ∷ decimal want ∷ []

abbrev pub other_change_fields : Text → ℕ → Row
other_change_fields source number = codes "other-change" ∷ source ∷ decimal number ∷ []
