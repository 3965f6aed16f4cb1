-- Views over one another: each reads the database that the tables of the one below are.
use Rattle.std.specs.Prelude.{ℕ, suc, List, [], ◌∷◌, Option, None, option_map}
use Rattle.std.specs.Option.{option_or}
use Rattle.ss_text.specs.Texts.{Row}
use Rattle.schema_model.specs.Catalogue.{DatabaseValue, CatalogueValue}
use Rattle.schema_model.specs.declared.refusal.Which.{Which}
use Rattle.view_def.specs.Query.{Query}
use Rattle.flow_law.specs.Script.{script}
use Rattle.flow_law.specs.Tables.{TablesValue}
use Rattle.flow_law.specs.declared.line.TableLine.{TableLine}
use Rattle.view_meaning.specs.Meaning.{meaning, shape_of}
use Rattle.view_stack.specs.Stands.{database_for, given_by}
use Rattle.view_stack.specs.Limits.{first_limit, lifted_limit}
use Rattle.csv_catalog.specs.declared.fault.LoadFault.TheVariants as load
use Rattle.ss_print.specs.Fields.{load_fields}
use Rattle.view_stages.specs.Stages.{refusal_of}
use Rattle.stack_levels.specs.declared.refusal.LevelRefusal.{LevelRefusal}

-- the database that the tables of a view over a catalogue are
abbrev pub database_by : CatalogueValue → Query → DatabaseValue
database_by c q = database_for q.view_db (shape_of q) (meaning c q)

-- the tables of views over a catalogue
abbrev pub tables_over : CatalogueValue → List Query → List TablesValue
tables_over c [] = []
tables_over c (q ∷ qs) = meaning c q ∷ tables_over (given_by c q) qs

-- the lines of each where one catalogue becomes another
abbrev pub lines_over : CatalogueValue → CatalogueValue → List Query → List (List TableLine)
lines_over c d [] = []
lines_over c d (q ∷ qs) = script (meaning c q) (meaning d q) ∷ lines_over (given_by c q) (given_by d q) qs

-- a refusal with its fields, and the level that it is of, the lowest being 1
abbrev pub refused_at : ℕ → Row → LevelRefusal
refused_at level fields = record { level = level; fields = fields }

-- the same refusal among the views with one more below
abbrev pub one_up : LevelRefusal → LevelRefusal
one_up r = refused_at (suc r.level) r.fields

-- a limit that a catalogue passes
abbrev pub limit_fields : Which → Row
limit_fields which = load_fields (load.Limit which)

abbrev pub limit_refusal : Which → LevelRefusal
limit_refusal which = refused_at 2 (limit_fields which)

-- it counts where there is a view that would read the catalogue
abbrev pub limit_above : List Query → Option Which → Option LevelRefusal
limit_above [] limit = None
limit_above (q ∷ qs) limit = option_map limit_refusal limit

-- why views over a catalogue are not opened: the first view that is refused, or that could not read what the one below gives
abbrev pub opening_refusal : CatalogueValue → List Query → Option LevelRefusal
opening_refusal c [] = None
opening_refusal c (q ∷ qs) =
    option_or (option_map (refused_at 1) (refusal_of c q))
    (option_or (limit_above qs (first_limit (database_by c q))) (option_map one_up (opening_refusal (given_by c q) qs)))

-- why they do not go on where the catalogue c becomes d: the same, with the limits that are passed on the way
abbrev pub changing_refusal : CatalogueValue → CatalogueValue → List Query → Option LevelRefusal
changing_refusal c d [] = None
changing_refusal c d (q ∷ qs) =
    option_or (option_map (refused_at 1) (refusal_of d q))
    (option_or (limit_above qs (lifted_limit q.view_db (shape_of q) (meaning c q) (script (meaning c q) (meaning d q)))) (option_map one_up (changing_refusal (given_by c q) (given_by d q) qs)))
