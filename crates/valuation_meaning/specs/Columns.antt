-- What an equality says of the elements of a declaration.
use Rattle.std.specs.Prelude.{◌≡◌, ℕ, Bool, false, [], ◌∷◌, ◌++◌, length, Option, Some, None, option_map, option_and_then}
use denote.Ref.{Bor}
use Rattle.ss_text.specs.Texts.{Text}
use Rattle.view_def.specs.declared.typed.Place.{Place}
use Rattle.view_def.specs.declared.typed.Term.{Term}
use Rattle.view_def.specs.declared.typed.Term.TheVariants as term
use Rattle.view_def.specs.declared.typed.Range.{Range}
use Rattle.view_def.specs.declared.typed.Range.TheVariants as range
use Rattle.view_def.specs.Query.{Query}
use Rattle.valuation_meaning.specs.declared.index.Lists.{Lists}
use Rattle.valuation_meaning.specs.declared.index.Lists.TheVariants as lists
use Rattle.valuation_meaning.specs.declared.equality.Column.{Column}
use Rattle.view_meaning.specs.Elements.{Element, Valuation, text_of, cell_of_element, place_text}
use Rattle.view_meaning.specs.Terms.{value_of}
use Rattle.view_meaning.specs.Early.{Ends}
use Rattle.valuation_meaning.specs.Indexed.{is_cell}

-- the declaration of a column
abbrev pub range_by : Lists → Place → Place → Place → Range
range_by lists.Rows db rel a = range.Tuples db rel
range_by lists.Cells db rel a = range.Values db rel a

abbrev pub range_of : Column → Range
range_of c = range_by c.lists c.db.now c.rel.now c.attribute.now

-- the term that is the column of the declaration at a place: a cell of its row, or its variable
abbrev pub term_by : Lists → ℕ → Place → Term
term_by lists.Rows k a = term.Cell k a
term_by lists.Cells k a = term.Var k

abbrev pub compared_term : ℕ → Column → Term
compared_term k c = term_by c.lists k c.attribute.now

-- and what it is of an element
abbrev pub part_by : Lists → Valuation → Place → Element → Option Text
part_by lists.Rows v a e = option_and_then (cell_of_element e) (place_text v a)
part_by lists.Cells v a e = text_of e

abbrev pub compared : Valuation → Column → Element → Option Text
compared v c e = part_by c.lists v c.attribute.now e

-- whether a cell is the value that is sought, where there is one
abbrev pub is_sought : Option Text → Option Text → Bool
is_sought None c = false
is_sought (Some t) c = is_cell t c

-- after the first declarations, an element whose column is not the value of a term ends the branch
abbrev pub NeedsEqual : Query → ℕ → Term → Column → Type 0
NeedsEqual q place sought c =
    (v : Valuation) (e : Element) → length v ≡ place → is_sought (value_of v sought) (compared v c e) ≡ false → Ends q (v ++ e ∷ [])

-- the names of its database, its relation and its attribute
abbrev pub names_of : Valuation → Column → Option (Text × Text × Text)
names_of v c = option_and_then (λ db. option_and_then (λ rel. option_map (λ a. (db, rel, a)) (place_text v c.attribute.now)) (place_text v c.rel.now)) (place_text v c.db.now)

-- names that are borrowed
abbrev pub names_now : Option (Bor Text × Bor Text × Bor Text) → Option (Text × Text × Text)
names_now o = option_map (λ n. (n.0.now, n.1.now, n.2.now)) o
