-- The rows that changes name, as keys.
use Rattle.std.specs.Prelude.{Bool, ◌&&◌, ◌++◌}
use Rattle.std.specs.Cmp.{IsEquivalence, on_equiv, and_equiv}
use Rattle.std.specs.Cmp.Lexicographic.{nat_list_eq_equiv, lists_equiv, bytes_decides}
use Rattle.std.specs.Hash as fed
use Rattle.std.specs.Hash.{Alike, and-Alike, on_Alike, same_Alike, items_Alike}
use Rattle.ss_text.specs.Texts.{Text, Row, text_eq, row_eq}
use Rattle.change_draft.specs.declared.named.Parts.{Parts}
use Rattle.change_draft.specs.declared.named.Parts.TheVariants.{Owned, Lent}

-- a row of the relation of these names
pub record NamedRow : Type 0 where
  pub db : Text
  pub rel : Text
  pub row : Row

abbrev pub named : Text → Text → Row → NamedRow
named db rel row = record { db = db; rel = rel; row = row }

-- the row that parts name, whether they are owned or lent
abbrev pub named_by : Parts → NamedRow
named_by (Owned db rel row) = named db rel row
named_by (Lent db rel row) = named db.now rel.now row.now

-- whether two are the same row of the same relation
abbrev pub named_eq : NamedRow → NamedRow → Bool
named_eq a b = (text_eq a.db b.db && text_eq a.rel b.rel) && row_eq a.row b.row

pub named_equiv : IsEquivalence named_eq
named_equiv = and_equiv (and_equiv (on_equiv (λ (n : NamedRow). n.db) nat_list_eq_equiv) (on_equiv (λ (n : NamedRow). n.rel) nat_list_eq_equiv)) (on_equiv (λ (n : NamedRow). n.row) (lists_equiv nat_list_eq_equiv))

-- what is hashed of one
abbrev pub text_writes : Text → fed.HashWrites
text_writes t = fed.slice fed.u8 t

abbrev pub writes : NamedRow → fed.HashWrites
writes n = (text_writes n.db ++ text_writes n.rel) ++ fed.slice text_writes n.row

pub writes_alike : Alike named_eq writes
writes_alike = and-Alike (and-Alike (on_Alike (λ (n : NamedRow). n.db) (same_Alike text_writes bytes_decides)) (on_Alike (λ (n : NamedRow). n.rel) (same_Alike text_writes bytes_decides))) (on_Alike (λ (n : NamedRow). n.row) (items_Alike (same_Alike text_writes bytes_decides)))
