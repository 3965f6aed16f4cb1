-- Which texts may name a table or a column.
use Rattle.std.specs.Prelude.{ℕ, Bool, ◌==◌, ◌&&◌, not, nat_le, length, slice_index, bytes_eq}
use Rattle.std.specs.List.{list_all, list_any}
use Rattle.std.specs.Str.{is_utf8}
use Rattle.ss_text.specs.Texts.{Text, Row}

abbrev pub most_label_bytes : ℕ
most_label_bytes = 200

-- at least one byte, and not too many
abbrev pub has_label_length : Text → Bool
has_label_length t = nat_le 1 (length t) && nat_le (length t) most_label_bytes

-- no control byte: none below 0x20, and not 0x7f
abbrev pub is_column_byte : ℕ → Bool
is_column_byte b = nat_le 32 b && not (b == 127)

-- and no `/`
abbrev pub is_table_byte : ℕ → Bool
is_table_byte b = is_column_byte b && not (b == 47)

-- a legal table label: well-formed UTF-8 that doesn't begin with `.`
unfoldable pub is_table_label : Text → Bool
is_table_label t = has_label_length t && not (slice_index t 0 == 46) && list_all is_table_byte t && is_utf8 t

-- a legal dynamic column label, beside these constant columns
unfoldable pub is_column_label : Text → Row → Bool
is_column_label t fixed = has_label_length t && list_all is_column_byte t && not (list_any (λ column. bytes_eq column t) fixed)
