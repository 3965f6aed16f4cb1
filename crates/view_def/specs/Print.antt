-- The canonical text of a view definition.
use Rattle.std.specs.Prelude.{ℕ, Bool, true, false, if◌then◌else◌, ◌==◌, List, [], ◌∷◌, ◌++◌, flat_map, Option, Some, None, codes}
use Rattle.std.specs.List.{join_by}
use Rattle.ss_text.specs.Texts.{Text}
use Rattle.view_def.specs.declared.written.Name.{Name}
use Rattle.view_def.specs.declared.written.Op.{Op}
use Rattle.view_def.specs.declared.written.Op.TheVariants.{Eq, Ne, Lt, Le, Gt, Ge}
use Rattle.view_def.specs.declared.written.RawTerm.{RawTerm}
use Rattle.view_def.specs.declared.written.RawTerm.TheVariants as term
use Rattle.view_def.specs.declared.written.RawRange.{RawRange}
use Rattle.view_def.specs.declared.written.RawRange.TheVariants as range
use Rattle.view_def.specs.declared.written.RawDecl.{RawDecl}
use Rattle.view_def.specs.RawConditions.{Raw, Raws, AnyRaw, AllRaw, NotRaw, CompareRaw, none, more}
use Rattle.view_def.specs.Tree.{ViewTree}

-- a text between two quotes, each quote inside doubled
abbrev pub in_quotes : ℕ → Text → Text
in_quotes quote t = quote ∷ (flat_map (λ b. if b == quote then b ∷ b ∷ [] else b ∷ []) t ++ quote ∷ [])

-- a name: in double quotes where it was quoted, else bare
abbrev pub name_text : Name → Text
name_text n = if n.quoted then in_quotes 34 n.text else n.text

-- a term: a literal stands in single quotes, a number too
abbrev pub term_text : RawTerm → Text
term_text (term.Lone x) = x
term_text (term.Dot x a) = x ++ codes "." ++ name_text a
term_text (term.Literal t) = in_quotes 39 t

-- a relation or a table, with its database
abbrev pub path_text : Name → Name → Text
path_text db rel = name_text db ++ codes "::" ++ name_text rel

abbrev pub range_text : RawRange → Text
range_text range.Databases = codes "->"
range_text (range.Relations db) = name_text db ++ codes " ->"
range_text (range.Attributes db rel) = path_text db rel ++ codes " ->"
range_text (range.Tuples db rel) = path_text db rel
range_text (range.Values db rel a) = path_text db rel ++ codes "." ++ name_text a
range_text (range.Alias t a) = t ++ codes "." ++ name_text a

abbrev pub declaration_text : RawDecl → Text
declaration_text d = range_text d.range ++ codes " " ++ d.var

abbrev pub operator_text : Op → Text
operator_text Eq = codes "="
operator_text Ne = codes "<>"
operator_text Lt = codes "<"
operator_text Le = codes "<="
operator_text Gt = codes ">"
operator_text Ge = codes ">="

abbrev pub comparison_text : RawTerm → Op → RawTerm → Text
comparison_text s op t = term_text s ++ codes " " ++ operator_text op ++ codes " " ++ term_text t

-- whether members are joined by OR
abbrev pub is_any : Raw → Bool
is_any (AnyRaw cs) = true
is_any c = false

-- whether members are joined by OR or by AND
abbrev pub is_joined : Raw → Bool
is_joined (AnyRaw cs) = true
is_joined (AllRaw cs) = true
is_joined c = false

abbrev pub in_parentheses : Bool → Text → Text
in_parentheses needed t = if needed then codes "(" ++ t ++ codes ")" else t

abbrev mutual
  -- parentheses stand where a member of OR is joined by OR, where a member of AND is joined at all, and where NOT
  -- holds what is joined
  pub condition_text : Raw → Text
  condition_text (AnyRaw cs) = join_by (λ t. t) (codes " OR ") (member_texts is_any cs)
  condition_text (AllRaw cs) = join_by (λ t. t) (codes " AND ") (member_texts is_joined cs)
  condition_text (NotRaw c) = codes "NOT " ++ in_parentheses (is_joined c) (condition_text c)
  condition_text (CompareRaw s op t) = comparison_text s op t

  -- the members, in parentheses where the test says so
  pub member_texts : (Raw → Bool) → Raws → List Text
  member_texts needed none = []
  member_texts needed (more c cs) = in_parentheses (needed c) (condition_text c) ∷ member_texts needed cs

abbrev pub filter_text : Option Raw → Text
filter_text None = []
filter_text (Some c) = codes " WHERE " ++ condition_text c

abbrev pub header_text : ViewTree → Text
header_text v = path_text v.view_db v.label ++ codes "(" ++ join_by name_text (codes ", ") v.columns ++ codes ")"

abbrev pub query_text : ViewTree → Text
query_text v = codes "SELECT " ++ join_by term_text (codes ", ") v.select
    ++ codes " FROM " ++ join_by declaration_text (codes ", ") v.decls
    ++ filter_text v.condition

-- the whole text, which ends with one line feed
unfoldable pub print : ViewTree → Text
print v = codes "CREATE VIEW " ++ header_text v ++ codes " AS " ++ query_text v ++ codes "\n"
