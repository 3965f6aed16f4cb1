-- Examples of the canonical text.
use Rattle.std.proofs.Common.{◌≡◌, refl, [], ◌∷◌, ◌++◌, None, true, false}
use Rattle.std.specs.Prelude.{codes}
use Rattle.ss_text.specs.Texts.{Text}
use Rattle.view_def.specs.declared.written.Name.{Name}
use Rattle.view_def.specs.declared.written.Op.TheVariants.{Eq, Ne, Lt}
use Rattle.view_def.specs.declared.written.RawTerm.{RawTerm}
use Rattle.view_def.specs.declared.written.RawTerm.TheVariants as term
use Rattle.view_def.specs.declared.written.RawRange.{RawRange}
use Rattle.view_def.specs.declared.written.RawRange.TheVariants as range
use Rattle.view_def.specs.declared.written.RawDecl.{RawDecl}
use Rattle.view_def.specs.RawConditions.{Raw, raws, AnyRaw, AllRaw, NotRaw, CompareRaw}
use Rattle.view_def.specs.Tree.{ViewTree}
use Rattle.view_def.specs.Print.{print, condition_text, name_text}

abbrev bare : Text → Name
bare t = record { text = t; quoted = false }

abbrev declared : RawRange → Text → RawDecl
declared r x = record { range = r; var = x }

-- values to columns
abbrev AtoB : ViewTree
AtoB = record {
  view_db = bare (codes "AtoB");
  label = bare (codes "salInfo");
  columns = bare (codes "category") ∷ bare (codes "D") ∷ [];
  select = term.Dot (codes "A") (bare (codes "category")) ∷ term.Dot (codes "A") (bare (codes "salFloor")) ∷ [];
  decls = declared (range.Tuples (bare (codes "univ-A")) (bare (codes "salInfo"))) (codes "A") ∷ declared (range.Alias (codes "A") (bare (codes "dept"))) (codes "D") ∷ [];
  condition = None;
}

two_declarations : print AtoB
    ≡ codes "CREATE VIEW AtoB::salInfo(category, D) AS SELECT A.category, A.salFloor FROM univ-A::salInfo A, A.dept D" ++ 10 ∷ []
unfolding print
two_declarations = refl

abbrev cell : Text → Text → RawTerm
cell x a = term.Dot x (bare a)

-- OR under NOT stands in parentheses
abbrev negated : Raw
negated = AllRaw (raws (NotRaw (AnyRaw (raws (CompareRaw (cell (codes "T") (codes "a")) Eq (term.Literal (codes "5"))
    ∷ CompareRaw (cell (codes "T") (codes "b")) Lt (term.Literal (codes "k")) ∷ [])))
    ∷ CompareRaw (cell (codes "T") (codes "c")) Ne (term.Literal (codes "q")) ∷ []))

conditions_in_parentheses : condition_text negated ≡ codes "NOT (T.a = '5' OR T.b < 'k') AND T.c <> 'q'"
conditions_in_parentheses = refl

two_negations : condition_text (NotRaw (NotRaw (CompareRaw (cell (codes "T") (codes "a")) Eq (term.Literal (codes "5"))))) ≡ codes "NOT NOT T.a = '5'"
two_negations = refl

-- an inner quote is doubled
inner_quote : name_text (record { text = codes "a" ++ 34 ∷ codes "b"; quoted = true }) ≡ 34 ∷ codes "a" ++ 34 ∷ 34 ∷ codes "b" ++ 34 ∷ []
inner_quote = refl
