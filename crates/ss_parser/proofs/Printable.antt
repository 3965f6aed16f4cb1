-- What a tree is that is read from a text.
use Rattle.std.proofs.Common.{◌≡◌, ℕ, suc, Bool, true, false, List, [], ◌∷◌, sym, ap, subst}
use Rattle.std.specs.Prelude.{MatchBool, IfSome}
use Rattle.std.specs.Str.{str_to_ascii_lowercase}
use Rattle.ss_text.specs.Texts.{Text, is_in}
use Rattle.view_def.specs.declared.written.Name.{Name}
use Rattle.view_def.specs.declared.written.RawTerm.{RawTerm}
use Rattle.view_def.specs.declared.written.RawTerm.TheVariants as term
use Rattle.view_def.specs.declared.written.RawRange.{RawRange}
use Rattle.view_def.specs.declared.written.RawRange.TheVariants as range
use Rattle.view_def.specs.declared.written.RawDecl.{RawDecl}
use Rattle.view_def.specs.RawConditions.{Raw, AnyRaw, AllRaw, NotRaw, CompareRaw, Raws, none, more}
use Rattle.view_def.specs.Tree.{ViewTree}
use Rattle.view_def.specs.Print.{is_any, is_joined}
use Rattle.ss_lexer.specs.Lexemes.{keywords}
use Rattle.ss_lexer.proofs.Chunks.{IsWord}
use Rattle.ss_parser.specs.Views.{most_open}

-- a word that spells no keyword
abbrev pub IsIdent : Text → Type 0
IsIdent w = IsWord w × (is_in (str_to_ascii_lowercase w) keywords ≡ false)

abbrev pub GoodName : Name → Type 0
GoodName n = MatchBool n.quoted (Unit {0}) (IsIdent n.text)

abbrev pub GoodTerm : RawTerm → Type 0
GoodTerm (term.Lone x) = IsIdent x
GoodTerm (term.Dot x a) = IsIdent x × GoodName a
GoodTerm (term.Literal t) = Unit {0}

abbrev pub GoodRange : RawRange → Type 0
GoodRange range.Databases = Unit {0}
GoodRange (range.Relations n) = GoodName n
GoodRange (range.Attributes n m) = GoodName n × GoodName m
GoodRange (range.Tuples n m) = GoodName n × GoodName m
GoodRange (range.Values n m a) = GoodName n × GoodName m × GoodName a
GoodRange (range.Alias t a) = IsIdent t × GoodName a

abbrev pub GoodDecl : RawDecl → Type 0
GoodDecl d = GoodRange d.range × IsIdent d.var

-- each of a list, and some there are
abbrev pub Each : {A : Type 0} → (A → Type 0) → List A → Type 0
Each G [] = Unit {0}
Each G (x ∷ xs) = G x × Each G xs

abbrev pub SomeEach : {A : Type 0} → (A → Type 0) → List A → Type 0
SomeEach G [] = ⊥
SomeEach G (x ∷ xs) = G x × Each G xs

-- where parentheses stand round it, one less may be open inside
abbrev pub Inside : Bool → (ℕ → Type 0) → ℕ → Type 0
Inside true B n = (m : ℕ) × (n ≡ suc m) × B m
Inside false B n = B n

abbrev pub Two : Raws → Type 0
Two none = ⊥
Two (more c none) = ⊥
Two (more c (more d cs)) = Unit {0}

-- the canonical text of a condition has at most so many open
abbrev mutual
  pub Bare : Raw → ℕ → Type 0
  Bare (AnyRaw cs) n = Two cs × Members is_any cs n
  Bare (AllRaw cs) n = Two cs × Members is_joined cs n
  Bare (NotRaw c) n = (m : ℕ) × (n ≡ suc m) × Inside (is_joined c) (Bare c) m
  Bare (CompareRaw s op t) n = GoodTerm s × GoodTerm t

  pub Members : (Raw → Bool) → Raws → ℕ → Type 0
  Members needed none n = Unit {0}
  Members needed (more c cs) n = Inside (needed c) (Bare c) n × Members needed cs n

pub record GoodTree (t : ViewTree) : Type 0 where
  pub view_db : GoodName t.view_db
  pub label : GoodName t.label
  pub columns : SomeEach GoodName t.columns
  pub select : SomeEach GoodTerm t.select
  pub decls : SomeEach GoodDecl t.decls
  pub condition : IfSome t.condition (λ c. Bare c most_open)

-- with one more it has so too
inside_more : (b : Bool) (B : ℕ → Type 0) → ((n : ℕ) → B n → B (suc n)) → (n : ℕ) → Inside b B n → Inside b B (suc n)
inside_more true B up n (m, e, h) = (suc m, ap suc e, up m h)
inside_more false B up n h = up n h

mutual
  pub bare_more : (c : Raw) (n : ℕ) → Bare c n → Bare c (suc n)
  bare_more (AnyRaw cs) n h = (h.0, members_more is_any cs n h.1)
  bare_more (AllRaw cs) n h = (h.0, members_more is_joined cs n h.1)
  bare_more (NotRaw c) n h = (suc h.0, ap suc h.1, inside_more (is_joined c) (Bare c) (bare_more c) h.0 h.2)
  bare_more (CompareRaw s op t) n h = h

  pub members_more : (needed : Raw → Bool) (cs : Raws) (n : ℕ) → Members needed cs n → Members needed cs (suc n)
  members_more needed none n h = tt
  members_more needed (more c cs) n h = (inside_more (needed c) (Bare c) (bare_more c) n h.0, members_more needed cs n h.1)

-- inside parentheses or not, it has so many without them
pub bare_inside : (b : Bool) (c : Raw) (n : ℕ) → Inside b (Bare c) n → Bare c n
bare_inside false c n h = h
bare_inside true c n (m, e, h) = subst (Bare c) (sym e) (bare_more c m h)
