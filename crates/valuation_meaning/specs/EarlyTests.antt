-- What the code tests early: it is bound by so many declarations, and needed.
use Rattle.std.specs.Prelude.{◌≡◌, true, List, map}
use denote.Ref.{Bor}
use Rattle.view_def.specs.declared.typed.Term.{Term}
use Rattle.view_def.specs.Conditions.{condition_of}
use Rattle.view_def.specs.Query.{Query}
use Rattle.view_def.specs.Terms.{terms_of}
use Rattle.valuation_meaning.specs.declared.early.EarlyMember.{EarlyMember}
use Rattle.valuation_meaning.specs.declared.early.EarlyTerm.{EarlyTerm}
use Rattle.view_meaning.specs.Early.{is_bound, are_bound, NeedsMember, NeedsTerm}

-- terms that are borrowed
abbrev pub terms_now : List (Bor Term) → List Term
terms_now ts = map (λ (t : Bor Term). t.now) ts

abbrev pub IsEarlyMember : Query → EarlyMember → Type 0
IsEarlyMember q m = (are_bound m.depth (terms_of (condition_of m.condition.now)) ≡ true) × NeedsMember q (condition_of m.condition.now)

abbrev pub IsEarlyTerm : Query → EarlyTerm → Type 0
IsEarlyTerm q t = (is_bound t.depth t.term.now ≡ true) × NeedsTerm q t.term.now
