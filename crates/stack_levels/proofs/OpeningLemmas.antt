-- Views that are opened over one another, the lowest first.
use Rattle.std.proofs.Common.{◌≡◌, ◌≤◌, ◌+◌, ◌∙◌, ◌∷◌, ℕ, suc, true, false, List, [], Option, None, length, refl, sym, ap, subst, arith}
use Rattle.std.specs.Prelude.{◌==◌, option_map}
use Rattle.std.specs.Option.{option_or}
use Rattle.ss_text.specs.Texts.{Text, Row}
use Rattle.schema_model.specs.Catalogue.{CatalogueValue}
use Rattle.schema_model.specs.declared.refusal.Which.{Which}
use Rattle.view_def.specs.Query.{Query, query_of}
use Rattle.flow_law.specs.Tables.{TablesValue}
use Rattle.flow_law.specs.declared.shape.Shape.{Shape}
use Rattle.view_meaning.specs.Meaning.{shape_of}
use Rattle.apply_law.specs.Verdicts.{Verdict, Makes, tables_in}
use Rattle.view_session.specs.Verdicts.{verdict_of}
use Rattle.view_stack.specs.Limits.{first_limit}
use Rattle.view_stack.specs.Stands.{database_for, given_by}
use Rattle.view_stages.specs.Stages.{refusal_of}
use Rattle.view_stages.specs.declared.accepted.Definition.{Definition}
use Rattle.stack_levels.specs.declared.refusal.LevelRefusal.{LevelRefusal}
use Rattle.stack_levels.specs.declared.refusal.OpenFault.{OpenFault}
use Rattle.stack_levels.specs.declared.refusal.OpenFault.TheVariants as fault
use Rattle.stack_levels.specs.Levels.{database_by, refused_at, one_up, limit_refusal, limit_above, opening_refusal}
use Rattle.stack_levels.specs.States.{LevelState, AreLevels}
use Rattle.stack_levels.specs.Opening.{defined_views, level_opened, levels_opened, AreFresh, IsOpenFault, IsAmong}
use Rattle.stack_levels.proofs.LevelLemmas.{makes_meaning}
use Rattle.stack_levels.proofs.KeptLemmas.{levels_then, fresh_then}

-- among more levels
pub among_more : (m n : ℕ) (e : OpenFault) → m ≤ n → IsAmong m e → IsAmong n e
among_more m n (fault.Refused r) few h = omega (arith, few, h)
among_more m n fault.NoMemory few h = tt

-- a fault of what stands first is one of all
first_fault : (first rest : Option LevelRefusal) (e : OpenFault) → IsOpenFault first e → IsOpenFault (option_or first rest) e
first_fault first rest (fault.Refused r) h = ap (λ (o : Option LevelRefusal). option_or o rest) h
first_fault first rest fault.NoMemory h = tt

same_fault : (o p : Option LevelRefusal) (e : OpenFault) → o ≡ p → IsOpenFault o e → IsOpenFault p e
same_fault o p e is h = subst (λ (x : Option LevelRefusal). IsOpenFault x e) is h

-- what stands behind the lowest view, where it is not refused
abbrev behind : CatalogueValue → Query → List Query → Option LevelRefusal
behind c q qs = option_or (limit_above qs (first_limit (database_by c q))) (option_map one_up (opening_refusal (given_by c q) qs))

all_behind : (c : CatalogueValue) (q : Query) (qs : List Query) → refusal_of c q ≡ None → opening_refusal c (q ∷ qs) ≡ behind c q qs
all_behind c q qs none = ap (λ (o : Option Row). option_or (option_map (refused_at 1) o) (behind c q qs)) none

all_above : (c : CatalogueValue) (q : Query) (qs : List Query) → refusal_of c q ≡ None → first_limit (database_by c q) ≡ None → opening_refusal c (q ∷ qs) ≡ option_map one_up (opening_refusal (given_by c q) qs)
all_above c q qs none within = all_behind c q qs none ∙ ap (λ (o : Option Which). option_or (limit_above qs o) (option_map one_up (opening_refusal (given_by c q) qs))) within ∙ no_limit qs
  where
    no_limit : (rs : List Query) → option_or (limit_above rs None) (option_map one_up (opening_refusal (given_by c q) qs)) ≡ option_map one_up (opening_refusal (given_by c q) qs)
    no_limit [] = refl
    no_limit (r ∷ rs) = refl

-- ---- a definition and those behind it
pub longer : (items ds : List Definition) (d : Definition) → items ≡ d ∷ ds → length ds + 1 ≡ length items
longer items ds d are = let e : length items ≡ suc (length ds) = ap length are in omega (arith, e)

pub some_behind : (ds : List Definition) (n : ℕ) → n ≡ length ds → false ≡ (n == 0) → 1 ≤ length ds
some_behind [] n is some = let bad : false ≡ true = some ∙ ap (λ (m : ℕ). m == 0) is in absurd (cc)
some_behind (d ∷ ds) n is some = omega arith

module _ (c : CatalogueValue) (items ds : List Definition) (d : Definition) (are : items ≡ d ∷ ds) where
  abbrev view : Query
  view = query_of d.view.value

  views_are : opening_refusal c (view ∷ defined_views ds) ≡ opening_refusal c (defined_views items)
  views_are = sym (ap (λ (xs : List Definition). opening_refusal c (defined_views xs)) are)

  -- the lowest view is opened
  module _ (l : LevelState) (is : l ≡ level_opened c view) (own : refusal_of c view ≡ None) where
    abbrev limit : Option Which
    limit = first_limit (database_by l.session.catalogue l.session.query)

    limit_is : limit ≡ first_limit (database_by c view)
    limit_is = ap (λ (x : LevelState). first_limit (database_by x.session.catalogue x.session.query)) is

    given_is : given_by l.session.catalogue l.session.query ≡ given_by c view
    given_is = ap (λ (x : LevelState). given_by x.session.catalogue x.session.query) is

    pub limit_then : (e : OpenFault) → 1 ≤ length ds → IsOpenFault (option_map limit_refusal limit) e → IsOpenFault (opening_refusal c (defined_views items)) e
    limit_then e some h =
        same_fault (behind c view (defined_views ds)) (opening_refusal c (defined_views items)) e (sym (all_behind c view (defined_views ds) own) ∙ views_are)
        (first_fault (limit_above (defined_views ds) (first_limit (database_by c view))) (option_map one_up (opening_refusal (given_by c view) (defined_views ds))) e (by_some ds some))
      where
        there : IsOpenFault (option_map limit_refusal (first_limit (database_by c view))) e
        there = same_fault (option_map limit_refusal limit) (option_map limit_refusal (first_limit (database_by c view))) e (ap (option_map limit_refusal) limit_is) h

        by_some : (xs : List Definition) → 1 ≤ length xs → IsOpenFault (limit_above (defined_views xs) (first_limit (database_by c view))) e
        by_some [] none = absurd (omega (arith, none))
        by_some (x ∷ xs) there_are = there

    module _ (g : CatalogueValue) (gives : g ≡ given_by l.session.catalogue l.session.query) (within : limit ≡ None) where
      above_is : option_map one_up (opening_refusal g (defined_views ds)) ≡ opening_refusal c (defined_views items)
      above_is = ap (λ (x : CatalogueValue). option_map one_up (opening_refusal x (defined_views ds))) (gives ∙ given_is) ∙ sym (all_above c view (defined_views ds) own (sym limit_is ∙ within)) ∙ views_are

      pub above_then : (e : OpenFault) → IsOpenFault (option_map one_up (opening_refusal g (defined_views ds))) e → IsOpenFault (opening_refusal c (defined_views items)) e
      above_then e h = same_fault (option_map one_up (opening_refusal g (defined_views ds))) (opening_refusal c (defined_views items)) e above_is h

      pub none_then : opening_refusal g (defined_views ds) ≡ None → opening_refusal c (defined_views items) ≡ None
      none_then none = sym above_is ∙ ap (option_map one_up) none

-- ---- what is given to the view above
module _ (l : LevelState) (name : Text) (shape : Shape) (ts : TablesValue) where
  abbrev own_verdict : Verdict
  own_verdict = verdict_of l.session.query l.session.catalogue

  -- the database of the level's own tables is that of its view
  pub database_is : name ≡ l.session.query.view_db → shape ≡ shape_of l.session.query → ts ≡ tables_in own_verdict → own_verdict ≡ Makes (tables_in own_verdict) → database_for name shape ts ≡ database_by l.session.catalogue l.session.query
  database_is named formed tables makes =
      λ i. database_for (named i) (formed i) ((tables ∙ makes_meaning l.session.query l.session.catalogue (tables_in own_verdict) makes) i)

-- ---- levels that were opened
pub opened_ready : (c : CatalogueValue) (ds : List Definition) (ls : List LevelState) → 1 ≤ length ds → opening_refusal c (defined_views ds) ≡ None → ls ≡ levels_opened c (defined_views ds) → AreLevels ls × AreFresh ls c (defined_views ds)
opened_ready c [] ls some none is = absurd (omega (arith, some))
opened_ready c (d ∷ ds) ls some none is = (
  subst AreLevels (sym is) (levels_then c (query_of d.view.value) (defined_views ds) none),
  subst (λ (xs : List LevelState). AreFresh xs c (query_of d.view.value ∷ defined_views ds)) (sym is) (fresh_then c (query_of d.view.value) (defined_views ds)),
)
