-- Levels whose tables are kept, and levels that were just opened or synced.
use Rattle.std.proofs.Common.{◌≡◌, ◌∷◌, suc, List, [], Option, None, Some, map, length, refl, sym, ap, subst, arith}
use Rattle.std.specs.Prelude.{option_map}
use Rattle.std.specs.Option.{option_or}
use Rattle.ss_text.specs.Texts.{Text, Row}
use Rattle.schema_model.specs.Catalogue.{CatalogueValue}
use Rattle.schema_model.specs.declared.change.Change.{Change}
use Rattle.view_def.specs.Query.{Query}
use Rattle.flow_law.specs.Tables.{TablesValue, labels_of}
use Rattle.view_meaning.specs.Meaning.{meaning, shape_of}
use Rattle.apply_law.specs.Standing.{Standing, Waiting, Idle}
use Rattle.apply_law.specs.Verdicts.{Makes, tables_in}
use Rattle.view_stack.specs.Limits.{first_limit}
use Rattle.view_stack.specs.Stands.{stands, given_by}
use Rattle.view_stack.specs.Stacks.{AreStacked, AreIdle, IsStack}
use Rattle.view_stack.proofs.StandsLemmas.{stands_itself}
use Rattle.view_session.specs.Session.{SessionState, dismissed}
use Rattle.view_session.specs.Verdicts.{verdict_of}
use Rattle.view_session.proofs.WaitLemmas.{dropped as session_dropped}
use Rattle.view_stages.specs.Stages.{refusal_of}
use Rattle.stack_levels.specs.declared.refusal.LevelRefusal.{LevelRefusal}
use Rattle.stack_levels.specs.Levels.{refused_at, one_up, limit_above, database_by, tables_over, opening_refusal}
use Rattle.stack_levels.specs.Values.{LevelValue, synced_over}
use Rattle.stack_levels.specs.States.{LevelState, level_standing, level_waiting, level_proposing, level_value, level_tables, level_synced, lowest_catalogue, lowest_names, databases_of, views_of, IsKept, AreLevels}
use Rattle.stack_levels.specs.Opening.{level_opened, levels_opened, AreFresh}
use Rattle.stack_levels.proofs.LevelLemmas.{makes_meaning, makes_unrefused}

-- the tables of a level, and of levels, are those over the catalogue
own_kept : (l : LevelState) (c : CatalogueValue) → verdict_of l.session.query l.session.catalogue ≡ Makes (meaning c l.session.query) → level_tables l ≡ meaning c l.session.query
own_kept l c own = sym (makes_meaning l.session.query l.session.catalogue (meaning c l.session.query) own)

tables_over_c : (ls : List LevelState) (c : CatalogueValue) → IsKept ls c → map level_tables ls ≡ tables_over c (views_of ls)
tables_over_c [] c kept = refl
tables_over_c (l ∷ ls) c kept = λ i. own_kept l c kept.0 i ∷ tables_over_c ls (given_by c l.session.query) kept.2 i

pub tables_kept : (ls : List LevelState) → AreLevels ls → map level_tables ls ≡ tables_over (lowest_catalogue ls) (views_of ls)
tables_kept ls are = tables_over_c ls (lowest_catalogue ls) are.kept

-- each level has a name
names_long : (ls : List LevelState) → length (databases_of ls) ≡ length (map level_standing ls)
names_long [] = refl
names_long (l ∷ ls) = ap suc (names_long ls)

-- ---- levels that were just opened
none_of : (own : Option Row) (limit above : Option LevelRefusal) → option_or (option_map (refused_at 1) own) (option_or limit (option_map one_up above)) ≡ None → (own ≡ None) × (limit ≡ None) × (above ≡ None)
none_of None None None h = (refl, refl, refl)
none_of None None (Some r) h = absurd (cc)
none_of None (Some r) above h = absurd (cc)
none_of (Some fields) limit above h = absurd (cc)

-- neither the lowest nor those above it are refused
pub own_opened : (c : CatalogueValue) (q : Query) (qs : List Query) → opening_refusal c (q ∷ qs) ≡ None → refusal_of c q ≡ None
own_opened c q qs none = (none_of (refusal_of c q) (limit_above qs (first_limit (database_by c q))) (opening_refusal (given_by c q) qs) none).0

above_opened : (c : CatalogueValue) (q : Query) (qs : List Query) → opening_refusal c (q ∷ qs) ≡ None → opening_refusal (given_by c q) qs ≡ None
above_opened c q qs none = (none_of (refusal_of c q) (limit_above qs (first_limit (database_by c q))) (opening_refusal (given_by c q) qs) none).2

kept_opened : (c : CatalogueValue) (qs : List Query) → opening_refusal c qs ≡ None → IsKept (levels_opened c qs) c
kept_opened c [] none = tt
kept_opened c (q ∷ qs) none = (makes_unrefused q c (own_opened c q qs none), own_opened c q qs none, kept_opened (given_by c q) qs (above_opened c q qs none))

stacked_opened : (c : CatalogueValue) (qs : List Query) → opening_refusal c qs ≡ None → AreStacked (map level_standing (levels_opened c qs)) (databases_of (levels_opened c qs))
stacked_opened c [] none = tt
stacked_opened c (q ∷ []) none = tt
stacked_opened c (q ∷ r ∷ qs) none = (
  subst (λ (ts : TablesValue). stands q.view_db (shape_of q) ts (given_by c q)) (sym (ap tables_in (makes_unrefused q c (own_opened c q (r ∷ qs) none)))) (stands_itself q.view_db (shape_of q) (meaning c q)),
  stacked_opened (given_by c q) (r ∷ qs) (above_opened c q (r ∷ qs) none),
)

idle_opened : (c : CatalogueValue) (qs : List Query) → AreIdle (map level_waiting (levels_opened c qs))
idle_opened c [] = tt
idle_opened c (q ∷ qs) = (refl, idle_opened (given_by c q) qs)

pub levels_then : (c : CatalogueValue) (q : Query) (qs : List Query) → opening_refusal c (q ∷ qs) ≡ None → AreLevels (levels_opened c (q ∷ qs))
levels_then c q qs none = record {
  stack = record {
    some = omega arith;
    named = names_long (levels_opened c (q ∷ qs));
    idle = idle_opened c (q ∷ qs);
    stacked = stacked_opened c (q ∷ qs) none;
  };
  kept = kept_opened c (q ∷ qs) none;
}

values_opened : (c : CatalogueValue) (qs : List Query) → map level_value (levels_opened c qs) ≡ synced_over c qs
values_opened c [] = refl
values_opened c (q ∷ qs) = ap (λ (vs : List LevelValue). level_value (level_opened c q) ∷ vs) (values_opened (given_by c q) qs)

pub fresh_then : (c : CatalogueValue) (q : Query) (qs : List Query) → AreFresh (levels_opened c (q ∷ qs)) c (q ∷ qs)
fresh_then c q qs = record { catalogue = refl; names = refl; values = values_opened c (q ∷ qs) }

-- ---- a level that drops what it proposes
abbrev pub level_of : List Text → SessionState → LevelState
level_of synced s = record { session = s; synced = synced }

abbrev pub level_dismissed : LevelState → LevelState
level_dismissed l = level_of l.synced (dismissed l.session)

pub dropped : (l : LevelState) (gs : List Change) → level_waiting l ≡ Idle → level_dismissed (level_proposing l gs) ≡ l
dropped l gs idle = ap (level_of l.synced) (session_dropped l.session gs idle)

-- ---- levels that were just synced
standing_synced : (ls : List LevelState) → map level_standing (map level_synced ls) ≡ map level_standing ls
unfolding level_synced
standing_synced [] = refl
standing_synced (l ∷ ls) = ap (λ (ss : List Standing). level_standing l ∷ ss) (standing_synced ls)

waiting_synced : (ls : List LevelState) → map level_waiting (map level_synced ls) ≡ map level_waiting ls
unfolding level_synced
waiting_synced [] = refl
waiting_synced (l ∷ ls) = ap (λ (ws : List Waiting). level_waiting l ∷ ws) (waiting_synced ls)

pub databases_synced : (ls : List LevelState) → databases_of (map level_synced ls) ≡ databases_of ls
unfolding level_synced
databases_synced [] = refl
databases_synced (l ∷ ls) = ap (λ (ns : List Text). l.session.query.view_db ∷ ns) (databases_synced ls)

kept_synced : (ls : List LevelState) (c : CatalogueValue) → IsKept ls c → IsKept (map level_synced ls) c
unfolding level_synced
kept_synced [] c kept = tt
kept_synced (l ∷ ls) c kept = (kept.0, kept.1, kept_synced ls (given_by c l.session.query) kept.2)

values_synced : (ls : List LevelState) (c : CatalogueValue) → IsKept ls c → map level_value (map level_synced ls) ≡ synced_over c (views_of ls)
unfolding level_synced
values_synced [] c kept = refl
values_synced (l ∷ ls) c kept =
    λ i. record { query = l.session.query; named = []; synced = labels_of (own_kept l c kept.0 i) } ∷ values_synced ls (given_by c l.session.query) kept.2 i

lowest_synced : (ls : List LevelState) → lowest_catalogue (map level_synced ls) ≡ lowest_catalogue ls
unfolding level_synced
lowest_synced [] = refl
lowest_synced (l ∷ ls) = refl

unnamed_synced : (ls : List LevelState) → lowest_names (map level_synced ls) ≡ lowest_names []
unfolding level_synced
unnamed_synced [] = refl
unnamed_synced (l ∷ ls) = refl

pub fresh_synced : (ls : List LevelState) → AreLevels ls → AreFresh (map level_synced ls) (lowest_catalogue ls) (views_of ls)
fresh_synced ls are = record { catalogue = lowest_synced ls; names = unnamed_synced ls; values = values_synced ls (lowest_catalogue ls) are.kept }

pub levels_synced : (ls : List LevelState) → AreLevels ls → AreLevels (map level_synced ls)
levels_synced ls are = record {
  stack =
      subst (λ (ns : List Text). IsStack (map level_standing (map level_synced ls)) (map level_waiting (map level_synced ls)) ns) (sym (databases_synced ls))
      (subst (λ (ws : List Waiting). IsStack (map level_standing (map level_synced ls)) ws (databases_of ls)) (sym (waiting_synced ls))
      (subst (λ (ss : List Standing). IsStack ss (map level_waiting ls) (databases_of ls)) (sym (standing_synced ls)) are.stack));
  kept = subst (IsKept (map level_synced ls)) (sym (lowest_synced ls)) (kept_synced ls (lowest_catalogue ls) are.kept);
}
