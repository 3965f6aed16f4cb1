-- The answers that an opened view may give, one after the other.
use Rattle.std.specs.Prelude.{◌≡◌, Bool, true, false, List, [], ◌∷◌, None, IsTrue}
use Rattle.std.specs.List.{AllByRecursion}
use Rattle.outside.specs.Tree.{Tree}
use Rattle.outside.specs.Effects.{Effect, Print}
use Rattle.schema_model.specs.declared.change.Change.{Change}
use Rattle.schema_model.specs.Changes.{after_all, is_well_formed}
use Rattle.schema_model.specs.Refusals.{group_fault}
use Rattle.flow_law.specs.declared.line.TableLine.{TableLine}
use Rattle.view_session.specs.Session.{made, lines_to}
use Rattle.view_stages.specs.Open.{OpenValue}
use Rattle.view_stages.specs.Stages.{refusal_of}
use Rattle.opened_view.specs.Answers.{Said, Tells, Scripts, Syncs, Answer, syncing, syncing_view}

abbrev pub IsPrint : Effect → Type 0
IsPrint (Print bytes) = Unit {0}
IsPrint e = ⊥

-- a view stands for what another stands for, and as much of it waits for the next sync
pub record AreAlike (o p : OpenValue) : Type 0 where
  pub query : p.session.query ≡ o.session.query
  pub catalogue : p.session.catalogue ≡ o.session.catalogue
  pub changed : p.session.changed ≡ o.session.changed
  pub synced : p.synced ≡ o.synced

-- an answer only prints, and leaves a view like this
pub record Prints (p : OpenValue) (a : Answer) : Type 0 where
  pub prints : AllByRecursion IsPrint a.effects
  pub alike : AreAlike p a.view
  pub writes : (t : Tree) → a.writes t ≡ 0

-- changes are made all at once, which neither the catalogue nor the view over the one after them refuses, and these lines say how the tables change
pub record Moves (o : OpenValue) (lines : List TableLine) (a : Answer) : Type 0 where
  pub changes : List Change
  pub formed : AllByRecursion (λ g. IsTrue (is_well_formed g)) changes
  pub accepted : group_fault o.session.catalogue changes ≡ None
  pub unrefused : refusal_of (after_all o.session.catalogue changes) o.session.query ≡ None
  pub script : lines ≡ lines_to o.session (after_all o.session.catalogue changes)
  pub prints : Prints (record { session = made o.session changes; synced = o.synced; refused = o.refused; broken = o.broken }) a

-- an answer does what a sync does
pub record IsSync (sync a : Answer) : Type 0 where
  pub effects : a.effects ≡ sync.effects
  pub alike : AreAlike sync.view a.view
  pub writes : (t : Tree) → a.writes t ≡ sync.writes t

-- a sync saves the sources, or leaves them as they are
abbrev pub sync_by : Bool → OpenValue → Answer
sync_by true = syncing
sync_by false = syncing_view

-- an answer of a view, by what it says of the tables
abbrev pub MayGive : Bool → OpenValue → Answer → Said → Type 0
MayGive saves o a Tells = Prints o a
MayGive saves o a (Scripts lines) = Moves o lines a
MayGive saves o a Syncs = IsSync (sync_by saves o) a

-- each answer is one of the view behind those before it
abbrev pub AreGiven : Bool → OpenValue → List Answer → Type 0
AreGiven saves o [] = Unit {0}
AreGiven saves o (a ∷ answers) = MayGive saves o a a.said × AreGiven saves a.view answers
