-- What answers come to that are given one after the other.
use Rattle.std.specs.Prelude.{Bool, true, ℕ, ◌+◌, List, [], ◌∷◌, ◌++◌}
use Rattle.outside.specs.Tree.{Tree}
use Rattle.outside.specs.Effects.{Effect}
use Rattle.schema_model.specs.Catalogue.{CatalogueValue}
use Rattle.view_session.specs.Session.{SessionState}
use Rattle.source_law.specs.Counted.{tree_after}
use Rattle.source_law.specs.Synced.{Synced, synced}
use Rattle.view_stages.specs.Open.{OpenValue}
use Rattle.opened_view.specs.Answers.{Said, Syncs, Answer}

-- what they do
abbrev pub effects_by : List Answer → List Effect
effects_by [] = []
effects_by (a ∷ answers) = a.effects ++ effects_by answers

-- the view behind them
abbrev pub view_after : OpenValue → List Answer → OpenValue
view_after o [] = o
view_after o (a ∷ answers) = view_after a.view answers

-- how many files and folders they write, make or remove over a tree
abbrev pub writes_by : Tree → List Answer → ℕ
writes_by t [] = 0
writes_by t (a ∷ answers) = a.writes t + writes_by (tree_after a.effects t) answers

-- the catalogue at the last sync behind an answer of this view, where it was another before; and behind answers
abbrev pub shown_by : Said → OpenValue → CatalogueValue → CatalogueValue
shown_by Syncs o before = o.session.catalogue
shown_by said o before = before

abbrev pub last_shown : OpenValue → CatalogueValue → List Answer → CatalogueValue
last_shown o before [] = before
last_shown o before (a ∷ answers) = last_shown a.view (shown_by a.said o before) answers

-- and what was saved of the sources, where syncs save them
abbrev pub synced_by : Said → Bool → SessionState → Synced → Synced
synced_by Syncs true s before = synced s before
synced_by said saves s before = before

abbrev pub last_synced : Bool → OpenValue → Synced → List Answer → Synced
last_synced saves o before [] = before
last_synced saves o before (a ∷ answers) = last_synced saves a.view (synced_by a.said saves o.session before) answers
