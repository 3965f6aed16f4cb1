use Rattle.outside.proofs.EffectLemmas.{performs_as}
use Rattle.opened_view.proofs.AnswerLemmas.{saves}
use Rattle.opened_view.proofs.view.OpenView.save_named.Goals as goal

pub returns : goal.returns
returns g c = rw (← c.self.view_is) (performs_as _ _ _ _ _ (saves c.self.inside.session _ _ _ c.catalogue.ensures c.changed_databases.ensures.databases c.changed_relations.ensures.relations) c.save_changed.ensures.performs)
