use Rattle.schema_model.proofs.catalogue.Catalogue.copy.Goals as goal

pub copied-requires : goal.copied-requires
copied-requires c = c.self.invariant.0

pub returns : goal.returns
returns c = rw (← c.self.view_is) c.copied.ensures
