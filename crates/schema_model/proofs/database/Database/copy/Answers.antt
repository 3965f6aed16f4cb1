use Rattle.std.proofs.Common.{◌∙◌, sym, ap, subst, map}
use Rattle.ss_text.specs.Texts.{Text}
use Rattle.schema_model.specs.Catalogue.{database_value}
use Rattle.schema_model.specs.Sound.{IsDatabase}
use Rattle.schema_model.specs.States.{plain_relation}
use Rattle.schema_model.proofs.database.Database.copy.Goals as goal

pub invariant_of-result : goal.invariant_of-result
invariant_of-result c =
    subst IsDatabase (sym (ap (λ (name : Text). database_value name (map plain_relation c.in_ok-relations.relations.items)) c.in_ok-name.ensures ∙ ap (database_value c.self.inside.name) (c.in_ok-relations.ensures ∙ ap (map plain_relation) c.deref.ensures.value))) c.self.invariant

pub returns : goal.returns
returns c =
    rw (← c.self.view_is) (ap (λ (name : Text). database_value name (map plain_relation c.in_ok-relations.relations.items)) c.in_ok-name.ensures ∙ ap (database_value c.self.inside.name) (c.in_ok-relations.ensures ∙ ap (map plain_relation) c.deref.ensures.value))
