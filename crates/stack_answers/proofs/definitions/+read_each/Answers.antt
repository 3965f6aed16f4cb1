use Rattle.stack_answers.proofs.DefinitionLemmas.{none_read, refused_read, one_read}
use Rattle.stack_answers.proofs.definitions.+read_each.Goals as goal

pub returns-in_default-clause-read : goal.returns-in_default-clause-read
returns-in_default-clause-read g t c = none_read _ c.args.names.now c.args.definitions.now.items c.in_default.ensures.cases

pub returns-in-Refused-clause-read : goal.returns-in-Refused-clause-read
returns-in-Refused-clause-read g t c =
    refused_read _ c.args.names.now c.in-Some.rest.now c.in-Some.name.now c.in-Refused.fields c.args.definitions.now.items c.in-Some.ensures.cases.0 (rw c.in-Refused.is at c.in_ok-fields.ensures.told)

pub returns-in_ok-fields-in-Accepted-clause-read : goal.returns-in_ok-fields-in-Accepted-clause-read
returns-in_ok-fields-in-Accepted-clause-read g t c =
    one_read _ _ c.args.names.now c.in-Some.rest.now c.in-Some.name.now c.in-Accepted.definition c.in_ok-fields-in-Accepted.fields c.args.definitions.now.items _ _
    c.in-Some.ensures.cases.0 c.in_ok-fields.ensures.only_read.tree c.in_ok-push-in-Accepted.ensures.items (rw c.in-Accepted.is at c.in_ok-fields.ensures.told) c.in_ok-fields-in-Accepted.ensures.read
