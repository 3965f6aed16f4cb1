use Rattle.std.proofs.Common.{◌∙◌, ap}
use Rattle.view_def.specs.Query.{query_of}
use Rattle.valuation_meaning.specs.Listed.{Listed}
use Rattle.view_meaning.proofs.EvalLemmas.{bear, mean, refused_so, not_refused}
use Rattle.valuation_meaning.proofs.evaluation.ordered_facts.Goals as goal

pub in_order-requires : goal.in_order-requires
in_order-requires c =
    let same = ap (λ (l : Listed). l.items) c.in-Bare.ensures ∙ c.in_ok-facts.ensures in
    bear c.args.catalogue.now.databases (query_of c.args.view.now) c.args.shape.now c.requires.shape _ same

pub returns-in-Ok-clause-tables : goal.returns-in-Ok-clause-tables
returns-in-Ok-clause-tables c =
    let same = ap (λ (l : Listed). l.items) c.in-Bare.ensures ∙ c.in_ok-facts.ensures in
    c.in-Ok.ensures.tables ∙ mean c.args.catalogue.now.databases (query_of c.args.view.now) c.args.shape.now c.requires.shape _ same

pub returns-in-Ok-clause-allowed : goal.returns-in-Ok-clause-allowed
returns-in-Ok-clause-allowed c =
    let same = ap (λ (l : Listed). l.items) c.in-Bare.ensures ∙ c.in_ok-facts.ensures in
    not_refused c.args.catalogue.now.databases (query_of c.args.view.now) c.args.shape.now c.requires.shape _ same c.in-Ok.ensures.allowed

pub returns-in-Err-clause-refused : goal.returns-in-Err-clause-refused
returns-in-Err-clause-refused c =
    let same = ap (λ (l : Listed). l.items) c.in-Bare.ensures ∙ c.in_ok-facts.ensures in
    refused_so c.args.catalogue.now.databases (query_of c.args.view.now) c.args.shape.now c.requires.shape _ same c.in-Err.fault c.in-Err.ensures.refused

pub in_order-requires-in-WithCells : goal.in_order-requires-in-WithCells
in_order-requires-in-WithCells c =
    let same = ap (λ (l : Listed). l.items) c.in-WithCells.ensures ∙ c.in_ok-facts.ensures in
    bear c.args.catalogue.now.databases (query_of c.args.view.now) c.args.shape.now c.requires.shape _ same

pub returns-in-Ok-in_order-clause-tables : goal.returns-in-Ok-in_order-clause-tables
returns-in-Ok-in_order-clause-tables c =
    let same = ap (λ (l : Listed). l.items) c.in-WithCells.ensures ∙ c.in_ok-facts.ensures in
    c.in-Ok-in_order.ensures.tables ∙ mean c.args.catalogue.now.databases (query_of c.args.view.now) c.args.shape.now c.requires.shape _ same

pub returns-in-Ok-in_order-clause-allowed : goal.returns-in-Ok-in_order-clause-allowed
returns-in-Ok-in_order-clause-allowed c =
    let same = ap (λ (l : Listed). l.items) c.in-WithCells.ensures ∙ c.in_ok-facts.ensures in
    not_refused c.args.catalogue.now.databases (query_of c.args.view.now) c.args.shape.now c.requires.shape _ same c.in-Ok-in_order.ensures.allowed

pub returns-in-Err-in_order-clause-refused : goal.returns-in-Err-in_order-clause-refused
returns-in-Err-in_order-clause-refused c =
    let same = ap (λ (l : Listed). l.items) c.in-WithCells.ensures ∙ c.in_ok-facts.ensures in
    refused_so c.args.catalogue.now.databases (query_of c.args.view.now) c.args.shape.now c.requires.shape _ same c.in-Err-in_order.fault c.in-Err-in_order.ensures.refused
