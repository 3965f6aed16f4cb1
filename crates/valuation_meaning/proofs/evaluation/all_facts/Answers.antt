use Rattle.std.proofs.Common.{◌∙◌, ap}
use Rattle.view_def.specs.Query.{query_of}
use Rattle.fact_tables.specs.Counted.{each_fact}
use Rattle.valuation_meaning.specs.Listed.{Listed}
use Rattle.valuation_meaning.proofs.ListingLemmas.{as_often}
use Rattle.view_meaning.proofs.EvalLemmas.{bear, mean, refused_so, not_refused}
use Rattle.valuation_meaning.proofs.evaluation.all_facts.Goals as goal

pub all_in_order-requires : goal.all_in_order-requires
all_in_order-requires c =
    let same = ap (λ (l : Listed). l.items) c.in-Bare.ensures ∙ c.in_ok-facts.ensures in
    bear c.args.catalogue.now.databases (query_of c.args.view.now) c.args.shape.now c.requires.shape _ same

pub returns-in-Ok-clause-tables : goal.returns-in-Ok-clause-tables
returns-in-Ok-clause-tables c =
    let same = ap (λ (l : Listed). l.items) c.in-Bare.ensures ∙ c.in_ok-facts.ensures in
    c.in-Ok.ensures.tables ∙ mean c.args.catalogue.now.databases (query_of c.args.view.now) c.args.shape.now c.requires.shape _ same

pub returns-in-Ok-clause-facts : goal.returns-in-Ok-clause-facts
returns-in-Ok-clause-facts c =
    let same = ap (λ (l : Listed). l.items) c.in-Bare.ensures ∙ c.in_ok-facts.ensures in
    as_often c.args.catalogue.now.databases (query_of c.args.view.now) _ same (each_fact c.in-Ok.all) c.in-Ok.ensures.facts

pub returns-in-Ok-clause-allowed : goal.returns-in-Ok-clause-allowed
returns-in-Ok-clause-allowed c =
    let same = ap (λ (l : Listed). l.items) c.in-Bare.ensures ∙ c.in_ok-facts.ensures in
    not_refused c.args.catalogue.now.databases (query_of c.args.view.now) c.args.shape.now c.requires.shape _ same c.in-Ok.ensures.allowed

pub returns-in-Err-clause-refused : goal.returns-in-Err-clause-refused
returns-in-Err-clause-refused c =
    let same = ap (λ (l : Listed). l.items) c.in-Bare.ensures ∙ c.in_ok-facts.ensures in
    refused_so c.args.catalogue.now.databases (query_of c.args.view.now) c.args.shape.now c.requires.shape _ same c.in-Err.fault c.in-Err.ensures.refused

pub all_in_order-requires-in-WithCells : goal.all_in_order-requires-in-WithCells
all_in_order-requires-in-WithCells c =
    let same = ap (λ (l : Listed). l.items) c.in-WithCells.ensures ∙ c.in_ok-facts.ensures in
    bear c.args.catalogue.now.databases (query_of c.args.view.now) c.args.shape.now c.requires.shape _ same

pub returns-in-Ok-all_in_order-clause-tables : goal.returns-in-Ok-all_in_order-clause-tables
returns-in-Ok-all_in_order-clause-tables c =
    let same = ap (λ (l : Listed). l.items) c.in-WithCells.ensures ∙ c.in_ok-facts.ensures in
    c.in-Ok-all_in_order.ensures.tables ∙ mean c.args.catalogue.now.databases (query_of c.args.view.now) c.args.shape.now c.requires.shape _ same

pub returns-in-Ok-all_in_order-clause-facts : goal.returns-in-Ok-all_in_order-clause-facts
returns-in-Ok-all_in_order-clause-facts c =
    let same = ap (λ (l : Listed). l.items) c.in-WithCells.ensures ∙ c.in_ok-facts.ensures in
    as_often c.args.catalogue.now.databases (query_of c.args.view.now) _ same (each_fact c.in-Ok-all_in_order.all) c.in-Ok-all_in_order.ensures.facts

pub returns-in-Ok-all_in_order-clause-allowed : goal.returns-in-Ok-all_in_order-clause-allowed
returns-in-Ok-all_in_order-clause-allowed c =
    let same = ap (λ (l : Listed). l.items) c.in-WithCells.ensures ∙ c.in_ok-facts.ensures in
    not_refused c.args.catalogue.now.databases (query_of c.args.view.now) c.args.shape.now c.requires.shape _ same c.in-Ok-all_in_order.ensures.allowed

pub returns-in-Err-all_in_order-clause-refused : goal.returns-in-Err-all_in_order-clause-refused
returns-in-Err-all_in_order-clause-refused c =
    let same = ap (λ (l : Listed). l.items) c.in-WithCells.ensures ∙ c.in_ok-facts.ensures in
    refused_so c.args.catalogue.now.databases (query_of c.args.view.now) c.args.shape.now c.requires.shape _ same c.in-Err-all_in_order.fault c.in-Err-all_in_order.ensures.refused
