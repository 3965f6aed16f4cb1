use Rattle.std.proofs.Common.{List, [], ◌∷◌, ◌++◌, length, vec_len, sym, ap, ◌∙◌, append-nil, rules}
use Rattle.schema_model.specs.States.{plain_relation}
use Rattle.view_meaning.specs.Elements.{Element}
use Rattle.std.proofs.lemmas.List.{map-id}
use Rattle.std.proofs.lemmas.Iterator.Adapters.{YieldsList-from_vec}
use Rattle.std.proofs.lemmas.Iterator.Consumers.{YieldsList-end}
use Rattle.view_def.specs.Query.{query_of}
use Rattle.ss_text.proofs.GroupWalk.{none_left}
use Rattle.valuation_meaning.proofs.AliasLemmas.{no_facts}
use Rattle.valuation_meaning.proofs.ListingLemmas.{facts_of_one, facts_of_row, popped}
use Rattle.valuation_meaning.proofs.listing.Source.+add_facts.Goals as goal

pub returns-in_default-clause-facts : goal.returns-in_default-clause-facts
returns-in_default-clause-facts t c =
    let ds = c.args.self.now.view.now.decls.items in
    let v = c.args.valuation.now in
    let none = rw (c.len.ensures, v.ok.0) at c.in_default.ensures.declaration in
    rw (none_left ds (length v.items) none, ← c.deref.ensures.value) c.add_fact.ensures.facts

pub returns-then-ends-clause-facts : goal.returns-then-ends-clause-facts
returns-then-ends-clause-facts t c =
    let s = c.args.self.now in
    let q = query_of s.view.now in
    let v = c.args.valuation.now.items in
    let ends = rw c.deref-2.ensures.value at (c.ends.ensures c.if-ends.true) in
    rw (no_facts s.catalogue.now.databases q v c.requires.agree ends) (sym (append-nil c.args.facts.now.items))

pub returns-clause-facts : goal.returns-clause-facts
returns-clause-facts t c =
    let s = c.args.self.now in
    let v = c.args.valuation.now in
    let gives = c.into_iter-element-iterator.ensures.into_iter_gives in
    let all = YieldsList-from_vec {s = c.into_iter-element-iterator.result} _ gives.0 (gives.1 ∙ c.in_ok-element-items.element-items.ok.0) in
    let done = (YieldsList-end all c.loop-element.yielded c.loop-element.element-iterator c.loop-element.yielded_by c.next.result c.next.new.self c.in-None.is c.next.ensures.steps).0 in
    let same = sym (map-id c.loop-element.yielded) ∙ done in
    let from = rw c.deref-4.ensures.value at c.in_ok-element-items.ensures.facts in
    rw (rw (← same) at from) c.loop-element.invariant.facts

pub returns-in_default-aliased-clause-facts : goal.returns-in_default-aliased-clause-facts
returns-in_default-aliased-clause-facts t c =
    let enough = rw c.deref-in-Alias.ensures.value at c.in_default-aliased.ensures.enough in
    rw enough (sym (append-nil c.args.facts.now.items))

pub returns-in-Alias-clause-facts : goal.returns-in-Alias-clause-facts
returns-in-Alias-clause-facts t c =
    let s = c.args.self.now in
    let v = c.args.valuation.now.items in
    let enough = rw c.deref-in-Alias.ensures.value at c.in-Some-aliased.ensures.enough in
    facts_of_one s.catalogue.now.databases (query_of s.view.now) v c.push.new.self.items c.in-Some-aliased.element c.args.facts.now.items c.add_facts.new.facts.items c.in_ok-push.ensures.items enough c.in_ok-add_facts.ensures.facts

pub loop-position-preserved : goal.loop-position-preserved
loop-position-preserved t c =
    let s = c.args.self.now in
    let v = c.args.valuation.now.items in
    let pushed = c.in_ok-push-2.ensures.items ∙ ap (λ (w : List Element). w ++ c.of_row.result ∷ []) c.loop-position.invariant.valuation in
    record {
      valuation = popped v c.pop-in-loop-position.new.self.items c.add_facts-in-loop-position.new.valuation.items c.of_row.result (vec_len c.add_facts-in-loop-position.new.valuation)
          (c.in_ok-add_facts-2.ensures.same ∙ pushed) c.add_facts-in-loop-position.new.valuation.ok.0 c.pop-in-loop-position.ensures.rest;
      indexes = search rules;
      have_cells = search rules;
      facts = facts_of_row s.catalogue.now.databases (query_of s.view.now) v c.push-in-loop-position.new.self.items (plain_relation c.in-Some-all_rows_of.relation.now) c.loop-position.position c.of_row.result
          c.args.facts.now.items c.loop-position.facts.items c.add_facts-in-loop-position.new.facts.items pushed c.of_row.ensures c.loop-position.invariant.facts c.in_ok-add_facts-2.ensures.facts;
    }
