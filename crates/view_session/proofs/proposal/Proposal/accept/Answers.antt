use Rattle.std.proofs.Common.{◌∙◌, List, ap, sym, subst}
use Rattle.schema_model.specs.Catalogue.{CatalogueValue}
use Rattle.schema_model.specs.Changes.{after_all}
use Rattle.flow_law.specs.declared.line.TableLine.{TableLine}
use Rattle.flow_law.specs.Script.{script}
use Rattle.view_meaning.specs.Meaning.{meaning}
use Rattle.view_engine.specs.Engines.{lines_in}
use Rattle.view_session.specs.Named.{with_changes, with_lines}
use Rattle.view_session.specs.Proposals.{proposed_in}
use Rattle.view_session.specs.Upkeeps.{view_of, IsKept}
use Rattle.view_session.proofs.proposal.Proposal.accept.Goals as goal

pub returns-clause-kept : goal.returns-clause-kept
returns-clause-kept c =
    let old = c.args.catalogue.now.databases in
    let can = c.requires.can in
    subst (λ (x : CatalogueValue). IsKept x c.commit.new.upkeep) (sym c.commit-2.ensures)
    (c.commit.ensures.kept old (after_all old (proposed_in c.args.self)) can.move c.requires.kept can.moves can.ready_for)

pub returns-clause-names : goal.returns-clause-names
returns-clause-names c =
    let old = c.args.catalogue.now.databases in
    let gs = proposed_in c.args.self in
    let q = view_of c.args.upkeep.now in
    let can = c.requires.can in
    c.put.ensures.moved old gs (lines_in can.move) can.names
    ∙ ap (λ (ls : List TableLine). with_lines (with_changes c.args.changed.now.names old gs) ls) (can.moves.lines_are ∙ ap (λ (x : CatalogueValue). script (meaning old q) (meaning x q)) (sym c.commit-2.ensures))
