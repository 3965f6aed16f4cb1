use Rattle.csv_catalog.proofs.SavedTreeLemmas.{all_held, nothing_held}
use Rattle.csv_catalog.proofs.save.save_changed.Goals as goal

pub returns-clause-holds : goal.returns-clause-holds
returns-clause-holds g c = λ t u was is labels.
    let state = g.F.Folders.state in
    all_held c.args.catalogue.now.databases c.args.databases.now c.args.pairs.now (state c.args.store.now) (state c.save_at_once.new.store) nothing_held t u was is labels (c.in_ok-save_at_once.ensures.does nothing_held)
