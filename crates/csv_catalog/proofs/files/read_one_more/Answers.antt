use Rattle.csv_catalog.proofs.KeptLemmas.{kept_more}
use Rattle.csv_catalog.proofs.files.read_one_more.Goals as goal

pub returns-in_ok-place-in-Some-clause-kept : goal.returns-in_ok-place-in-Some-clause-kept
returns-in_ok-place-in-Some-clause-kept g c before h =
    rw (c.in_ok-place-in-Some.ensures, c.count-rows.ensures) (kept_more before c.in-Some.relation c.args.kept.now.items c.args.counted (rw c.in-Some.is at c.in_ok-relation.ensures.may_be_kept) h)
