-- What the counts say of a change is what its facts say.
use Rattle.std.proofs.Common.{◌≡◌, List, None, sym, ◌∙◌, ap, map}
use Rattle.std.specs.Prelude.{filter}
use Rattle.ss_text.specs.Texts.{Text, Row}
use Rattle.counts.specs.declared.moves.Move.{Move}
use Rattle.counts.specs.Counted.{keys_of, goes}
use Rattle.flow_law.specs.Facts.{Fact, illegal_column, conflict}
use Rattle.flow_law.specs.FactTables.{fact_table}
use Rattle.flow_law.specs.Script.{lines_between}
use Rattle.unfold_op.specs.declared.facts.FactCounts.{FactCounts}
use Rattle.unfold_op.specs.declared.facts.Nets.{Nets}
use Rattle.unfold_op.specs.Touched.{has_column}
use Rattle.unfold_op.specs.Kept.{first_illegal, first_clash}
use Rattle.unfold_op.specs.Nets.{before, now, present_of, net_lines}
use Rattle.unfold_op.specs.Moves.{IsChange}
use Rattle.unfold_op.proofs.TouchedLines.{changed_is_touched}
use Rattle.unfold_op.proofs.NetLines.{goes_is, net_lines_touched}
use Rattle.unfold_op.proofs.NetConflict.{conflict_is_first}
use Rattle.unfold_op.proofs.NetIllegal.{illegal_is_first}
use Rattle.unfold_op.proofs.CountLemmas.{counts_before, counts_now, names, beyond}

abbrev pub begun : FactCounts → Nets → Row
begun k n = filter (goes (now k n).columns (before k).columns) (keys_of n.columns)

module _ (k : FactCounts) (n : Nets) (label : Text) (constants : Row) (ms : List (Move Fact)) (old new : List Fact) (h : IsChange k n label constants ms old new) where
  named : List Fact
  named = map (λ (m : Move Fact). m.key) ms

  pub illegal_is : first_illegal label constants (begun k n) ≡ illegal_column constants new
  illegal_is =
      ap (first_illegal label constants) (goes_is (now k n).columns (before k).columns (has_column new) (has_column old) (counts_now k n label constants ms old new h).columns (counts_before k n label constants ms old new h).columns (keys_of n.columns)
      ∙ ap (filter _) (names k n label constants ms old new h).columns_are)
      ∙ sym (illegal_is_first label constants (map (λ (m : Move Fact). m.key) ms) old new (beyond k n label constants ms old new h) h.bear h.legal)

  pub clash_is : first_clash label (present_of k n) ≡ conflict new
  clash_is = conflict_is_first k old (counts_before k n label constants ms old new h) label n (map (λ (m : Move Fact). m.key) ms) new (beyond k n label constants ms old new h) (counts_now k n label constants ms old new h) (names k n label constants ms old new h) h.bear

  pub lines_are : first_clash label (present_of k n) ≡ None → net_lines label k n ≡ lines_between label (fact_table old) (fact_table new)
  lines_are clean =
      net_lines_touched k old (counts_before k n label constants ms old new h) label n (map (λ (m : Move Fact). m.key) ms) new (beyond k n label constants ms old new h) (counts_now k n label constants ms old new h) (names k n label constants ms old new h) clean
      ∙ sym (changed_is_touched label (map (λ (m : Move Fact). m.key) ms) old new (beyond k n label constants ms old new h))
