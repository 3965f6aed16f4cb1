-- The lines of the named labels take the old tables to the new ones.
use Rattle.std.proofs.Common.{◌≡◌, true, List, sym, ◌∙◌, ap}
use Rattle.std.specs.Prelude.{flat_map}
use Rattle.flow_law.specs.declared.shape.Shape.{Shape}
use Rattle.flow_law.specs.Facts.{Fact}
use Rattle.flow_law.specs.FactTables.{tables}
use Rattle.flow_law.specs.Lines.{after_lines, fit_lines}
use Rattle.flow_law.proofs.ScriptLaw.{script_makes, script_fits}
use Rattle.flow_law.proofs.FactTableLemmas.{tables_in_order}
use Rattle.unfold_op.specs.Touched.{SameBeyond}
use Rattle.split_op.specs.LabelLines.{label_lines, labels_named}
use Rattle.split_op.proofs.LabelScript.{script_touched}

pub named_make : (shape : Shape) (named old new : List Fact) → SameBeyond named old new → after_lines (tables shape old) (flat_map (label_lines shape old new) (labels_named named)) ≡ tables shape new
named_make shape named old new beyond = ap (after_lines (tables shape old)) (sym (script_touched shape named old new beyond)) ∙ script_makes (tables shape old) (tables shape new) (tables_in_order shape new) (tables_in_order shape old)

pub named_fit : (shape : Shape) (named old new : List Fact) → SameBeyond named old new → fit_lines (tables shape old) (flat_map (label_lines shape old new) (labels_named named)) ≡ true
named_fit shape named old new beyond = ap (fit_lines (tables shape old)) (sym (script_touched shape named old new beyond)) ∙ script_fits (tables shape old) (tables shape new) (tables_in_order shape new) (tables_in_order shape old)
