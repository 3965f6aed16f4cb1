use Rattle.std.proofs.Common.{◌≡◌, ◌<◌, ◌++◌, arith, ap, ◌∙◌, length, min}
use Rattle.ss_text.specs.Texts.{Text, Row}
use Rattle.operator_law.specs.Rows.{cells_at}
use Rattle.fold_op.specs.Flat.{entry}
use Rattle.fold_op.proofs.ZipStep.{zip_all, entries_step}
use Rattle.fold_op.proofs.entries.push_entries.Goals as goal

pub returns : goal.returns
returns c =
    let e : Text × Text → Row = λ e. entry (cells_at c.args.places.now c.args.row.now) e.0 e.1 in
    let all : c.loop-k.k ≡ min (length c.args.attributes.now) (length c.args.row.now) =
    omega (arith, c.min-count.ensures, ap length c.cells-names.ensures, ap length c.cells-cells.ensures) in
    c.loop-k.invariant ∙ ap (λ rows. c.args.flat.now.items ++ rows) (zip_all e c.args.attributes.now c.args.row.now c.loop-k.k all)

pub loop-k-preserved : goal.loop-k-preserved
loop-k-preserved c =
    let e : Text × Text → Row = λ e. entry (cells_at c.args.places.now c.args.row.now) e.0 e.1 in
    let in_names : c.loop-k.k < length c.args.attributes.now = omega (arith, c.min-count.ensures, ap length c.cells-names.ensures) in
    let in_cells : c.loop-k.k < length c.args.row.now = omega (arith, c.min-count.ensures, ap length c.cells-cells.ensures) in
    let name = rw c.cells-names.ensures at c.index-names-k.is in
    let cell = rw c.cells-cells.ensures at c.index-cells-k.is in
    rw c.in_ok-push_entry.ensures (entries_step _ _ e c.args.attributes.now c.args.row.now c.loop-k.k _ _ in_names in_cells name cell c.loop-k.invariant)
