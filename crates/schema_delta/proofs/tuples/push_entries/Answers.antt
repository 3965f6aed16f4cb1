use Rattle.std.proofs.Common.{◌≡◌, ◌<◌, ◌++◌, arith, ap, sym, ◌∙◌, length, min}
use Rattle.std.specs.List.{zip}
use Rattle.std.proofs.lemmas.Simd.{map-map}
use Rattle.ss_text.specs.Texts.{Text, Row}
use Rattle.operator_law.specs.Rows.{cells_at}
use Rattle.fold_op.specs.Flat.{entry}
use Rattle.fold_op.proofs.ZipStep.{zip_all, entries_step}
use Rattle.schema_delta.proofs.tuples.push_entries.Goals as goal

pub returns : goal.returns
returns c =
    let one : Text × Text → Row = λ e. entry (cells_at c.args.places.now c.args.row.now) e.0 e.1 in
    let all : c.loop-k.k ≡ min (length c.args.attributes.now) (length c.args.row.now) =
    omega (arith, c.min-count.ensures, ap length c.cells-labels.ensures, ap length c.cells-cells.ensures) in
    c.loop-k.invariant
    ∙ ap (λ rows. c.args.flat.now.items ++ rows) (
    zip_all (λ e. c.args.names.now ++ one e) c.args.attributes.now c.args.row.now c.loop-k.k all
    ∙ sym (map-map (λ (r : Row). c.args.names.now ++ r) one (zip c.args.attributes.now c.args.row.now)))

pub loop-k-preserved : goal.loop-k-preserved
loop-k-preserved c =
    let e : Text × Text → Row = λ e. c.args.names.now ++ entry (cells_at c.args.places.now c.args.row.now) e.0 e.1 in
    let in_labels : c.loop-k.k < length c.args.attributes.now = omega (arith, c.min-count.ensures, ap length c.cells-labels.ensures) in
    let in_cells : c.loop-k.k < length c.args.row.now = omega (arith, c.min-count.ensures, ap length c.cells-cells.ensures) in
    let label = rw c.cells-labels.ensures at c.index-labels-k.is in
    let cell = rw c.cells-cells.ensures at c.index-cells-k.is in
    rw c.in_ok-push_entry.ensures (entries_step _ _ e c.args.attributes.now c.args.row.now c.loop-k.k _ _ in_labels in_cells label cell c.loop-k.invariant)
