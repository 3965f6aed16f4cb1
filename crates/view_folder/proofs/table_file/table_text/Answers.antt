use Rattle.std.proofs.Common.{◌≡◌, ◌∷◌, ◌++◌, ◌∙◌, [], ℕ, List, ap, sym, refl, arith}
use Rattle.ss_text.specs.Texts.{Row}
use Rattle.ss_text.proofs.PlaceLemmas.{each_at}
use Rattle.csv_catalog.specs.RecordText.{record_text, csv_text}
use Rattle.flow_law.specs.Records.{spliced}
use Rattle.view_folder.proofs.TableFileLemmas.{csv_text_one, spliced_some, records_step}
use Rattle.view_folder.proofs.table_file.table_text.Goals as goal

pub with_record-requires : goal.with_record-requires
with_record-requires c = spliced_some c.args.shape.now.spot c.args.shape.now.constants c.columns-columns.result.now c.requires.some

pub loop-place-init : goal.loop-place-init
loop-place-init c =
    let spot = c.args.shape.now.spot in
    let constants = c.args.shape.now.constants in
    let header : Row = spliced spot constants c.columns-columns.result.now in
    c.in_ok-text-2.ensures ∙ ap (λ (t : List ℕ). t ++ record_text header) c.in_ok-text.ensures ∙ csv_text_one header
    ∙ ap (λ (columns : Row). csv_text (spliced spot constants columns ∷ [])) c.columns-columns.ensures.columns

pub with_record-requires-in-loop-place : goal.with_record-requires-in-loop-place
with_record-requires-in-loop-place c =
    let key = each_at (λ (r : Row × Row). r.0 ≡ [] → ⊥) c.args.table.now.rows c.loop-place.place ([], []) (omega arith) c.requires.keys in
    spliced_some c.args.shape.now.spot c.key-key.result.now c.cells.result.now (λ e. key (sym c.key-key.ensures ∙ e))

pub loop-place-preserved : goal.loop-place-preserved
loop-place-preserved c =
    let spot = c.args.shape.now.spot in
    let key = c.key-key.result.now in
    let cells = c.cells.result.now in
    records_step spot _ c.args.table.now.rows c.loop-place.place _ _ (spliced spot key cells) key cells (omega arith) c.loop-place.invariant c.key-key.ensures c.cells.ensures refl c.in_ok-text-3.ensures
