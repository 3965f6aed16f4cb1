use Rattle.schema_delta.proofs.InsideLemmas.{attribute_comes, attribute_goes, attribute_renamed}
use Rattle.schema_delta.proofs.change.attributes_change.Goals as goal

pub returns-in_ok-name_moves-in-Add : goal.returns-in_ok-name_moves-in-Add
returns-in_ok-name_moves-in-Add c =
    rw (c.in-Add.is, c.in_ok-name_moves-in-Add.ensures) (attribute_comes c.args.relation.now.attributes c.in-Add.name)

pub returns-in_ok-name_moves-in-Drop : goal.returns-in_ok-name_moves-in-Drop
returns-in_ok-name_moves-in-Drop c =
    let at = rw (c.cells.ensures, c.attributes-attributes.ensures.attributes) at c.index-cells-place.is in
    let fits = rw c.in-Drop.is at c.requires.fits in
    rw (c.in-Drop.is, c.in_ok-name_moves-in-Drop.ensures) (attribute_goes c.args.relation.now.attributes c.in-Drop.place _ fits at)

pub returns-in_ok-name_replaced-in-Rename : goal.returns-in_ok-name_replaced-in-Rename
returns-in_ok-name_replaced-in-Rename c =
    let at = rw (c.cells-in-Rename.ensures, c.attributes-attributes.ensures.attributes) at c.index-cells-place-in-Rename.is in
    let fits = rw c.in-Rename.is at c.requires.fits in
    rw (c.in-Rename.is, c.in_ok-name_replaced-in-Rename.ensures) (attribute_renamed c.args.relation.now.attributes c.in-Rename.place _ c.in-Rename.to fits.0 at)
