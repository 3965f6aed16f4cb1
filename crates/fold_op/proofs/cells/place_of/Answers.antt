use Rattle.std.proofs.Common.{◌≡◌, List, Bool, None, length, arith, sym, ◌∙◌}
use Rattle.std.specs.List.{position, position_or_len}
use Rattle.std.proofs.lemmas.Bool.Decides.{nat_tests}
use Rattle.std.proofs.lemmas.List.Sums.{prefix_len-le-length}
use Rattle.ss_text.specs.Texts.{text_eq}
use Rattle.fold_op.proofs.cells.place_of.Goals as goal

no_place : {A : Type 0} (p : A → Bool) (xs : List A) → position p xs ≡ None → length xs ≡ position_or_len p xs
no_place p xs h = grind (arith, nat_tests, prefix_len-le-length)

pub returns-in-None : goal.returns-in-None
returns-in-None c =
    rw c.cells.ensures (no_place (text_eq c.args.name.now) c.args.attributes.now (sym c.found.ensures ∙ c.in-None.is))
