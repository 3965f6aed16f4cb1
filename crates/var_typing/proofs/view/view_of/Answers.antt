use Rattle.std.proofs.Common.{refl}
use Rattle.var_typing.proofs.view.view_of.Goals as goal

pub returns : goal.returns
returns c = rw (c.in_ok-constants.ensures, c.split_terms-keys.ensures.keys, c.split_terms-keys.ensures.value) refl
