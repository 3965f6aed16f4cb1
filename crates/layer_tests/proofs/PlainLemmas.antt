-- A form of one constant column, no tables that become no tables, and what is proposed and dropped.
use Rattle.std.proofs.Common.{◌≡◌, length, List, [], ◌∷◌, Option, Some, None, refl, sym, ap}
use Rattle.std.specs.Prelude.{bytes_eq}
use Rattle.std.specs.List.{IsDistinct}
use Rattle.std.proofs.Math.Nat.{le_refl}
use Rattle.ss_text.specs.Texts.{Text}
use Rattle.flow_law.specs.Script.{script}
use Rattle.schema_model.specs.declared.change.Change.{Change}
use Rattle.change_script.specs.Fits.{IsForm}
use Rattle.apply_law.specs.Standing.{Idle}
use Rattle.layer_tests.specs.Plain.{PlainState, waiting_by, proposing}

pub no_lines : [] ≡ script [] []
unfolding script
no_lines = refl

alone : (x : Text) → IsDistinct bytes_eq (x ∷ [])
unfolding IsDistinct
alone x = (tt, tt)

pub one_constant : (xs : List Text) → length xs ≡ 1 → IsForm (record { label = None; constants = xs; spot = None })
one_constant [] e = absurd (cc e)
one_constant (x ∷ []) e = record { distinct = alone x; spot = le_refl 1 }
one_constant (x ∷ y ∷ xs) e = absurd (cc e)

none_proposed : (proposed : Option (List Change)) → waiting_by proposed ≡ Idle → proposed ≡ None
none_proposed None idle = refl
none_proposed (Some gs) idle = absurd (cc idle)

-- what is proposed where nothing is, and then dropped
pub dropped : (p : PlainState) (gs : List Change) → waiting_by p.proposed ≡ Idle → (let q : PlainState = proposing p gs in record q { proposed = None }) ≡ p
dropped p gs idle = ap (λ (o : Option (List Change)). record p { proposed = o }) (sym (none_proposed p.proposed idle))
