-- Raw conditions as plain data, by a fold.
use Rattle.std.specs.Prelude.{List, [], ◌∷◌}
use Rattle.view_def.specs.declared.written.Op.{Op}
use Rattle.view_def.specs.declared.written.RawTerm.{RawTerm}
use Rattle.view_def.specs.declared.written.RawCond.{RawCond, fold-RawCond}
use Rattle.view_def.specs.declared.written.RawCond.TheOpen.{RawCond-F}
use Rattle.view_def.specs.declared.written.RawCond.TheOpen as open_cond

mutual
  pub data Raw : Type 0 where
    AnyRaw : Raws → Raw
    AllRaw : Raws → Raw
    NotRaw : Raw → Raw
    CompareRaw : RawTerm → Op → RawTerm → Raw

  pub data Raws : Type 0 where
    none : Raws
    more : Raw → Raws → Raws

abbrev pub raws : List Raw → Raws
raws [] = none
raws (x ∷ xs) = more x (raws xs)

-- one layer
abbrev pub layer : RawCond-F Raw → Raw
layer (open_cond.Any v) = AnyRaw (raws v.items)
layer (open_cond.All v) = AllRaw (raws v.items)
layer (open_cond.Not b) = NotRaw b.value
layer (open_cond.Compare s op t) = CompareRaw s op t

abbrev pub raw_of : RawCond → Raw
raw_of c = fold-RawCond Raw layer c
