-- Data and operands as trees of numbers, and back, for lists of them.
use Rattle.std.specs.Prelude.{◌≡◌, ◌⊎◌, ℤ, refl}
use Rattle.std.specs.Coded.{Coded, code_by, coded⊎, coded_ℤ}
use mathlib.Core.Logic.{inl, inr}
use Rattle.awk_layout.specs.Layout.{Layout}
use Rattle.awk_layout.specs.Code.{coded_layout}
use Rattle.awk_layout.specs.declared.datum.Datum.{Datum}
use Rattle.awk_layout.specs.declared.datum.Datum.TheVariants.{Arr, One}
use Rattle.awk_layout.specs.declared.datum.Operand.{Operand}
use Rattle.awk_layout.specs.declared.datum.Operand.TheVariants.{Of, Literal}

abbrev datum_to : Datum → Layout ⊎ Layout
datum_to (Arr x) = inl x
datum_to (One x) = inr x

abbrev datum_from : Layout ⊎ Layout → Datum
datum_from (inl x) = Arr x
datum_from (inr x) = One x

pub datum_same : (d : Datum) → datum_from (datum_to d) ≡ d
datum_same (Arr x) = refl
datum_same (One x) = refl

abbrev pub coded_datum : Coded Datum
coded_datum =
    code_by (Layout ⊎ Layout) (coded⊎ coded_layout coded_layout) datum_to datum_from datum_same

abbrev operand_to : Operand → Datum ⊎ ℤ
operand_to (Of d) = inl d
operand_to (Literal z) = inr z

abbrev operand_from : Datum ⊎ ℤ → Operand
operand_from (inl d) = Of d
operand_from (inr z) = Literal z

pub operand_same : (o : Operand) → operand_from (operand_to o) ≡ o
operand_same (Of d) = refl
operand_same (Literal z) = refl

abbrev pub coded_operand : Coded Operand
coded_operand =
    code_by (Datum ⊎ ℤ) (coded⊎ coded_datum coded_ℤ) operand_to operand_from operand_same
