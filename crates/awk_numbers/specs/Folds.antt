-- What whole numbers come to: a sum, a product, a count, the place of the least or the greatest.
use Rattle.std.specs.Prelude.{◌≡◌, ℕ, ◌≤◌, ℤ, pos, ◌*ℤ◌, unsigned_abs, int_lt, Bool, if◌then◌else◌}
use Rattle.std.specs.Prelude.{List, length, map, Option, Some, None}
use Rattle.std.specs.Int.{int_min, int_max}
use Rattle.std.specs.List.{fold, reduce, list_any, list_all, count_by}
use Rattle.std.specs.Ordering.{int_eq}
use Rattle.awk_lanes.specs.Column.{Column}
use Rattle.awk_lanes.specs.Numbers.{element, number, is_nonzero}
use Rattle.awk_lanes.specs.declared.kind.Kind.{Kind}
use Rattle.awk_lanes.specs.declared.kind.Kind.TheVariants as kind
use Rattle.awk_kernels.specs.Kernels.{total, first_least, first_greatest}
use Rattle.awk_numbers.specs.declared.folds.Fold.{Fold}
use Rattle.awk_numbers.specs.declared.folds.Fold.TheVariants.{Sum, Product}
use Rattle.awk_numbers.specs.declared.tallies.Tally.{Tally}
use Rattle.awk_numbers.specs.declared.tallies.Tally.TheVariants as tally
use Rattle.awk_numbers.specs.declared.extremes.Extreme.{Extreme}
use Rattle.awk_numbers.specs.declared.extremes.Extreme.TheVariants.{Least, Greatest}
use Rattle.awk_numbers.specs.declared.whole.Whole.{Whole}
use Rattle.awk_numbers.specs.declared.whole.Whole.TheVariants as whole

-- the numbers as they lie there, a truth value as 0 or 1
abbrev pub whole_numbers : Whole → List ℤ
whole_numbers (whole.Truths bytes) = map (λ b. element kind.Bool (pos b)) bytes.now
whole_numbers (whole.I8 cells) = map (number kind.I8) cells.now
whole_numbers (whole.I16 cells) = map (number kind.I16) cells.now
whole_numbers (whole.I32 cells) = map (number kind.I32) cells.now
whole_numbers (whole.I64 cells) = map (number kind.I64) cells.now
whole_numbers (whole.U8 cells) = map (number kind.U8) cells.now
whole_numbers (whole.U16 cells) = map (number kind.U16) cells.now
whole_numbers (whole.U32 cells) = map (number kind.U32) cells.now
whole_numbers (whole.U64 cells) = map (number kind.U64) cells.now

-- the numbers of a lane, a truth value as 0 or 1
abbrev pub lane_numbers : Column → List ℤ
lane_numbers c = map (element c.kind) c.items

-- ---- sums and products

abbrev pub is_zero : ℤ → Bool
is_zero z = int_eq z (pos 0)

abbrev pub product : List ℤ → ℤ
product zs = fold (λ so_far z. so_far *ℤ z) (pos 1) zs

abbrev pub folded : Fold → List ℤ → ℤ
folded Sum zs = total zs
folded Product zs = product zs

-- a number, or none where no number of 64 bits is so far from 0
abbrev pub IsNear : ℤ → Option ℤ → Type 0
IsNear z None = 18446744073709551616 ≤ unsigned_abs z
IsNear z (Some n) = n ≡ z

-- ---- counts and truth

abbrev pub tallied : Tally → List ℤ → ℤ
tallied tally.Items zs = pos (length zs)
tallied tally.Nonzero zs = pos (count_by is_nonzero zs)
tallied tally.Any zs = pos (if list_any is_nonzero zs then 1 else 0)
tallied tally.All zs = pos (if list_all is_nonzero zs then 1 else 0)

abbrev pub tally_kind : Tally → Kind
tally_kind tally.Items = kind.I64
tally_kind tally.Nonzero = kind.I64
tally_kind tally.Any = kind.Bool
tally_kind tally.All = kind.Bool

-- ---- extremes

-- whether a number is less, or is greater
abbrev pub beats : Extreme → ℤ → ℤ → Bool
beats Least x y = int_lt x y
beats Greatest x y = int_lt y x

-- the first place of the least or of the greatest number, or none of none
abbrev pub first_extreme : Extreme → List ℤ → Option ℕ
first_extreme Least zs = first_least zs
first_extreme Greatest zs = first_greatest zs

-- the least number or the greatest, or none of none
abbrev pub extreme_of : Extreme → List ℤ → Option ℤ
extreme_of Least zs = reduce int_min zs
extreme_of Greatest zs = reduce int_max zs
