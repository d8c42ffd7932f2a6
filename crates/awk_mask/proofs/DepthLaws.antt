-- How deep an array is paired with a mask.
use Rattle.std.specs.Prelude.{◌≡◌, ℕ, ◌≤◌, refl, Bool, true, false, ◌||◌, nat_lt, Option, Some}
use Rattle.std.specs.Prelude.{None}
use Rattle.std.specs.Prelude.{if◌then◌else◌}
use Rattle.std.proofs.Common.{arith}
use Rattle.awk_types.specs.DataType.{DataType, depth, nodes}
use Rattle.awk_types.specs.Limit.{Limit, limit, width, depth_limit, size_limit}
use Rattle.awk_mask_pairs.specs.MaskTypes.{mask_levels}
use Rattle.awk_mask_pairs.proofs.TypeLaws.{levels-depth}

depth-within : (d : ℕ) (o : Option Limit)
    → (if nat_lt 60 d then Some depth_limit else o) ≡ None → d ≤ 60
depth-within d o h = by_test (nat_lt 60 d) refl h
  where
    by_test : (b : Bool) → nat_lt 60 d ≡ b → (if b then Some depth_limit else o) ≡ None → d ≤ 60
    by_test true e f = cc
    by_test false e f = grind (arith, e)

-- a mask has few levels
pub few-levels : (u : DataType) → limit u ≡ None → mask_levels u ≤ 60
few-levels u h =
    omega (
      arith,
      levels-depth u,
      depth-within (depth u)
          (if nat_lt 65536 (nodes u) || nat_lt 127 (width u) then Some size_limit else None) h,
    )
