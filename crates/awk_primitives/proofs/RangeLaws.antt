-- The test whether a number fits is true exactly of the numbers that the primitive holds.
use Rattle.std.proofs.Common.{◌≡◌, ◌&&◌, Bool, true, false, ℤ, ◌≤ℤ◌, ap₂, refl, arith}
use Rattle.std.specs.Prelude.{int_le}
use Rattle.std.proofs.lemmas.Int.{ints}
use Rattle.awk_primitives.specs.Fits.{fits}
use Rattle.awk_types.specs.Has.{Holds, least_number, greatest_number}
use Rattle.awk_types.specs.declared.primitive.Primitive.{Primitive}

-- a number that fits is one of the primitive
pub fits_holds : (p : Primitive) (z : ℤ) → fits p z ≡ true → Holds p z
fits_holds p z e = by (int_le (least_number p) z) (int_le z (greatest_number p)) refl refl e
  where
    in_order : (a b : ℤ) → int_le a b ≡ true → a ≤ℤ b
    in_order a b e = grind (arith, ints)

    by : (l g : Bool) → int_le (least_number p) z ≡ l → int_le z (greatest_number p) ≡ g
        → (l && g) ≡ true → Holds p z
    by true true a b h = (in_order (least_number p) z a, in_order z (greatest_number p) b)
    by true false a b h = cc
    by false g a b h = cc

-- and one of the primitive fits
pub holds_fits : (p : Primitive) (z : ℤ) → Holds p z → fits p z ≡ true
holds_fits p z h = ap₂ (λ l g. l && g) (in_order (least_number p) z h.0)
    (in_order z (greatest_number p) h.1)
  where
    in_order : (a b : ℤ) → a ≤ℤ b → int_le a b ≡ true
    in_order a b e = grind (arith, ints)
