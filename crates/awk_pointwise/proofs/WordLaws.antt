-- Numbers as the kernels take them, and what they write.
use Rattle.std.proofs.Common.{◌≡◌, ℕ, List, [], ◌∷◌, map, refl, ap, ap₂, arith}
use Rattle.std.specs.Prelude.{ℤ, pos, negsuc, Bool, true, false, not}
use mathlib.Core.Bool.{beq}
use Rattle.std.specs.List.{AllByRecursion, zip}
use Rattle.std.specs.Simd.Lanes.{zip2}
use Rattle.std.proofs.lemmas.Int.{ints}
use Rattle.awk_lanes.specs.Numbers.{nat_of}
use Rattle.awk_leaves.specs.Values.{joined}
use Rattle.awk_leaves.specs.declared.operation.Logic.TheVariants.{Xor}
use Rattle.awk_pointwise.specs.Numbers.{clip, IsInt64, IsNat64}

pub zip-zip2 : {X Y Z : Type 0} (f : X → Y → Z) (xs : List X) (ys : List Y)
    → map (λ p. f p.0 p.1) (zip xs ys) ≡ zip2 f xs ys
zip-zip2 f [] ys = refl
zip-zip2 f (x ∷ xs) [] = refl
zip-zip2 f (x ∷ xs) (y ∷ ys) = ap (λ zs. f x y ∷ zs) (zip-zip2 f xs ys)

clip_int : (n : ℕ) → IsInt64 (pos n) → clip n ≡ pos n
clip_int n h = grind (arith, ints, h.0, h.1)

pub clipped : (ns : List ℕ) → AllByRecursion IsInt64 (map pos ns) → map clip ns ≡ map pos ns
clipped [] a = refl
clipped (n ∷ ns) a = ap₂ (λ z zs. z ∷ zs) (clip_int n a.0) (clipped ns a.1)

nat_pos : (z : ℤ) → IsNat64 z → pos (nat_of z) ≡ z
nat_pos (pos n) h = refl
nat_pos (negsuc n) h = absurd (grind (arith, ints, h.0))

pub natural : (zs : List ℤ) → AllByRecursion IsNat64 zs → map pos (map nat_of zs) ≡ zs
natural [] a = refl
natural (z ∷ zs) a = ap₂ (λ y ys. y ∷ ys) (nat_pos z a.0) (natural zs a.1)

pub zip2-flip : {X Y Z : Type 0} (f : X → Y → Z) (g : Y → X → Z) (xs : List X) (ys : List Y)
    → ((x : X) (y : Y) → g y x ≡ f x y) → zip2 g ys xs ≡ zip2 f xs ys
zip2-flip f g [] [] h = refl
zip2-flip f g [] (y ∷ ys) h = refl
zip2-flip f g (x ∷ xs) [] h = refl
zip2-flip f g (x ∷ xs) (y ∷ ys) h = ap₂ (λ z zs. z ∷ zs) (h x y) (zip2-flip f g xs ys h)

pub differ_xor : (a b : Bool) → not (beq a b) ≡ joined Xor a b
differ_xor true true = refl
differ_xor true false = refl
differ_xor false true = refl
differ_xor false false = refl
