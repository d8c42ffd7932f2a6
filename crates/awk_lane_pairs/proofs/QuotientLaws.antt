-- Quotients by one number above 0.
use Rattle.std.proofs.Common.{◌≡◌, ℕ, ◌/◌, List, map, length, get_or, replicate, refl, ap, ap₂}
use Rattle.std.proofs.Common.{sym, subst, ◌∙◌, arith}
use Rattle.std.specs.Prelude.{ℤ, pos, negsuc, ◌≤ℤ◌, [], true, false, cond, Result, Ok, Err}
use Rattle.std.specs.Int.{int_div_euclid}
use Rattle.std.specs.List.{range_with_len}
use Rattle.std.specs.Ordering.{int_eq}
use Rattle.std.specs.Simd.Lanes.{zip2}
use Rattle.std.proofs.Math.Nat.{div-le_self}
use Rattle.std.proofs.lemmas.Int.{ints}
use Rattle.std.proofs.lemmas.List.{get_or-map, length-map}
use Rattle.std.proofs.lemmas.List.FromFn.{fill_by_all}
use Rattle.std.proofs.lemmas.Simd.{map-map, get_or-zip2, length-zip2, get_or-replicate}
use Rattle.std.proofs.lemmas.Simd.{length-replicate}
use Rattle.awk_types.specs.Has.{least_number, greatest_number, Holds}
use Rattle.awk_types.specs.declared.primitive.Primitive.{Primitive}
use Rattle.awk_types.specs.declared.primitive.Primitive.TheVariants as prim
use Rattle.awk_primitives.specs.Promotion.{is_whole}
use Rattle.awk_lanes.specs.Column.{Column}
use Rattle.awk_lanes.specs.Made.{lane_of}
use Rattle.awk_lanes.specs.Numbers.{number}
use Rattle.awk_lanes.specs.Ranges.{IsNumber, AreNumbers}
use Rattle.awk_kernels.specs.Operations.{floor_div, leaf, within}
use Rattle.awk_kernels.specs.declared.operation.Arith.TheVariants.{FloorDiv}
use Rattle.awk_kernels.specs.declared.operation.Why.{Why}
use Rattle.awk_kernels.specs.declared.operation.Why.TheVariants.{Zero}
use Rattle.awk_layout.specs.Kinds.{kind_of}
use Rattle.awk_lane_pairs.specs.Results.{quotient_at, AreKnown, AreCalculated}
use Rattle.awk_lane_pairs.proofs.ResultLaws.{within_held}

pub floor_pos : (x y : ℤ) → pos 1 ≤ℤ y → int_div_euclid x y ≡ floor_div x y
floor_pos x (pos n) l = refl
floor_pos x (negsuc n) l = absurd (grind (arith, ints, l))

through : (x y z : ℤ) → x ≤ℤ y → y ≤ℤ z → x ≤ℤ z
through x y z p q = grind (arith, ints, p, q)

low : (p : Primitive) → least_number p ≤ℤ pos 0
low prim.Bool = grind (arith, ints)
low prim.I8 = grind (arith, ints)
low prim.I16 = grind (arith, ints)
low prim.I32 = grind (arith, ints)
low prim.I64 = grind (arith, ints)
low prim.U8 = grind (arith, ints)
low prim.U16 = grind (arith, ints)
low prim.U32 = grind (arith, ints)
low prim.U64 = grind (arith, ints)

high : (p : Primitive) → negsuc 0 ≤ℤ greatest_number p
high prim.Bool = grind (arith, ints)
high prim.I8 = grind (arith, ints)
high prim.I16 = grind (arith, ints)
high prim.I32 = grind (arith, ints)
high prim.I64 = grind (arith, ints)
high prim.U8 = grind (arith, ints)
high prim.U16 = grind (arith, ints)
high prim.U32 = grind (arith, ints)
high prim.U64 = grind (arith, ints)

-- a quotient lies between 0 or -1 and what is divided
pub quotient_held : (p : Primitive) (x y : ℤ) → pos 1 ≤ℤ y → Holds p x → Holds p (floor_div x y)
quotient_held p (pos a) (pos n) l h =
    let up : pos (a / n) ≤ℤ pos a = grind (arith, ints, div-le_self a n) in
    let down : pos 0 ≤ℤ pos (a / n) = grind (arith, ints) in (
      through (least_number p) (pos 0) (pos (a / n)) (low p) down,
      through (pos (a / n)) (pos a) (greatest_number p) up h.1,
    )
quotient_held p (negsuc a) (pos n) l h =
    let down : negsuc a ≤ℤ negsuc (a / n) = grind (arith, ints, div-le_self a n) in
    let up : negsuc (a / n) ≤ℤ negsuc 0 = grind (arith, ints) in (
      through (least_number p) (negsuc a) (negsuc (a / n)) h.0 down,
      through (negsuc (a / n)) (negsuc 0) (greatest_number p) up (high p),
    )
quotient_held p x (negsuc n) l h = absurd (grind (arith, ints, l))

number_held : (p : Primitive) (z : ℤ) → is_whole p ≡ true → IsNumber (kind_of p) z → Holds p z
number_held prim.Bool z w h = absurd (cc)
number_held prim.I8 z w h = h
number_held prim.I16 z w h = h
number_held prim.I32 z w h = h
number_held prim.I64 z w h = h
number_held prim.U8 z w h = h
number_held prim.U16 z w h = h
number_held prim.U32 z w h = h
number_held prim.U64 z w h = h

-- the numbers of a lane of a primitive
pub lane_known : (p : Primitive) (c : Column) (a : List (List ℕ)) → is_whole p ≡ true
    → c.kind ≡ kind_of p → map (number (kind_of p)) a ≡ c.items → AreNumbers c → AreKnown p a
lane_known p c a w e same h i l =
    number_held p (number (kind_of p) (get_or a i [])) w
    (subst (IsNumber (kind_of p)) (ap (λ zs. get_or zs i (pos 0)) (sym same)
    ∙ get_or-map (number (kind_of p)) a i [] (pos 0) l)
    (subst (λ k. IsNumber k (get_or c.items i (pos 0))) e (h i)))

-- the lane of the quotients
pub quotients_all : (p : Primitive) (xs : List ℤ) (a : List (List ℕ)) (y : ℤ) (n : ℕ) (c : Column)
    → map (number (kind_of p)) a ≡ xs → length a ≡ n → pos 1 ≤ℤ y → AreKnown p a
    → ◌≡◌ {A = Column} c (lane_of (kind_of p) (length a) (quotient_at (kind_of p) a y))
    → AreCalculated FloorDiv p xs (replicate n y) c
quotients_all p xs a y n c e many above known made =
    let f : List ℕ → ℤ = number (kind_of p) in
    let one : ℤ → ℤ → Result ℤ Why = leaf FloorDiv (least_number p) (greatest_number p) in
    let some : int_eq y (pos 0) ≡ false = grind (arith, ints, above) in
    let ys : List ℤ = replicate (length a) y in
    let long : length ys ≡ length a = length-replicate (length a) y in
    record {
      kind = ap (λ (c : Column). c.kind) made;
      numbers = ap (λ (c : Column). map (λ (z : ℤ). Ok z) c.items) made
          ∙ map-map (λ (z : ℤ). Ok z) (quotient_at (kind_of p) a y) (range_with_len 0 (length a))
          ∙ sym (fill_by_all (λ i. Ok (quotient_at (kind_of p) a y i)) (zip2 one (map f a) ys)
          (length a) (Ok (pos 0))
          (length-zip2 one (map f a) ys (length-map a f ∙ sym long) ∙ length-map a f)
          (λ i l. get_or-zip2 one (map f a) ys i (pos 0) (pos 0) (Ok (pos 0))
          (omega (arith, l, length-map a f)) (omega (arith, l, long))
          ∙ ap₂ one (get_or-map f a i [] (pos 0) l) (get_or-replicate (length a) i y (pos 0) l)
          ∙ ap (λ b. cond b (Err Zero) (within (least_number p) (greatest_number p)
          (floor_div (f (get_or a i [])) y))) some
          ∙ within_held p (floor_div (f (get_or a i [])) y)
          (quotient_held p (f (get_or a i [])) y above (known i l))))
          ∙ ap₂ (zip2 one) e (ap (λ m. replicate m y) many);
    }
