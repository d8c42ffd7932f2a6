-- Numbers of leaves in the primitives of results, and results as numbers of lanes.
use Rattle.std.proofs.Common.{◌≡◌, ℕ, zero, suc, List, [], ◌∷◌, get_or, refl, ap, sym}
use Rattle.std.proofs.Common.{subst, arith}
use Rattle.std.specs.Prelude.{ℤ, pos, Bool, true, false, not, ◌||◌, ◌&&◌, int_lt, cond}
use Rattle.std.specs.Prelude.{Some, None, Result, Ok, Err, IfSome, if◌then◌else◌}
use Rattle.std.specs.List.{AllByRecursion}
use Rattle.std.specs.Ordering.{int_eq}
use Rattle.std.proofs.lemmas.Int.{ints}
use Rattle.awk_primitives.specs.Fits.{fits}
use Rattle.awk_base.proofs.Every.{all-impl}
use Rattle.awk_types.specs.Has.{least_number, greatest_number, Holds}
use Rattle.awk_primitives.specs.Promotion.{is_whole, promotion, promotion_whole, is_signed}
use Rattle.awk_primitives.specs.Promotion.{HoldsAll}
use Rattle.awk_types.specs.declared.fault.Fault.{Fault}
use Rattle.awk_types.specs.declared.primitive.Primitive.{Primitive}
use Rattle.awk_types.specs.declared.primitive.Primitive.TheVariants as prim
use Rattle.awk_primitives.proofs.PromotionLaws.{promotion_holds}
use Rattle.awk_primitives.proofs.RangeLaws.{fits_holds}
use Rattle.awk_lanes.specs.Ranges.{IsNumber, AreNumbers}
use Rattle.awk_lanes.specs.Words.{column}
use Rattle.awk_lanes.proofs.RangeLaws.{zero_number}
use Rattle.awk_kernels.specs.Kernels.{leaves}
use Rattle.awk_kernels.specs.Operations.{leaf, within, divides, exact}
use Rattle.awk_kernels.specs.declared.operation.Arith.{Arith}
use Rattle.awk_kernels.specs.declared.operation.Why.{Why}
use Rattle.awk_kernels.specs.declared.operation.Why.TheVariants as why
use Rattle.awk_layout.specs.Kinds.{kind_of}
use Rattle.awk_leaves.specs.LeafTypes.{type_beside, overflows, number_type}
use Rattle.awk_leaves.specs.declared.leaf_type.LeafType.{LeafType}
use Rattle.awk_leaves.specs.declared.leaf_type.LeafType.TheVariants.{Of, Unknown, Literal}
use Rattle.awk_pointwise.specs.Numbers.{with_number, all_numbers, IsTyped, AreTyped, IsInt64}
use Rattle.awk_pointwise.specs.Numbers.{greatest_int64, int_leaves, prim_leaves}
use Rattle.awk_pointwise.specs.Sides.{IsLeafNumber}

whole_holds : (p : Primitive) (z : ℤ) → is_whole p ≡ true → IsLeafNumber p z → Holds p z
whole_holds prim.Bool z w h = absurd (cc)
whole_holds prim.I8 z w h = h
whole_holds prim.I16 z w h = h
whole_holds prim.I32 z w h = h
whole_holds prim.I64 z w h = h
whole_holds prim.U8 z w h = h
whole_holds prim.U16 z w h = h
whole_holds prim.U32 z w h = h
whole_holds prim.U64 z w h = h

one_held : (p : Primitive) → is_whole p ≡ true → Holds p (pos 1)
one_held prim.Bool w = absurd (cc)
one_held prim.I8 w = grind (arith, ints)
one_held prim.I16 w = grind (arith, ints)
one_held prim.I32 w = grind (arith, ints)
one_held prim.I64 w = grind (arith, ints)
one_held prim.U8 w = grind (arith, ints)
one_held prim.U16 w = grind (arith, ints)
one_held prim.U32 w = grind (arith, ints)
one_held prim.U64 w = grind (arith, ints)

-- a primitive that holds 1 is of whole numbers
one_whole : (p : Primitive) → Holds p (pos 1) → is_whole p ≡ true
one_whole prim.Bool h = absurd (grind (arith, ints, h.1))
one_whole prim.I8 h = refl
one_whole prim.I16 h = refl
one_whole prim.I32 h = refl
one_whole prim.I64 h = refl
one_whole prim.U8 h = refl
one_whole prim.U16 h = refl
one_whole prim.U32 h = refl
one_whole prim.U64 h = refl

-- a literal that does not overflow fits
literal_holds : (p : Primitive) (z : ℤ) → not (fits p z) ≡ false → Holds p z
literal_holds p z e = fits_holds p z (flip (fits p z) e)
  where
    flip : (b : Bool) → not b ≡ false → b ≡ true
    flip true e = refl
    flip false e = absurd (cc)

-- the numbers of leaves are those of their primitive beside others
pub beside_holds : (t u : LeafType) (z : ℤ) → is_whole (type_beside t u) ≡ true
    → overflows t u ≡ false → IsTyped t z → Holds (type_beside t u) z
beside_holds (Of p) u z w o h = whole_holds p z w h
beside_holds Unknown u z w o h = absurd h
beside_holds (Literal y) u z w o h = subst (Holds (type_beside (Literal y) u)) (sym h)
    (literal_holds (type_beside (Literal y) u) y o)

pub both_whole : (p q r : Primitive) → promotion p q ≡ Some r
    → (is_whole p ≡ true) × (is_whole q ≡ true)
both_whole p q r e = go (is_whole p) (is_whole q) e
  where
    go : (b c : Bool)
        → (if b && c then promotion_whole (is_signed p) (is_signed q) p q else None) ≡ Some r
        → (b ≡ true) × (c ≡ true)
    go true true e = (refl, refl)
    go true false e = absurd (cc)
    go false c e = absurd (cc)

both_hold : (p q r : Primitive) → promotion p q ≡ Some r → HoldsAll p r × HoldsAll q r
both_hold p q r e = subst (λ o. IfSome o (λ r. HoldsAll p r × HoldsAll q r)) e (promotion_holds p q)

-- the numbers of both sides are those of the primitive of the result
pub first_holds : (t u : LeafType) (r : Primitive) (zs : List ℤ) → number_type t u ≡ Some r
    → overflows t u ≡ false → AreTyped t zs → AllByRecursion (Holds r) zs
first_holds t u r zs e o a =
    let w = both_whole (type_beside t u) (type_beside u t) r e in
    let h = both_hold (type_beside t u) (type_beside u t) r e in
    all-impl (IsTyped t) (Holds r) zs (λ z i. h.0 z (beside_holds t u z w.0 o i)) a

pub second_holds : (t u : LeafType) (r : Primitive) (zs : List ℤ) → number_type t u ≡ Some r
    → overflows u t ≡ false → AreTyped u zs → AllByRecursion (Holds r) zs
second_holds t u r zs e o a =
    let w = both_whole (type_beside t u) (type_beside u t) r e in
    let h = both_hold (type_beside t u) (type_beside u t) r e in
    all-impl (IsTyped u) (Holds r) zs (λ z i. h.1 z (beside_holds u t z w.1 o i)) a

-- the primitive of a result is of whole numbers
pub result_whole : (t u : LeafType) (r : Primitive) → number_type t u ≡ Some r
    → is_whole r ≡ true
result_whole t u r e =
    let w = both_whole (type_beside t u) (type_beside u t) r e in
    let h = both_hold (type_beside t u) (type_beside u t) r e in
    one_whole r (h.0 (pos 1) (one_held (type_beside t u) w.0))

holds_int64 : (p : Primitive) (z : ℤ) → (p ≡ prim.U64 → ⊥) → Holds p z → IsInt64 z
holds_int64 prim.U64 z n h = absurd (n refl)
holds_int64 prim.Bool z n h = grind (arith, ints, h.0, h.1)
holds_int64 prim.I8 z n h = grind (arith, ints, h.0, h.1)
holds_int64 prim.I16 z n h = grind (arith, ints, h.0, h.1)
holds_int64 prim.I32 z n h = grind (arith, ints, h.0, h.1)
holds_int64 prim.I64 z n h = grind (arith, ints, h.0, h.1)
holds_int64 prim.U8 z n h = grind (arith, ints, h.0, h.1)
holds_int64 prim.U16 z n h = grind (arith, ints, h.0, h.1)
holds_int64 prim.U32 z n h = grind (arith, ints, h.0, h.1)

pub all_int64 : (p : Primitive) (zs : List ℤ) → (p ≡ prim.U64 → ⊥) → AllByRecursion (Holds p) zs
    → AllByRecursion IsInt64 zs
all_int64 p zs n a = all-impl (Holds p) IsInt64 zs (λ z h. holds_int64 p z n h) a

-- ---- results

bound_int64 : (p : Primitive) → (p ≡ prim.U64 → ⊥) → greatest_int64 p ≡ greatest_number p
bound_int64 prim.Bool n = refl
bound_int64 prim.I8 n = refl
bound_int64 prim.I16 n = refl
bound_int64 prim.I32 n = refl
bound_int64 prim.I64 n = refl
bound_int64 prim.U8 n = refl
bound_int64 prim.U16 n = refl
bound_int64 prim.U32 n = refl
bound_int64 prim.U64 n = absurd (n refl)

-- all numbers but those of uint64 fit an i64
pub int_leaves-prim : (op : Arith) (p : Primitive) (xs ys : List ℤ) → (p ≡ prim.U64 → ⊥)
    → int_leaves op p xs ys ≡ prim_leaves op p xs ys
int_leaves-prim op p xs ys n =
    ap (λ hi. leaves op (least_number p) hi xs ys) (bound_int64 p n)

number_held : (p : Primitive) (z : ℤ) → Holds p z → IsNumber (kind_of p) z
number_held prim.Bool z h = absurd (grind (arith, ints, h.0, h.1))
number_held prim.I8 z h = h
number_held prim.I16 z h = h
number_held prim.I32 z h = h
number_held prim.I64 z h = h
number_held prim.U8 z h = h
number_held prim.U16 z h = h
number_held prim.U32 z h = h
number_held prim.U64 z h = h

within_holds : (p : Primitive) (z y : ℤ) → within (least_number p) (greatest_number p) z ≡ Ok y
    → Holds p y
within_holds p z y e = go (int_lt z (least_number p)) (int_lt (greatest_number p) z) refl refl e
  where
    go : (b c : Bool) → int_lt z (least_number p) ≡ b → int_lt (greatest_number p) z ≡ c
        → cond (b || c) (Err why.Overflow) (Ok z) ≡ Ok y → Holds p y
    go true c i j e = absurd (cc)
    go false true i j e = absurd (cc)
    go false false i j e =
        let same : z ≡ y = cc in
        subst (Holds p) same (grind (arith, ints, i), grind (arith, ints, j))

leaf_holds : (op : Arith) (p : Primitive) (a b y : ℤ)
    → leaf op (least_number p) (greatest_number p) a b ≡ Ok y → Holds p y
leaf_holds op p a b y e = go (divides op && int_eq b (pos 0)) e
  where
    go : (c : Bool)
        → cond c (Err why.Zero) (within (least_number p) (greatest_number p) (exact op a b)) ≡ Ok y
        → Holds p y
    go true e = absurd (cc)
    go false e = within_holds p (exact op a b) y e

results_hold : (op : Arith) (p : Primitive) (xs ys zs : List ℤ)
    → all_numbers (leaves op (least_number p) (greatest_number p) xs ys) ≡ Ok zs
    → AllByRecursion (Holds p) zs
results_hold op p [] ys zs e =
    let same : zs ≡ [] = cc in subst (AllByRecursion (Holds p)) (sym same) tt
results_hold op p (x ∷ xs) [] zs e =
    let same : zs ≡ [] = cc in subst (AllByRecursion (Holds p)) (sym same) tt
results_hold op p (x ∷ xs) (y ∷ ys) zs e =
    go (leaf op (least_number p) (greatest_number p) x y)
    (all_numbers (leaves op (least_number p) (greatest_number p) xs ys)) refl refl
    (results_hold op p xs ys) e
  where
    go : (r : Result ℤ Why) (rest : Result (List ℤ) Fault)
        → leaf op (least_number p) (greatest_number p) x y ≡ r
        → all_numbers (leaves op (least_number p) (greatest_number p) xs ys) ≡ rest
        → ((zs : List ℤ) → all_numbers (leaves op (least_number p) (greatest_number p) xs ys)
        ≡ Ok zs → AllByRecursion (Holds p) zs)
        → with_number r rest ≡ Ok zs → AllByRecursion (Holds p) zs
    go (Ok z) (Ok ws) i j more e =
        let same : z ∷ ws ≡ zs = cc in
        subst (AllByRecursion (Holds p)) same (leaf_holds op p x y z i, more ws j)
    go (Ok z) (Err f) i j more e = absurd (cc)
    go (Err w) rest i j more e = absurd (cc)

got_number : (p : Primitive) (zs : List ℤ) (i : ℕ) → AllByRecursion (Holds p) zs
    → IsNumber (kind_of p) (get_or zs i (pos 0))
got_number p [] i a = zero_number (kind_of p)
got_number p (z ∷ zs) zero a = number_held p z a.0
got_number p (z ∷ zs) (suc i) a = got_number p zs i a.1

pub results_numbers : (op : Arith) (p : Primitive) (xs ys zs : List ℤ)
    → all_numbers (leaves op (least_number p) (greatest_number p) xs ys) ≡ Ok zs
    → AreNumbers (column (kind_of p) zs)
results_numbers op p xs ys zs e = λ i. got_number p zs i (results_hold op p xs ys zs e)
