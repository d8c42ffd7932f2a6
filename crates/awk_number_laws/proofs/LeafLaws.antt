-- The laws of operations on leaves.
use Rattle.std.proofs.Common.{◌≡◌, inl, inr, ℕ, zero, suc, ◌+◌, ◌*◌, ◌/◌, refl, ap, ap₂, sym, subst}
use Rattle.std.proofs.Common.{◌∙◌, arith, true≢false, List, [], ◌∷◌, map, length}
use Rattle.std.specs.Prelude.{ℤ, pos, negsuc, neg_ℤ, ◌+ℤ◌, ◌*ℤ◌, ◌≤ℤ◌, int_lt, Bool, true, false}
use Rattle.std.specs.Prelude.{not, ◌||◌, cond, Result, Ok, Err, if◌then◌else◌}
use Rattle.std.specs.List.{AllByRecursion}
use Rattle.std.specs.Int.{int_div_euclid, int_rem_euclid}
use Rattle.std.specs.Ordering.{int_eq}
use Rattle.std.specs.Simd.Lanes.{zip2}
use Rattle.std.proofs.Math.IntN.{*ℤ_comm, *ℤ-negsuc, +ℤ_comm}
use Rattle.std.proofs.lemmas.Nat.{div-add-mod'}
use Rattle.std.proofs.lemmas.Int.{ints}
use Rattle.awk_types.specs.DataType.{leaf, opt}
use Rattle.awk_types.specs.Has.{Has, Holds, least_number, greatest_number}
use Rattle.awk_types.specs.Parts.{number_of}
use Rattle.awk_types.specs.Predicates.{is_null}
use Rattle.awk_primitives.specs.Promotion.{is_whole, promotion}
use Rattle.awk_types.specs.Value.{Value, int, truth, null, list, row, alt}
use Rattle.awk_types.specs.declared.fault.Fault.{Fault}
use Rattle.awk_types.specs.declared.primitive.Primitive.{Primitive}
use Rattle.awk_types.specs.declared.primitive.Primitive.TheVariants as primitive
use Rattle.awk_kernels.specs.Operations.{floor_div, floor_rem, within, leaf as result, holds}
use Rattle.awk_kernels.specs.declared.operation.Arith.{Arith}
use Rattle.awk_kernels.specs.declared.operation.Arith.TheVariants.{Add, Mul, FloorDiv, Rem}
use Rattle.awk_kernels.specs.declared.operation.Compare.{Compare}
use Rattle.awk_kernels.specs.declared.operation.Compare.TheVariants as compare
use Rattle.awk_kernels.specs.declared.operation.Why.{Why}
use Rattle.awk_kernels.specs.declared.operation.Why.TheVariants as why
use Rattle.awk_leaves.specs.LeafTypes.{type_beside, overflows, number_type, comparison_type}
use Rattle.awk_leaves.specs.Table.{judged, one_overflows, choice_judged, literals_overflow}
use Rattle.awk_leaves.specs.Values.{number_or_fault, held_by, is_nonzero, binary_at, unary_at}
use Rattle.awk_leaves.specs.Values.{chosen_at, chosen_values, first_fault_or, all_values, in_judged}
use Rattle.awk_leaves.specs.Values.{binary_values, unary_values, choice_values}
use Rattle.awk_leaves.specs.declared.leaf_type.LeafType.{LeafType}
use Rattle.awk_leaves.specs.declared.leaf_type.LeafType.TheVariants.{Of}
use Rattle.awk_leaves.specs.declared.operation.Binary.TheVariants.{Calculate, Test}
use Rattle.awk_leaves.specs.declared.operation.Unary.TheVariants.{Not, Negate}
use Rattle.awk_number_laws.specs.Leaves.{opposite, on_result, IsBelowDivisor, IsDivision}

-- ---- choices

either : (b : Bool) (x : Value) → (if b then x else x) ≡ x
either true x = refl
either false x = refl

pub choice_is : (c x : Value) → is_null c ≡ false → chosen_at c x x ≡ x
choice_is c x h =
    ap (λ b. if b then null else if is_nonzero (number_of c) then x else x) h
    ∙ either (is_nonzero (number_of c)) x

chosen_are : (cs xs : List Value) → length cs ≡ length xs
    → AllByRecursion (λ c. is_null c ≡ false) cs → chosen_values cs xs xs ≡ xs
chosen_are [] [] e h = refl
chosen_are [] (x ∷ xs) e h = absurd (omega (arith, e))
chosen_are (c ∷ cs) [] e h = absurd (omega (arith, e))
chosen_are (c ∷ cs) (x ∷ xs) e h =
    ap₂ (λ y ys. y ∷ ys) (choice_is c x h.0) (chosen_are cs xs (omega (arith, e)) h.1)

pub choice_type_is : (p : Primitive) → choice_judged (Of primitive.Bool) (Of p) (Of p) ≡ Ok p
choice_type_is primitive.Bool = refl
choice_type_is primitive.I8 = refl
choice_type_is primitive.I16 = refl
choice_type_is primitive.I32 = refl
choice_type_is primitive.I64 = refl
choice_type_is primitive.U8 = refl
choice_type_is primitive.U16 = refl
choice_type_is primitive.U32 = refl
choice_type_is primitive.U64 = refl

pub choices_are : (p : Primitive) (cs xs : List Value) → length cs ≡ length xs
    → AllByRecursion (λ c. is_null c ≡ false) cs
    → choice_values (Of primitive.Bool) (Of p) (Of p) cs xs xs ≡ Ok xs
choices_are p cs xs e h =
    ap (λ j. in_judged j (λ p. Ok (chosen_values cs xs xs))) (choice_type_is p)
    ∙ ap (λ vs. Ok vs) (chosen_are cs xs e h)

-- ---- comparisons

opposite_holds : (how : Compare) (a b : ℤ) → not (holds how a b) ≡ holds (opposite how) a b
opposite_holds compare.Eq a b = refl
opposite_holds compare.Ne a b = twice (int_eq a b)
  where
    twice : (c : Bool) → not (not c) ≡ c
    twice true = refl
    twice false = refl
opposite_holds compare.Lt a b = grind (arith, ints)
opposite_holds compare.Le a b = grind (arith, ints)
opposite_holds compare.Gt a b = grind (arith, ints)
opposite_holds compare.Ge a b = grind (arith, ints)

-- what a comparison gives, which is never a fault
abbrev pub tested : Compare → Value → Value → Value
tested how x y =
    if is_null x || is_null y then null else truth (holds how (number_of x) (number_of y))

abbrev value_by : Bool → Value → Value → Result Value Fault
value_by b v w = if b then Ok v else Ok w

pub test_is : (how : Compare) (p : Primitive) (x y : Value)
    → binary_at (Test how) p x y ≡ Ok (tested how x y)
test_is how p x y = go (is_null x || is_null y)
  where
    go : (b : Bool)
        → value_by b null (truth (holds how (number_of x) (number_of y)))
        ≡ Ok (if b then null else truth (holds how (number_of x) (number_of y)))
    go true = refl
    go false = refl

not_truth : (b : Bool) → unary_at Not primitive.Bool (truth b) ≡ Ok (truth (not b))
not_truth true = refl
not_truth false = refl

pub not_tested : (how : Compare) (x y : Value)
    → unary_at Not primitive.Bool (tested how x y) ≡ Ok (tested (opposite how) x y)
not_tested how x y = go (is_null x || is_null y)
  where
    go : (b : Bool)
        → unary_at Not primitive.Bool
        (if b then null else truth (holds how (number_of x) (number_of y)))
        ≡ Ok (if b then null else truth (holds (opposite how) (number_of x) (number_of y)))
    go true = refl
    go false =
        not_truth (holds how (number_of x) (number_of y))
        ∙ ap (λ c. Ok (truth c)) (opposite_holds how (number_of x) (number_of y))

pub negation_is : (how : Compare) (p : Primitive) (x y : Value)
    → on_result (unary_at Not primitive.Bool) (binary_at (Test how) p x y)
    ≡ binary_at (Test (opposite how)) p x y
negation_is how p x y =
    ap (on_result (unary_at Not primitive.Bool)) (test_is how p x y) ∙ not_tested how x y
    ∙ sym (test_is (opposite how) p x y)

-- what is a value at each place
all_fine : (f : Value → Value → Result Value Fault) (t : Value → Value → Value)
    → ((x y : Value) → f x y ≡ Ok (t x y)) → (xs ys : List Value)
    → all_values (zip2 f xs ys) ≡ Ok (zip2 t xs ys)
all_fine f t h [] ys = refl
all_fine f t h (x ∷ xs) [] = refl
all_fine f t h (x ∷ xs) (y ∷ ys) = ap₂ first_fault_or (h x y) (all_fine f t h xs ys)

-- and one more operation after it
all_after : (h : Value → Result Value Fault) (t u : Value → Value → Value)
    → ((x y : Value) → h (t x y) ≡ Ok (u x y)) → (xs ys : List Value)
    → all_values (map h (zip2 t xs ys)) ≡ Ok (zip2 u xs ys)
all_after h t u e [] ys = refl
all_after h t u e (x ∷ xs) [] = refl
all_after h t u e (x ∷ xs) (y ∷ ys) = ap₂ first_fault_or (e x y) (all_after h t u e xs ys)

pub negations_are : (how : Compare) (a b : LeafType) (xs ys : List Value)
    → on_result (unary_values Not (Of primitive.Bool)) (binary_values (Test how) a b xs ys)
    ≡ binary_values (Test (opposite how)) a b xs ys
negations_are how a b xs ys = go (judged (comparison_type a b) (literals_overflow a b))
  where
    go : (j : Result Primitive Fault)
        → on_result (unary_values Not (Of primitive.Bool))
        (in_judged j (λ p. all_values (zip2 (binary_at (Test how) p) xs ys)))
        ≡ in_judged j (λ p. all_values (zip2 (binary_at (Test (opposite how)) p) xs ys))
    go (Err w) = refl
    go (Ok p) =
        ap (on_result (unary_values Not (Of primitive.Bool)))
        (all_fine (binary_at (Test how) p) (tested how) (test_is how p) xs ys)
        ∙ all_after (unary_at Not primitive.Bool) (tested how) (tested (opposite how))
        (not_tested how) xs ys
        ∙ sym (all_fine (binary_at (Test (opposite how)) p) (tested (opposite how))
        (test_is (opposite how) p) xs ys)

-- ---- quotients and remainders

one_more_time : (q d : ℕ) → suc q * d ≡ q * d + d
one_more_time q d = grind arith

-- by a divisor above 0
above : (a : ℤ) (n : ℕ)
    → IsDivision a (pos (suc n)) (int_div_euclid a (pos (suc n))) (int_rem_euclid a (pos (suc n)))
above (pos m) n = record {
  dividend = ap pos (div-add-mod' m (suc n));
  remainder = inl (omega (arith, ints), omega (arith, ints));
}
above (negsuc m) n = record {
  dividend = omega (arith, ints, one_more_time (m / suc n) (suc n), div-add-mod' m (suc n));
  remainder = inl (omega (arith, ints), omega (arith, ints));
}

both_negative : (x r a : ℤ) → x +ℤ r ≡ neg_ℤ a → neg_ℤ x +ℤ neg_ℤ r ≡ a
both_negative x r a e = omega (arith, ints, e)

below_negative : (r : ℤ) (n : ℕ) → IsBelowDivisor r (pos (suc n))
    → IsBelowDivisor (neg_ℤ r) (negsuc n)
below_negative r n (inl h) = inr (omega (arith, ints, h.1), omega (arith, ints, h.0))
below_negative r n (inr h) = absurd (omega (arith, ints, h.0, h.1))

floors : (a b : ℤ) → int_eq b (pos 0) ≡ false → IsDivision a b (floor_div a b) (floor_rem a b)
floors a (pos zero) e = absurd (cc)
floors a (pos (suc n)) e = above a n
floors a (negsuc n) e =
    let h = above (neg_ℤ a) n in
    let q = int_div_euclid (neg_ℤ a) (pos (suc n)) in
    let r = int_rem_euclid (neg_ℤ a) (pos (suc n)) in
    record {
      dividend =
          ap (λ x. x +ℤ neg_ℤ r) (*ℤ-negsuc q n)
          ∙ both_negative (q *ℤ pos (suc n)) r a h.dividend;
      remainder = below_negative r n h.remainder;
    }

number_told : (r : Result ℤ Why) (q : ℤ) → number_or_fault r ≡ Ok (int q) → r ≡ Ok q
number_told (Ok z) q e = cc
number_told (Err w) q e = absurd (cc)

abbrev within_by : Bool → ℤ → Result ℤ Why
within_by b z = cond b (Err why.Overflow) (Ok z)

within_told : (lo hi z q : ℤ) → within lo hi z ≡ Ok q → z ≡ q
within_told lo hi z q e = go (int_lt z lo || int_lt hi z) e
  where
    go : (b : Bool) → within_by b z ≡ Ok q → z ≡ q
    go true e = absurd (cc)
    go false e = cc

exact_told : (b : Bool) (lo hi z q : ℤ)
    → number_or_fault (cond b (Err why.Zero) (within lo hi z)) ≡ Ok (int q)
    → (b ≡ false) × (z ≡ q)
exact_told true lo hi z q e = absurd (cc)
exact_told false lo hi z q e =
    (refl, within_told lo hi z q (number_told (within lo hi z) q e))

pub division_is : (p : Primitive) (a b q r : ℤ)
    → binary_at (Calculate FloorDiv) p (int a) (int b) ≡ Ok (int q)
    → binary_at (Calculate Rem) p (int a) (int b) ≡ Ok (int r) → IsDivision a b q r
division_is p a b q r e f =
    let lo = least_number p in
    let hi = greatest_number p in
    let h = exact_told (int_eq b (pos 0)) lo hi (floor_div a b) q e in
    let k = exact_told (int_eq b (pos 0)) lo hi (floor_rem a b) r f in
    subst (λ q. IsDivision a b q r) h.1
    (subst (λ r. IsDivision a b (floor_div a b) r) k.1 (floors a b h.0))

-- ---- signs

twice_negative : (z : ℤ) → neg_ℤ (neg_ℤ z) ≡ z
twice_negative (pos zero) = refl
twice_negative (pos (suc n)) = refl
twice_negative (negsuc n) = refl

inside : (lo hi z : ℤ) → lo ≤ℤ z → z ≤ℤ hi → within lo hi z ≡ Ok z
inside lo hi z l m =
    ap (λ b. within_by b z) (not_past lo hi z l m)
  where
    not_past : (lo hi z : ℤ) → lo ≤ℤ z → z ≤ℤ hi → (int_lt z lo || int_lt hi z) ≡ false
    not_past lo hi z l m = grind (arith, ints)

negative_number : (p : Primitive) (z : ℤ) (y : Value) → Holds p z
    → held_by p (neg_ℤ z) ≡ Ok y → unary_at Negate p y ≡ Ok (int z)
negative_number p z y h e = go (int_lt (neg_ℤ z) lo || int_lt hi (neg_ℤ z)) e
  where
    lo : ℤ
    lo = least_number p

    hi : ℤ
    hi = greatest_number p

    go : (b : Bool) → number_or_fault (within_by b (neg_ℤ z)) ≡ Ok y
        → unary_at Negate p y ≡ Ok (int z)
    go true e = absurd (cc)
    go false e =
        let same : int (neg_ℤ z) ≡ y = cc in
        ap (unary_at Negate p) (sym same)
        ∙ ap (λ z. number_or_fault (within (least_number p) (greatest_number p) z))
        (twice_negative z)
        ∙ ap number_or_fault (inside (least_number p) (greatest_number p) z h.0 h.1)

pub no_truth : (p : Primitive) (b : Bool) → is_whole p ≡ true → Has (leaf p) (truth b) → ⊥
no_truth primitive.Bool b w h = absurd (true≢false (sym w))
no_truth primitive.I8 b w h = h
no_truth primitive.I16 b w h = h
no_truth primitive.I32 b w h = h
no_truth primitive.I64 b w h = h
no_truth primitive.U8 b w h = h
no_truth primitive.U16 b w h = h
no_truth primitive.U32 b w h = h
no_truth primitive.U64 b w h = h

pub negative_is : (p : Primitive) (x y : Value) → is_whole p ≡ true → Has (opt (leaf p)) x
    → unary_at Negate p x ≡ Ok y → unary_at Negate p y ≡ Ok x
negative_is p null y w h e =
    let same : null ≡ y = cc in
    ap (unary_at Negate p) (sym same)
negative_is p (int z) y w h e = negative_number p z y h e
negative_is p (truth b) y w h e = absurd (no_truth p b w h)
negative_is p (list vs) y w h e = absurd h
negative_is p (row vs) y w h e = absurd h
negative_is p (alt k v) y w h e = absurd h

-- ---- operands that change places

pub or_turned : (b c : Bool) → (b || c) ≡ (c || b)
or_turned true true = refl
or_turned true false = refl
or_turned false true = refl
or_turned false false = refl

pub promotion_turned : (p q : Primitive) → promotion p q ≡ promotion q p
promotion_turned primitive.Bool primitive.Bool = refl
promotion_turned primitive.Bool primitive.I8 = refl
promotion_turned primitive.Bool primitive.I16 = refl
promotion_turned primitive.Bool primitive.I32 = refl
promotion_turned primitive.Bool primitive.I64 = refl
promotion_turned primitive.Bool primitive.U8 = refl
promotion_turned primitive.Bool primitive.U16 = refl
promotion_turned primitive.Bool primitive.U32 = refl
promotion_turned primitive.Bool primitive.U64 = refl
promotion_turned primitive.I8 primitive.Bool = refl
promotion_turned primitive.I8 primitive.I8 = refl
promotion_turned primitive.I8 primitive.I16 = refl
promotion_turned primitive.I8 primitive.I32 = refl
promotion_turned primitive.I8 primitive.I64 = refl
promotion_turned primitive.I8 primitive.U8 = refl
promotion_turned primitive.I8 primitive.U16 = refl
promotion_turned primitive.I8 primitive.U32 = refl
promotion_turned primitive.I8 primitive.U64 = refl
promotion_turned primitive.I16 primitive.Bool = refl
promotion_turned primitive.I16 primitive.I8 = refl
promotion_turned primitive.I16 primitive.I16 = refl
promotion_turned primitive.I16 primitive.I32 = refl
promotion_turned primitive.I16 primitive.I64 = refl
promotion_turned primitive.I16 primitive.U8 = refl
promotion_turned primitive.I16 primitive.U16 = refl
promotion_turned primitive.I16 primitive.U32 = refl
promotion_turned primitive.I16 primitive.U64 = refl
promotion_turned primitive.I32 primitive.Bool = refl
promotion_turned primitive.I32 primitive.I8 = refl
promotion_turned primitive.I32 primitive.I16 = refl
promotion_turned primitive.I32 primitive.I32 = refl
promotion_turned primitive.I32 primitive.I64 = refl
promotion_turned primitive.I32 primitive.U8 = refl
promotion_turned primitive.I32 primitive.U16 = refl
promotion_turned primitive.I32 primitive.U32 = refl
promotion_turned primitive.I32 primitive.U64 = refl
promotion_turned primitive.I64 primitive.Bool = refl
promotion_turned primitive.I64 primitive.I8 = refl
promotion_turned primitive.I64 primitive.I16 = refl
promotion_turned primitive.I64 primitive.I32 = refl
promotion_turned primitive.I64 primitive.I64 = refl
promotion_turned primitive.I64 primitive.U8 = refl
promotion_turned primitive.I64 primitive.U16 = refl
promotion_turned primitive.I64 primitive.U32 = refl
promotion_turned primitive.I64 primitive.U64 = refl
promotion_turned primitive.U8 primitive.Bool = refl
promotion_turned primitive.U8 primitive.I8 = refl
promotion_turned primitive.U8 primitive.I16 = refl
promotion_turned primitive.U8 primitive.I32 = refl
promotion_turned primitive.U8 primitive.I64 = refl
promotion_turned primitive.U8 primitive.U8 = refl
promotion_turned primitive.U8 primitive.U16 = refl
promotion_turned primitive.U8 primitive.U32 = refl
promotion_turned primitive.U8 primitive.U64 = refl
promotion_turned primitive.U16 primitive.Bool = refl
promotion_turned primitive.U16 primitive.I8 = refl
promotion_turned primitive.U16 primitive.I16 = refl
promotion_turned primitive.U16 primitive.I32 = refl
promotion_turned primitive.U16 primitive.I64 = refl
promotion_turned primitive.U16 primitive.U8 = refl
promotion_turned primitive.U16 primitive.U16 = refl
promotion_turned primitive.U16 primitive.U32 = refl
promotion_turned primitive.U16 primitive.U64 = refl
promotion_turned primitive.U32 primitive.Bool = refl
promotion_turned primitive.U32 primitive.I8 = refl
promotion_turned primitive.U32 primitive.I16 = refl
promotion_turned primitive.U32 primitive.I32 = refl
promotion_turned primitive.U32 primitive.I64 = refl
promotion_turned primitive.U32 primitive.U8 = refl
promotion_turned primitive.U32 primitive.U16 = refl
promotion_turned primitive.U32 primitive.U32 = refl
promotion_turned primitive.U32 primitive.U64 = refl
promotion_turned primitive.U64 primitive.Bool = refl
promotion_turned primitive.U64 primitive.I8 = refl
promotion_turned primitive.U64 primitive.I16 = refl
promotion_turned primitive.U64 primitive.I32 = refl
promotion_turned primitive.U64 primitive.I64 = refl
promotion_turned primitive.U64 primitive.U8 = refl
promotion_turned primitive.U64 primitive.U16 = refl
promotion_turned primitive.U64 primitive.U32 = refl
promotion_turned primitive.U64 primitive.U64 = refl

zipped_turned : (f g : Value → Value → Result Value Fault) → ((x y : Value) → f x y ≡ g y x)
    → (xs ys : List Value) → zip2 f xs ys ≡ zip2 g ys xs
zipped_turned f g h [] [] = refl
zipped_turned f g h [] (y ∷ ys) = refl
zipped_turned f g h (x ∷ xs) [] = refl
zipped_turned f g h (x ∷ xs) (y ∷ ys) = ap₂ (λ r rs. r ∷ rs) (h x y) (zipped_turned f g h xs ys)

module _ (op : Arith)
    (turned : (lo hi a b : ℤ) → result op lo hi a b ≡ result op lo hi b a) where
  pub turned_at : (p : Primitive) (x y : Value)
      → binary_at (Calculate op) p x y ≡ binary_at (Calculate op) p y x
  turned_at p x y =
      ap₂ (λ b r. if b then Ok null else number_or_fault r) (or_turned (is_null x) (is_null y))
      (turned (least_number p) (greatest_number p) (number_of x) (number_of y))

  pub turned_columns : (a b : LeafType) (xs ys : List Value)
      → binary_values (Calculate op) a b xs ys ≡ binary_values (Calculate op) b a ys xs
  turned_columns a b xs ys =
      ap (λ j. in_judged j (λ p. all_values (zip2 (binary_at (Calculate op) p) xs ys)))
      (ap₂ judged (promotion_turned (type_beside a b) (type_beside b a))
      (or_turned (overflows a b) (overflows b a)))
      ∙ go (judged (number_type b a) (one_overflows b a))
    where
      go : (j : Result Primitive Fault)
          → in_judged j (λ p. all_values (zip2 (binary_at (Calculate op) p) xs ys))
          ≡ in_judged j (λ p. all_values (zip2 (binary_at (Calculate op) p) ys xs))
      go (Err w) = refl
      go (Ok p) =
          ap all_values (zipped_turned (binary_at (Calculate op) p) (binary_at (Calculate op) p)
          (turned_at p) xs ys)

pub sum_turned : (lo hi a b : ℤ) → result Add lo hi a b ≡ result Add lo hi b a
sum_turned lo hi a b = ap (within lo hi) (+ℤ_comm a b)

pub product_turned : (lo hi a b : ℤ) → result Mul lo hi a b ≡ result Mul lo hi b a
product_turned lo hi a b = ap (within lo hi) (*ℤ_comm a b)
