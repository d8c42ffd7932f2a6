-- Operations on one number at each place.
use Rattle.std.proofs.Common.{◌≡◌, ℕ, suc, ◌<◌, ◌≤◌, List, [], ◌∷◌, length, map, replicate, get_or}
use Rattle.std.proofs.Common.{refl, ap, ap₂, sym, subst, ◌∙◌, arith, w64}
use Rattle.std.specs.Prelude.{ℤ, pos, negsuc, ◌+ℤ◌, ◌-ℤ◌, neg_ℤ, Bool, true, false, ◌||◌, not}
use Rattle.std.specs.Prelude.{int_lt, cond, slice_range, Some, Result, Ok, Err, IfOk}
use Rattle.std.specs.Prelude.{if◌then◌else◌, FitsSigned}
use Rattle.std.specs.List.{AllByRecursion}
use Rattle.std.specs.Ordering.{int_eq}
use Rattle.std.specs.Simd.Lanes.{zip2}
use Rattle.std.proofs.lemmas.Int.{ints}
use Rattle.std.proofs.lemmas.List.{length-map}
use Rattle.awk_base.proofs.Every.{all-impl}
use Rattle.awk_types.specs.Faults.{fault_told}
use Rattle.awk_types.specs.Gives.{Gives, Told}
use Rattle.awk_types.specs.Has.{least_number, greatest_number, Holds}
use Rattle.awk_types.specs.Parts.{number_of}
use Rattle.awk_types.specs.Predicates.{is_null}
use Rattle.awk_primitives.specs.Promotion.{is_whole}
use Rattle.awk_types.specs.Value.{Value, int, null, truth}
use Rattle.awk_types.specs.declared.fault.Fault.{Fault}
use Rattle.awk_types.specs.declared.primitive.Primitive.{Primitive}
use Rattle.awk_types.specs.declared.primitive.Primitive.TheVariants as prim
use Rattle.awk_lanes.specs.Column.{Column}
use Rattle.awk_lanes.specs.Numbers.{nat_of}
use Rattle.awk_lanes.specs.Words.{column, integers}
use Rattle.awk_lanes.specs.declared.kind.Kind.TheVariants.{Bool as Truths}
use Rattle.awk_kernels.specs.Kernels.{compared}
use Rattle.awk_kernels.specs.Operations.{within, leaf, holds}
use Rattle.awk_kernels.specs.declared.operation.Arith.TheVariants.{Add, Sub}
use Rattle.awk_kernels.specs.declared.operation.Why.TheVariants.{Overflow}
use Rattle.awk_kernels.specs.declared.operation.Compare.{Compare}
use Rattle.awk_kernels.specs.declared.operation.Compare.TheVariants.{Eq, Ne}
use Rattle.awk_layout.specs.Kinds.{kind_of}
use Rattle.awk_leaves.specs.Values.{held_by, is_nonzero, all_values, unary_on, unary_at}
use Rattle.awk_leaves.specs.Values.{first_fault_or}
use Rattle.awk_leaves.specs.LeafTypes.{type_beside, whole_type, truth_type, overflows}
use Rattle.awk_leaves.specs.Table.{unary_judged}
use Rattle.awk_leaves.specs.declared.leaf_type.LeafType.{LeafType}
use Rattle.awk_leaves.specs.declared.leaf_type.LeafType.TheVariants.{Of, Unknown, Literal}
use Rattle.awk_leaves.specs.declared.operation.Unary.{Unary}
use Rattle.awk_leaves.specs.declared.operation.Unary.TheVariants.{Not, Negate, Absolute, Cast}
use Rattle.awk_pointwise.specs.Numbers.{all_numbers, prim_leaves, int_leaves, nat_leaves}
use Rattle.awk_pointwise.specs.Numbers.{greatest_int64, IsInt64, IsPresent, AreNumbersOf, IsTyped}
use Rattle.awk_pointwise.specs.Numbers.{AreTyped, word_numbers}
use Rattle.awk_pointwise.specs.declared.words.Words.{Words}
use Rattle.awk_pointwise.specs.Blocks.{side_part}
use Rattle.awk_pointwise.specs.Sides.{lane_values, side_values, IsSide}
use Rattle.awk_pointwise.specs.declared.sides.Side.{Side}
use Rattle.awk_pointwise.specs.Single.{zeros_beside, held, held_all, size_of_number, below_zero}
use Rattle.awk_pointwise.specs.Single.{IsReady}
use Rattle.awk_pointwise.proofs.CalculatedLaws.{int_values, int_lane, more_int, told_values}
use Rattle.awk_pointwise.proofs.CalculatedLaws.{read_truth}
use Rattle.awk_lanes.specs.Ranges.{AreNumbers}
use Rattle.awk_lanes.proofs.RangeLaws.{fits_64}
use Rattle.awk_pointwise.proofs.BlockLaws.{part-map, part_is, length-side}
use Rattle.awk_pointwise.proofs.RangeLaws.{beside_holds, results_numbers}
use Rattle.awk_pointwise.proofs.SideLaws.{all-map, all-replicate}
use Rattle.awk_pointwise.proofs.ReadyLaws.{judged_ok, truths_bool}

-- ---- zeros beside numbers

first_zeros : {X : Type 0} (f : ℤ → ℤ → X) (g : ℤ → X) (xs : List ℤ)
    → ((x : ℤ) → f (pos 0) x ≡ g x) → zip2 f (zeros_beside xs) xs ≡ map g xs
first_zeros f g [] h = refl
first_zeros f g (x ∷ xs) h = ap₂ (λ y ys. y ∷ ys) (h x) (first_zeros f g xs h)

second_zeros : {X : Type 0} (P : ℤ → Type 0) (f : ℤ → ℤ → X) (g : ℤ → X) (xs : List ℤ)
    → ((x : ℤ) → P x → f x (pos 0) ≡ g x) → AllByRecursion P xs
    → zip2 f xs (zeros_beside xs) ≡ map g xs
second_zeros P f g [] h a = refl
second_zeros P f g (x ∷ xs) h a =
    ap₂ (λ y ys. y ∷ ys) (h x a.0) (second_zeros P f g xs h a.1)

same_zeros : {X : Type 0} (P : ℤ → Type 0) (f g : ℤ → ℤ → X) (xs : List ℤ)
    → ((x : ℤ) → P x → f x (pos 0) ≡ g x (pos 0)) → AllByRecursion P xs
    → zip2 f xs (zeros_beside xs) ≡ zip2 g xs (zeros_beside xs)
same_zeros P f g [] h a = refl
same_zeros P f g (x ∷ xs) h a = ap₂ (λ y ys. y ∷ ys) (h x a.0) (same_zeros P f g xs h a.1)

minus : (z : ℤ) → pos 0 -ℤ z ≡ neg_ℤ z
minus z = grind (arith, ints)

plus : (z : ℤ) → z +ℤ pos 0 ≡ z
plus z = grind (arith, ints)

pub negated_all : (p : Primitive) (xs : List ℤ)
    → prim_leaves Sub p (zeros_beside xs) xs ≡ held_all neg_ℤ p xs
negated_all p xs =
    first_zeros (leaf Sub (least_number p) (greatest_number p)) (λ z. held p (neg_ℤ z)) xs
    (λ z. ap (held p) (minus z))

minus_below : (z : ℤ) → pos 0 -ℤ below_zero z ≡ size_of_number z
minus_below (pos n) = grind (arith, ints)
minus_below (negsuc n) = grind (arith, ints)

pub sizes_all : (p : Primitive) (xs : List ℤ)
    → prim_leaves Sub p (zeros_beside xs) (map below_zero xs) ≡ held_all size_of_number p xs
sizes_all p [] = refl
sizes_all p (x ∷ xs) =
    ap₂ (λ y ys. y ∷ ys) (ap (held p) (minus_below x)) (sizes_all p xs)

size_plus : (z : ℤ) → Holds prim.U64 z → z +ℤ pos 0 ≡ size_of_number z
size_plus (pos n) h = grind (arith, ints)
size_plus (negsuc n) h = absurd (grind (arith, ints, h.0))

pub sizes_nats : (xs : List ℤ) → AllByRecursion (Holds prim.U64) xs
    → prim_leaves Add prim.U64 xs (zeros_beside xs) ≡ held_all size_of_number prim.U64 xs
sizes_nats xs a =
    second_zeros (Holds prim.U64) (leaf Add (least_number prim.U64) (greatest_number prim.U64))
    (λ z. held prim.U64 (size_of_number z)) xs
    (λ z h. ap (held prim.U64) (size_plus z h)) a

-- ---- casts

past_int64 : (z : ℤ) → IsInt64 z → int_lt (pos 9223372036854775807) z ≡ false
past_int64 z h = grind (arith, ints, h.1)

past_nat64 : (z : ℤ) → IsInt64 z → int_lt (pos 18446744073709551615) z ≡ false
past_nat64 z h = grind (arith, ints, h.1)

-- a number that fits an i64 is judged by the greatest number that fits one
int_within : (p : Primitive) (z : ℤ) → IsInt64 z
    → within (least_number p) (greatest_int64 p) z ≡ held p z
int_within prim.Bool z h = refl
int_within prim.I8 z h = refl
int_within prim.I16 z h = refl
int_within prim.I32 z h = refl
int_within prim.I64 z h = refl
int_within prim.U8 z h = refl
int_within prim.U16 z h = refl
int_within prim.U32 z h = refl
int_within prim.U64 z h =
    ap (λ b. cond (int_lt z (pos 0) || b) (Err Overflow) (Ok z))
    (past_int64 z h ∙ sym (past_nat64 z h))

pub cast_of_ints : (p : Primitive) (xs : List ℤ) → AllByRecursion IsInt64 xs
    → int_leaves Add p xs (zeros_beside xs) ≡ prim_leaves Add p xs (zeros_beside xs)
cast_of_ints p xs a =
    same_zeros IsInt64 (leaf Add (least_number p) (greatest_int64 p))
    (leaf Add (least_number p) (greatest_number p)) xs
    (λ z h. ap (within (least_number p) (greatest_int64 p)) (plus z) ∙ int_within p z h
    ∙ ap (held p) (sym (plus z))) a

not_negative : (n : ℕ) → int_lt (pos n) (pos 0) ≡ false
not_negative n = grind (arith, ints)

-- a number that is not negative is judged by the greatest number alone
nat_within : (p : Primitive) (n : ℕ) → is_whole p ≡ true
    → within (pos 0) (pos (nat_of (greatest_number p))) (pos n) ≡ held p (pos n)
nat_within prim.Bool n w = absurd (cc)
nat_within prim.I8 n w =
    ap (λ b. cond (b || int_lt (pos 127) (pos n)) (Err Overflow) (Ok (pos n))) (not_negative n)
nat_within prim.I16 n w =
    ap (λ b. cond (b || int_lt (pos 32767) (pos n)) (Err Overflow) (Ok (pos n))) (not_negative n)
nat_within prim.I32 n w =
    ap (λ b. cond (b || int_lt (pos 2147483647) (pos n)) (Err Overflow) (Ok (pos n)))
    (not_negative n)
nat_within prim.I64 n w =
    ap (λ b. cond (b || int_lt (pos 9223372036854775807) (pos n)) (Err Overflow) (Ok (pos n)))
    (not_negative n)
nat_within prim.U8 n w = refl
nat_within prim.U16 n w = refl
nat_within prim.U32 n w = refl
nat_within prim.U64 n w = refl

pub cast_of_nats : (p : Primitive) (ns : List ℕ) → is_whole p ≡ true
    → nat_leaves Add p (integers ns) (zeros_beside (integers ns))
    ≡ prim_leaves Add p (integers ns) (zeros_beside (integers ns))
cast_of_nats p [] w = refl
cast_of_nats p (n ∷ ns) w =
    ap₂ (λ y ys. y ∷ ys)
    (ap (within (pos 0) (pos (nat_of (greatest_number p)))) (plus (pos n)) ∙ nat_within p n w
    ∙ ap (held p) (sym (plus (pos n)))) (cast_of_nats p ns w)

pub added_zeros : (p : Primitive) (xs : List ℤ)
    → prim_leaves Add p xs (zeros_beside xs) ≡ held_all (λ z. z) p xs
added_zeros p [] = refl
added_zeros p (x ∷ xs) = ap₂ (λ y ys. y ∷ ys) (ap (held p) (plus x)) (added_zeros p xs)

pub zero_nats : (ns : List ℕ) → integers (replicate (length ns) 0) ≡ zeros_beside (integers ns)
zero_nats [] = refl
zero_nats (n ∷ ns) = ap (λ zs. pos 0 ∷ zs) (zero_nats ns)

all_known : (xs : List ℤ) → ((k : ℕ) → k < length xs → FitsSigned w64 (get_or xs k (pos 0)))
    → AllByRecursion IsInt64 xs
all_known [] h = tt
all_known (x ∷ xs) h =
    (fits_64 x (h 0 (omega arith)), all_known xs (λ k below. h (suc k) (omega (arith, below))))

-- numbers of an i64 each, where a primitive holds them
pub known_cast : (p : Primitive) (xs zs : List ℤ)
    → ((k : ℕ) → k < length xs → FitsSigned w64 (get_or xs k (pos 0)))
    → zs ≡ replicate (length xs) (pos 0) → int_leaves Add p xs zs ≡ held_all (λ z. z) p xs
known_cast p xs zs h e =
    ap (int_leaves Add p xs) e ∙ cast_of_ints p xs (all_known xs h) ∙ added_zeros p xs

pub nats_cast : (p : Primitive) (ns zs : List ℕ) → is_whole p ≡ true
    → zs ≡ replicate (length ns) 0
    → nat_leaves Add p (integers ns) (integers zs) ≡ held_all (λ z. z) p (integers ns)
nats_cast p ns zs w e =
    ap (λ zs. nat_leaves Add p (integers ns) (integers zs)) e
    ∙ ap (nat_leaves Add p (integers ns)) (zero_nats ns) ∙ cast_of_nats p ns w
    ∙ added_zeros p (integers ns)

-- what a primitive holds are numbers of its kind
pub held_numbers : (p : Primitive) (xs zs : List ℤ)
    → all_numbers (held_all (λ z. z) p xs) ≡ Ok zs → AreNumbers (column (kind_of p) zs)
held_numbers p xs zs e =
    results_numbers Add p xs (zeros_beside xs) zs (ap all_numbers (added_zeros p xs) ∙ e)

pub zero_held : (p : Primitive) → is_whole p ≡ true → Holds p (pos 0)
zero_held prim.Bool w = absurd (cc)
zero_held prim.I8 w = grind (arith, ints)
zero_held prim.I16 w = grind (arith, ints)
zero_held prim.I32 w = grind (arith, ints)
zero_held prim.I64 w = grind (arith, ints)
zero_held prim.U8 w = grind (arith, ints)
zero_held prim.U16 w = grind (arith, ints)
zero_held prim.U32 w = grind (arith, ints)
zero_held prim.U64 w = grind (arith, ints)

pub zeros_held : (p : Primitive) (xs : List ℤ) → is_whole p ≡ true
    → AllByRecursion (Holds p) (zeros_beside xs)
zeros_held p xs w = all-replicate (Holds p) (length xs) (pos 0) (zero_held p w)

pub zeros_int64 : (xs : List ℤ) → AllByRecursion IsInt64 (zeros_beside xs)
zeros_int64 xs = all-replicate IsInt64 (length xs) (pos 0) (grind (arith, ints))

below_int64 : (z : ℤ) → IsInt64 z → IsInt64 (below_zero z)
below_int64 (pos n) h = grind (arith, ints, h.0, h.1)
below_int64 (negsuc n) h = grind (arith, ints, h.0, h.1)

pub belows_int64 : (xs : List ℤ) → AllByRecursion IsInt64 xs
    → AllByRecursion IsInt64 (map below_zero xs)
belows_int64 xs a = all-map IsInt64 IsInt64 below_zero xs below_int64 a

-- ---- numbers as values

held_values : (f : ℤ → ℤ) (p : Primitive) (xs : List ℤ)
    → all_values (map (λ z. held_by p (f z)) xs) ≡ int_values (all_numbers (held_all f p xs))
held_values f p [] = refl
held_values f p (x ∷ xs) =
    ap (first_fault_or (held_by p (f x))) (held_values f p xs)
    ∙ more_int (held p (f x)) (all_numbers (held_all f p xs))

int_column : (p : Primitive) (c : Column) → is_whole p ≡ true → c.kind ≡ kind_of p
    → lane_values c ≡ map int c.items
int_column p c w k = ap (λ k. lane_values (column k c.items)) k ∙ int_lane p c.items w

-- a lane of numbers or a fault, as values
pub held_gives : (f : ℤ → ℤ) (p : Primitive) (xs : List ℤ) (r : Result Column Fault)
    → is_whole p ≡ true
    → Gives (λ (c : Column). c.items) fault_told r (all_numbers (held_all f p xs))
    → IfOk r (λ (c : Column). c.kind ≡ kind_of p)
    → Gives lane_values fault_told r (all_values (map (λ z. held_by p (f z)) xs))
held_gives f p xs (Ok c) w e k =
    held_values f p xs ∙ ap int_values e
    ∙ ap (λ vs. Ok vs) (sym (int_column p c w k))
held_gives f p xs (Err fault) w e k =
    subst (Told (fault_told fault)) (sym (held_values f p xs))
    (told_values (fault_told fault) (all_numbers (held_all f p xs)) e)

flag_values : (h : ℤ → Bool) (how : Compare) → ((x : ℤ) → h x ≡ holds how x (pos 0))
    → (xs : List ℤ) → all_values (map (λ x. Ok (truth (h x))) xs)
    ≡ Ok (lane_values (column Truths (integers (compared how xs (zeros_beside xs)))))
flag_values h how e [] = refl
flag_values h how e (x ∷ xs) =
    ap (first_fault_or (Ok (truth (h x)))) (flag_values h how e xs)
    ∙ ap (λ v. Ok (v ∷ lane_values (column Truths
    (integers (compared how xs (zeros_beside xs)))))) (ap truth (e x)
    ∙ sym (read_truth (holds how x (pos 0))))

twice : (b : Bool) → not (not b) ≡ b
twice true = refl
twice false = refl

pub not_values : (p : Primitive) (xs : List ℤ) → all_values (map (unary_on Not p) xs)
    ≡ Ok (lane_values (column Truths (integers (compared Eq xs (zeros_beside xs)))))
not_values p xs = flag_values (λ x. not (is_nonzero x)) Eq (λ x. twice (int_eq x (pos 0))) xs

pub truth_values : (p : Primitive) (xs : List ℤ) → all_values (map (unary_on (Cast prim.Bool) p) xs)
    ≡ Ok (lane_values (column Truths (integers (compared Ne xs (zeros_beside xs)))))
truth_values p xs = flag_values is_nonzero Ne (λ x. refl) xs

pub cast_on : (to p : Primitive) (xs : List ℤ) → is_whole to ≡ true
    → map (unary_on (Cast to) p) xs ≡ map (held_by to) xs
cast_on prim.Bool p xs w = absurd (cc)
cast_on prim.I8 p xs w = refl
cast_on prim.I16 p xs w = refl
cast_on prim.I32 p xs w = refl
cast_on prim.I64 p xs w = refl
cast_on prim.U8 p xs w = refl
cast_on prim.U16 p xs w = refl
cast_on prim.U32 p xs w = refl
cast_on prim.U64 p xs w = refl

pub whole_other : (p : Primitive) → (p ≡ prim.Bool → ⊥) → is_whole p ≡ true
whole_other prim.Bool n = absurd (n refl)
whole_other prim.I8 n = refl
whole_other prim.I16 n = refl
whole_other prim.I32 n = refl
whole_other prim.I64 n = refl
whole_other prim.U8 n = refl
whole_other prim.U16 n = refl
whole_other prim.U32 n = refl
whole_other prim.U64 n = refl

-- ---- values, none of which is null

present_single : (op : Unary) (p : Primitive) (x : Value) → is_null x ≡ false
    → unary_at op p x ≡ unary_on op p (number_of x)
present_single op p x e = ap (λ b. if b then Ok null else unary_on op p (number_of x)) e

present_singles : (op : Unary) (p : Primitive) (xs : List Value) → AllByRecursion IsPresent xs
    → map (unary_at op p) xs ≡ map (unary_on op p) (map number_of xs)
present_singles op p [] h = refl
present_singles op p (x ∷ xs) h =
    ap₂ (λ r rs. r ∷ rs) (present_single op p x h.0) (present_singles op p xs h.1)

-- the results of a part are those of the numbers of the side's part
pub single_part : (op : Unary) (t : LeafType) (p : Primitive) (n : ℕ) (x : Side) (lo hi : ℕ)
    (w : Words) → lo ≤ hi → hi ≤ n → AreNumbersOf t (side_part lo hi x) w
    → all_values (slice_range (map (unary_at op p) (side_values n x)) lo hi)
    ≡ all_values (map (unary_on op p) (word_numbers w))
single_part op t p n x lo hi w q r h =
    ap all_values (sym (part-map (unary_at op p) (side_values n x) lo hi)
    ∙ ap (map (unary_at op p)) (sym (part_is n x lo hi q r))
    ∙ present_singles op p (side_part lo hi x) h.present
    ∙ ap (map (unary_on op p)) (sym h.numbers))

pub length-single : {X : Type 0} (f : Value → X) (n : ℕ) (x : Side) → IsSide n x
    → length (map f (side_values n x)) ≡ n
length-single f n x h = length-map (side_values n x) f ∙ length-side n x h

pub unary_same : (op : Unary) (s t : LeafType) (r : Result Primitive Fault) (p : Primitive)
    → s ≡ t → r ≡ unary_judged op s → r ≡ Ok p → unary_judged op t ≡ Ok p
unary_same op s t r p e f g = ap (unary_judged op) (sym e) ∙ sym f ∙ g

-- ---- what was judged

record IsWhole (t : LeafType) (p : Primitive) : Type 0 where
  beside : type_beside t Unknown ≡ p
  whole : is_whole p ≡ true

whole_judged : (t : LeafType) (p : Primitive) → whole_type t ≡ Some p → IsWhole t p
whole_judged (Of prim.Bool) p e = absurd (cc)
whole_judged (Of prim.I8) p e = let same : prim.I8 ≡ p = cc in
    subst (IsWhole (Of prim.I8)) same (record { beside = refl; whole = refl })
whole_judged (Of prim.I16) p e = let same : prim.I16 ≡ p = cc in
    subst (IsWhole (Of prim.I16)) same (record { beside = refl; whole = refl })
whole_judged (Of prim.I32) p e = let same : prim.I32 ≡ p = cc in
    subst (IsWhole (Of prim.I32)) same (record { beside = refl; whole = refl })
whole_judged (Of prim.I64) p e = let same : prim.I64 ≡ p = cc in
    subst (IsWhole (Of prim.I64)) same (record { beside = refl; whole = refl })
whole_judged (Of prim.U8) p e = let same : prim.U8 ≡ p = cc in
    subst (IsWhole (Of prim.U8)) same (record { beside = refl; whole = refl })
whole_judged (Of prim.U16) p e = let same : prim.U16 ≡ p = cc in
    subst (IsWhole (Of prim.U16)) same (record { beside = refl; whole = refl })
whole_judged (Of prim.U32) p e = let same : prim.U32 ≡ p = cc in
    subst (IsWhole (Of prim.U32)) same (record { beside = refl; whole = refl })
whole_judged (Of prim.U64) p e = let same : prim.U64 ≡ p = cc in
    subst (IsWhole (Of prim.U64)) same (record { beside = refl; whole = refl })
whole_judged Unknown p e = let same : prim.I64 ≡ p = cc in
    subst (IsWhole Unknown) same (record { beside = refl; whole = refl })
whole_judged (Literal y) p e = let same : prim.I64 ≡ p = cc in
    subst (IsWhole (Literal y)) same (record { beside = refl; whole = refl })

-- the numbers of whole numbers are those of their primitive
sign_ready : (t : LeafType) (p : Primitive) (zs : List ℤ) → whole_type t ≡ Some p
    → overflows t Unknown ≡ false → AreTyped t zs
    → (is_whole p ≡ true) × AllByRecursion (Holds p) zs
sign_ready t p zs e o a =
    let w = whole_judged t p e in
    let first : is_whole (type_beside t Unknown) ≡ true = ap is_whole w.beside ∙ w.whole in (
      w.whole,
      subst (λ p. AllByRecursion (Holds p) zs) w.beside
          (all-impl (IsTyped t) (Holds (type_beside t Unknown)) zs
          (λ z h. beside_holds t Unknown z first o h) a),
    )

pub single_ready : (op : Unary) (t : LeafType) (p : Primitive) (zs : List ℤ)
    → unary_judged op t ≡ Ok p → AreTyped t zs → IsReady op p zs
single_ready Not t p zs e a =
    let j = judged_ok (truth_type t) (overflows t Unknown) p e in truths_bool t p j.typed
single_ready Negate t p zs e a =
    let j = judged_ok (whole_type t) (overflows t Unknown) p e in
    sign_ready t p zs j.typed j.fits a
single_ready Absolute t p zs e a =
    let j = judged_ok (whole_type t) (overflows t Unknown) p e in
    sign_ready t p zs j.typed j.fits a
single_ready (Cast to) t p zs e a =
    let j = judged_ok (Some to) (overflows t Unknown) p e in cc
