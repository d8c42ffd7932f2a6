-- Results at each place, or the fault of the first place that has one.
use Rattle.std.proofs.Common.{◌≡◌, ℕ, ◌+◌, List, [], ◌∷◌, map, refl, ap, ap₂, sym, subst, ◌∙◌}
use Rattle.std.specs.Prelude.{ℤ, pos, Bool, true, false, ◌||◌, if◌then◌else◌, Option, Some, None}
use Rattle.std.specs.Prelude.{Result, Ok, Err, IfOk}
use Rattle.std.specs.Int.{from_bool}
use Rattle.std.specs.List.{AllByRecursion}
use Rattle.std.specs.Simd.Lanes.{zip2}
use Rattle.std.proofs.lemmas.Option.{same_Some}
use Rattle.awk_types.specs.Faults.{fault_told}
use Rattle.awk_types.specs.Gives.{Gives, Told}
use Rattle.awk_types.specs.Has.{least_number, greatest_number}
use Rattle.awk_types.specs.Parts.{number_of}
use Rattle.awk_types.specs.Predicates.{is_null}
use Rattle.awk_primitives.specs.Promotion.{is_whole}
use Rattle.awk_types.specs.Value.{Value, int, truth, null}
use Rattle.awk_types.specs.declared.fault.Fault.{Fault}
use Rattle.awk_types.specs.declared.primitive.Primitive.{Primitive}
use Rattle.awk_types.specs.declared.primitive.Primitive.TheVariants as prim
use Rattle.awk_lanes.specs.Column.{Column}
use Rattle.awk_lanes.specs.Numbers as lanes
use Rattle.awk_lanes.specs.Words.{column}
use Rattle.awk_lanes.specs.declared.kind.Kind.TheVariants.{Bool as Truths}
use Rattle.awk_kernels.specs.Kernels.{first_broken_from, first_broken, leaves, compared}
use Rattle.awk_kernels.specs.Operations.{leaf, holds}
use Rattle.awk_kernels.specs.declared.operation.Arith.{Arith}
use Rattle.awk_kernels.specs.declared.operation.Broken.{Broken}
use Rattle.awk_kernels.specs.declared.operation.Compare.{Compare}
use Rattle.awk_kernels.specs.declared.operation.Why.{Why}
use Rattle.awk_kernels.specs.declared.operation.Why.TheVariants as why
use Rattle.awk_layout.specs.Item.{leaf_value}
use Rattle.awk_layout.specs.Kinds.{kind_of}
use Rattle.awk_leaves.specs.Values.{fault_of, number_or_fault, binary_on, binary_at}
use Rattle.awk_leaves.specs.Values.{joined, is_nonzero, first_fault_or, all_values}
use Rattle.awk_leaves.specs.declared.operation.Binary.{Binary}
use Rattle.awk_leaves.specs.declared.operation.Binary.TheVariants.{Calculate, Test, Join}
use Rattle.awk_leaves.specs.declared.operation.Logic.{Logic}
use Rattle.awk_pointwise.specs.Numbers.{with_number, all_numbers, prim_leaves, joined_bytes}
use Rattle.awk_pointwise.specs.Numbers.{IsPresent}
use Rattle.awk_pointwise.specs.Sides.{lane_values}

-- ---- the first place that has no result

broken_from : (i : ℕ) (rs : List (Result ℤ Why)) (b : Broken) → first_broken_from i rs ≡ Some b
    → all_numbers rs ≡ Err (fault_of b.why)
broken_from i [] b e = absurd (cc)
broken_from i (Ok z ∷ rs) b e = ap (with_number (Ok z)) (broken_from (i + 1) rs b e)
broken_from i (Err w ∷ rs) b e =
    let r : Broken = record { place = i; why = w } in
    ap (λ (b : Broken). Err (fault_of b.why)) (same_Some r b e)

told : (w : Why) (f : Fault) (said : Result (List ℤ) Fault) → f ≡ fault_of w
    → said ≡ Err (fault_of w) → Told (fault_told f) said
told why.Overflow f said e h = subst (λ f. Told (fault_told f) said) (sym e) h
told why.Zero f said e h = subst (λ f. Told (fault_told f) said) (sym e) h

pub broken_told : (rs : List (Result ℤ Why)) (b : Broken) (f : Fault) → Some b ≡ first_broken rs
    → f ≡ fault_of b.why → Told (fault_told f) (all_numbers rs)
broken_told rs b f e h = told b.why f (all_numbers rs) h (broken_from 0 rs b (sym e))

all_ok : (zs : List ℤ) → all_numbers (map (λ z. Ok z) zs) ≡ Ok zs
all_ok [] = refl
all_ok (z ∷ zs) = ap (with_number (Ok z)) (all_ok zs)

pub all_written : (zs : List ℤ) (rs : List (Result ℤ Why)) → map (λ z. Ok z) zs ≡ rs
    → all_numbers rs ≡ Ok zs
all_written zs rs e = ap all_numbers (sym e) ∙ all_ok zs

all_ok_nats : (ns : List ℕ) → all_numbers (map (λ n. Ok (pos n)) ns) ≡ Ok (map pos ns)
all_ok_nats [] = refl
all_ok_nats (n ∷ ns) = ap (with_number (Ok (pos n))) (all_ok_nats ns)

pub all_written_nats : (ns : List ℕ) (rs : List (Result ℤ Why)) → map (λ n. Ok (pos n)) ns ≡ rs
    → all_numbers rs ≡ Ok (map pos ns)
all_written_nats ns rs e = ap all_numbers (sym e) ∙ all_ok_nats ns

-- ---- numbers as values

-- whole numbers as values
abbrev pub int_values : Result (List ℤ) Fault → Result (List Value) Fault
int_values (Ok zs) = Ok (map int zs)
int_values (Err f) = Err f

pub more_int : (r : Result ℤ Why) (rest : Result (List ℤ) Fault)
    → first_fault_or (number_or_fault r) (int_values rest) ≡ int_values (with_number r rest)
more_int (Ok z) (Ok zs) = refl
more_int (Ok z) (Err f) = refl
more_int (Err y) rest = refl

pub calculated_values : (op : Arith) (p : Primitive) (xs ys : List ℤ)
    → all_values (zip2 (binary_on (Calculate op) p) xs ys)
    ≡ int_values (all_numbers (leaves op (least_number p) (greatest_number p) xs ys))
calculated_values op p [] ys = refl
calculated_values op p (x ∷ xs) [] = refl
calculated_values op p (x ∷ xs) (y ∷ ys) =
    ap (first_fault_or (binary_on (Calculate op) p x y)) (calculated_values op p xs ys)
    ∙ more_int (leaf op (least_number p) (greatest_number p) x y)
    (all_numbers (leaves op (least_number p) (greatest_number p) xs ys))

int_leaf : (p : Primitive) → is_whole p ≡ true → (z : ℤ)
    → leaf_value (kind_of p) (lanes.element (kind_of p) z) ≡ int z
int_leaf prim.Bool w z = absurd (cc)
int_leaf prim.I8 w z = refl
int_leaf prim.I16 w z = refl
int_leaf prim.I32 w z = refl
int_leaf prim.I64 w z = refl
int_leaf prim.U8 w z = refl
int_leaf prim.U16 w z = refl
int_leaf prim.U32 w z = refl
int_leaf prim.U64 w z = refl

pub int_lane : (p : Primitive) (zs : List ℤ) → is_whole p ≡ true
    → lane_values (column (kind_of p) zs) ≡ map int zs
int_lane p [] w = refl
int_lane p (z ∷ zs) w = ap₂ (λ v vs. v ∷ vs) (int_leaf p w z) (int_lane p zs w)

-- a lane of numbers within a primitive has the values
pub calculated_lane : (op : Arith) (p : Primitive) (xs ys : List ℤ) (c : Column)
    → is_whole p ≡ true → c.kind ≡ kind_of p
    → all_numbers (leaves op (least_number p) (greatest_number p) xs ys) ≡ Ok c.items
    → all_values (zip2 (binary_on (Calculate op) p) xs ys) ≡ Ok (lane_values c)
calculated_lane op p xs ys c w k e =
    calculated_values op p xs ys ∙ ap int_values e
    ∙ ap (λ vs. Ok vs) (sym (int_lane p c.items w)
    ∙ ap (λ k. lane_values (column k c.items)) (sym k))

pub told_values : (f : Option Fault) (said : Result (List ℤ) Fault) → Told f said
    → Told f (int_values said)
told_values None said h = tt
told_values (Some f) said h = ap int_values h

pub calculated_told : (op : Arith) (p : Primitive) (xs ys : List ℤ) (f : Fault)
    → Told (fault_told f) (all_numbers (leaves op (least_number p) (greatest_number p) xs ys))
    → Told (fault_told f) (all_values (zip2 (binary_on (Calculate op) p) xs ys))
calculated_told op p xs ys f h =
    subst (Told (fault_told f)) (sym (calculated_values op p xs ys))
    (told_values (fault_told f) (all_numbers (leaves op (least_number p) (greatest_number p) xs ys))
    h)

-- ---- truth values

pub read_truth : (b : Bool)
    → leaf_value Truths (lanes.element Truths (pos (from_bool b))) ≡ truth b
read_truth true = refl
read_truth false = refl

truth_values : (h : ℤ → ℤ → Bool) (xs ys : List ℤ)
    → all_values (zip2 (λ x y. Ok (truth (h x y))) xs ys)
    ≡ Ok (lane_values (column Truths (map pos (zip2 (λ x y. from_bool (h x y)) xs ys))))
truth_values h [] ys = refl
truth_values h (x ∷ xs) [] = refl
truth_values h (x ∷ xs) (y ∷ ys) =
    ap (first_fault_or (Ok (truth (h x y)))) (truth_values h xs ys)
    ∙ ap (λ v. Ok (v ∷ lane_values (column Truths
    (map pos (zip2 (λ x y. from_bool (h x y)) xs ys))))) (sym (read_truth (h x y)))

pub tested_values : (how : Compare) (p : Primitive) (xs ys : List ℤ)
    → all_values (zip2 (binary_on (Test how) p) xs ys)
    ≡ Ok (lane_values (column Truths (map pos (compared how xs ys))))
tested_values how p xs ys = truth_values (holds how) xs ys

pub joined_values : (op : Logic) (p : Primitive) (xs ys : List ℤ)
    → all_values (zip2 (binary_on (Join op) p) xs ys)
    ≡ Ok (lane_values (column Truths (map pos (joined_bytes op xs ys))))
joined_values op p xs ys = truth_values (λ x y. joined op (is_nonzero x) (is_nonzero y)) xs ys

-- ---- values, none of which is null

present_at : (op : Binary) (p : Primitive) (x y : Value) → is_null x ≡ false → is_null y ≡ false
    → binary_at op p x y ≡ binary_on op p (number_of x) (number_of y)
present_at op p x y e f =
    ap₂ (λ b c. if b || c then Ok null else binary_on op p (number_of x) (number_of y)) e f

pub present_values : (op : Binary) (p : Primitive) (xs ys : List Value)
    → AllByRecursion IsPresent xs → AllByRecursion IsPresent ys
    → zip2 (binary_at op p) xs ys
    ≡ zip2 (binary_on op p) (map number_of xs) (map number_of ys)
present_values op p [] ys h k = refl
present_values op p (x ∷ xs) [] h k = refl
present_values op p (x ∷ xs) (y ∷ ys) h k =
    ap₂ (λ r rs. r ∷ rs) (present_at op p x y h.0 k.0) (present_values op p xs ys h.1 k.1)

-- ---- answers

-- a lane of numbers or a fault, as values
pub calculated_gives : (op : Arith) (p : Primitive) (xs ys : List ℤ) (r : Result Column Fault)
    → is_whole p ≡ true
    → Gives (λ (c : Column). c.items) fault_told r (all_numbers (prim_leaves op p xs ys))
    → IfOk r (λ (c : Column). c.kind ≡ kind_of p)
    → Gives lane_values fault_told r (all_values (zip2 (binary_on (Calculate op) p) xs ys))
calculated_gives op p xs ys (Ok c) w e k = calculated_lane op p xs ys c w k e
calculated_gives op p xs ys (Err f) w e k = calculated_told op p xs ys f e
