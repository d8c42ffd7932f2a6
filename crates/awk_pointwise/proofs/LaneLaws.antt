-- Lanes of results that are made from where other lanes lie.
use Rattle.std.proofs.Common.{◌≡◌, ℕ, List, replicate, refl, ap, ap₂, sym, subst, ◌∙◌}
use Rattle.std.specs.Prelude.{ℤ, true, Option, Some, Result, Ok, IfOk, IfSome}
use Rattle.std.specs.Simd.Lanes.{zip2}
use Rattle.awk_types.specs.Has.{least_number, greatest_number}
use Rattle.awk_types.specs.Parts.{number_of}
use Rattle.awk_types.specs.Value.{Value, int}
use Rattle.awk_types.specs.declared.fault.Fault.{Fault}
use Rattle.awk_types.specs.declared.primitive.Primitive.{Primitive}
use Rattle.awk_types.specs.declared.primitive.Primitive.TheVariants as prim
use Rattle.awk_primitives.specs.Promotion.{is_whole}
use Rattle.awk_lanes.specs.Column.{Column}
use Rattle.awk_lanes.specs.Places.{size_of}
use Rattle.awk_lanes.specs.declared.kind.Kind.TheVariants as kind
use Rattle.awk_kernels.specs.Kernels.{leaves}
use Rattle.awk_kernels.specs.declared.operation.Arith.{Arith}
use Rattle.awk_kernels.specs.declared.operation.Compare.{Compare}
use Rattle.awk_layout.specs.Kinds.{kind_of}
use Rattle.awk_leaves.specs.Values.{binary_at, binary_on, all_values}
use Rattle.awk_leaves.specs.declared.operation.Binary.{Binary}
use Rattle.awk_leaves.specs.declared.operation.Binary.TheVariants.{Calculate, Test}
use Rattle.awk_numbers.specs.Folds.{lane_numbers}
use Rattle.awk_numbers.proofs.PartLaws.{element-other}
use Rattle.awk_lane_pairs.specs.Comparisons.{IsCompared}
use Rattle.awk_lane_pairs.specs.Results.{AreCalculated}
use Rattle.awk_pointwise.specs.Lanes.{HasResults}
use Rattle.awk_pointwise.specs.Numbers.{IsPresent}
use Rattle.awk_pointwise.specs.Sides.{lane_values}
use Rattle.awk_pointwise.proofs.CalculatedLaws.{all_written, calculated_lane, tested_values}
use Rattle.awk_pointwise.proofs.CalculatedLaws.{present_values}
use Rattle.awk_pointwise.proofs.SideLaws.{leaves_numbers, leaves_present, all-replicate}
use Rattle.awk_pointwise.proofs.SideLaws.{map-replicate}

-- ---- numbers as they lie

whole_kind : (p : Primitive) → is_whole p ≡ true → kind_of p ≡ kind.Bool → ⊥
whole_kind prim.Bool w e = absurd (cc)
whole_kind prim.I8 w e = absurd (cc)
whole_kind prim.I16 w e = absurd (cc)
whole_kind prim.I32 w e = absurd (cc)
whole_kind prim.I64 w e = absurd (cc)
whole_kind prim.U8 w e = absurd (cc)
whole_kind prim.U16 w e = absurd (cc)
whole_kind prim.U32 w e = absurd (cc)
whole_kind prim.U64 w e = absurd (cc)

plain : (c : Column) → (c.kind ≡ kind.Bool → ⊥) → lane_numbers c ≡ c.items
plain c h = element-other c.kind c.items h

calculated_rows : (op : Arith) (p : Primitive) (xs ys us vs : List ℤ) (c : Column)
    → is_whole p ≡ true → xs ≡ us → ys ≡ vs → AreCalculated op p us vs c
    → HasResults p (zip2 (binary_on (Calculate op) p) xs ys) c
calculated_rows op p xs ys us vs c w e f h = record {
  values = ap₂ (λ xs ys. all_values (zip2 (binary_on (Calculate op) p) xs ys)) e f
      ∙ calculated_lane op p us vs c w h.kind (all_written c.items
      (leaves op (least_number p) (greatest_number p) us vs) h.numbers);
  kind = h.kind;
}

-- results of the numbers of two lanes
pub calculated_two : (op : Arith) (p : Primitive) (a b c : Column) → is_whole p ≡ true
    → a.kind ≡ kind_of p → b.kind ≡ kind_of p → AreCalculated op p a.items b.items c
    → HasResults p (zip2 (binary_on (Calculate op) p) (lane_numbers a) (lane_numbers b)) c
calculated_two op p a b c w e f h =
    calculated_rows op p (lane_numbers a) (lane_numbers b) a.items b.items c w
    (plain a (λ k. whole_kind p w (sym e ∙ k))) (plain b (λ k. whole_kind p w (sym f ∙ k))) h

-- of a lane and one number
pub calculated_one : (op : Arith) (p : Primitive) (a c : Column) (y z : ℤ) → is_whole p ≡ true
    → a.kind ≡ kind_of p → z ≡ y → AreCalculated op p a.items (replicate (size_of a) y) c
    → HasResults p
    (zip2 (binary_on (Calculate op) p) (lane_numbers a) (replicate (size_of a) z)) c
calculated_one op p a c y z w e same h =
    calculated_rows op p (lane_numbers a) (replicate (size_of a) z) a.items
    (replicate (size_of a) y) c w (plain a (λ k. whole_kind p w (sym e ∙ k)))
    (ap (replicate (size_of a)) same) h

compared_results : (how : Compare) (xs ys us vs : List ℤ) (c : Column) → xs ≡ us → ys ≡ vs
    → IsCompared how us vs c → HasResults prim.Bool (zip2 (binary_on (Test how) prim.Bool) xs ys) c
compared_results how xs ys us vs c e f h = record {
  values = ap₂ (λ xs ys. all_values (zip2 (binary_on (Test how) prim.Bool) xs ys)) e f
      ∙ tested_values how prim.Bool us vs ∙ ap (λ (c : Column). Ok (lane_values c)) (sym h);
  kind = ap (λ (c : Column). c.kind) h;
}

pub compared_two : (how : Compare) (a b c : Column) → (a.kind ≡ kind.Bool → ⊥) → b.kind ≡ a.kind
    → IsCompared how a.items b.items c
    → HasResults prim.Bool
    (zip2 (binary_on (Test how) prim.Bool) (lane_numbers a) (lane_numbers b)) c
compared_two how a b c n e h =
    compared_results how (lane_numbers a) (lane_numbers b) a.items b.items c (plain a n)
    (plain b (λ k. n (sym e ∙ k))) h

pub compared_one : (how : Compare) (a c : Column) (y z : ℤ) → (a.kind ≡ kind.Bool → ⊥) → z ≡ y
    → IsCompared how a.items (replicate (size_of a) y) c
    → HasResults prim.Bool
    (zip2 (binary_on (Test how) prim.Bool) (lane_numbers a) (replicate (size_of a) z)) c
compared_one how a c y z n e h =
    compared_results how (lane_numbers a) (replicate (size_of a) z) a.items
    (replicate (size_of a) y) c (plain a n) (ap (replicate (size_of a)) e) h

-- ---- results of values

-- the results of lanes as those of their values
pub lane_results : {E : Type 0} (op : Binary) (p : Primitive) (vs ws : List Value) (a b : Column)
    (r : Result (Option Column) E) → lane_values a ≡ vs → lane_values b ≡ ws
    → IfOk r (λ o. IfSome o
    (HasResults p (zip2 (binary_on op p) (lane_numbers a) (lane_numbers b))))
    → IfOk r (λ o. IfSome o (HasResults p (zip2 (binary_at op p) vs ws)))
lane_results op p vs ws a b r e f h =
    subst (λ rs. IfOk r (λ o. IfSome o (HasResults p rs)))
    (sym (present_values op p (lane_values a) (lane_values b)
    (leaves_present a.kind (lane_numbers a)) (leaves_present b.kind (lane_numbers b))
    ∙ ap₂ (zip2 (binary_on op p)) (sym (leaves_numbers a.kind a.items))
    (sym (leaves_numbers b.kind b.items)))
    ∙ ap₂ (zip2 (binary_at op p)) e f) h

-- the same beside one number
pub literal_results : {E : Type 0} (op : Binary) (p : Primitive) (vs ws : List Value) (a : Column)
    (y z : ℤ) (n : ℕ) (r : Result (Option Column) E) → lane_values a ≡ vs
    → replicate n (int z) ≡ ws → size_of a ≡ n → y ≡ z
    → IfOk r (λ o. IfSome o
    (HasResults p (zip2 (binary_on op p) (lane_numbers a) (replicate (size_of a) y))))
    → IfOk r (λ o. IfSome o (HasResults p (zip2 (binary_at op p) vs ws)))
literal_results op p vs ws a y z n r e f many same h =
    subst (λ rs. IfOk r (λ o. IfSome o (HasResults p rs)))
    (ap (zip2 (binary_on op p) (lane_numbers a)) (ap₂ (λ n z. replicate n z) many same)
    ∙ sym (present_values op p (lane_values a) (replicate n (int z))
    (leaves_present a.kind (lane_numbers a)) (all-replicate IsPresent n (int z) refl)
    ∙ ap₂ (zip2 (binary_on op p)) (sym (leaves_numbers a.kind a.items))
    (map-replicate number_of n (int z)))
    ∙ ap₂ (zip2 (binary_at op p)) e f) h

-- the lane that there is
pub some_values : (p : Primitive) (rs : List (Result Value Fault)) (o : Option Column) (c : Column)
    → o ≡ Some c → IfSome o (HasResults p rs) → all_values rs ≡ Ok (lane_values c)
some_values p rs o c e h = (subst (λ (o : Option Column). IfSome o (HasResults p rs)) e h).values

pub some_kind : (p : Primitive) (rs : List (Result Value Fault)) (o : Option Column) (c : Column)
    → o ≡ Some c → IfSome o (HasResults p rs) → c.kind ≡ kind_of p
some_kind p rs o c e h = (subst (λ (o : Option Column). IfSome o (HasResults p rs)) e h).kind
