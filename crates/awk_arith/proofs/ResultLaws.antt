-- Results of which some may be faults, at leaves in order.
use Rattle.std.proofs.Common.{◌≡◌, Result, Ok, Err, Option, Some, None, refl, ap, ◌∙◌}
use Rattle.std.specs.Prelude.{List, [], ◌∷◌, map}
use Rattle.std.specs.Simd.Lanes.{zip2}
use Rattle.std.proofs.lemmas.Simd.{zip2_of_maps}
use Rattle.awk_types.specs.Faults.{fault_told}
use Rattle.awk_types.specs.Gives.{Told, refused_or}
use Rattle.awk_types.specs.Value.{Value}
use Rattle.awk_types.specs.declared.fault.Fault.{Fault}
use Rattle.awk_types.specs.declared.fault.Fault.TheVariants as fault
use Rattle.awk_types.specs.declared.primitive.Primitive.{Primitive}
use Rattle.awk_leaves.specs.Table.{binary_judged}
use Rattle.awk_leaves.specs.Values.{binary_at, binary_values, first_fault_or, all_values, in_judged}
use Rattle.awk_leaves.specs.declared.leaf_type.LeafType.{LeafType}
use Rattle.awk_leaves.specs.declared.operation.Binary.{Binary}
use Rattle.awk_arith.specs.AtLeaves.{value_or_null, first_fault}

-- a fault tells itself, or is free
pub Told-fault : {A : Type 0} (e : Fault) (said : Result A Fault) → said ≡ Err e
    → Told (fault_told e) said
Told-fault (fault.Unbound n) said h = h
Told-fault (fault.NoField n) said h = h
Told-fault fault.Axis said h = h
Told-fault fault.WrongType said h = h
Told-fault fault.Overflow said h = h
Told-fault fault.Zero said h = h
Told-fault fault.Depth said h = h
Told-fault fault.Size said h = h
Told-fault fault.Lengths said h = h
Told-fault fault.Index said h = h
Told-fault fault.NoMemory said h = tt

with_value : (v : Value) (f : Option Fault) (vs : List Value)
    → first_fault_or (Ok v) (refused_or f vs) ≡ refused_or f (v ∷ vs)
with_value v None vs = refl
with_value v (Some f) vs = refl

-- all values, unless one is a fault
pub all_values-is : (rs : List (Result Value Fault))
    → all_values rs ≡ refused_or (first_fault rs) (map value_or_null rs)
all_values-is [] = refl
all_values-is (Ok v ∷ rs) =
    ap (first_fault_or (Ok v)) (all_values-is rs)
    ∙ with_value v (first_fault rs) (map value_or_null rs)
all_values-is (Err f ∷ rs) = refl

-- an operation on leaves that are functions of rows
pub binary_values-rows : (op : Binary) (p : Primitive) (a b : LeafType) (g h : Value → Value)
    (es xs ys : List Value) → binary_judged op a b ≡ Ok p → xs ≡ map g es → ys ≡ map h es
    → binary_values op a b xs ys
    ≡ refused_or (first_fault (map (λ v. binary_at op p (g v) (h v)) es))
    (map value_or_null (map (λ v. binary_at op p (g v) (h v)) es))
binary_values-rows op p a b g h es xs ys e x y =
    ap (λ j. in_judged j (λ q. all_values (zip2 (binary_at op q) xs ys))) e
    ∙ ap all_values (zip2_of_maps (binary_at op p) g h es x y)
    ∙ all_values-is (map (λ v. binary_at op p (g v) (h v)) es)
