-- Lanes of leaves.
use Rattle.std.proofs.Common.{◌≡◌, ◌≢◌, ℕ, Bool, true, false, List, [], ◌∷◌, get_or, map, arith}
use Rattle.std.proofs.Common.{refl, sym, ap, ap₂, ◌∙◌}
use Rattle.std.specs.Prelude.{ℤ, pos, if◌then◌else◌}
use Rattle.std.specs.List.{range_with_len}
use Rattle.std.proofs.lemmas.List.{ext_get_or}
use Rattle.std.proofs.lemmas.List.FromFn.{get_or-map-range_with_len, length-map-range_with_len}
use Rattle.awk_lanes.specs.declared.kind.Kind.{Kind}
use Rattle.awk_lanes.specs.declared.kind.Kind.TheVariants as kind
use Rattle.awk_lanes.specs.Column.{Column}
use Rattle.awk_lanes.specs.Numbers.{element, is_nonzero}
use Rattle.awk_lanes.specs.Places.{size_of, at}
use Rattle.awk_layout.specs.Item.{leaf_value}
use Rattle.awk_layout.specs.Kinds.{primitive_of, kind_of, kind_of-primitive_of}
use Rattle.awk_types.specs.Value.{Value}
use Rattle.awk_lanes.proofs.PlaceLaws.{element-same}
use Rattle.awk_pack.specs.Lanes.{lane_of, number_of}
use Rattle.awk_pack.specs.Packing.{leaf_lane}

-- but for truth values, a number is read as it lies: such a lane is borrowed
pub leaf_lane-same : (c : Column) → c.kind ≢ kind.Bool → c ≡ leaf_lane c
leaf_lane-same c h =
    ap (λ zs. record { kind = c.kind; items = zs })
    (ext_get_or (pos 0) c.items (map (at c) (range_with_len 0 (size_of c)))
    (sym (length-map-range_with_len (at c) 0 (size_of c))) (λ i l.
    sym
    (get_or-map-range_with_len (at c) 0 (size_of c) i i (pos 0) l (omega arith)
    ∙ element-same c.kind (get_or c.items i (pos 0)) h)))

number_of-leaf : (k : Kind) (z : ℤ) → number_of (leaf_value k (element k z)) ≡ element k z
number_of-leaf kind.Bool z = of (is_nonzero z)
  where
    of : (b : Bool)
        → number_of (leaf_value kind.Bool (pos (if b then 1 else 0))) ≡ pos (if b then 1 else 0)
    of true = refl
    of false = refl
number_of-leaf kind.I8 z = refl
number_of-leaf kind.I16 z = refl
number_of-leaf kind.I32 z = refl
number_of-leaf kind.I64 z = refl
number_of-leaf kind.U8 z = refl
number_of-leaf kind.U16 z = refl
number_of-leaf kind.U32 z = refl
number_of-leaf kind.U64 z = refl

numbers_of-leaf : (c : Column) (is : List ℕ)
    → map number_of (map (λ i. leaf_value c.kind (at c i)) is) ≡ map (at c) is
numbers_of-leaf c [] = refl
numbers_of-leaf c (i ∷ is) = ap₂ (λ z zs. z ∷ zs) (number_of-leaf c.kind _) (numbers_of-leaf c is)

-- the lane of a leaf, by its values
pub leaf-lane : (c : Column) (vs : List Value)
    → vs ≡ map (λ i. leaf_value c.kind (at c i)) (range_with_len 0 (size_of c))
    → leaf_lane c ≡ lane_of (kind_of (primitive_of c.kind)) (map number_of vs)
leaf-lane c vs e =
    ap₂ lane_of (sym (kind_of-primitive_of c.kind))
    (sym (numbers_of-leaf c (range_with_len 0 (size_of c))) ∙ ap (map number_of) (sym e))
