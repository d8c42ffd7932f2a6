-- What an operation on two literals answers.
use Rattle.std.proofs.Common.{◌≡◌, refl, ap, ap₂, sym, ◌∙◌}
use Rattle.std.specs.Prelude.{List, [], ◌∷◌, length, get_or, Option, Some, None, Result, Ok, Err, ℤ}
use Rattle.awk_types.specs.DataType.{leaf, unknown}
use Rattle.awk_types.specs.Datum.{Datum, one}
use Rattle.awk_types.specs.Gives.{Told, refused_or}
use Rattle.awk_types.specs.Value.{Value, int, null}
use Rattle.awk_types.specs.declared.fault.Fault.{Fault}
use Rattle.awk_types.specs.declared.primitive.Primitive.{Primitive}
use Rattle.awk_types.proofs.RefusalLaws.{Told-other}
use Rattle.awk_lanes.specs.Column.{Column}
use Rattle.awk_layout.specs.Datum.{first_item}
use Rattle.awk_layout.specs.Filler.{literal}
use Rattle.awk_layout.specs.Kinds.{kind_of}
use Rattle.awk_layout.specs.Layout.{flat}
use Rattle.awk_layout.specs.Typing.{array_type}
use Rattle.awk_layout.specs.Valid.{len}
use Rattle.awk_layout.proofs.ArrayItems.{length-array_items, array_items-one}
use Rattle.awk_leaves.specs.Table.{binary_judged}
use Rattle.awk_leaves.specs.Values.{binary_at, binary_values, all_values, in_judged}
use Rattle.awk_leaves.specs.declared.leaf_type.LeafType.TheVariants.{Literal}
use Rattle.awk_leaves.specs.declared.operation.Binary.{Binary}
use Rattle.awk_pointwise.specs.Sides.{lane_values}
use Rattle.awk_ends.specs.Operands.{in_primitive}
use Rattle.awk_ends.proofs.LaneLaws.{flat-items, flat-type}
use Rattle.awk_arith.specs.AtLeaves.{at_leaves, first_fault, value_or_null}
use Rattle.awk_arith.specs.Binary.{binary_row, judged_binary}

-- one result
result_told : (o : Option Fault) (p : Primitive) (r : Result Value Fault)
    → Told o (all_values (r ∷ []))
    → Told o (refused_or (first_fault (r ∷ [])) (one (leaf p) (value_or_null r)))
result_told o p (Ok v) h = Told-other o None (v ∷ []) (one (leaf p) v) h
result_told o p (Err f) h = Told-other o (Some f) [] (one (leaf p) null) h

one_value : (lane : Column) (r : Result Value Fault) → all_values (r ∷ []) ≡ Ok (lane_values lane)
    → lane_values lane ≡ value_or_null r ∷ []
one_value lane (Ok v) h = let same : v ∷ [] ≡ lane_values lane = cc in sym same
one_value lane (Err f) h = absurd cc

lane_one : (lane : Column) (v : Value) → lane_values lane ≡ v ∷ [] → len (flat lane) ≡ 1
lane_one lane v e = sym (length-array_items (flat lane)) ∙ ap length (flat-items lane ∙ e)

first_is : (lane : Column) (v : Value) → lane_values lane ≡ v ∷ [] → v ≡ first_item (flat lane)
first_is lane v e =
    ap (λ vs. get_or vs 0 null) (sym e ∙ sym (flat-items lane)
    ∙ array_items-one (flat lane) (lane_one lane v e))

result_made : (p : Primitive) (lane : Column) (r : Result Value Fault)
    → all_values (r ∷ []) ≡ Ok (lane_values lane) → lane.kind ≡ kind_of p
    → refused_or (first_fault (r ∷ [])) (one (leaf p) (value_or_null r))
    ≡ Ok (one (array_type (flat lane)) (first_item (flat lane)))
result_made p lane (Ok v) h k =
    ap (λ d. Ok d)
    (ap₂ one (sym (flat-type lane p k)) (first_is lane v (one_value lane (Ok v) h)))
result_made p lane (Err f) h k = absurd cc

module _ (op : Binary) (z w : ℤ) where
  abbrev values_in : Primitive → Result (List Value) Fault
  values_in p = all_values (binary_at op p (int z) (int w) ∷ [])

  abbrev datum_in : Primitive → Result Datum Fault
  datum_in p = at_leaves p (binary_row op p (literal z) (literal w)) []

  -- the results of the two literals
  abbrev pub said : Result (List Value) Fault
  said = binary_values op (Literal z) (Literal w) (int z ∷ []) (int w ∷ [])

  pub literals_told : (o : Option Fault) → Told o said
      → Told o (judged_binary op (literal z) (literal w))
  literals_told o h = by (binary_judged op (Literal z) (Literal w)) h
    where
      by : (j : Result Primitive Fault) → Told o (in_judged j values_in)
          → Told o (in_primitive j datum_in)
      by (Ok p) h = result_told o p (binary_at op p (int z) (int w)) h
      by (Err f) h = Told-other o (Some f) [] (one unknown null) h

  pub literals_size : (lane : Column) → said ≡ Ok (lane_values lane) → len (flat lane) ≡ 1
  literals_size lane h = by (binary_judged op (Literal z) (Literal w)) h
    where
      by : (j : Result Primitive Fault) → in_judged j values_in ≡ Ok (lane_values lane)
          → len (flat lane) ≡ 1
      by (Ok p) h =
          lane_one lane (value_or_null (binary_at op p (int z) (int w)))
          (one_value lane (binary_at op p (int z) (int w)) h)
      by (Err f) h = absurd cc

  pub literals_made : (lane : Column) → said ≡ Ok (lane_values lane)
      → ((p : Primitive) → binary_judged op (Literal z) (Literal w) ≡ Ok p → lane.kind ≡ kind_of p)
      → judged_binary op (literal z) (literal w)
      ≡ Ok (one (array_type (flat lane)) (first_item (flat lane)))
  literals_made lane h k = by (binary_judged op (Literal z) (Literal w)) refl h
    where
      by : (j : Result Primitive Fault) → binary_judged op (Literal z) (Literal w) ≡ j
          → in_judged j values_in ≡ Ok (lane_values lane)
          → in_primitive j datum_in ≡ Ok (one (array_type (flat lane)) (first_item (flat lane)))
      by (Ok p) e h = result_made p lane (binary_at op p (int z) (int w)) h (k p e)
      by (Err f) e h = absurd cc
