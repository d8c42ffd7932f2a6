-- A lane of results under the lists and nulls that data share.
use Rattle.std.proofs.Common.{◌≡◌, Bool, not, ap, sym, ◌∙◌}
use Rattle.std.specs.Prelude.{List, map, length, None, Result, Ok, false}
use Rattle.std.proofs.lemmas.List.{length-map}
use Rattle.std.proofs.lemmas.Simd.{map-map}
use Rattle.awk_types.specs.DataType.{DataType}
use Rattle.awk_types.specs.Datum.{Datum}
use Rattle.awk_types.specs.Faults.{limit_refused}
use Rattle.awk_types.specs.Gives.{refused_or}
use Rattle.awk_types.specs.Value.{Value}
use Rattle.awk_types.specs.declared.fault.Fault.{Fault}
use Rattle.awk_types.specs.declared.primitive.Primitive.{Primitive}
use Rattle.awk_types.proofs.RefusalLaws.{refused_or-Ok}
use Rattle.awk_lanes.specs.Column.{Column}
use Rattle.awk_layout.specs.Layout.{Layout, flat}
use Rattle.awk_layout.specs.Typing.{array_type, array_items}
use Rattle.awk_layout.specs.Valid.{len}
use Rattle.awk_layout.proofs.ArrayItems.{length-array_items}
use Rattle.awk_frames.specs.Shape.{leaves, items}
use Rattle.awk_pair_operands.specs.Answer.{single_or_fault, shared_ends}
use Rattle.awk_pair_operands.specs.Pairs.{pair_refused, some_array}
use Rattle.awk_pointwise.specs.Sides.{lane_values}
use Rattle.awk_ends.proofs.LaneLaws.{flat-items}
use Rattle.awk_arith.specs.AtLeaves.{result_type, first_fault, value_or_null, row_values}
use Rattle.awk_arith.proofs.AnswerLaws.{IsResult}

-- ---- the values of a lane

module _ (f : Value → Result Value Fault) (es : List Value) (lane : Column)
    (said : refused_or (first_fault (map f es)) (map value_or_null (map f es))
    ≡ Ok (lane_values lane)) where
  pub no_fault : first_fault (map f es) ≡ None
  no_fault = (refused_or-Ok (first_fault (map f es)) (map value_or_null (map f es))
      (lane_values lane) said).0

  pub lane_items : array_items (flat lane) ≡ map (λ v. value_or_null (f v)) es
  lane_items =
      flat-items lane
      ∙ sym (refused_or-Ok (first_fault (map f es)) (map value_or_null (map f es))
      (lane_values lane) said).1
      ∙ map-map value_or_null f es

  pub lane_size : len (flat lane) ≡ length es
  lane_size =
      sym (length-array_items (flat lane)) ∙ ap length lane_items
      ∙ length-map es (λ v. value_or_null (f v))

-- ---- what is known where nothing is refused

pub result_is : (p : Primitive) (f : Value → Result Value Fault) (ds : List Datum) (single : Bool)
    (t : DataType) (y : Layout)
    → refused_or (limit_refused (result_type p ds)) (result_type p ds) ≡ Ok t
    → single_or_fault false None ds ≡ Ok single
    → first_fault (map f (shared_ends false None ds)) ≡ None
    → array_type y ≡ result_type p ds → array_items y ≡ row_values f ds
    → IsResult p f ds single y
result_is p f ds single t y limit_said pair_said leaves_said typ_is items_are = record {
  limit = (refused_or-Ok (limit_refused (result_type p ds)) (result_type p ds) t limit_said).0;
  paired = (refused_or-Ok (pair_refused false None ds) (not (some_array ds)) single pair_said).0;
  leaves = leaves_said;
  is_single = (refused_or-Ok (pair_refused false None ds) (not (some_array ds)) single
      pair_said).1;
  typ = typ_is;
  items = items_are;
}
