-- Lanes of results that are made from where other lanes lie.
use Rattle.std.specs.Prelude.{◌≡◌, List, Result, Ok}
use Rattle.awk_types.specs.Value.{Value}
use Rattle.awk_types.specs.declared.fault.Fault.{Fault}
use Rattle.awk_types.specs.declared.primitive.Primitive.{Primitive}
use Rattle.awk_lanes.specs.Column.{Column}
use Rattle.awk_layout.specs.Kinds.{kind_of}
use Rattle.awk_leaves.specs.Values.{all_values}
use Rattle.awk_pointwise.specs.Sides.{lane_values}

-- a lane of results, each of which is a value of the primitive
pub record HasResults (p : Primitive) (rs : List (Result Value Fault)) (c : Column)
    : Type 0 where
  pub values : all_values rs ≡ Ok (lane_values c)
  pub kind : c.kind ≡ kind_of p
