-- The lanes of a packed node, from its column alone.
use Rattle.std.specs.Prelude.{true, List, [], ◌∷◌, map, ℤ, pos}
use Rattle.awk_types.specs.DataType.{DataType, leaf, var, opt, uni}
use Rattle.awk_types.specs.Value.{Value, int, truth}
use Rattle.awk_lanes.specs.declared.kind.Kind.{Kind}
use Rattle.awk_lanes.specs.declared.kind.Kind.TheVariants as kind
use Rattle.awk_lanes.specs.Column.{Column}
use Rattle.awk_layout.specs.Kinds.{kind_of}
use Rattle.awk_columns.specs.Columns.{offsets, option_index, tags, union_index}
use Rattle.awk_pack.specs.Columns.{Placed}

abbrev pub lane_of : Kind → List ℤ → Column
lane_of k zs = record { kind = k; items = zs }

-- the number that lies in a lane for a leaf, a truth value as 0 or 1
abbrev pub number_of : Value → ℤ
number_of (int z) = z
number_of (truth true) = pos 1
number_of v = pos 0

-- the lanes of a node of a type
abbrev pub node_lanes : DataType → List Value → List Column
node_lanes (leaf p) vs = lane_of (kind_of p) (map number_of vs) ∷ []
node_lanes (var t) vs = lane_of kind.I64 (offsets 0 vs) ∷ []
node_lanes (opt t) vs = lane_of kind.I64 (option_index 0 vs) ∷ []
node_lanes (uni ts) vs =
    lane_of kind.I8 (tags vs) ∷ lane_of kind.I64 (union_index (λ k. 0) vs) ∷ []
node_lanes t vs = []

abbrev pub lanes_at : Placed → List Column
lanes_at p = node_lanes p.typ p.values
