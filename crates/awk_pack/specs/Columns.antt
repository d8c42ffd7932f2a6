-- The column of each node of a type: all values that stand there, joined in order.
use Rattle.std.specs.Prelude.{ℕ, suc, List, [], ◌∷◌, ◌++◌, map, filter}
use Rattle.awk_types.specs.DataType.{DataType, unknown, leaf, var, reg, rec, tup, opt, uni}
use Rattle.awk_types.specs.DataType.{DataTypes, no_types, type}
use Rattle.awk_types.specs.Value.{Value}
use Rattle.awk_columns.specs.Columns.{joined_items, part_at, is_present, alternative_values}

-- a node of a type, and its column
pub record Placed : Type 0 where
  pub typ : DataType
  pub values : List Value

abbrev pub at_node : DataType → List Value → Placed
at_node t vs = record { typ = t; values = vs }

-- the nodes in pre-order
abbrev mutual
  pub placed : DataType → List Value → List Placed
  placed unknown vs = at_node unknown vs ∷ []
  placed (leaf p) vs = at_node (leaf p) vs ∷ []
  placed (var t) vs = at_node (var t) vs ∷ placed t (joined_items vs)
  placed (reg n t) vs = at_node (reg n t) vs ∷ placed t (joined_items vs)
  placed (rec ns ts) vs = at_node (rec ns ts) vs ∷ placed_fields 0 ts vs
  placed (tup ts) vs = at_node (tup ts) vs ∷ placed_fields 0 ts vs
  placed (opt t) vs = at_node (opt t) vs ∷ placed t (filter is_present vs)
  placed (uni ts) vs = at_node (uni ts) vs ∷ placed_alternatives 0 ts vs

  -- those of the fields from place k on, of rows
  pub placed_fields : ℕ → DataTypes → List Value → List Placed
  placed_fields k no_types rows = []
  placed_fields k (type t ts) rows =
      placed t (map (part_at k) rows) ++ placed_fields (suc k) ts rows

  -- those of the alternatives from place k on
  pub placed_alternatives : ℕ → DataTypes → List Value → List Placed
  placed_alternatives k no_types vs = []
  placed_alternatives k (type t ts) vs =
      placed t (alternative_values k vs) ++ placed_alternatives (suc k) ts vs
