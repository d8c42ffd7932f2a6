-- Types: of one value, and of the items of a list.
use Rattle.std.specs.Prelude.{ℕ, suc, max, List, [], ◌∷◌, Option, Some, None, sum}
use Rattle.awk_types.specs.declared.primitive.Primitive.{Primitive}

-- a name is its bytes
abbrev pub Name : Type 0
Name = List ℕ

mutual
  pub data DataType : Type 0 where
    unknown : DataType
    leaf : Primitive → DataType
    var : DataType → DataType
    reg : ℕ → DataType → DataType
    rec : List Name → DataTypes → DataType
    tup : DataTypes → DataType
    opt : DataType → DataType
    uni : DataTypes → DataType

  pub data DataTypes : Type 0 where
    no_types : DataTypes
    type : DataType → DataTypes → DataTypes

-- types as a list, and back
abbrev pub type_list : DataTypes → List DataType
type_list no_types = []
type_list (type t ts) = t ∷ type_list ts

abbrev pub types_from : List DataType → DataTypes
types_from [] = no_types
types_from (t ∷ ts) = type t (types_from ts)

-- a record, or a tuple where there are no names
abbrev pub row_type : Option (List Name) → DataTypes → DataType
row_type None ts = tup ts
row_type (Some names) ts = rec names ts

-- the greatest of the numbers, or 0
abbrev pub greatest : List ℕ → ℕ
greatest [] = 0
greatest (n ∷ ns) = max n (greatest ns)

-- the number of type nodes on the longest path
abbrev mutual
  pub depth : DataType → ℕ
  depth unknown = 1
  depth (leaf p) = 1
  depth (var t) = suc (depth t)
  depth (reg n t) = suc (depth t)
  depth (rec ns ts) = suc (greatest (depths ts))
  depth (tup ts) = suc (greatest (depths ts))
  depth (opt t) = suc (depth t)
  depth (uni ts) = suc (greatest (depths ts))

  pub depths : DataTypes → List ℕ
  depths no_types = []
  depths (type t ts) = depth t ∷ depths ts

-- the number of type nodes
abbrev mutual
  pub nodes : DataType → ℕ
  nodes unknown = 1
  nodes (leaf p) = 1
  nodes (var t) = suc (nodes t)
  nodes (reg n t) = suc (nodes t)
  nodes (rec ns ts) = suc (sum (nodes_each ts))
  nodes (tup ts) = suc (sum (nodes_each ts))
  nodes (opt t) = suc (nodes t)
  nodes (uni ts) = suc (sum (nodes_each ts))

  pub nodes_each : DataTypes → List ℕ
  nodes_each no_types = []
  nodes_each (type t ts) = nodes t ∷ nodes_each ts
