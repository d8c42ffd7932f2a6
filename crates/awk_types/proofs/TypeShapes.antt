-- How deep types are and how many nodes they have, and which are leaves.
use Rattle.std.proofs.Common.{arith, ◌≤◌, sum}
use Rattle.std.specs.Prelude.{◌+◌, List, None, Option, Some, ◌≡◌, refl, true}
use Rattle.std.proofs.lemmas.Grind.{common_steps}
use Rattle.awk_types.specs.DataType.{DataType, depth, unknown, DataTypes, Name, depths, greatest}
use Rattle.awk_types.specs.DataType.{row_type, opt, uni, nodes, nodes_each, type, leaf, rec, reg}
use Rattle.awk_types.specs.DataType.{tup, var}
use Rattle.awk_types.specs.Predicates.{is_leaf}
use Rattle.awk_types.specs.WholeNumbers.{is_numbers}

-- each type has a depth
pub some_depth : (t : DataType) → 1 ≤ depth t
some_depth unknown = omega arith
some_depth t = omega arith

-- what is made of types is one deeper
pub depth-row : (names : Option (List Name)) (ts : DataTypes)
    → depth (row_type names ts) ≡ greatest (depths ts) + 1
depth-row None ts = omega arith
depth-row (Some ns) ts = omega arith

pub depth-option : (t : DataType) → depth (opt t) ≡ depth t + 1
depth-option t = omega arith

pub depth-union : (ts : DataTypes) → depth (uni ts) ≡ greatest (depths ts) + 1
depth-union ts = omega arith

-- the nodes of types are those of the first and of the rest
pub nodes-type : (t : DataType) (ts : DataTypes)
    → sum (nodes_each (type t ts)) ≡ nodes t + sum (nodes_each ts)
nodes-type t ts = grind (arith, common_steps)

-- what is of numbers is a leaf
pub numbers_leaf : (t : DataType) → is_numbers t ≡ true → is_leaf t ≡ true
numbers_leaf unknown e = refl
numbers_leaf (leaf p) e = refl
numbers_leaf (var t) e = cc
numbers_leaf (reg n t) e = cc
numbers_leaf (rec ns ts) e = cc
numbers_leaf (tup ts) e = cc
numbers_leaf (opt t) e = cc
numbers_leaf (uni ts) e = cc
