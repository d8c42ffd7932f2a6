-- The one form of a packed array of a type. Every node has a key, by its number in pre-order.
use Rattle.std.specs.Prelude.{ℕ, suc, ◌+◌, List, [], ◌∷◌, ◌++◌, Some, None, codes, decimal}
use Rattle.awk_types.specs.DataType.{Name, DataType, unknown, leaf, var, reg, rec, tup, opt, uni}
use Rattle.awk_types.specs.DataType.{DataTypes, no_types, type, nodes}
use Rattle.awk_form.specs.FormTree as form
use Rattle.awk_form.specs.FormTree.{FormTree, FormTrees}
use Rattle.awk_form.specs.declared.kind.IndexKind.TheVariants.{I64}

abbrev pub node_key : ℕ → Name
node_key k = codes "node" ++ decimal k

-- the form of node k and of those below it
abbrev mutual
  pub packed_form : ℕ → DataType → FormTree
  packed_form k unknown = form.empty (Some (node_key k))
  packed_form k (leaf p) = form.numpy (Some (node_key k)) p []
  packed_form k (var t) = form.list_offset (Some (node_key k)) I64 (packed_form (suc k) t)
  packed_form k (reg n t) = form.regular (Some (node_key k)) n (packed_form (suc k) t)
  packed_form k (rec ns ts) = form.row (Some (node_key k)) (Some ns) (packed_forms (suc k) ts)
  packed_form k (tup ts) = form.row (Some (node_key k)) None (packed_forms (suc k) ts)
  packed_form k (opt t) = form.indexed_option (Some (node_key k)) I64 (packed_form (suc k) t)
  packed_form k (uni ts) = form.union (Some (node_key k)) I64 (packed_forms (suc k) ts)

  -- of contents from node k on
  pub packed_forms : ℕ → DataTypes → FormTrees
  packed_forms k no_types = form.no_forms
  packed_forms k (type t ts) = form.form (packed_form k t) (packed_forms (k + nodes t) ts)

-- ---- types in order, as a list

-- the number of nodes of all
abbrev pub all_nodes : List DataType → ℕ
all_nodes [] = 0
all_nodes (t ∷ ts) = nodes t + all_nodes ts

-- their forms from node k on
abbrev pub form_each : ℕ → List DataType → List FormTree
form_each k [] = []
form_each k (t ∷ ts) = packed_form k t ∷ form_each (k + nodes t) ts
