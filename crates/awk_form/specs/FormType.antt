-- The type of the items of a form.
use Rattle.std.specs.Prelude.{◌≡◌, ℕ, List, [], ◌∷◌, Ok}
use Rattle.awk_types.specs.DataType.{DataType, DataTypes, unknown, leaf, var, reg, opt, uni}
use Rattle.awk_types.specs.DataType.{no_types, type, row_type}
use Rattle.awk_types.specs.Limit.{within}
use Rattle.awk_types.specs.Simple.{simple}
use Rattle.awk_form.specs.FormTree.{FormTree, empty, numpy, regular, list, list_offset, row}
use Rattle.awk_form.specs.FormTree.{indexed, indexed_option, byte_masked, bit_masked, unmasked}
use Rattle.awk_form.specs.FormTree.{union, FormTrees, no_forms, form}

-- the regular lists of an inner shape
abbrev pub shaped : List ℕ → DataType → DataType
shaped [] t = t
shaped (n ∷ ns) t = reg n (shaped ns t)

-- both masked classes, the option index and the unmasked class are optional
abbrev mutual
  pub type_of : FormTree → DataType
  type_of (empty key) = unknown
  type_of (numpy key prim inner) = shaped inner (leaf prim)
  type_of (regular key size f) = reg size (type_of f)
  type_of (list key starts stops f) = var (type_of f)
  type_of (list_offset key offsets f) = var (type_of f)
  type_of (row key names fs) = row_type names (types_of fs)
  type_of (indexed key index f) = type_of f
  type_of (indexed_option key index f) = opt (type_of f)
  type_of (byte_masked key valid_when f) = opt (type_of f)
  type_of (bit_masked key valid_when lsb_order f) = opt (type_of f)
  type_of (unmasked key f) = opt (type_of f)
  type_of (union key index fs) = uni (types_of fs)

  pub types_of : FormTrees → DataTypes
  types_of no_forms = no_types
  types_of (form f fs) = type (type_of f) (types_of fs)

-- the simple type of the items of a form, which passes no limit
abbrev pub HasType : FormTree → DataType → Type 0
HasType f t = within (simple (type_of f)) ≡ Ok t
