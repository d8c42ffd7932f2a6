-- The form of a packed array has its type.
use Rattle.std.proofs.Common.{◌≡◌, ℕ, suc, ◌+◌, refl, ap, ap₂}
use Rattle.awk_types.specs.DataType.{DataType, unknown, leaf, var, reg, rec, tup, opt, uni}
use Rattle.awk_types.specs.DataType.{DataTypes, no_types, type, nodes}
use Rattle.awk_form.specs.FormType.{type_of, types_of}
use Rattle.awk_pack.specs.PackedForm.{packed_form, packed_forms}

mutual
  pub type-packed_form : (k : ℕ) (t : DataType) → type_of (packed_form k t) ≡ t
  type-packed_form k unknown = refl
  type-packed_form k (leaf p) = refl
  type-packed_form k (var t) = ap var (type-packed_form (suc k) t)
  type-packed_form k (reg n t) = ap (reg n) (type-packed_form (suc k) t)
  type-packed_form k (rec ns ts) = ap (rec ns) (types-packed_forms (suc k) ts)
  type-packed_form k (tup ts) = ap tup (types-packed_forms (suc k) ts)
  type-packed_form k (opt t) = ap opt (type-packed_form (suc k) t)
  type-packed_form k (uni ts) = ap uni (types-packed_forms (suc k) ts)

  types-packed_forms : (k : ℕ) (ts : DataTypes) → types_of (packed_forms k ts) ≡ ts
  types-packed_forms k no_types = refl
  types-packed_forms k (type t ts) =
      ap₂ type (type-packed_form k t) (types-packed_forms (k + nodes t) ts)
