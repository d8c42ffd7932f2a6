-- The parts of a type that arrays have are such types.
use Rattle.std.proofs.Common.{◌≡◌, ◌∷◌, [], ℕ, suc, List, false, length, slice_get, refl, subst}
use Rattle.std.specs.Prelude.{None, Option, Some}
use Rattle.awk_types.proofs.SimpleLaws.{plain_are_simple}
use Rattle.awk_types.proofs.Trees.{type_list-from}
use Rattle.awk_types.specs.DataType.{DataType, Name, opt, rec, reg, row_type, types_from, uni, var}
use Rattle.awk_types.specs.IsType.{AreTypes}
use Rattle.awk_types.specs.Limit.{limit}
use Rattle.awk_types.specs.Names.{AreDistinct}
use Rattle.awk_types.specs.Simple.{AreSimple, is_option}
use Rattle.awk_types.proofs.PartLimits.{within_reg, within_row, within_uni, within_var}
use Rattle.awk_layout.specs.Array.{IsArrayType}
use Rattle.awk_merge_sides.specs.Groups.{AreArrayTypes}

pub present_plain : (u : DataType) → IsArrayType (opt u) → is_option u ≡ false
present_plain u h = h.is_simple.0

pub item_lawful : (u : DataType) → IsArrayType (var u) → IsArrayType u
item_lawful u h = record {
  is_type = h.is_type;
  is_simple = h.is_simple;
  within_limits = within_var u h.within_limits;
}

pub sized_lawful : (n : ℕ) (u : DataType) → IsArrayType (reg n u) → IsArrayType u
sized_lawful n u h = record {
  is_type = h.is_type;
  is_simple = h.is_simple;
  within_limits = within_reg n u h.within_limits;
}

-- each type of a list is lawful, whose parts are
each_lawful : (ts : List DataType) → AreTypes (types_from ts) → AreSimple (types_from ts)
    → ((k : ℕ) (u : DataType) → slice_get ts k ≡ Some u → limit u ≡ None) → AreArrayTypes ts
each_lawful [] t s l = tt
each_lawful (u ∷ ts) t s l = (
  record { is_type = t.0; is_simple = s.0; within_limits = l 0 u refl },
  each_lawful ts t.1 s.1 (λ k w e. l (suc k) w e),
)

pub row_lawful : (names : Option (List Name)) (ts : List DataType)
    → IsArrayType (row_type names (types_from ts)) → AreArrayTypes ts
row_lawful None ts h =
    each_lawful ts h.is_type h.is_simple (λ k u e. within_row None ts k u e h.within_limits)
row_lawful (Some names) ts h =
    each_lawful ts h.is_type.2 h.is_simple (λ k u e. within_row (Some names) ts k u e
    h.within_limits)

pub alternatives_lawful : (ts : List DataType) → IsArrayType (uni (types_from ts))
    → AreArrayTypes ts
alternatives_lawful ts h =
    each_lawful ts h.is_type.1 (plain_are_simple (types_from ts) h.is_simple)
    (λ k u e. within_uni ts k u e h.within_limits)

-- a record has distinct names, one for each field
pub names_lawful : (names : List Name) (ts : List DataType)
    → IsArrayType (rec names (types_from ts))
    → AreDistinct names × (length names ≡ length ts)
names_lawful names ts h =
    (h.is_type.0, subst (λ us. length names ≡ length us) (type_list-from ts) h.is_type.1)
