-- Simplifying gives types.
use Rattle.std.proofs.Common.{◌≡◌, ◌≤◌, suc, Bool, true, false, List, [], ◌∷◌, ◌++◌, length, refl}
use Rattle.std.proofs.Common.{ap, arith, ◌∙◌, sym, subst, length-append}
use Rattle.std.specs.List.{list_any, flat_map}
use Rattle.awk_types.specs.DataType.{DataType, unknown, leaf, var, reg, rec, tup, opt, uni}
use Rattle.awk_types.specs.DataType.{DataTypes, no_types, type, types_from, type_list}
use Rattle.awk_types.specs.IsType.{IsType, AreTypes, count}
use Rattle.awk_types.specs.Simple.{present, is_option, alternatives, present_alternatives}
use Rattle.awk_types.specs.Simple.{option_if, union_of, simple, simples}
use Rattle.awk_types.proofs.Trees.{types_from-list, type_list-from}

pub types_append : (ts us : List DataType) → AreTypes (types_from ts) → AreTypes (types_from us)
    → AreTypes (types_from (ts ++ us))
types_append [] us h k = k
types_append (t ∷ ts) us h k = (h.0, types_append ts us h.1 k)

pub type_list_are_types : (ts : DataTypes) → AreTypes ts → AreTypes (types_from (type_list ts))
type_list_are_types ts h = subst AreTypes (sym (types_from-list ts)) h

pub present_is_type : (t : DataType) → IsType t → IsType (present t)
present_is_type (opt t) h = h
present_is_type t h = h

pub alternatives_are_types : (t : DataType) → IsType t
    → AreTypes (types_from (alternatives t)) × (1 ≤ length (alternatives t))
alternatives_are_types (uni ts) h = (type_list_are_types ts h.1, h.0)
alternatives_are_types t h = ((h, tt), omega arith)

pub present_alternatives_are_types : (t : DataType) → IsType t
    → AreTypes (types_from (present_alternatives t)) × (1 ≤ length (present_alternatives t))
present_alternatives_are_types t h = alternatives_are_types (present t) (present_is_type t h)

pub flat_are_types : (ts : List DataType) → AreTypes (types_from ts)
    → AreTypes (types_from (flat_map present_alternatives ts))
flat_are_types [] h = tt
flat_are_types (t ∷ ts) h =
    types_append (present_alternatives t) (flat_map present_alternatives ts)
    (present_alternatives_are_types t h.0).0 (flat_are_types ts h.1)

flat_has_some : (ts : List DataType) → AreTypes (types_from ts) → 1 ≤ length ts
    → 1 ≤ length (flat_map present_alternatives ts)
flat_has_some [] h k = absurd (omega arith)
flat_has_some (t ∷ ts) h k = grind (arith, length-append, (present_alternatives_are_types t h.0).1)

option_if_is_type : (b : Bool) (t : DataType) → IsType t → IsType (option_if b t)
option_if_is_type true t h = h
option_if_is_type false t h = h

pub union_of_is_type : (ts : List DataType) → AreTypes (types_from ts) → 1 ≤ length ts
    → IsType (union_of ts)
union_of_is_type ts h k =
    option_if_is_type (list_any is_option ts) _ (
      subst (λ us. 1 ≤ length us) (sym (type_list-from (flat_map present_alternatives ts)))
          (flat_has_some ts h k),
      flat_are_types ts h,
    )

pub length-simples : (ts : DataTypes) → length (simples ts) ≡ count ts
length-simples no_types = refl
length-simples (type t ts) = ap suc (length-simples ts)

pub count-types_from : (ts : List DataType) → count (types_from ts) ≡ length ts
count-types_from ts = ap length (type_list-from ts)

mutual
  pub simple_is_type : (t : DataType) → IsType t → IsType (simple t)
  simple_is_type unknown h = tt
  simple_is_type (leaf p) h = tt
  simple_is_type (var t) h = simple_is_type t h
  simple_is_type (reg n t) h = simple_is_type t h
  simple_is_type (rec ns ts) h =
      (h.0, h.1 ∙ sym (count-types_from (simples ts) ∙ length-simples ts), simples_are_types ts h.2)
  simple_is_type (tup ts) h = simples_are_types ts h
  simple_is_type (opt t) h = present_is_type (simple t) (simple_is_type t h)
  simple_is_type (uni ts) h =
      union_of_is_type (simples ts) (simples_are_types ts h.1)
      (omega (arith, h.0, length-simples ts))

  pub simples_are_types : (ts : DataTypes) → AreTypes ts → AreTypes (types_from (simples ts))
  simples_are_types no_types h = tt
  simples_are_types (type t ts) h = (simple_is_type t h.0, simples_are_types ts h.1)
