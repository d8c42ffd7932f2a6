-- Types and values as lists, and back.
use Rattle.std.proofs.Common.{◌≡◌, suc, List, [], ◌∷◌, length, refl, ap}
use Rattle.awk_types.specs.DataType.{DataType, DataTypes, no_types, type, type_list, types_from}
use Rattle.awk_types.specs.Limit.{widths}
use Rattle.awk_types.specs.Value.{Value, Values, no_values, value, value_list, values_from}

pub types_from-list : (ts : DataTypes) → types_from (type_list ts) ≡ ts
types_from-list no_types = refl
types_from-list (type t ts) = ap (type t) (types_from-list ts)

pub type_list-from : (ts : List DataType) → type_list (types_from ts) ≡ ts
type_list-from [] = refl
type_list-from (t ∷ ts) = ap (λ us. t ∷ us) (type_list-from ts)

pub values_from-list : (vs : Values) → values_from (value_list vs) ≡ vs
values_from-list no_values = refl
values_from-list (value v vs) = ap (value v) (values_from-list vs)

pub value_list-from : (vs : List Value) → value_list (values_from vs) ≡ vs
value_list-from [] = refl
value_list-from (v ∷ vs) = ap (λ ws. v ∷ ws) (value_list-from vs)

pub length-widths : (ts : List DataType) → length (widths (types_from ts)) ≡ length ts
length-widths [] = refl
length-widths (t ∷ ts) = ap suc (length-widths ts)
