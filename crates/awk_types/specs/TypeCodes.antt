-- Names, types, values and data as trees of numbers, and back.
use Rattle.std.specs.Prelude.{◌≡◌, suc, zero, List, refl}
use base.Stored.{Gv, gnil, gnum, gcons}
use Rattle.awk_types.specs.declared.primitive.Primitive.{Primitive}
use Rattle.awk_types.specs.declared.primitive.Primitive.TheVariants.{Bool as Truths, I8, I16, I32}
use Rattle.awk_types.specs.declared.primitive.Primitive.TheVariants.{I64, U8, U16, U32, U64}
use Rattle.awk_types.specs.DataType.{Name, DataType, unknown, leaf, var, reg, rec, tup, opt, uni}
use Rattle.awk_types.specs.DataType.{DataTypes, no_types, type}
use Rattle.awk_types.specs.Value.{Value, int, truth, null, list, row, alt, Values, no_values, value}
use Rattle.awk_types.specs.Datum.{Datum, arr, one}
use Rattle.awk_types.specs.SameType.{primitive_number}
use Rattle.awk_types.specs.Trees.{Tree, list_tree, number_tree, int_tree, bool_tree}

abbrev pub primitive_to : Primitive → Gv
primitive_to p = gnum (primitive_number p)

abbrev pub primitive_from : Gv → Primitive
primitive_from (gnum zero) = Truths
primitive_from (gnum (suc zero)) = I8
primitive_from (gnum (suc (suc zero))) = I16
primitive_from (gnum (suc (suc (suc zero)))) = I32
primitive_from (gnum (suc (suc (suc (suc zero))))) = I64
primitive_from (gnum (suc (suc (suc (suc (suc zero)))))) = U8
primitive_from (gnum (suc (suc (suc (suc (suc (suc zero))))))) = U16
primitive_from (gnum (suc (suc (suc (suc (suc (suc (suc zero)))))))) = U32
primitive_from _ = U64

pub primitive_same : (p : Primitive) → primitive_from (primitive_to p) ≡ p
primitive_same Truths = refl
primitive_same I8 = refl
primitive_same I16 = refl
primitive_same I32 = refl
primitive_same I64 = refl
primitive_same U8 = refl
primitive_same U16 = refl
primitive_same U32 = refl
primitive_same U64 = refl

abbrev pub name_tree : Tree Name
name_tree = list_tree number_tree

abbrev pub names_tree : Tree (List Name)
names_tree = list_tree name_tree

abbrev mutual
  pub type_to : DataType → Gv
  type_to unknown = gnil
  type_to (leaf p) = gcons (gnum 0) (primitive_to p)
  type_to (var t) = gcons (gnum 1) (type_to t)
  type_to (reg n t) = gcons (gnum 2) (gcons (gnum n) (type_to t))
  type_to (rec ns ts) = gcons (gnum 3) (gcons (names_tree.to ns) (types_to ts))
  type_to (tup ts) = gcons (gnum 4) (types_to ts)
  type_to (opt t) = gcons (gnum 5) (type_to t)
  type_to (uni ts) = gcons (gnum 6) (types_to ts)

  pub types_to : DataTypes → Gv
  types_to no_types = gnil
  types_to (type t ts) = gcons (type_to t) (types_to ts)

abbrev mutual
  pub type_from : Gv → DataType
  type_from (gcons (gnum zero) p) = leaf (primitive_from p)
  type_from (gcons (gnum (suc zero)) t) = var (type_from t)
  type_from (gcons (gnum (suc (suc zero))) (gcons n t)) = reg (number_tree.from n) (type_from t)
  type_from (gcons (gnum (suc (suc (suc zero)))) (gcons ns ts)) =
      rec (names_tree.from ns) (types_from_tree ts)
  type_from (gcons (gnum (suc (suc (suc (suc zero))))) ts) = tup (types_from_tree ts)
  type_from (gcons (gnum (suc (suc (suc (suc (suc zero)))))) t) = opt (type_from t)
  type_from (gcons (gnum (suc (suc (suc (suc (suc (suc zero))))))) ts) = uni (types_from_tree ts)
  type_from _ = unknown

  pub types_from_tree : Gv → DataTypes
  types_from_tree (gcons t ts) = type (type_from t) (types_from_tree ts)
  types_from_tree _ = no_types

mutual
  pub type_same : (t : DataType) → type_from (type_to t) ≡ t
  type_same unknown = refl
  type_same (leaf p) = λ i. leaf (primitive_same p i)
  type_same (var t) = λ i. var (type_same t i)
  type_same (reg n t) = λ i. reg n (type_same t i)
  type_same (rec ns ts) = λ i. rec (names_tree.same ns i) (types_same ts i)
  type_same (tup ts) = λ i. tup (types_same ts i)
  type_same (opt t) = λ i. opt (type_same t i)
  type_same (uni ts) = λ i. uni (types_same ts i)

  pub types_same : (ts : DataTypes) → types_from_tree (types_to ts) ≡ ts
  types_same no_types = refl
  types_same (type t ts) = λ i. type (type_same t i) (types_same ts i)

abbrev pub type_tree : Tree DataType
type_tree = record { to = type_to; from = type_from; same = type_same }

abbrev mutual
  pub value_to : Value → Gv
  value_to null = gnil
  value_to (int z) = gcons (gnum 0) (int_tree.to z)
  value_to (truth b) = gcons (gnum 1) (bool_tree.to b)
  value_to (list vs) = gcons (gnum 2) (values_to vs)
  value_to (row vs) = gcons (gnum 3) (values_to vs)
  value_to (alt k v) = gcons (gnum 4) (gcons (gnum k) (value_to v))

  pub values_to : Values → Gv
  values_to no_values = gnil
  values_to (value v vs) = gcons (value_to v) (values_to vs)

abbrev mutual
  pub value_from : Gv → Value
  value_from (gcons (gnum zero) z) = int (int_tree.from z)
  value_from (gcons (gnum (suc zero)) b) = truth (bool_tree.from b)
  value_from (gcons (gnum (suc (suc zero))) vs) = list (values_from_tree vs)
  value_from (gcons (gnum (suc (suc (suc zero)))) vs) = row (values_from_tree vs)
  value_from (gcons (gnum (suc (suc (suc (suc zero))))) (gcons k v)) =
      alt (number_tree.from k) (value_from v)
  value_from _ = null

  pub values_from_tree : Gv → Values
  values_from_tree (gcons v vs) = value (value_from v) (values_from_tree vs)
  values_from_tree _ = no_values

mutual
  pub value_same : (v : Value) → value_from (value_to v) ≡ v
  value_same null = refl
  value_same (int z) = λ i. int (int_tree.same z i)
  value_same (truth b) = λ i. truth (bool_tree.same b i)
  value_same (list vs) = λ i. list (values_same vs i)
  value_same (row vs) = λ i. row (values_same vs i)
  value_same (alt k v) = λ i. alt k (value_same v i)

  pub values_same : (vs : Values) → values_from_tree (values_to vs) ≡ vs
  values_same no_values = refl
  values_same (value v vs) = λ i. value (value_same v i) (values_same vs i)

abbrev pub value_tree : Tree Value
value_tree = record { to = value_to; from = value_from; same = value_same }

abbrev pub datum_to : Datum → Gv
datum_to (arr t vs) = gcons (gnum 0) (gcons (type_to t) ((list_tree value_tree).to vs))
datum_to (one t v) = gcons (gnum 1) (gcons (type_to t) (value_to v))

abbrev pub datum_from : Gv → Datum
datum_from (gcons (gnum zero) (gcons t vs)) = arr (type_from t) ((list_tree value_tree).from vs)
datum_from (gcons _ (gcons t v)) = one (type_from t) (value_from v)
datum_from _ = one unknown null

pub datum_same : (d : Datum) → datum_from (datum_to d) ≡ d
datum_same (arr t vs) = λ i. arr (type_same t i) ((list_tree value_tree).same vs i)
datum_same (one t v) = λ i. one (type_same t i) (value_same v i)

abbrev pub datum_tree : Tree Datum
datum_tree = record { to = datum_to; from = datum_from; same = datum_same }
