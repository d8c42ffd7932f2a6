-- A column of rows: what it gives to each part.
use Rattle.std.proofs.Common.{◌≡◌, ℕ, zero, suc, ◌<◌, List, [], ◌∷◌, length, map, get_or, slice_get}
use Rattle.std.proofs.Common.{Option, Some, None, option_map, refl, ap, sym, subst, ◌∙◌, arith}
use Rattle.std.specs.Prelude.{pos, negsuc, ◌<ℤ◌}
use Rattle.std.proofs.lemmas.Int.{ints}
use Rattle.std.specs.List.{AllByRecursion, range_with_len}
use Rattle.std.proofs.lemmas.List.{length-map}
use Rattle.std.proofs.lemmas.Option.{slice_get-map}
use Rattle.awk_types.specs.DataType.{Name, DataType, DataTypes, unknown, leaf, var, reg, rec, tup}
use Rattle.awk_types.specs.DataType.{opt, uni, row_type, types_from}
use Rattle.awk_types.specs.Has.{Has, HasRow}
use Rattle.awk_types.specs.Parts.{IsRowType, IsRowType as IsRowKind}
use Rattle.awk_types.specs.Value.{Value, value, int, truth, null, list, row, alt, values_from}
use Rattle.awk_types.specs.View.{typ_of, typs_of, fields_of}
use Rattle.awk_types.specs.declared.typ.Fields.{Fields}
use Rattle.awk_types.specs.declared.typ.Typ.{Typ}
use Rattle.awk_types.specs.declared.typ.Typ.TheVariants as types
use Rattle.awk_types.specs.declared.typ.Typs.{Typs}
use Rattle.awk_types.proofs.Views.{typ_of-Rec, typ_of-Tup}
use Rattle.awk_types.proofs.Trees.{type_list-from, value_list-from}
use Rattle.awk_lanes.specs.Column.{Column}
use Rattle.awk_lanes.specs.Places.{option_place, IsOptionalIndex}
use Rattle.awk_lanes.specs.declared.kind.Kind.TheVariants.{I64}
use Rattle.awk_layout.specs.Item.{at_option}
use Rattle.awk_layout.specs.Layout.{Layout, empty}
use Rattle.awk_layout.specs.Typing.{array_type, array_items}
use Rattle.awk_layout.specs.Valid.{len}
use Rattle.awk_gather.specs.Arrays.{array_item}
use Rattle.awk_lanes.specs.Made.{lane_of}
use Rattle.awk_lanes.proofs.MadeLanes.{at-lane_of, size-lane_of, lane_is}
use Rattle.awk_gather.proofs.OptionItems.{item-optional}
use Rattle.awk_columns.specs.ListClass.{Class, list_type}
use Rattle.awk_open.specs.Opened.{AreLong}
use Rattle.awk_open.specs.Opens.{Opens, OpensRow}
use Rattle.awk_open.specs.Opens as opening
use Rattle.awk_open.specs.declared.opening.Opened.{Opened}
use Rattle.awk_open.specs.declared.opening.Opened.TheVariants.{Empty, Leaf, Items, Row}
use Rattle.awk_open.specs.declared.opening.Opened.TheVariants.{Option as Optional, Union}
use Rattle.awk_unify.specs.Carry.{Carry, carried, keep}
use Rattle.awk_unify.proofs.HasLaws.{rec_tup, of_list}
use Rattle.awk_merge_rows.specs.RowLevels.{row_parts}
use Rattle.awk_merge_sides.specs.Lifts.{part_source, part_carry}
use Rattle.awk_merge_rows.specs.Parts.{null_column, or_nulls, side_from, part_side, IsRowSide}
use Rattle.awk_merge_sides.specs.Sides.{Side, side_items, Carries, IsSide, AreSides}
use Rattle.awk_merge_sides.proofs.SideLaws.{get_or-side_items, item_has, IsSide-get}
use Rattle.awk_merge_sides.proofs.CarryLaws.{IsRow, rows_before}
use Rattle.awk_merge_rows.proofs.RowValues.{or_null, value_from, part_value, first_parts}
use Rattle.awk_merge_rows.proofs.RowValues.{row_carried, part_has}

-- ---- one column of rows

-- the items of columns at a place
abbrev pub row_at : List Layout → ℕ → List Value
row_at ys i = map (λ y. array_item y i) ys

across-row : (ys : List Layout) (i : ℕ) → opening.across ys i ≡ values_from (row_at ys i)
across-row [] i = refl
across-row (y ∷ ys) i = ap (value (array_item y i)) (across-row ys i)

row_item : (names : Option (List Name)) (ys : List Layout) (x : Layout) (i : ℕ)
    → OpensRow names ys x → i < len x → array_item x i ≡ row (values_from (row_at ys i))
row_item names ys x i o l = o.items i l ∙ ap row (across-row ys i)

-- nulls
null_lane : (j : Column) (n : ℕ) → j.kind ≡ I64
    → j.items ≡ map (λ i. negsuc 0) (range_with_len 0 n) → j ≡ lane_of I64 n (λ i. negsuc 0)
null_lane j n e h = lane_is j (lane_of I64 n (λ i. negsuc 0)) e h

pub null_index : (j : Column) (n : ℕ) → j.kind ≡ I64
    → j.items ≡ map (λ i. negsuc 0) (range_with_len 0 n) → IsOptionalIndex j 0
null_index j n e h = subst (λ j. IsOptionalIndex j 0) (sym (null_lane j n e h)) (record {
  kind = tt;
  below = λ i l. subst (λ z. z <ℤ pos 0)
      (sym (at-lane_of I64 n (λ i. negsuc 0) i
      (omega (arith, l, size-lane_of I64 n (λ i. negsuc 0))))) (omega (arith, ints));
})

len-null_column : (n : ℕ) → len (null_column n) ≡ n
len-null_column n = size-lane_of I64 n (λ i. negsuc 0)

null_item : (n i : ℕ) → i < n → array_item (null_column n) i ≡ null
null_item n i l =
    item-optional (lane_of I64 n (λ i. negsuc 0)) empty i
    ∙ ap (λ z. at_option (option_place z) (array_item empty)) (at-lane_of I64 n (λ i. negsuc 0) i l)

abbrev OfLen : ℕ → Option Layout → Type 0
OfLen n None = Unit {0}
OfLen n (Some y) = len y ≡ n

of_len : (n : ℕ) (ys : List Layout) (k : ℕ) → AreLong n ys → OfLen n (slice_get ys k)
of_len n [] k h = tt
of_len n (y ∷ ys) zero h = h.0
of_len n (y ∷ ys) (suc k) h = of_len n ys k h.1

or_item : (n i : ℕ) (f : Carry) (o : Option Layout) → OfLen n o → i < n
    → get_or (side_items (or_nulls n f o)) i null ≡ or_null f (option_map (λ y. array_item y i) o)
or_item n i f (Some y) e l =
    get_or-side_items (record { column = y; carry = f }) i (omega (arith, e, l))
or_item n i f None e l =
    get_or-side_items (record { column = null_column n; carry = keep }) i
    (omega (arith, len-null_column n, l))
    ∙ null_item n i l

-- what they give to a part is the part of each row
from_item : (n i : ℕ) (f : ℕ → Carry) (ys : List Layout) (o : Option ℕ) → AreLong n ys → i < n
    → get_or (side_items (side_from n f ys o)) i null ≡ value_from f (row_at ys i) o
from_item n i f ys None a l = or_item n i keep None tt l
from_item n i f ys (Some k) a l =
    or_item n i (f k) (slice_get ys k) (of_len n ys k a) l
    ∙ ap (or_null (f k)) (sym (slice_get-map (λ y. array_item y i) ys k))

or_len : (n : ℕ) (f : Carry) (o : Option Layout) → OfLen n o → len (or_nulls n f o).column ≡ n
or_len n f (Some y) e = e
or_len n f None e = len-null_column n

from_len : (n : ℕ) (f : ℕ → Carry) (ys : List Layout) (o : Option ℕ) → AreLong n ys
    → len (side_from n f ys o).column ≡ n
from_len n f ys None a = len-null_column n
from_len n f ys (Some k) a = or_len n (f k) (slice_get ys k) (of_len n ys k a)

-- a row with another value at one place
abbrev replaced : List Value → ℕ → Value → List Value
replaced [] k v = []
replaced (w ∷ ws) zero v = v ∷ ws
replaced (w ∷ ws) (suc k) v = w ∷ replaced ws k v

abbrev HaveTypes : List Layout → List Value → Type 0
HaveTypes ys vs = HasRow (types_from (map array_type ys)) vs

replaced_has : (ys : List Layout) (vs : List Value) (k : ℕ) (y : Layout) (v : Value)
    → HaveTypes ys vs → slice_get ys k ≡ Some y → Has (array_type y) v
    → HaveTypes ys (replaced vs k v) × (slice_get (replaced vs k v) k ≡ Some v)
replaced_has [] vs k y v h e a = cc
replaced_has (z ∷ ys) [] k y v h e a = absurd h
replaced_has (z ∷ ys) (w ∷ vs) zero y v h e a =
    let is : z ≡ y = cc in
    ((subst (λ z. Has (array_type z) v) (sym is) a, h.1), refl)
replaced_has (z ∷ ys) (w ∷ vs) (suc k) y v h e a =
    let rest : HaveTypes ys (replaced vs k v) × (slice_get (replaced vs k v) k ≡ Some v) =
    replaced_has ys vs k y v h.1 e a in
    ((h.0, rest.0), rest.1)

none_at : (ys : List Layout) (vs : List Value) (k : ℕ) → HaveTypes ys vs
    → slice_get ys k ≡ None → slice_get vs k ≡ None
none_at [] [] k h e = refl
none_at [] (w ∷ vs) k h e = absurd h
none_at (z ∷ ys) [] k h e = absurd h
none_at (z ∷ ys) (w ∷ vs) zero h e = cc
none_at (z ∷ ys) (w ∷ vs) (suc k) h e = none_at ys vs k h.1 e

null_carries : (n : ℕ) (t : DataType) → Has t null → Carries (array_type (null_column n)) keep t
null_carries n t h null k = h
null_carries n t h (int z) k = absurd k
null_carries n t h (truth b) k = absurd k
null_carries n t h (list vs) k = absurd k
null_carries n t h (row vs) k = absurd k
null_carries n t h (alt i v) k = absurd k

or_carries : (n : ℕ) (f : Carry) (ys : List Layout) (k : ℕ) (o : Option Layout) (t : DataType)
    (vs : List Value) → slice_get ys k ≡ o → HaveTypes ys vs
    → ((ws : List Value) → HaveTypes ys ws → Has t (or_null f (slice_get ws k)))
    → Carries (array_type (or_nulls n f o).column) (or_nulls n f o).carry t
or_carries n f ys k (Some y) t vs e h c = λ v a.
    let r : HaveTypes ys (replaced vs k v) × (slice_get (replaced vs k v) k ≡ Some v) =
    replaced_has ys vs k y v h e a in
    subst (λ o. Has t (or_null f o)) r.1 (c (replaced vs k v) r.0)
or_carries n f ys k None t vs e h c =
    null_carries n t (subst (λ o. Has t (or_null f o)) (none_at ys vs k h e) (c vs h))

-- the values of what goes to a part become ones of its type
from_carries : (n : ℕ) (f : ℕ → Carry) (ys : List Layout) (o : Option ℕ) (t : DataType)
    (vs : List Value) → HaveTypes ys vs
    → ((ws : List Value) → HaveTypes ys ws → Has t (value_from f ws o))
    → Carries (array_type (side_from n f ys o).column) (side_from n f ys o).carry t
from_carries n f ys None t vs h c = null_carries n t (c vs h)
from_carries n f ys (Some k) t vs h c = or_carries n (f k) ys k (slice_get ys k) t vs refl h c

-- ---- a column of rows among others

of_row : (names : Option (List Name)) (ys : List Layout) (vs : List Value) → HaveTypes ys vs
    → Has (row_type names (types_from (map array_type ys))) (row (values_from vs))
of_row None ys vs h = subst (HasRow (types_from (map array_type ys))) (sym (value_list-from vs)) h
of_row (Some ns) ys vs h =
    subst (HasRow (types_from (map array_type ys))) (sym (value_list-from vs)) h

of_parts : (names : Option (List Name)) (ys : List Layout) (vs : List Value)
    → Has (row_type names (types_from (map array_type ys))) (row (values_from vs))
    → HaveTypes ys vs
of_parts None ys vs h = subst (HasRow (types_from (map array_type ys))) (value_list-from vs) h
of_parts (Some ns) ys vs h = subst (HasRow (types_from (map array_type ys))) (value_list-from vs) h

-- its items are of its type
abbrev pub HasItems : Layout → Type 0
HasItems x = AllByRecursion (Has (array_type x)) (array_items x)

module _ (ts : List DataType) (x : Layout) (f : Carry) (names : Option (List Name))
    (ys : List Layout) (side : IsSide (tup (types_from ts)) (record { column = x; carry = f }))
    (typed : HasItems x) (opened : OpensRow names ys x) where
  pub row_becomes : (vs : List Value) → HaveTypes ys vs
      → Has (tup (types_from ts)) (carried f (row (values_from vs)))
  row_becomes vs h = side.values (row (values_from vs))
      (subst (λ a. Has a (row (values_from vs))) (sym opened.typ) (of_row names ys vs h))

  pub row_has : (i : ℕ) → i < len x → HaveTypes ys (row_at ys i)
  row_has i l = of_parts names ys (row_at ys i)
      (subst (λ a. Has a (row (values_from (row_at ys i)))) opened.typ
      (subst (Has (array_type x)) (row_item names ys x i opened l) (item_has x i typed l)))

  -- each of its rows is carried part by part
  pub carried_row : (i : ℕ) → i < len x → carried f (array_item x i)
      ≡ row (values_from (first_parts f (row_at ys i) (length ts)))
  carried_row i l = ap (carried f) (row_item names ys x i opened l)
      ∙ row_carried f (row_at ys i) ts (row_becomes (row_at ys i) (row_has i l))

  pub part_carries : (j : ℕ) → j < length ts
      → Carries (array_type (part_side (len x) f ys j).column) (part_side (len x) f ys j).carry
      (get_or ts j unknown)
  part_carries j l = from_carries (len x) (part_carry f) ys (part_source f j) (get_or ts j unknown)
      (row_at ys 0) (row_has 0 side.some)
      (λ ws h. part_has f ws ts j (row_becomes ws h) l)

  pub part_item : (i j : ℕ) → i < len x
      → get_or (side_items (part_side (len x) f ys j)) i null ≡ part_value f (row_at ys i) j
  part_item i j l = from_item (len x) i (part_carry f) ys (part_source f j) opened.lens l

  pub part_len : (j : ℕ) → len (part_side (len x) f ys j).column ≡ len x
  part_len j = from_len (len x) (part_carry f) ys (part_source f j) opened.lens

-- ---- only a column of rows becomes rows

tup_row : (ts : DataTypes) (v : Value) → Has (tup ts) v → IsRow v
tup_row ts (row vs) h = tt
tup_row ts v h = absurd h

not_row : (c : Class) (t : DataType) → IsRowKind (list_type c t) → ⊥
not_row None t h = h
not_row (Some n) t h = h

pub row_opened : (s : Side) (r : Opened) → IsRowSide s → HasItems s.column → Opens s.column r
    → ((names : Option (List Name)) (ys : List Layout) → r ≡ Row names ys → ⊥) → ⊥
row_opened s r h k o n =
    by_kind r (rows_before (array_type s.column) (tup (types_from h.0)) s.carry
    (array_item s.column 0) (item_has s.column 0 k h.1.some) (λ k. k) (tup_row (types_from h.0))
    h.1.values) o n
  where
    by_kind : (r : Opened) → IsRowKind (array_type s.column) → Opens s.column r
        → ((names : Option (List Name)) (ys : List Layout) → r ≡ Row names ys → ⊥) → ⊥
    by_kind Empty l o n = subst IsRowKind o.typ l
    by_kind (Leaf c) l o n = subst IsRowKind o.typ l
    by_kind (Items ls) l o n =
        not_row ls.class (array_type ls.content) (subst IsRowKind o.typ l)
    by_kind (Row names ys) l o n = n names ys refl
    by_kind (Optional j y) l o n = subst IsRowKind o.typ l
    by_kind (Union t j ys) l o n = subst IsRowKind o.typ l

-- the columns of rows of a tuple or a record
as_tuple : (t : DataType) (s : Side) → IsRowType t → IsSide t s
    → IsSide (tup (types_from (row_parts t))) s
as_tuple (rec ns ts) s r h = record {
  some = h.some;
  values = λ v a. of_list ts (carried s.carry v)
      (rec_tup ns ts (carried s.carry v) (h.values v a));
}
as_tuple (tup ts) s r h = record {
  some = h.some;
  values = λ v a. of_list ts (carried s.carry v) (h.values v a);
}
as_tuple unknown s r h = absurd r
as_tuple (leaf p) s r h = absurd r
as_tuple (var t) s r h = absurd r
as_tuple (reg n t) s r h = absurd r
as_tuple (opt t) s r h = absurd r
as_tuple (uni ts) s r h = absurd r

pub rec_count : (t : Typ) (fields : Fields) → t ≡ types.Rec fields
    → length (fields_of fields) ≡ length (row_parts (typ_of t))
rec_count t fields e =
    sym (ap (λ t. length (row_parts (typ_of t))) e
    ∙ ap (λ t. length (row_parts t)) (typ_of-Rec fields)
    ∙ ap length (type_list-from (map (λ f. f.typ) (fields_of fields)))
    ∙ length-map (fields_of fields) (λ f. f.typ))

pub tup_count : (t : Typ) (parts : Typs) → t ≡ types.Tup parts
    → length (typs_of parts) ≡ length (row_parts (typ_of t))
tup_count t parts e =
    sym (ap (λ t. length (row_parts (typ_of t))) e
    ∙ ap (λ t. length (row_parts t)) (typ_of-Tup parts)
    ∙ ap length (type_list-from (typs_of parts)))

pub row_side : (t : DataType) (ss : List Side) (i : ℕ) (s : Side) → IsRowType t → AreSides t ss
    → slice_get ss i ≡ Some s → IsSide (tup (types_from (row_parts t))) s
row_side t ss i s r h e = as_tuple t s r (IsSide-get t ss i s e h)
