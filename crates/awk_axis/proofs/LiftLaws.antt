-- What a function applied at an axis gives for lists, options, rows and unions, from what it gives
-- for their contents.
use Rattle.std.specs.Prelude.{◌≡◌, ℕ, zero, suc, ◌+◌, ◌-◌, ◌<◌, refl, Bool, true, false, List, []}
use Rattle.std.specs.Prelude.{◌∷◌, map, Option, Some, None, if◌then◌else◌}
use Rattle.std.proofs.Common.{arith, ap, sym, ◌∙◌}
use Rattle.awk_types.specs.DataType.{Name, DataType, DataTypes, unknown, leaf, var, reg, rec, tup}
use Rattle.awk_types.specs.DataType.{opt, uni, types_from, row_type}
use Rattle.awk_types.specs.Value.{Value, null, list, row, alt, value_list, values_from}
use Rattle.awk_types.specs.Simple.{simple, simples, simple_value, simple_values, in_list, in_row}
use Rattle.awk_types.specs.Simple.{in_option, in_alternative, option_of, union_of, union_value}
use Rattle.awk_types.specs.Simple.{values_by, value_by}
use Rattle.awk_types.proofs.Trees.{values_from-list, value_list-from}
use Rattle.awk_types.proofs.NullLaws.{simple_value-null}
use Rattle.awk_lanes.specs.Column.{Column}
use Rattle.awk_lanes.specs.Places.{size_of, at, place_at}
use Rattle.awk_layout.specs.Layout.{Layout, layouts_from, count, rows, optional, union}
use Rattle.awk_layout.specs.Layout.{lists as spanned}
use Rattle.awk_layout.specs.Valid.{len, len_of, AllValid, AllReach, IsUnion}
use Rattle.awk_layout.specs.Item.{item, item_of, items_across}
use Rattle.awk_layout.specs.Typing.{layout_type, layout_types, array_type, array_items}
use Rattle.awk_layout.proofs.Runs.{run-same}
use Rattle.awk_list_functions.specs.declared.causes.Refusal.{Refusal}
use Rattle.awk_list_functions.specs.declared.causes.Refusal.TheVariants.{WrongType}
use Rattle.awk_list_functions.specs.declared.place.Reach.{Reach}
use Rattle.awk_list_functions.specs.Reach.{here, inner, passes_rows}
use Rattle.awk_list_functions.specs.Causes.{first_spoil}
use Rattle.awk_columns.specs.Columns.{lists_among}
use Rattle.awk_columns.specs.ListClass.{Class, list_type}
use Rattle.awk_list_functions.specs.ListFunction.{Giving, ListFunction, given_type, given_value}
use Rattle.awk_list_functions.specs.Lift.{lifted_type, lifted_types, lifted_value, lifted_values}
use Rattle.awk_list_functions.specs.Lift.{refusal_at}
use Rattle.awk_list_functions.specs.Lift.{refusal_among, on_list}
use Rattle.awk_list_functions.specs.Spoils.{spoil_at, spoils_at, spoil_inside, spoil_across}
use Rattle.awk_list_functions.specs.Spoils.{spoil_among}
use Rattle.awk_columns.specs.Lists.{items_at}
use Rattle.awk_open.specs.Opened.{AreLong}
use Rattle.awk_open.proofs.OpenedKinds.{item-lists}
use Rattle.awk_open.specs.Opens.{across, item_among, OpensLists, OpensOption, OpensRow, OpensUnion}
use Rattle.awk_columns.specs.Parts.{AreParts, AreAlternatives}
use Rattle.awk_gather.specs.Arrays.{array_item}
use Rattle.awk_columns.specs.Joined.{AreOffsets, JoinsLists}
use Rattle.awk_list_functions.specs.Made.{IsColumn, IsMapped, AreGiven, AreSpanned, IsUnsized}
use Rattle.awk_axis.specs.Mapped.{spoil_of_all, AreMapped}
use Rattle.awk_columns.specs.ListNode.{list_layout}
use Rattle.awk_columns.proofs.ListNodes.{simple-list, simple_value-list, array_type-list, len-list}
use Rattle.awk_columns.proofs.ListNodes.{valid-list, item-list, joined_even}
use Rattle.awk_columns.proofs.ArrayLaws.{run_in_list, option_item}

same_branches : {X : Type 0} (b : Bool) (x y : X) → x ≡ y → (if b then x else y) ≡ y
same_branches true x y e = e
same_branches false x y e = refl

-- null stays null
pub lifted_null : (g : Giving) (k : Reach) (t : DataType) → lifted_value g k t null ≡ null
lifted_null g k unknown = refl
lifted_null g k (leaf p) = refl
lifted_null g k (var t) = same_branches (here k t) null null refl
lifted_null g k (reg n t) = same_branches (here k t) null null refl
lifted_null g k (rec ns ts) = refl
lifted_null g k (tup ts) = refl
lifted_null g k (opt t) = refl
lifted_null g k (uni ts) = refl

-- ---- options

pub option_column : (u : DataType) (g : Value → Value) (j : Column) (c x y : Layout) → g null ≡ null
    → OpensOption j c x → IsMapped u g c y → IsMapped (opt u) (in_option g) x (optional j y)
option_column u g j c x y gn o m = record {
  valid = (o.fits, rw m.size o.index, m.valid);
  size = o.size;
  typ = ap option_of m.typ;
  items = λ i p.
      option_item (at j i) (len c) (o.index.below i (omega (arith, p, o.size)))
      (simple_value (layout_type y)) (item y) (simple_value u) g (array_item c)
      (simple_value-null (layout_type y)) (simple_value-null u) gn m.items
      ∙ ap (λ v. in_option (simple_value u) (in_option g v)) (sym (o.items i p));
}

-- ---- lists

-- lists above the axis: their items, each by the function
pub lists_column : (class : Class) (u : DataType) (g : Value → Value) (s t o : Column)
    (c z x y : Layout) → OpensLists class s t c x → JoinsLists s t c o z → IsMapped u g z y
    → IsMapped (list_type class u) (in_list g) x (list_layout class (size_of s) o y)
lists_column class u g s t o c z x y opens joins m =
    let even = joined_even class s t c o z opens.lists.same_class joins in
    let offsets : AreOffsets o (size_of s) (len y) = rw m.size joins.offsets in
    record {
      valid = valid-list class (size_of s) o y offsets even m.valid;
      size = len-list class (size_of s) o y offsets.size ∙ opens.size;
      typ = array_type-list class (size_of s) o y ∙ ap (list_type class) m.typ
          ∙ sym (simple-list class u);
      items = λ i p.
          let q : i < size_of s = omega (arith, p, opens.size) in
          let a = place_at o i in
          let n = place_at o (i + 1) - place_at o i in
          item-list class (size_of s) o y even i q
          ∙ ap list (run-same (array_item y) (λ k. simple_value u (g (array_item z k))) a n
          (λ k _ r. m.items k (omega (arith, r, joins.offsets.within i q))))
          ∙ sym (simple_value-list class u (in_list g (array_item x i))
          ∙ ap (λ v. in_list (simple_value u) (in_list g v))
          (opens.items i p ∙ ap list (joins.lists i q))
          ∙ ap (in_list (simple_value u)) (run_in_list g (array_item z) a n)
          ∙ run_in_list (simple_value u) (λ k. g (array_item z k)) a n);
    }

-- lists at the axis
pub given_column : (class : Class) (t : DataType) (f : List Value → List Value) (s e o : Column)
    (y z : Layout) → AreGiven class t f s e y o z
    → IsColumn (list_type class t) (λ i. list (values_from (f (items_at s e y i)))) (size_of s)
    (list_layout class (size_of s) o z)
given_column class t f s e o y z g = record {
  valid = valid-list class (size_of s) o z g.offsets g.even g.valid;
  size = len-list class (size_of s) o z g.offsets.size;
  typ = array_type-list class (size_of s) o z ∙ ap (list_type class) g.typ
      ∙ sym (simple-list class t);
  items = λ i p.
      item-list class (size_of s) o z g.even i p
      ∙ ap list (sym (values_from-list _)
      ∙ ap values_from (g.lists i p
      ∙ ap (map (simple_value t)) (sym (value_list-from (f (items_at s e y i))))))
      ∙ sym (simple_value-list class t (list (values_from (f (items_at s e y i)))));
}

-- the same by their starts and stops
pub spanned_column : (class : Class) (t : DataType) (f : List Value → List Value)
    (s e a b : Column) (y z : Layout) → IsUnsized class → AreSpanned t f s e y a b z
    → IsColumn (list_type class t) (λ i. list (values_from (f (items_at s e y i)))) (size_of s)
    (spanned a b z)
spanned_column None t f s e a b y z u g = record {
  valid = (g.fits, g.spans, g.valid);
  size = g.size;
  typ = ap (list_type None) g.typ ∙ sym (simple-list None t);
  items = λ i p.
      item-lists a b z i
      ∙ ap list (sym (values_from-list _)
      ∙ ap values_from (g.lists i p
      ∙ ap (map (simple_value t)) (sym (value_list-from (f (items_at s e y i))))))
      ∙ sym (simple_value-list None t (list (values_from (f (items_at s e y i)))));
}
spanned_column (Some m) t f s e a b y z u g = absurd u

-- whether lists are at the axis, as a test tells it
pub here_told : (k : Reach) (t u : DataType) (r b : Bool) → u ≡ t → r ≡ here k u → r ≡ b
    → here k t ≡ b
here_told k t u r b e h q = ap (here k) (sym e) ∙ sym h ∙ q

pub spoil-list : (f : ListFunction) (k : Reach) (class : Class) (t : DataType) (vs : List Value)
    → here k t ≡ false → spoil_at f k (list_type class t) vs ≡ spoil_inside (spoil_at f (inner k) t)
    vs
spoil-list f k None t vs e = rw e refl
spoil-list f k (Some n) t vs e = rw e refl

pub spoil-list_here : (f : ListFunction) (k : Reach) (class : Class) (t : DataType)
    (vs : List Value) → here k t ≡ true
    → spoil_at f k (list_type class t) vs ≡ f.spoil t (lists_among vs)
spoil-list_here f k None t vs e = rw e refl
spoil-list_here f k (Some n) t vs e = rw e refl

pub type-list : (g : Giving) (k : Reach) (class : Class) (t : DataType) → here k t ≡ false
    → lifted_type g k (list_type class t) ≡ list_type class (lifted_type g (inner k) t)
type-list g k None t e = rw e refl
type-list g k (Some n) t e = rw e refl

pub type-list_here : (g : Giving) (k : Reach) (class : Class) (t : DataType) → here k t ≡ true
    → lifted_type g k (list_type class t) ≡ given_type g class t
type-list_here g k None t e = rw e refl
type-list_here g k (Some n) t e = rw e refl

pub value-list : (g : Giving) (k : Reach) (class : Class) (t : DataType) (v : Value)
    → here k t ≡ false → lifted_value g k (list_type class t) v ≡ in_list
    (lifted_value g (inner k) t) v
value-list g k None t v e = rw e refl
value-list g k (Some n) t v e = rw e refl

pub value-list_here : (g : Giving) (k : Reach) (class : Class) (t : DataType) (v : Value)
    → here k t ≡ true → lifted_value g k (list_type class t) v ≡ on_list (given_value g t) v
value-list_here g k None t v e = rw e refl
value-list_here g k (Some n) t v e = rw e refl

pub refusal-list : (f : ListFunction) (k : Reach) (class : Class) (t : DataType) → here k t ≡ false
    → refusal_at f k (list_type class t) ≡ refusal_at f (inner k) t
refusal-list f k None t e = rw e refl
refusal-list f k (Some n) t e = rw e refl

pub refusal-list_here : (f : ListFunction) (k : Reach) (class : Class) (t : DataType)
    → here k t ≡ true → refusal_at f k (list_type class t) ≡ f.refusal t
refusal-list_here f k None t e = rw e refl
refusal-list_here f k (Some n) t e = rw e refl

-- ---- rows

pub row-items : (ys : List Layout) (i : ℕ)
    → values_by (simple_values (layout_types (layouts_from ys)))
    (value_list (items_across (layouts_from ys) i)) ≡ value_list (across ys i)
row-items [] i = refl
row-items (y ∷ ys) i = ap (λ vs. array_item y i ∷ vs) (row-items ys i)

pub simple_value-row : (names : Option (List Name)) (ts : DataTypes) (v : Value)
    → simple_value (row_type names ts) v ≡ in_row (simple_values ts) v
simple_value-row None ts v = refl
simple_value-row (Some ns) ts v = refl

pub simple-row : (names : Option (List Name)) (ts : DataTypes)
    → simple (row_type names ts) ≡ row_type names (types_from (simples ts))
simple-row None ts = refl
simple-row (Some ns) ts = refl

pub type-row : (g : Giving) (k : Reach) (names : Option (List Name)) (ts : DataTypes)
    → lifted_type g k (row_type names ts) ≡ row_type names (types_from (lifted_types g k ts))
type-row g k None ts = refl
type-row g k (Some ns) ts = refl

pub value-row : (g : Giving) (k : Reach) (names : Option (List Name)) (ts : DataTypes) (v : Value)
    → lifted_value g k (row_type names ts) v ≡ in_row (lifted_values g k ts) v
value-row g k None ts v = refl
value-row g k (Some ns) ts v = refl

if_passes : (b : Bool) (r s : Option Refusal) (w : Refusal) → s ≡ Some w
    → (if b then r else s) ≡ None → r ≡ None
if_passes true r s w e h = h
if_passes false r s w e h = cc

-- rows and unions that are not refused are gone through
pub refusal-row : (f : ListFunction) (k : Reach) (names : Option (List Name)) (ts : DataTypes)
    → refusal_at f k (row_type names ts) ≡ None → refusal_among f k ts ≡ None
refusal-row f k None ts h = if_passes (passes_rows k) (refusal_among f k ts) (Some WrongType)
    WrongType refl h
refusal-row f k (Some ns) ts h = if_passes (passes_rows k) (refusal_among f k ts) (Some WrongType)
    WrongType refl h

pub refusal-union : (f : ListFunction) (k : Reach) (ts : DataTypes) → refusal_at f k (uni ts) ≡ None
    → refusal_among f k ts ≡ None
refusal-union f k ts h = if_passes (passes_rows k) (refusal_among f k ts) (Some WrongType) WrongType
    refl h

pub spoil-row : (f : ListFunction) (k : Reach) (names : Option (List Name)) (ts : DataTypes)
    (vs : List Value) → spoil_at f k (row_type names ts) vs ≡ spoil_across (spoils_at f k ts) 0 vs
spoil-row f k None ts vs = refl
spoil-row f k (Some ns) ts vs = refl

pub row_item : (names : Option (List Name)) (n : ℕ) (ys : List Layout) (i : ℕ)
    → array_item (rows names n (layouts_from ys)) i ≡ row (across ys i)
row_item names n ys i =
    simple_value-row names (layout_types (layouts_from ys)) (row (items_across (layouts_from ys) i))
    ∙ ap (λ vs. row (values_from vs)) (row-items ys i) ∙ ap row (values_from-list (across ys i))

-- each item by the function of its place
pub across_mapped : (f : ListFunction) (k : Reach) (n : ℕ) (xs ys : List Layout) (i : ℕ) → i < n
    → AreLong n xs → AreMapped f k xs ys →
    values_by (simple_values (types_from (lifted_types f.giving k
    (types_from (map array_type xs))))) (values_by
    (lifted_values f.giving k (types_from (map array_type xs))) (value_list (across xs i)))
    ≡ value_list (across ys i)
across_mapped f k n [] [] i p a m = refl
across_mapped f k n [] (y ∷ ys) i p a m = absurd m
across_mapped f k n (x ∷ xs) [] i p a m = absurd m
across_mapped f k n (x ∷ xs) (y ∷ ys) i p a m =
    ap (λ v. v ∷ values_by (simple_values (types_from
    (lifted_types f.giving k (types_from (map array_type xs)))))
    (values_by (lifted_values f.giving k (types_from (map array_type xs)))
    (value_list (across xs i)))) (sym (m.0.items i (omega (arith, p, a.0))))
    ∙ ap (λ vs. array_item y i ∷ vs) (across_mapped f k n xs ys i p a.1 m.1)

pub simples_mapped : (f : ListFunction) (k : Reach) (xs ys : List Layout) → AreMapped f k xs ys
    → simples (layout_types (layouts_from ys)) ≡ simples
    (types_from (lifted_types f.giving k (types_from (map array_type xs))))
simples_mapped f k [] [] m = refl
simples_mapped f k [] (y ∷ ys) m = absurd m
simples_mapped f k (x ∷ xs) [] m = absurd m
simples_mapped f k (x ∷ xs) (y ∷ ys) m =
    ap (λ t. t ∷ simples (layout_types (layouts_from ys))) m.0.typ
    ∙ ap (λ ts. simple (lifted_type f.giving k (array_type x)) ∷ ts) (simples_mapped f k xs ys m.1)

pub valid_mapped : (f : ListFunction) (k : Reach) (xs ys : List Layout) → AreMapped f k xs ys
    → AllValid (layouts_from ys)
valid_mapped f k [] [] m = tt
valid_mapped f k [] (y ∷ ys) m = absurd m
valid_mapped f k (x ∷ xs) [] m = absurd m
valid_mapped f k (x ∷ xs) (y ∷ ys) m = (m.0.valid, valid_mapped f k xs ys m.1)

pub count_mapped : (f : ListFunction) (k : Reach) (xs ys : List Layout) → AreMapped f k xs ys
    → count (layouts_from ys) ≡ count (layouts_from xs)
count_mapped f k [] [] m = refl
count_mapped f k [] (y ∷ ys) m = absurd m
count_mapped f k (x ∷ xs) [] m = absurd m
count_mapped f k (x ∷ xs) (y ∷ ys) m = ap (λ (n : ℕ). n + 1) (count_mapped f k xs ys m.1)

pub reach_mapped : (f : ListFunction) (k : Reach) (n : ℕ) (xs ys : List Layout) → AreLong n xs
    → AreMapped f k xs ys → AllReach n (layouts_from ys)
reach_mapped f k n [] [] a m = tt
reach_mapped f k n [] (y ∷ ys) a m = absurd m
reach_mapped f k n (x ∷ xs) [] a m = absurd m
reach_mapped f k n (x ∷ xs) (y ∷ ys) a m =
    (omega (arith, a.0, m.0.size), reach_mapped f k n xs ys a.1 m.1)

pub len_of_mapped : (f : ListFunction) (k : Reach) (xs ys : List Layout) (j : ℕ)
    → AreMapped f k xs ys → len_of (layouts_from ys) j ≡ len_of (layouts_from xs) j
len_of_mapped f k [] [] j m = refl
len_of_mapped f k [] (y ∷ ys) j m = absurd m
len_of_mapped f k (x ∷ xs) [] j m = absurd m
len_of_mapped f k (x ∷ xs) (y ∷ ys) zero m = m.0.size
len_of_mapped f k (x ∷ xs) (y ∷ ys) (suc j) m = len_of_mapped f k xs ys j m.1

pub row_column : (f : ListFunction) (k : Reach) (names : Option (List Name)) (xs ys : List Layout)
    (x : Layout) → OpensRow names xs x → AreMapped f k xs ys →
    IsMapped (row_type names (types_from (lifted_types f.giving k
    (types_from (map array_type xs))))) (in_row
    (lifted_values f.giving k (types_from (map array_type xs)))) x
    (rows names (len x) (layouts_from ys))
row_column f k names xs ys x o m = record {
  valid = (
    o.fits,
    rw (count_mapped f k xs ys m) o.are_names,
    reach_mapped f k (len x) xs ys o.lens m,
    valid_mapped f k xs ys m,
  );
  size = refl;
  typ = simple-row names (layout_types (layouts_from ys))
      ∙ ap (λ ts. row_type names (types_from ts)) (simples_mapped f k xs ys m)
      ∙ sym (simple-row names (types_from (lifted_types f.giving k
      (types_from (map array_type xs)))));
  items = λ i p.
      let ts = types_from (map array_type xs) in
      row_item names (len x) ys i
      ∙ sym (simple_value-row names (types_from (lifted_types f.giving k ts))
      (in_row (lifted_values f.giving k ts) (array_item x i))
      ∙ ap (λ v. in_row (simple_values (types_from (lifted_types f.giving k ts)))
      (in_row (lifted_values f.giving k ts) v)) (o.items i p)
      ∙ ap (λ vs. row (values_from (values_by
      (simple_values (types_from (lifted_types f.giving k ts))) vs)))
      (value_list-from (values_by (lifted_values f.giving k ts) (value_list (across xs i))))
      ∙ ap (λ vs. row (values_from vs)) (across_mapped f k (len x) xs ys i p o.lens m)
      ∙ ap row (values_from-list (across ys i)));
}

pub spoil_parts : (f : ListFunction) (k : Reach) (j : ℕ) (vs : List Value) (xs : List Layout)
    → AreParts j vs xs → spoil_across (spoils_at f k (types_from (map array_type xs))) j vs
    ≡ spoil_of_all f k xs
spoil_parts f k j vs [] a = refl
spoil_parts f k j vs (x ∷ xs) a =
    ap (λ ws. first_spoil (spoil_at f k (array_type x) ws)
    (spoil_across (spoils_at f k (types_from (map array_type xs))) (suc j) vs)) (sym a.0)
    ∙ ap (first_spoil (spoil_at f k (array_type x) (array_items x)))
    (spoil_parts f k (suc j) vs xs a.1)

-- ---- unions

pub spoil_alternatives : (f : ListFunction) (k : Reach) (j : ℕ) (vs : List Value) (xs : List Layout)
    → AreAlternatives j vs xs → spoil_among (spoils_at f k (types_from (map array_type xs))) j vs
    ≡ spoil_of_all f k xs
spoil_alternatives f k j vs [] a = refl
spoil_alternatives f k j vs (x ∷ xs) a =
    ap (λ ws. first_spoil (spoil_at f k (array_type x) ws)
    (spoil_among (spoils_at f k (types_from (map array_type xs))) (suc j) vs)) (sym a.0)
    ∙ ap (first_spoil (spoil_at f k (array_type x) (array_items x)))
    (spoil_alternatives f k (suc j) vs xs a.1)

pub among-item : (ys : List Layout) (k i : ℕ)
    → value_by (simple_values (layout_types (layouts_from ys))) k (item_of (layouts_from ys) k i)
    ≡ item_among ys k i
among-item [] k i = refl
among-item (y ∷ ys) zero i = refl
among-item (y ∷ ys) (suc k) i = among-item ys k i

pub among_mapped : (f : ListFunction) (k : Reach) (xs ys : List Layout) (j i : ℕ)
    → i < len_of (layouts_from xs) j → AreMapped f k xs ys →
    value_by (simple_values (types_from (lifted_types f.giving k (types_from (map array_type xs)))))
    j (value_by (lifted_values f.giving k (types_from (map array_type xs))) j
    (item_among xs j i)) ≡ item_among ys j i
among_mapped f k [] [] j i p m = refl
among_mapped f k [] (y ∷ ys) j i p m = absurd m
among_mapped f k (x ∷ xs) [] j i p m = absurd m
among_mapped f k (x ∷ xs) (y ∷ ys) zero i p m = sym (m.0.items i p)
among_mapped f k (x ∷ xs) (y ∷ ys) (suc j) i p m = among_mapped f k xs ys j i p m.1

pub union_mapped : (f : ListFunction) (k : Reach) (t j : Column) (xs ys : List Layout)
    → IsUnion t j (layouts_from xs) → AreMapped f k xs ys → IsUnion t j (layouts_from ys)
union_mapped f k t j xs ys u m = record {
  some = rw (count_mapped f k xs ys m) u.some;
  tag_kind = u.tag_kind;
  index_kind = u.index_kind;
  same_size = u.same_size;
  tags = λ i p. ((u.tags i p).0, rw (count_mapped f k xs ys m) (u.tags i p).1);
  places = λ i p. (
    (u.places i p).0,
    rw (len_of_mapped f k xs ys (place_at t i) m) (u.places i p).1,
  );
}

pub union_column : (f : ListFunction) (k : Reach) (t j : Column) (xs ys : List Layout) (x : Layout)
    → OpensUnion t j xs x → AreMapped f k xs ys →
    IsMapped (uni (types_from (lifted_types f.giving k (types_from (map array_type xs)))))
    (in_alternative (lifted_values f.giving k (types_from (map array_type xs)))) x
    (union t j (layouts_from ys))
union_column f k t j xs ys x o m = record {
  valid = (o.fits, union_mapped f k t j xs ys o.union m, valid_mapped f k xs ys m);
  size = o.size;
  typ = ap union_of (simples_mapped f k xs ys m);
  items = λ i p.
      let ts = types_from (map array_type xs) in
      let us = types_from (lifted_types f.giving k ts) in
      let tag = place_at t i in
      let q : i < size_of t = omega (arith, p, o.size) in
      ap (λ v. union_value (simples (layout_types (layouts_from ys))) (alt tag v))
      (among-item ys tag (place_at j i))
      ∙ ap (λ zs. union_value zs (alt tag (item_among ys tag (place_at j i))))
      (simples_mapped f k xs ys m)
      ∙ sym (ap (λ v. union_value (simples us)
      (in_alternative (simple_values us) (in_alternative (lifted_values f.giving k ts) v)))
      (o.items i p)
      ∙ ap (λ v. union_value (simples us) (alt tag v))
      (among_mapped f k xs ys tag (place_at j i) (o.union.places i q).1 m));
}
