-- Lists of the first levels of a column, by its outermost kind.
use Rattle.std.proofs.Common.{◌≡◌, ℕ, zero, suc, ◌+◌, ◌-◌, ◌==◌, ◌<◌, ◌≤◌, Bool, true, false}
use Rattle.std.proofs.Common.{refl, ap, arith, sym, ◌∙◌, drop, slice_get}
use Rattle.std.specs.Prelude.{List, [], ◌∷◌, map, length, nat_lt, Option, Some, None, if◌then◌else◌}
use Rattle.std.specs.List.{flat_map, range_with_len}
use Rattle.std.proofs.lemmas.List.{drop_all}
use Rattle.awk_base.proofs.Lists.{drop-get}
use Rattle.awk_types.specs.DataType.{Name, DataType, unknown, leaf, var, reg, rec, tup, opt, uni}
use Rattle.awk_types.specs.DataType.{DataTypes, no_types, type, depth, depths, greatest}
use Rattle.awk_types.specs.DataType.{row_type, types_from}
use Rattle.awk_types.specs.Gives.{◌or◌}
use Rattle.awk_types.specs.ItemLimit.{item_limit, too_many}
use Rattle.awk_types.specs.Value.{Value}
use Rattle.awk_types.specs.declared.fault.Fault.TheVariants.{Size}
use Rattle.awk_lanes.specs.Column.{Column}
use Rattle.awk_lanes.specs.Places.{size_of}
use Rattle.awk_layout.specs.Layout.{Layout}
use Rattle.awk_layout.specs.Typing.{array_type, array_items}
use Rattle.awk_open.proofs.OpenedLists.{lists-inner}
use Rattle.awk_columns.specs.Columns.{part_values, present_values, alternative_values}
use Rattle.awk_columns.specs.Parts.{AreParts, AreAlternatives}
use Rattle.awk_columns.specs.Joined.{JoinsLists, total}
use Rattle.awk_columns.specs.ListClass.{Class}
use Rattle.awk_columns.specs.Lists.{items_at}
use Rattle.awk_open.specs.Opens.{OpensLists, OpensOption, OpensRow, OpensUnion, OpensLeaf}
use Rattle.awk_open.specs.Opens.{OpensNothing}
use Rattle.awk_zip.specs.Counted.{lists_refused, each_refused, all_refused, size_if, across, among}
use Rattle.awk_zip.proofs.SizeLaws.{list-refused}

-- ---- no levels

mutual
  pub none-refused : (t : DataType) (vs : List Value) → lists_refused 0 t vs ≡ None
  none-refused unknown vs = refl
  none-refused (leaf p) vs = refl
  none-refused (var t) vs = refl
  none-refused (reg n t) vs = refl
  none-refused (rec ns ts) vs = none-across ts 0 vs
  none-refused (tup ts) vs = none-across ts 0 vs
  none-refused (opt t) vs = none-refused t (present_values vs)
  none-refused (uni ts) vs = none-among ts 0 vs

  none-across : (ts : DataTypes) (j : ℕ) (vs : List Value)
      → across (each_refused 0 ts) j vs ≡ None
  none-across no_types j vs = refl
  none-across (type t ts) j vs =
      ap (λ f. f or across (each_refused 0 ts) (suc j) vs) (none-refused t (part_values j vs))
      ∙ none-across ts (suc j) vs

  none-among : (ts : DataTypes) (j : ℕ) (vs : List Value)
      → among (each_refused 0 ts) j vs ≡ None
  none-among no_types j vs = refl
  none-among (type t ts) j vs =
      ap (λ f. f or among (each_refused 0 ts) (suc j) vs) (none-refused t (alternative_values j vs))
      ∙ none-among ts (suc j) vs

-- ---- columns

across-columns : (k j : ℕ) (vs : List Value) (ys : List Layout) → AreParts j vs ys
    → across (each_refused k (types_from (map array_type ys))) j vs ≡ all_refused k ys
across-columns k j vs [] h = refl
across-columns k j vs (y ∷ ys) h =
    ap (λ ws. lists_refused k (array_type y) ws
    or across (each_refused k (types_from (map array_type ys))) (suc j) vs) (sym h.0)
    ∙ ap (λ f. lists_refused k (array_type y) (array_items y) or f)
    (across-columns k (suc j) vs ys h.1)

among-columns : (k j : ℕ) (vs : List Value) (ys : List Layout) → AreAlternatives j vs ys
    → among (each_refused k (types_from (map array_type ys))) j vs ≡ all_refused k ys
among-columns k j vs [] h = refl
among-columns k j vs (y ∷ ys) h =
    ap (λ ws. lists_refused k (array_type y) ws
    or among (each_refused k (types_from (map array_type ys))) (suc j) vs) (sym h.0)
    ∙ ap (λ f. lists_refused k (array_type y) (array_items y) or f)
    (among-columns k (suc j) vs ys h.1)

row-refused : (k : ℕ) (names : Option (List Name)) (ts : DataTypes) (vs : List Value)
    → lists_refused k (row_type names ts) vs ≡ across (each_refused k ts) 0 vs
row-refused k None ts vs = refl
row-refused k (Some ns) ts vs = refl

pub row_counted : (k : ℕ) (names : Option (List Name)) (ys : List Layout) (x : Layout) (b : Bool)
    → OpensRow names ys x → all_refused k ys ≡ size_if b
    → lists_refused k (array_type x) (array_items x) ≡ size_if b
row_counted k names ys x b o h =
    ap (λ t. lists_refused k t (array_items x)) o.typ
    ∙ row-refused k names (types_from (map array_type ys)) (array_items x)
    ∙ across-columns k 0 (array_items x) ys o.columns ∙ h

pub union_counted : (k : ℕ) (t j : Column) (ys : List Layout) (x : Layout) (b : Bool)
    → OpensUnion t j ys x → all_refused k ys ≡ size_if b
    → lists_refused k (array_type x) (array_items x) ≡ size_if b
union_counted k t j ys x b o h =
    ap (λ u. lists_refused k u (array_items x)) o.typ
    ∙ among-columns k 0 (array_items x) ys o.columns ∙ h

pub option_counted : (k : ℕ) (j : Column) (y x : Layout) (b : Bool) → OpensOption j y x
    → lists_refused k (array_type y) (array_items y) ≡ size_if b
    → lists_refused k (array_type x) (array_items x) ≡ size_if b
option_counted k j y x b o h =
    ap (λ u. lists_refused k u (array_items x)) o.typ
    ∙ ap (lists_refused k (array_type y)) (sym o.column) ∙ h

pub leaf_counted : (k : ℕ) (c : Column) (x : Layout) → OpensLeaf c x
    → lists_refused k (array_type x) (array_items x) ≡ None
leaf_counted k c x o = ap (λ u. lists_refused k u (array_items x)) o.typ

pub nothing_counted : (k : ℕ) (x : Layout) → OpensNothing x
    → lists_refused k (array_type x) (array_items x) ≡ None
nothing_counted k x o = ap (λ u. lists_refused k u (array_items x)) o.typ

-- ---- lists

abbrev all_items : Column → Column → Layout → List Value
all_items s t y = flat_map (items_at s t y) (range_with_len 0 (size_of s))

opened-refused : (k : ℕ) (c : Class) (s t : Column) (y x : Layout) → OpensLists c s t y x
    → lists_refused k (array_type x) (array_items x)
    ≡ (if k == 0 then None else
    too_many (total s t y) or lists_refused (k - 1) (array_type y) (all_items s t y))
opened-refused k c s t y x o =
    ap (λ u. lists_refused k u (array_items x)) o.typ
    ∙ list-refused k c (array_type y) (array_items x)
    ∙ ap (λ vs. if k == 0 then None else
    too_many (length vs) or lists_refused (k - 1) (array_type y) vs)
    (lists-inner c s t y x o
    ∙ ap (λ n. flat_map (items_at s t y) (range_with_len 0 n)) (sym o.size))

pub many_counted : (k : ℕ) (c : Class) (s t : Column) (y x : Layout) → OpensLists c s t y x
    → (k == 0) ≡ false → item_limit < total s t y
    → lists_refused k (array_type x) (array_items x) ≡ Some Size
many_counted k c s t y x o e l =
    let f : nat_lt 1073741824 (total s t y) ≡ true = grind (arith, l) in
    opened-refused k c s t y x o
    ∙ ap (λ b. if b then None else
    too_many (total s t y) or lists_refused (k - 1) (array_type y) (all_items s t y)) e
    ∙ ap (λ b. (if b then Some Size else None)
    or lists_refused (k - 1) (array_type y) (all_items s t y)) f

few_of : (n : ℕ) → n ≤ item_limit → nat_lt 1073741824 n ≡ false
few_of n l = grind arith

pub lists_counted : (k : ℕ) (c : Class) (s t : Column) (y x o : Layout) (q : Column) (b : Bool)
    → OpensLists c s t y x → (k == 0) ≡ false → total s t y ≤ item_limit
    → JoinsLists s t y q o → lists_refused (k - 1) (array_type o) (array_items o) ≡ size_if b
    → lists_refused k (array_type x) (array_items x) ≡ size_if b
lists_counted k c s t y x o q b h e l j r =
    let f : nat_lt 1073741824 (total s t y) ≡ false = few_of (total s t y) l in
    opened-refused k c s t y x h
    ∙ ap (λ b. if b then None else
    too_many (total s t y) or lists_refused (k - 1) (array_type y) (all_items s t y)) e
    ∙ ap (λ b. (if b then Some Size else None)
    or lists_refused (k - 1) (array_type y) (all_items s t y)) f
    ∙ ap (λ u. lists_refused (k - 1) u (all_items s t y)) (sym j.typ)
    ∙ ap (lists_refused (k - 1) (array_type o)) (sym j.column) ∙ r

-- ---- one column after another

all-step : (k i : ℕ) (y : Layout) (ys : List Layout) → slice_get ys i ≡ Some y
    → all_refused k (drop i ys)
    ≡ lists_refused k (array_type y) (array_items y) or all_refused k (drop (i + 1) ys)
all-step k i y ys e = ap (all_refused k) (drop-get ys i y e)

pub all_next : (k i : ℕ) (y : Layout) (ys : List Layout) (b : Bool) → slice_get ys i ≡ Some y
    → lists_refused k (array_type y) (array_items y) ≡ size_if b → b ≡ false
    → all_refused k (drop i ys) ≡ all_refused k ys
    → all_refused k (drop (i + 1) ys) ≡ all_refused k ys
all_next k i y ys b e r f h =
    sym (ap (λ g. g or all_refused k (drop (i + 1) ys)) (r ∙ ap size_if f))
    ∙ sym (all-step k i y ys e) ∙ h

pub all_found : (k i : ℕ) (y : Layout) (ys : List Layout) (b : Bool) → slice_get ys i ≡ Some y
    → lists_refused k (array_type y) (array_items y) ≡ size_if b → b ≡ true
    → all_refused k (drop i ys) ≡ all_refused k ys → all_refused k ys ≡ Some Size
all_found k i y ys b e r f h =
    sym h ∙ all-step k i y ys e
    ∙ ap (λ g. g or all_refused k (drop (i + 1) ys)) (r ∙ ap size_if f)

pub all_end : (k i : ℕ) (ys : List Layout) → length ys ≤ i
    → all_refused k (drop i ys) ≡ all_refused k ys → all_refused k ys ≡ None
all_end k i ys l h = sym h ∙ ap (all_refused k) (drop_all i ys l)

-- ---- depths

pub depth-get : (i : ℕ) (y : Layout) (ys : List Layout) → slice_get ys i ≡ Some y
    → depth (array_type y) ≤ greatest (depths (types_from (map array_type ys)))
depth-get i y [] e = cc
depth-get zero y (z ∷ zs) e =
    let f : z ≡ y = cc in
    let g : depth (array_type z) ≡ depth (array_type y) = ap (λ x. depth (array_type x)) f in
    omega (arith, g)
depth-get (suc i) y (z ∷ zs) e = let h = depth-get i y zs e in omega (arith, h)
