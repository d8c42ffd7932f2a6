-- Records over a column for each field.
use Rattle.std.proofs.Common.{◌≡◌, ℕ, zero, suc, ◌+◌, ◌<◌, List, [], ◌∷◌, ◌++◌, map, length, true}
use Rattle.std.proofs.Common.{refl, ap, ap₂, sym, ◌∙◌, subst, arith, drop, get_or, Some}
use Rattle.std.proofs.Math.Seq.{drop-cons}
use Rattle.std.proofs.lemmas.List.{drop_all, ext_get_or, length-map}
use Rattle.serde_json.specs.Data.{Data, null, boolean, number, string, array, object}
use Rattle.std.proofs.lemmas.Bool.{and_parts}
use Rattle.awk_types.proofs.Trees.{type_list-from}
use Rattle.awk_types.specs.DataType.{DataType, DataTypes, Name, unknown, leaf, var, reg, rec, tup}
use Rattle.awk_types.specs.DataType.{no_types, opt, type, types_from, uni}
use Rattle.awk_types.specs.IsType.{AreTypes, IsType}
use Rattle.awk_types.specs.Names.{AreDistinct}
use Rattle.awk_types.specs.Simple.{AreSimple, IsSimple}
use Rattle.awk_types.specs.Value as values
use Rattle.awk_types.specs.Value.{row, values_from}
use Rattle.awk_types.specs.View.{NamedType, names_of, types_of}
use Rattle.awk_layout.proofs.ArrayItems.{get_or-array_items, length-array_items}
use Rattle.awk_layout.specs.Contents.{count-layouts_from}
use Rattle.awk_layout.specs.Layout.{Layout, count, layouts_from, rows}
use Rattle.awk_layout.specs.Typing.{array_items, array_type}
use Rattle.awk_layout.specs.Valid.{AllReach, AreNames, len}
use Rattle.awk_gather.specs.Arrays.{array_item}
use Rattle.awk_open.proofs.OpenedKinds.{item-rows, type-rows}
use Rattle.awk_plain.specs.Suits.{own_value}
use Rattle.awk_plain_columns.proofs.RecordLaws.{own_member_list, wide_at}
use Rattle.awk_plain_columns.proofs.SuitedLaws.{suit_at}
use Rattle.awk_plain_columns.specs.Suited.{AllSuit, AreColumnsOf, HasColumns, HaveColumns}
use Rattle.awk_plain_columns.specs.Suited.{IsColumnOf, Suits, has_columns, have_columns, member_at}
use Rattle.awk_plain_columns.specs.Suited.{members_at, members_of}

-- ---- columns so far

pub columns_more : (k m : ℕ) (ts : List DataType) (ds : List Data) (xs : List Layout)
    (t : DataType) (left : List DataType) (x : Layout) → m ≡ k + length xs
    → AreColumnsOf k ts ds xs (t ∷ left) → IsColumnOf t (members_at m ds) x
    → AreColumnsOf k ts ds (xs ++ x ∷ []) left
columns_more k m ts ds [] t left x e h c =
    let same : m ≡ k = omega (arith, e) in
    subst (λ us. AreColumnsOf k us ds (x ∷ []) left) (sym h)
    (subst (λ j. IsColumnOf t (members_at j ds) x) same c, refl)
columns_more k m [] ds (y ∷ xs) t left x e h c = absurd h
columns_more k m (u ∷ ts) ds (y ∷ xs) t left x e h c =
    (h.0, columns_more (suc k) m ts ds xs t left x (omega (arith, e)) h.1 c)

-- ---- the values of a row

own_at : (ds : List Data) (i : ℕ) → get_or (map own_value ds) i values.null
    ≡ own_value (get_or ds i null)
own_at [] i = refl
own_at (d ∷ ds) zero = refl
own_at (d ∷ ds) (suc i) = own_at ds i

member_of : (k : ℕ) (ds : List Data) (i : ℕ)
    → get_or (members_at k ds) i null ≡ member_at k (get_or ds i null)
member_of k [] i = refl
member_of k (d ∷ ds) zero = refl
member_of k (d ∷ ds) (suc i) = member_of k ds i

column_long : (k : ℕ) (t : DataType) (ds : List Data) (x : Layout)
    → IsColumnOf t (members_at k ds) x → len x ≡ length ds
column_long k t ds x c =
    sym (length-array_items x) ∙ ap length c.items ∙ length-map (members_at k ds) own_value
    ∙ length-map ds (member_at k)

item_of : (k i : ℕ) (t : DataType) (ds : List Data) (x : Layout)
    → IsColumnOf t (members_at k ds) x → i < length ds
    → array_item x i ≡ own_value (member_at k (get_or ds i null))
item_of k i t ds x c l =
    let p : i < len x = omega (arith, l, column_long k t ds x c) in
    sym (get_or-array_items x i p) ∙ ap (λ vs. get_or vs i values.null) c.items
    ∙ own_at (members_at k ds) i ∙ ap own_value (member_of k ds i)

-- what the columns have at a place: the members from place k on
across : (k i : ℕ) (ts : List DataType) (ds : List Data) (xs : List Layout)
    → AreColumnsOf k ts ds xs [] → i < length ds
    → length (members_of (get_or ds i null)) ≡ k + length ts
    → map (λ x. array_item x i) xs ≡ map own_value (drop k (members_of (get_or ds i null)))
across k i ts ds [] h l w =
    let ms = members_of (get_or ds i null) in
    ap (map own_value) (sym (drop_all k ms (omega (arith, w, ap length h))))
across k i [] ds (x ∷ xs) h l w = absurd h
across k i (t ∷ ts) ds (x ∷ xs) h l w =
    let ms = members_of (get_or ds i null) in
    ap₂ (λ v vs. v ∷ vs) (item_of k i t ds x h.0 l)
    (across (suc k) i ts ds xs h.1 l (omega (arith, w)))
    ∙ ap (map own_value) (sym (drop-cons ms k null (omega (arith, w))))

row_again : (ns : List Name) (ts : DataTypes) (d : Data) → Suits (rec ns ts) d
    → row (values_from (map own_value (members_of d))) ≡ own_value d
row_again ns ts (object ms) s = ap (λ vs. row (values_from vs)) (sym (own_member_list ms))
row_again ns ts null s = absurd (let e = s.1 in cc)
row_again ns ts (boolean b) s = absurd (let e = s.1 in cc)
row_again ns ts (number n) s = absurd (let e = s.1 in cc)
row_again ns ts (string c) s = absurd s.0
row_again ns ts (array es) s = absurd (let e = s.1 in cc)

rows_items : (ns : List Name) (ts : List DataType) (n : ℕ) (ds : List Data) (xs : List Layout)
    → AllSuit (rec ns (types_from ts)) ds → AreColumnsOf 0 ts ds xs [] → n ≡ length ds
    → array_items (rows (Some ns) n (layouts_from xs)) ≡ map own_value ds
rows_items ns ts n ds xs a h e =
    let r = rows (Some ns) n (layouts_from xs) in
    ext_get_or values.null (array_items r) (map own_value ds)
    (length-array_items r ∙ e ∙ sym (length-map ds own_value))
    (λ i p.
    let q : i < n = omega (arith, p, length-array_items r) in
    let l : i < length ds = omega (arith, q, e) in
    let d = get_or ds i null in
    let s : Suits (rec ns (types_from ts)) d = suit_at (rec ns (types_from ts)) ds i a l in
    let w : length (members_of d) ≡ 0 + length ts =
    omega (arith, wide_at ns (types_from ts) d s, ap length (type_list-from ts)) in
    get_or-array_items r i q ∙ item-rows (Some ns) n xs i
    ∙ ap (λ vs. row (values_from vs)) (across 0 i ts ds xs h l w)
    ∙ row_again ns (types_from ts) d s ∙ sym (own_at ds i))

-- ---- the node

columns_typed : (k : ℕ) (ts : List DataType) (ds : List Data) (xs : List Layout)
    → AreColumnsOf k ts ds xs [] → map array_type xs ≡ ts
columns_typed k ts ds [] h = sym h
columns_typed k [] ds (x ∷ xs) h = absurd h
columns_typed k (t ∷ ts) ds (x ∷ xs) h =
    ap₂ (λ u us. u ∷ us) h.0.typ (columns_typed (suc k) ts ds xs h.1)

pub columns_reach : (k n : ℕ) (ts : List DataType) (ds : List Data) (xs : List Layout)
    → AreColumnsOf k ts ds xs [] → n ≡ length ds → AllReach n (layouts_from xs)
columns_reach k n ts ds [] h e = tt
columns_reach k n [] ds (x ∷ xs) h e = absurd h
columns_reach k n (t ∷ ts) ds (x ∷ xs) h e =
    (omega (arith, e, column_long k t ds x h.0), columns_reach (suc k) n ts ds xs h.1 e)

pub columns_named : (fs : List NamedType) (names : List Name) (ds : List Data) (xs : List Layout)
    → names ≡ names_of fs → AreDistinct (names_of fs)
    → AreColumnsOf 0 (map (λ f. f.typ) fs) ds xs []
    → AreNames (Some names) (count (layouts_from xs))
columns_named fs names ds xs e a h = (
  ap length e ∙ length-map fs (λ f. f.name) ∙ sym (length-map fs (λ f. f.typ))
      ∙ sym (ap length (columns_typed 0 (map (λ f. f.typ) fs) ds xs h))
      ∙ length-map xs array_type ∙ sym (count-layouts_from xs),
  subst AreDistinct (sym e) a,
)

pub record_made : (fs : List NamedType) (names : List Name) (n : ℕ) (ds : List Data)
    (xs : List Layout) (y : Layout) → names ≡ names_of fs
    → AllSuit (rec (names_of fs) (types_of fs)) ds
    → AreColumnsOf 0 (map (λ f. f.typ) fs) ds xs [] → n ≡ length ds
    → y ≡ rows (Some names) n (layouts_from xs)
    → IsColumnOf (rec (names_of fs) (types_of fs)) ds y
record_made fs names n ds xs y e a h m f =
    let ts = map (λ g. g.typ) fs in
    let g : y ≡ rows (Some (names_of fs)) n (layouts_from xs) =
    f ∙ ap (λ ns. rows (Some ns) n (layouts_from xs)) e in
    record {
      typ =
          ap array_type g ∙ type-rows (Some (names_of fs)) n xs
          ∙ ap (λ us. rec (names_of fs) (types_from us)) (columns_typed 0 ts ds xs h);
      items = ap array_items g ∙ rows_items (names_of fs) ts n ds xs a h m;
    }

-- ---- a type that has columns

mutual
  pub columns_of : (t : DataType) → has_columns t ≡ true → IsSimple t → IsType t → HasColumns t
  columns_of unknown h s y = tt
  columns_of (leaf p) h s y = tt
  columns_of (var t) h s y = columns_of t h s y
  columns_of (reg n t) h s y = absurd (cc)
  columns_of (rec ns ts) h s y = ((y.1, y.0), have_columns_of ts h s y.2)
  columns_of (tup ts) h s y = absurd (cc)
  columns_of (opt t) h s y = (s.0, columns_of t h s.1 y)
  columns_of (uni ts) h s y = absurd (cc)

  have_columns_of : (ts : DataTypes) → have_columns ts ≡ true → AreSimple ts → AreTypes ts
      → HaveColumns ts
  have_columns_of no_types h s y = tt
  have_columns_of (type t ts) h s y =
      let b = and_parts (has_columns t) (have_columns ts) h in
      (columns_of t b.0 s.0 y.0, have_columns_of ts b.1 s.1 y.1)
