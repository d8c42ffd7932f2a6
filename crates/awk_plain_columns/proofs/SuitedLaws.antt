-- Values of a type as they stand: their numbers, their items, and what these are of.
use Rattle.std.proofs.Common.{append-nil, append_assoc, drop, length, refl, Box, Global, ◌+◌, ◌≤◌}
use Rattle.std.proofs.Common.{◌≡◌, ℕ, ◌<◌, List, [], ◌∷◌, ◌++◌, map, Bool, true, false, ap, ap₂}
use Rattle.std.proofs.Common.{sym, ◌∙◌, subst, get_or, zero, suc, arith, None}
use Rattle.std.specs.List.{AllByRecursion, flat_map, range_with_len}
use Rattle.std.proofs.lemmas.List.{length-map, get_or-map, map-append, drop_all, drop_more}
use Rattle.std.proofs.lemmas.List.FromFn.{fill_by_all}
use Rattle.std.proofs.lemmas.Simd.{map-map}
use Rattle.serde_json.specs.Data.{Data, Num, null, boolean, number, string, array, object, Items}
use Rattle.serde_json.specs.Data.{no_items, item}
use Rattle.serde_json.specs.View.{items_view, view}
use Rattle.serde_json.specs.declared.value.Value as json
use Rattle.awk_unify.proofs.SameTypeLaws.{same_primitive_is}
use Rattle.std.proofs.lemmas.Bool.{and_parts}
use Rattle.awk_types.proofs.Trees.{value_list-from}
use Rattle.awk_types.specs.DataType.{DataType, unknown, leaf, opt, var}
use Rattle.awk_types.specs.Has.{Has}
use Rattle.awk_types.specs.Parts.{IsList}
use Rattle.awk_types.specs.Value as values
use Rattle.awk_types.specs.Value.{Value}
use Rattle.awk_types.specs.View.{NamedType, field_step, fields_step, typ_of, typ_step, typs_step}
use Rattle.awk_types.specs.declared.typ.Typ.{Opt, Typ}
use Rattle.awk_types.specs.declared.typ.Typ.TheFolds.{fold-roll-Typ}
use Rattle.awk_types.specs.declared.typ.Typ.TheOpen.{Typ-F}
use Rattle.awk_types.specs.declared.typ.Typ.TheVariants.{rolls-Opt}
use Rattle.awk_types.specs.declared.primitive.Primitive.{Primitive}
use Rattle.awk_types.specs.declared.primitive.Primitive.TheVariants as primitive
use Rattle.awk_lanes.specs.Made.{lane_of}
use Rattle.awk_layout.specs.Kinds.{kind_of, primitive_of-kind_of}
use Rattle.awk_layout.specs.Layout.{Layout, empty, flat}
use Rattle.awk_layout.specs.Typing.{array_type, array_items}
use Rattle.awk_columns.specs.Columns.{joined_items, list_items}
use Rattle.awk_merge_lists.proofs.NumberLaws.{flat_items}
use Rattle.awk_merge_lists.specs.Leaves.{lane_value}
use Rattle.awk_frames.proofs.FramedItems.{are-lists}
use Rattle.awk_plain.proofs.OwnValues.{own_typed}
use Rattle.awk_plain.specs.IsPlain.{ArePlain}
use Rattle.awk_plain.specs.Suits.{all_suit, is_int64, is_of, own_value, own_values, suits}
use Rattle.awk_plain_columns.specs.Suited.{AllSuit, IsColumnOf, Suits, data_list, items_of}
use Rattle.awk_plain_columns.specs.Suited.{joined_data, lane_number}

-- ---- lists of values

pub data_view : (vs : List json.Value) → data_list (items_view vs) ≡ map view vs
data_view [] = refl
data_view (v ∷ vs) = ap (λ ds. view v ∷ ds) (data_view vs)

pub own_list : (ds : Items) → own_values ds ≡ map own_value (data_list ds)
own_list no_items = refl
own_list (item d ds) = ap (λ vs. own_value d ∷ vs) (own_list ds)

own_items : (d : Data) → list_items (own_value d) ≡ map own_value (items_of d)
own_items (array ds) = value_list-from (own_values ds) ∙ own_list ds
own_items null = refl
own_items (boolean b) = refl
own_items (number n) = refl
own_items (string s) = refl
own_items (object ms) = refl

pub count_items : (vs : List json.Value)
    → length (list_items (own_value (array (items_view vs)))) ≡ length vs
count_items vs =
    ap length (own_items (array (items_view vs)))
    ∙ length-map (data_list (items_view vs)) own_value
    ∙ ap length (data_view vs) ∙ length-map vs view

pub own_joined : (ds : List Data) → joined_items (map own_value ds) ≡ map own_value (joined_data ds)
own_joined [] = refl
own_joined (d ∷ ds) =
    ap₂ (λ us vs. us ++ vs) (own_items d) (own_joined ds)
    ∙ sym (map-append own_value (items_of d) (joined_data ds))

pub own_views : {X : Type 0} (f : X → Data) (xs : List X)
    → map (λ x. own_value (f x)) xs ≡ map own_value (map f xs)
own_views f [] = refl
own_views f (x ∷ xs) = ap (λ vs. own_value (f x) ∷ vs) (own_views f xs)

-- ---- what suits

list_suits : (t : DataType) (ds : Items) → ArePlain ds → all_suit t ds ≡ true
    → AllSuit t (data_list ds)
list_suits t no_items p e = tt
list_suits t (item d ds) p e =
    let f = and_parts (suits t d) (all_suit t ds) e in
    ((p.0, f.0), list_suits t ds p.1 f.1)

items_suit : (t : DataType) (d : Data) → Suits (var t) d → AllSuit t (items_of d)
items_suit t (array ds) s = list_suits t ds s.0 s.1
items_suit t null s = tt
items_suit t (boolean b) s = tt
items_suit t (number n) s = tt
items_suit t (string c) s = tt
items_suit t (object ms) s = tt

all_behind : (t : DataType) (ds es : List Data) → AllSuit t ds → AllSuit t es
    → AllSuit t (ds ++ es)
all_behind t [] es a b = b
all_behind t (d ∷ ds) es a b = (a.0, all_behind t ds es a.1 b)

pub joined_suit : (t : DataType) (ds : List Data) → AllSuit (var t) ds
    → AllSuit t (joined_data ds)
joined_suit t [] a = tt
joined_suit t (d ∷ ds) a =
    all_behind t (items_of d) (joined_data ds) (items_suit t d a.0) (joined_suit t ds a.1)

all_typed : (t : DataType) (ds : List Data) → AllSuit t ds
    → AllByRecursion (Has t) (map own_value ds)
all_typed t [] a = tt
all_typed t (d ∷ ds) a = (own_typed t d a.0.0 a.0.1, all_typed t ds a.1)

pub all_lists : (t : DataType) (ds : List Data) → AllSuit (var t) ds
    → AllByRecursion IsList (map own_value ds)
all_lists t ds a = are-lists None t (map own_value ds) (all_typed (var t) ds a)

pub suit_at : (t : DataType) (ds : List Data) (i : ℕ) → AllSuit t ds → i < length ds
    → Suits t (get_or ds i null)
suit_at t [] i a l = absurd (omega (arith, l))
suit_at t (d ∷ ds) zero a l = a.0
suit_at t (d ∷ ds) (suc i) a l = suit_at t ds i a.1 (omega (arith, l))

pub suit_of : {X : Type 0} (f : X → Data) (t : DataType) (xs : List X) (i : ℕ) (x : X)
    → AllSuit t (map f xs) → i < length xs → x ≡ get_or xs i x → Suits t (f x)
suit_of f t [] i x a l e = absurd (omega (arith, l))
suit_of f t (y ∷ xs) zero x a l e = subst (λ z. Suits t (f z)) (sym e) a.0
suit_of f t (y ∷ xs) (suc i) x a l e = suit_of f t xs i x a.1 (omega (arith, l)) e

pub view_at : {X Y : Type 0} (f : X → Y) (xs : List X) (i : ℕ) (x : X) (d : Y) → i < length xs
    → x ≡ get_or xs i x → get_or (map f xs) i d ≡ f x
view_at f [] i x d l e = absurd (omega (arith, l))
view_at f (y ∷ xs) zero x d l e = ap f (sym e)
view_at f (y ∷ xs) (suc i) x d l e = view_at f xs i x d (omega (arith, l)) e

-- ---- leaves

pub prim_of_truth : (p : Primitive) (b : Bool) → Suits (leaf p) (boolean b) → p ≡ primitive.Bool
prim_of_truth p b s = same_primitive_is p primitive.Bool s.1

pub prim_of_number : (p : Primitive) (n : Num) → Suits (leaf p) (number n) → p ≡ primitive.I64
prim_of_number p n s =
    same_primitive_is p primitive.I64 (and_parts (is_of primitive.I64 (leaf p)) (is_int64 n) s.1).0

truth_again : (b : Bool)
    → lane_value (kind_of primitive.Bool) (lane_number (boolean b)) ≡ own_value (boolean b)
truth_again true = refl
truth_again false = refl

leaf_at : (p : Primitive) (d : Data) → Suits (leaf p) d
    → lane_value (kind_of p) (lane_number d) ≡ own_value d
leaf_at p (boolean b) s =
    ap (λ q. lane_value (kind_of q) (lane_number (boolean b))) (prim_of_truth p b s)
    ∙ truth_again b
leaf_at p (number n) s =
    ap (λ q. lane_value (kind_of q) (lane_number (number n))) (prim_of_number p n s)
leaf_at p null s = absurd (let e = s.1 in cc)
leaf_at p (string c) s = absurd s.0
leaf_at p (array ds) s = absurd (let e = s.1 in cc)
leaf_at p (object ms) s = absurd (let e = s.1 in cc)

leaf_items : (p : Primitive) (ds : List Data) → AllSuit (leaf p) ds
    → array_items (flat (lane_of (kind_of p) (length ds) (λ i. lane_number (get_or ds i null))))
    ≡ map own_value ds
leaf_items p ds a =
    let f : ℕ → _ = λ i. lane_number (get_or ds i null) in
    flat_items (lane_of (kind_of p) (length ds) f)
    ∙ map-map (lane_value (kind_of p)) f (range_with_len 0 (length ds))
    ∙ sym (fill_by_all (λ i. lane_value (kind_of p) (f i)) (map own_value ds) (length ds)
    values.null (length-map ds own_value)
    (λ j l. get_or-map own_value ds j null values.null l
    ∙ sym (leaf_at p (get_or ds j null) (suit_at (leaf p) ds j a l))))

pub leaf_made : (p : Primitive) (ds : List Data) (n : ℕ) (x : Layout) → AllSuit (leaf p) ds
    → n ≡ length ds
    → x ≡ flat (lane_of (kind_of p) n (λ i. lane_number (get_or ds i null)))
    → IsColumnOf (leaf p) ds x
leaf_made p ds n x a e f =
    let g : x ≡ flat (lane_of (kind_of p) (length ds) (λ i. lane_number (get_or ds i null))) =
    f ∙ ap (λ m. flat (lane_of (kind_of p) m (λ i. lane_number (get_or ds i null)))) e in
    record {
      typ = ap array_type g ∙ ap leaf (primitive_of-kind_of p);
      items = ap array_items g ∙ leaf_items p ds a;
    }

-- ---- no values

none_unknown : (ds : List Data) → AllSuit unknown ds → ds ≡ []
none_unknown [] a = refl
none_unknown (null ∷ ds) a = absurd (let e = a.0.1 in cc)
none_unknown (boolean b ∷ ds) a = absurd (let e = a.0.1 in cc)
none_unknown (number n ∷ ds) a = absurd (let e = a.0.1 in cc)
none_unknown (string c ∷ ds) a = absurd a.0.0
none_unknown (array es ∷ ds) a = absurd (let e = a.0.1 in cc)
none_unknown (object ms ∷ ds) a = absurd (let e = a.0.1 in cc)

pub unknown_made : (ds : List Data) (x : Layout) → AllSuit unknown ds → x ≡ empty
    → IsColumnOf unknown ds x
unknown_made ds x a e =
    let n : ds ≡ [] = none_unknown ds a in
    record {
      typ = ap array_type e;
      items = ap array_items e ∙ ap (map own_value) (sym n);
    }

-- ---- the items of a list

pub views_suit : (t : DataType) (vs : List json.Value) → ArePlain (items_view vs)
    → all_suit t (items_view vs) ≡ true → AllSuit t (map view vs)
views_suit t vs p e = subst (AllSuit t) (data_view vs) (list_suits t (items_view vs) p e)

-- ---- parts of all values, put one value's after another's

pub parts_more : {X : Type 0} (g : Data → List Data) (f : X → Data) (xs : List X) (i : ℕ) (x : X)
    (made new : List Data) → i < length xs → x ≡ get_or xs i x
    → flat_map g (map f xs) ≡ made ++ flat_map g (map f (drop i xs))
    → new ≡ made ++ g (f x)
    → flat_map g (map f xs) ≡ new ++ flat_map g (map f (drop (i + 1) xs))
parts_more g f xs i x made new l at h e =
    let rest = flat_map g (map f (drop (i + 1) xs)) in
    h
    ∙ ap (λ ys. made ++ flat_map g (map f ys))
    (drop_more xs i x l ∙ ap (λ y. y ∷ drop (i + 1) xs) (sym at))
    ∙ sym (append_assoc made (g (f x)) rest)
    ∙ ap (λ ds. ds ++ rest) (sym e)

pub parts_all : {X : Type 0} (g : Data → List Data) (f : X → Data) (xs : List X) (i : ℕ)
    (made : List Data) → length xs ≤ i
    → flat_map g (map f xs) ≡ made ++ flat_map g (map f (drop i xs))
    → made ≡ flat_map g (map f xs)
parts_all g f xs i made l h =
    sym (h ∙ ap (λ ys. made ++ flat_map g (map f ys)) (drop_all i xs l) ∙ append-nil made)

-- ---- the number of a leaf

pub typ_of-Opt : (t : Box Typ Global) → typ_of (Opt t) ≡ opt (typ_of t.value)
typ_of-Opt t =
    ap typ_of (sym (rolls-Opt t))
    ∙ fold-roll-Typ DataType NamedType (List NamedType) (List DataType) typ_step field_step
    fields_step typs_step (Typ-F.Opt t)
