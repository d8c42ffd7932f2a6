-- Rows of columns: the rows of whose parts they are.
use Rattle.std.proofs.Common.{◌≡◌, ℕ, zero, suc, ◌<◌, Bool, true, false, refl, ap, arith, sym, ◌∙◌}
use Rattle.std.proofs.Common.{subst, slice_get}
use Rattle.std.specs.Prelude.{List, [], ◌∷◌, map, filter, length, get_or, Option, Some, None}
use Rattle.std.specs.Prelude.{if◌then◌else◌}
use Rattle.std.specs.List.{AllByRecursion}
use Rattle.std.proofs.lemmas.List.{ext_get_or, length-map}
use Rattle.awk_base.proofs.Every.{all-at}
use Rattle.awk_types.specs.DataType.{Name, DataType, unknown, leaf, var, reg, rec, tup, opt, uni}
use Rattle.awk_types.specs.DataType.{types_from}
use Rattle.awk_types.specs.Datum.{Datum}
use Rattle.awk_types.specs.Has.{Has}
use Rattle.awk_types.specs.Simple.{option_if}
use Rattle.awk_types.specs.Value.{Value, int, truth, null, list, row, alt, value_list, values_from}
use Rattle.awk_types.proofs.Trees.{value_list-from, values_from-list}
use Rattle.awk_types.proofs.HasLaws.{row-length}
use Rattle.awk_layout.proofs.ArrayItems.{length-array_items, get_or-array_items}
use Rattle.awk_layout.specs.Layout.{Layout, rows, layouts_from}
use Rattle.awk_layout.specs.Typing.{array_type, array_items}
use Rattle.awk_layout.specs.Valid.{len}
use Rattle.awk_gather.specs.Arrays.{array_item}
use Rattle.awk_columns.specs.Columns.{part_at, joined_items, is_present}
use Rattle.awk_columns.specs.Parts.{AreParts}
use Rattle.awk_columns.specs.ListClass.{Class, list_type}
use Rattle.awk_columns.proofs.PresentItems.{present-have}
use Rattle.awk_open.proofs.OpenedKinds.{item-rows}
use Rattle.awk_open.specs.Opened.{AreLong}
use Rattle.awk_frames.proofs.FramedItems.{items-have}
use Rattle.awk_frames.specs.Shape.{ends}
use Rattle.awk_pair_operands.specs.Answer.{shared_ends}
use Rattle.awk_pair_operands.specs.Pairs.{below, leaf_types, pair_type, pair_values, typs}
use Rattle.awk_pair_operands.specs.Paired.{to_depth, end_type, paired_type, types_at_ends}
use Rattle.awk_pair_sides.specs.Levels.{opens, some_option, item_types, level_class}

-- ---- the parts of one row

get_or-map : (f : Value → Value) (vs : List Value) (i : ℕ) → i < length vs
    → get_or (map f vs) i null ≡ f (get_or vs i null)
get_or-map f [] i l = absurd (omega (arith, l))
get_or-map f (v ∷ vs) zero l = refl
get_or-map f (v ∷ vs) (suc i) l = get_or-map f vs i (omega (arith, l))

-- the parts from place k on
abbrev parts_at : ℕ → ℕ → List Value → List Value
parts_at k zero ws = []
parts_at k (suc n) ws = get_or ws k null ∷ parts_at (suc k) n ws

parts_at-next : (k n : ℕ) (w : Value) (ws : List Value)
    → parts_at (suc k) n (w ∷ ws) ≡ parts_at k n ws
parts_at-next k zero w ws = refl
parts_at-next k (suc n) w ws = ap (λ us. get_or ws k null ∷ us) (parts_at-next (suc k) n w ws)

parts_at-all : (ws : List Value) → parts_at 0 (length ws) ws ≡ ws
parts_at-all [] = refl
parts_at-all (w ∷ ws) =
    ap (λ us. w ∷ us) (parts_at-next 0 (length ws) w ws ∙ parts_at-all ws)

item_of-part : (k i : ℕ) (vs : List Value) (x : Layout) → array_items x ≡ map (part_at k) vs
    → len x ≡ length vs → i < length vs → array_item x i ≡ part_at k (get_or vs i null)
item_of-part k i vs x e l h =
    let p : i < len x = omega (arith, l, h) in
    sym (get_or-array_items x i p) ∙ ap (λ us. get_or us i null) e
    ∙ get_or-map (part_at k) vs i h

part-of-row : (k : ℕ) (ws : List Value) → part_at k (row (values_from ws)) ≡ get_or ws k null
part-of-row k ws = ap (λ us. get_or us k null) (value_list-from ws)

-- what columns of parts have at a place
parts_of : (k i : ℕ) (vs ws : List Value) (xs : List Layout) → AreParts k vs xs
    → AreLong (length vs) xs → i < length vs → get_or vs i null ≡ row (values_from ws)
    → map (λ x. array_item x i) xs ≡ parts_at k (length xs) ws
parts_of k i vs ws [] h l p e = refl
parts_of k i vs ws (x ∷ xs) h l p e =
    ap (λ v. v ∷ map (λ y. array_item y i) xs)
    (item_of-part k i vs x h.0 l.0 p ∙ ap (part_at k) e ∙ part-of-row k ws)
    ∙ ap (λ us. get_or ws k null ∷ us) (parts_of (suc k) i vs ws xs h.1 l.1 p e)

-- ---- rows of a type

parts-long : (k : ℕ) (vs : List Value) (xs : List Layout) → AreParts k vs xs
    → AreLong (length vs) xs
parts-long k vs [] h = tt
parts-long k vs (x ∷ xs) h = (
  sym (length-array_items x) ∙ ap length h.0 ∙ length-map vs (part_at k),
  parts-long (suc k) vs xs h.1,
)

row-at : (names : Option (List Name)) (n i : ℕ) (ts : List DataType) (vs : List Value)
    (xs : List Layout) (v : Value) → AreParts 0 vs xs → length xs ≡ length ts → i < length vs
    → get_or vs i null ≡ v → Has (tup (types_from ts)) v
    → array_item (rows names n (layouts_from xs)) i ≡ v
row-at names n i ts vs xs (row us) h l p e t =
    item-rows names n xs i
    ∙ ap (λ ws. row (values_from ws))
    (parts_of 0 i vs (value_list us) xs h (parts-long 0 vs xs h) p
    (e ∙ ap row (sym (values_from-list us)))
    ∙ ap (λ m. parts_at 0 m (value_list us)) (l ∙ sym (row-length ts (value_list us) t))
    ∙ parts_at-all (value_list us))
    ∙ ap row (values_from-list us)
row-at names n i ts vs xs (int z) h l p e t = absurd t
row-at names n i ts vs xs (truth b) h l p e t = absurd t
row-at names n i ts vs xs null h l p e t = absurd t
row-at names n i ts vs xs (list us) h l p e t = absurd t
row-at names n i ts vs xs (alt k w) h l p e t = absurd t

-- columns of the parts of rows make these rows
pub rows_items : (names : Option (List Name)) (n : ℕ) (ts : List DataType) (vs : List Value)
    (xs : List Layout) → AreParts 0 vs xs → length xs ≡ length ts → n ≡ length vs
    → AllByRecursion (Has (tup (types_from ts))) vs
    → array_items (rows names n (layouts_from xs)) ≡ vs
rows_items names n ts vs xs h l e t =
    ext_get_or null (array_items (rows names n (layouts_from xs))) vs
    (length-array_items (rows names n (layouts_from xs)) ∙ e)
    (λ i p.
    let q : i < n = omega (arith, p, length-array_items (rows names n (layouts_from xs))) in
    let r : i < length vs = omega (arith, q, e) in
    get_or-array_items (rows names n (layouts_from xs)) i q
    ∙ row-at names n i ts vs xs (get_or vs i null) h l r refl
    (all-at (Has (tup (types_from ts))) vs i null t r))

-- ---- the ends of values of a type

-- what stands at the ends of a type
abbrev pub end_in : DataType → DataType
end_in (var t) = end_in t
end_in (reg n t) = end_in t
end_in (opt t) = end_in t
end_in t = t

pub ends_have : (t : DataType) (vs : List Value) → AllByRecursion (Has t) vs
    → AllByRecursion (Has (end_in t)) (ends t vs)
ends_have (var t) vs h = ends_have t (joined_items vs) (items-have None t vs h)
ends_have (reg n t) vs h = ends_have t (joined_items vs) (items-have (Some n) t vs h)
ends_have (opt t) vs h = ends_have t (filter is_present vs) (present-have t vs h)
ends_have unknown vs h = h
ends_have (leaf p) vs h = h
ends_have (rec ns ts) vs h = h
ends_have (tup ts) vs h = h
ends_have (uni ts) vs h = h

end_in-option : (b : Bool) (t : DataType) → end_in (option_if b t) ≡ end_in t
end_in-option true t = refl
end_in-option false t = refl

end_in-list : (c : Class) (t : DataType) → end_in (list_type c t) ≡ end_in t
end_in-list None t = refl
end_in-list (Some n) t = refl

end-step : (keep b : Bool) (d : ℕ) (ts : List DataType)
    → end_in (paired_type keep to_depth d (item_types ts))
    ≡ tup (types_from (types_at_ends to_depth d (item_types ts)))
    → end_in (if b then option_if (some_option ts)
    (list_type (level_class keep ts) (paired_type keep to_depth d (item_types ts)))
    else end_type to_depth ts)
    ≡ tup (types_from (if b then types_at_ends to_depth d (item_types ts) else ts))
end-step keep true d ts e =
    end_in-option (some_option ts)
    (list_type (level_class keep ts) (paired_type keep to_depth d (item_types ts)))
    ∙ end_in-list (level_class keep ts) (paired_type keep to_depth d (item_types ts)) ∙ e
end-step keep false d ts e = refl

-- at a depth a row of the operands' items stands at the ends
pub end_of_pairs : (keep : Bool) (d : ℕ) (ts : List DataType)
    → end_in (paired_type keep to_depth d ts) ≡ tup (types_from (types_at_ends to_depth d ts))
end_of_pairs keep zero ts = refl
end_of_pairs keep (suc d) ts =
    end-step keep (opens ts) d ts (end_of_pairs keep d (item_types ts))

-- ---- what is paired at a depth

pub types_length : (d : ℕ) (ds : List Datum) (ys : List Layout)
    → map array_type ys ≡ leaf_types (Some d) ds → length ys ≡ length (leaf_types (Some d) ds)
types_length d ds ys e = sym (length-map ys array_type) ∙ ap length e

-- the first column has an item for each end
pub first_long : (n : ℕ) (ys : List Layout) (y : Layout) → AreLong n ys
    → slice_get ys 0 ≡ Some y → len y ≡ n
first_long n [] y h e = cc
first_long n (z ∷ zs) y h e = let f : z ≡ y = cc in ap len (sym f) ∙ h.0

pub columns_long : (vs : List Value) (ys : List Layout) → AreParts 0 vs ys → AreLong (length vs) ys
columns_long vs ys h = parts-long 0 vs ys h

-- the rows at the ends are of their type
pub ends_typed : (d : ℕ) (ds : List Datum)
    → AllByRecursion (Has (pair_type false (Some d) ds)) (pair_values false (Some d) ds)
    → AllByRecursion (Has (tup (types_from (leaf_types (Some d) ds))))
    (shared_ends false (Some d) ds)
ends_typed d ds h =
    subst (λ t. AllByRecursion (Has t) (shared_ends false (Some d) ds))
    (end_of_pairs false (below (Some d) ds) (typs ds))
    (ends_have (pair_type false (Some d) ds) (pair_values false (Some d) ds) h)
