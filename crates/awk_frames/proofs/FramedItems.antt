-- A column of ends under a shape: its items, its type and its length.
use Rattle.std.proofs.Common.{◌≡◌, ℕ, ◌+◌, ◌-◌, ◌<◌, refl, ap, arith, sym, ◌∙◌}
use Rattle.std.specs.Prelude.{List, [], ◌∷◌, map, filter, length, get_or, pos, Some, None}
use Rattle.std.specs.List.{range_with_len, AllByRecursion}
use Rattle.std.proofs.lemmas.List.{length-map, get_or-map}
use Rattle.awk_base.proofs.Ranges.{map-in}
use Rattle.awk_base.proofs.Every.{all-append}
use Rattle.awk_types.specs.DataType.{DataType, unknown, leaf, var, reg, rec, tup, opt, uni}
use Rattle.awk_types.specs.Has.{Has}
use Rattle.awk_types.specs.Parts.{IsList}
use Rattle.awk_types.specs.Simple.{option_of, in_list, in_option}
use Rattle.awk_types.specs.Value.{Value, int, truth, null, list, row, alt}
use Rattle.awk_lanes.specs.Places.{size_of, option_place}
use Rattle.awk_layout.specs.Item.{run, at_option}
use Rattle.awk_layout.specs.Layout.{Layout, optional}
use Rattle.awk_layout.specs.Typing.{array_type, array_items}
use Rattle.awk_layout.specs.Valid.{len}
use Rattle.awk_layout.proofs.ArrayItems.{length-array_items, get_or-array_items}
use Rattle.awk_gather.specs.Arrays.{array_item}
use Rattle.awk_gather.proofs.OptionItems.{item-optional}
use Rattle.awk_columns.specs.Columns.{list_items, joined_items, is_present, option_index}
use Rattle.awk_columns.specs.ListClass.{Class, list_type}
use Rattle.awk_columns.specs.ListNode.{AreEven, list_layout}
use Rattle.awk_columns.proofs.ArrayLaws.{array_items-at}
use Rattle.awk_columns.proofs.ListNodes.{len-list, item-list}
use Rattle.awk_columns.proofs.ListTypes.{list-has}
use Rattle.awk_columns.proofs.PresentItems.{present-have, length-option_index}
use Rattle.awk_frames.specs.Framed.{places, IsFrame, framed_layout, over, over_type}
use Rattle.awk_frames.specs.Shape.{Shape, leaves, items, missing, offsets_column, index_column}
use Rattle.awk_frames.specs.Shape.{shape, ends}
use Rattle.awk_frames.proofs.ValueLists.{start_at, length-offsets, lists-by, nulls-by}

-- ---- values that have a type

pub are-lists : (c : Class) (t : DataType) (vs : List Value)
    → AllByRecursion (Has (list_type c t)) vs
    → AllByRecursion IsList vs
are-lists c t [] h = tt
are-lists None t (list ws ∷ vs) h = (tt, are-lists None t vs h.1)
are-lists (Some n) t (list ws ∷ vs) h = (tt, are-lists (Some n) t vs h.1)
are-lists None t (int z ∷ vs) h = absurd h.0
are-lists None t (truth b ∷ vs) h = absurd h.0
are-lists None t (null ∷ vs) h = absurd h.0
are-lists None t (row ws ∷ vs) h = absurd h.0
are-lists None t (alt k w ∷ vs) h = absurd h.0
are-lists (Some n) t (int z ∷ vs) h = absurd h.0
are-lists (Some n) t (truth b ∷ vs) h = absurd h.0
are-lists (Some n) t (null ∷ vs) h = absurd h.0
are-lists (Some n) t (row ws ∷ vs) h = absurd h.0
are-lists (Some n) t (alt k w ∷ vs) h = absurd h.0

-- the items of lists of a type are of the items' type
pub items-have : (c : Class) (t : DataType) (vs : List Value)
    → AllByRecursion (Has (list_type c t)) vs → AllByRecursion (Has t) (joined_items vs)
items-have c t [] h = tt
items-have c t (v ∷ vs) h =
    all-append (Has t) (list_items v) (joined_items vs) (list-has c t v h.0) (items-have c t vs h.1)

-- ---- lengths

pub len-framed : (s : Shape) (y : Layout) → IsFrame s (len y) → len (framed_layout s y) ≡ places s
len-framed (leaves m) y h = sym h.0
len-framed (items o c s) y h = len-list c (size_of o - 1) o (framed_layout s y) h.0.size
len-framed (missing j s) y h = refl

pub size-offsets : (vs : List Value) → size_of (offsets_column vs) - 1 ≡ length vs
size-offsets vs = omega (arith, length-offsets 0 vs)

-- ---- items

-- an item of a column whose items a function gives of those of a list
item-by : (y : Layout) (g : Value → Value) (ws : List Value) → array_items y ≡ map g ws → (k : ℕ)
    → k < length ws → array_item y k ≡ g (get_or ws k null)
item-by y g ws e k l =
    let n : len y ≡ length ws = sym (length-array_items y) ∙ ap length e ∙ length-map ws g in
    sym (get_or-array_items y k (omega (arith, n, l)))
    ∙ ap (λ us. get_or us k null) e ∙ get_or-map g ws k null null l

-- the lists over a column of their items
pub lists-framed : (c : Class) (g : Value → Value) (vs : List Value) (z : Layout)
    → AllByRecursion IsList vs → AreEven c (offsets_column vs) (size_of (offsets_column vs) - 1)
    → array_items z ≡ map g (joined_items vs)
    → array_items (list_layout c (size_of (offsets_column vs) - 1) (offsets_column vs) z)
    ≡ map (in_list g) vs
lists-framed c g vs z l e h =
    let o = offsets_column vs in
    let n = size_of (offsets_column vs) - 1 in
    let m : n ≡ length vs = size-offsets vs in
    let f : ℕ → Value = λ i. list (run (array_item z) (start_at 0 vs i)
    (start_at 0 vs (i + 1) - start_at 0 vs i)) in
    array_items-at (list_layout c n o z)
    ∙ ap (λ k. map (array_item (list_layout c n o z)) (range_with_len 0 k))
    (len-list c n o z (omega (arith, length-offsets 0 vs)))
    ∙ map-in (array_item (list_layout c n o z)) f 0 n
    (λ i q. item-list c n o z e i (omega (arith, q)))
    ∙ ap (λ k. map f (range_with_len 0 k)) m
    ∙ lists-by g (array_item z) 0 vs l (λ k q.
    item-by z g (joined_items vs) h (0 + k) (omega (arith, q))
    ∙ (let s : 0 + k ≡ k = omega arith in ap (λ i. g (get_or (joined_items vs) i null)) s))

-- the option over a column of what is there
pub nulls-framed : (g : Value → Value) (vs : List Value) (z : Layout)
    → array_items z ≡ map g (filter is_present vs)
    → array_items (optional (index_column vs) z) ≡ map (in_option g) vs
nulls-framed g vs z h =
    let j = index_column vs in
    let f : ℕ → Value = λ i. at_option (option_place (get_or (option_index 0 vs) i (pos 0)))
    (array_item z) in
    array_items-at (optional j z)
    ∙ map-in (array_item (optional j z)) f 0 (size_of j) (λ i q. item-optional j z i)
    ∙ ap (λ k. map f (range_with_len 0 k)) (length-option_index 0 vs)
    ∙ nulls-by g (array_item z) 0 vs (λ k q.
    item-by z g (filter is_present vs) h (0 + k) (omega (arith, q))
    ∙ (let s : 0 + k ≡ k = omega arith in ap (λ i. g (get_or (filter is_present vs) i null)) s))

-- where a column has what f gives for the ends, the node over it has the values by f at their ends
pub items-framed : (t : DataType) (f : Value → Value) (vs : List Value) (n : ℕ) (y : Layout)
    → AllByRecursion (Has t) vs → IsFrame (shape t vs) n → array_items y ≡ map f (ends t vs)
    → array_items (framed_layout (shape t vs) y) ≡ map (over t f) vs
items-framed (var t) f vs n y h s e =
    lists-framed None (over t f) vs (framed_layout (shape t (joined_items vs)) y)
    (are-lists None t vs h) tt
    (items-framed t f (joined_items vs) n y (items-have None t vs h) s.2 e)
items-framed (reg m t) f vs n y h s e =
    lists-framed (Some m) (over t f) vs (framed_layout (shape t (joined_items vs)) y)
    (are-lists (Some m) t vs h) s.1
    (items-framed t f (joined_items vs) n y (items-have (Some m) t vs h) s.2 e)
items-framed (opt t) f vs n y h s e =
    nulls-framed (over t f) vs (framed_layout (shape t (filter is_present vs)) y)
    (items-framed t f (filter is_present vs) n y (present-have t vs h) s.2 e)
items-framed unknown f vs n y h s e = e
items-framed (leaf p) f vs n y h s e = e
items-framed (rec ns ts) f vs n y h s e = e
items-framed (tup ts) f vs n y h s e = e
items-framed (uni ts) f vs n y h s e = e

-- ---- types

pub type-framed : (t : DataType) (vs : List Value) (y : Layout)
    → array_type (framed_layout (shape t vs) y) ≡ over_type t (array_type y)
type-framed (var t) vs y = ap var (type-framed t (joined_items vs) y)
type-framed (reg m t) vs y = ap (reg m) (type-framed t (joined_items vs) y)
type-framed (opt t) vs y = ap option_of (type-framed t (filter is_present vs) y)
type-framed unknown vs y = refl
type-framed (leaf p) vs y = refl
type-framed (rec ns ts) vs y = refl
type-framed (tup ts) vs y = refl
type-framed (uni ts) vs y = refl
