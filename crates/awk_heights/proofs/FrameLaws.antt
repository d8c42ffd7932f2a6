-- Rows and unions over what is made of their contents.
use Rattle.std.proofs.Common.{◌≡◌, ℕ, zero, suc, ◌+◌, ◌*◌, ◌<◌, ◌≤◌, List, [], ◌∷◌, ◌++◌, map, refl}
use Rattle.std.proofs.Common.{ap, ap₂, sym, subst, ◌∙◌, arith}
use Rattle.std.specs.Prelude.{Option, Some, None}
use Rattle.awk_types.specs.DataType.{Name, DataTypes, type, types_from, row_type, uni, depth}
use Rattle.awk_types.specs.DataType.{depths, greatest}
use Rattle.awk_types.specs.Value.{row, alt, value, values_from}
use Rattle.awk_lanes.specs.Column.{Column}
use Rattle.awk_lanes.specs.Places.{place_at}
use Rattle.awk_layout.specs.Frames.{framed, Frames}
use Rattle.awk_layout.specs.Item.{items_across, item_of}
use Rattle.awk_layout.specs.Layout.{Layout, layouts_from, count, height, heights, rows, union}
use Rattle.awk_layout.specs.Place.{nth}
use Rattle.awk_layout.specs.Typing.{layout_types, array_type}
use Rattle.awk_layout.specs.Valid.{len, len_of, AllReach, IsUnion}
use Rattle.awk_layout.specs.declared.frame.Frame.{Frame}
use Rattle.awk_gather.specs.Arrays.{array_item}
use Rattle.awk_open.specs.Opened.{IsOpened}
use Rattle.awk_open.specs.declared.opening.Opened.TheVariants as opened
use Rattle.awk_heights.specs.Low.{height_limit, IsLowNode, AreLowNodes}
use Rattle.awk_heights.specs.Levels.{kind_of}
use Rattle.awk_layout.specs.declared.frame.Frame.TheVariants as frame

abbrev types : List Layout → DataTypes
types xs = types_from (map array_type xs)

-- ---- contents

low_types : (xs ys : List Layout) → AreLowNodes xs ys → layout_types (layouts_from ys) ≡ types xs
low_types [] [] m = refl
low_types [] (y ∷ ys) m = absurd m
low_types (x ∷ xs) [] m = absurd m
low_types (x ∷ xs) (y ∷ ys) m = ap₂ type m.0.typ (low_types xs ys m.1)

low_count : (xs ys : List Layout) → AreLowNodes xs ys
    → count (layouts_from ys) ≡ count (layouts_from xs)
low_count [] [] m = refl
low_count [] (y ∷ ys) m = absurd m
low_count (x ∷ xs) [] m = absurd m
low_count (x ∷ xs) (y ∷ ys) m = ap (λ (n : ℕ). n + 1) (low_count xs ys m.1)

low_reach : (n : ℕ) (xs ys : List Layout) → AllReach n (layouts_from xs) → AreLowNodes xs ys
    → AllReach n (layouts_from ys)
low_reach n [] [] a m = tt
low_reach n [] (y ∷ ys) a m = absurd m
low_reach n (x ∷ xs) [] a m = absurd m
low_reach n (x ∷ xs) (y ∷ ys) a m =
    (omega (arith, a.0, m.0.size), low_reach n xs ys a.1 m.1)

low_len_of : (xs ys : List Layout) (k : ℕ) → AreLowNodes xs ys
    → len_of (layouts_from ys) k ≡ len_of (layouts_from xs) k
low_len_of [] [] k m = refl
low_len_of [] (y ∷ ys) k m = absurd m
low_len_of (x ∷ xs) [] k m = absurd m
low_len_of (x ∷ xs) (y ∷ ys) zero m = m.0.size
low_len_of (x ∷ xs) (y ∷ ys) (suc k) m = low_len_of xs ys k m.1

low_heights : (xs ys : List Layout) → AreLowNodes xs ys
    → heights (layouts_from ys) ≤ 2 * greatest (depths (types xs))
low_heights [] [] m = omega arith
low_heights [] (y ∷ ys) m = absurd m
low_heights (x ∷ xs) [] m = absurd m
low_heights (x ∷ xs) (y ∷ ys) m = omega (arith, m.0.low, low_heights xs ys m.1)

pub low_behind : (xs ys : List Layout) (x y : Layout) → AreLowNodes xs ys → IsLowNode x y
    → AreLowNodes (xs ++ x ∷ []) (ys ++ y ∷ [])
low_behind [] [] x y m h = (h, tt)
low_behind [] (w ∷ ys) x y m h = absurd m
low_behind (v ∷ xs) [] x y m h = absurd m
low_behind (v ∷ xs) (w ∷ ys) x y m h = (m.0, low_behind xs ys x y m.1 h)

-- ---- rows

low_parts : (n : ℕ) (xs ys : List Layout) (i : ℕ) → i < n → AllReach n (layouts_from xs)
    → AreLowNodes xs ys
    → items_across (layouts_from ys) i ≡ values_from (map (λ x. array_item x i) xs)
low_parts n [] [] i h a m = refl
low_parts n [] (y ∷ ys) i h a m = absurd m
low_parts n (x ∷ xs) [] i h a m = absurd m
low_parts n (x ∷ xs) (y ∷ ys) i h a m =
    ap₂ value (m.0.items i (omega (arith, h, a.0))) (low_parts n xs ys i h a.1 m.1)

depth-row : (names : Option (List Name)) (ts : DataTypes)
    → depth (row_type names ts) ≡ suc (greatest (depths ts))
depth-row None ts = refl
depth-row (Some ns) ts = refl

rows_high : (names : Option (List Name)) (n : ℕ) (xs ys : List Layout) → AreLowNodes xs ys
    → height (rows names n (layouts_from ys)) ≤ height_limit (row_type names (types xs))
rows_high names n xs ys m = omega (arith, depth-row names (types xs), low_heights xs ys m)

row_low : (names : Option (List Name)) (xs ys : List Layout) (x : Layout)
    → IsOpened x (opened.Row names xs) → AreLowNodes xs ys
    → IsLowNode x (rows names (len x) (layouts_from ys))
row_low names xs ys x o m = record {
  size = refl;
  typ = ap (row_type names) (low_types xs ys m) ∙ sym o.kind;
  items = λ i h. ap row (low_parts (len x) xs ys i h o.valid.2 m) ∙ sym (o.items i h);
  low = subst (λ t. height (rows names (len x) (layouts_from ys)) ≤ height_limit t) (sym o.kind)
      (rows_high names (len x) xs ys m);
}

-- ---- unions

low_among : (xs ys : List Layout) (k i : ℕ) → i < len_of (layouts_from xs) k → AreLowNodes xs ys
    → item_of (layouts_from ys) k i ≡ array_item (nth (layouts_from xs) k) i
low_among [] [] k i h m = absurd (omega arith)
low_among [] (y ∷ ys) k i h m = absurd m
low_among (x ∷ xs) [] k i h m = absurd m
low_among (x ∷ xs) (y ∷ ys) zero i h m = m.0.items i h
low_among (x ∷ xs) (y ∷ ys) (suc k) i h m = low_among xs ys k i h m.1

union_fits : (t j : Column) (xs ys : List Layout) → IsUnion t j (layouts_from xs)
    → AreLowNodes xs ys → IsUnion t j (layouts_from ys)
union_fits t j xs ys u m = record {
  some = rw (low_count xs ys m) u.some;
  tag_kind = u.tag_kind;
  index_kind = u.index_kind;
  same_size = u.same_size;
  tags = λ i h. ((u.tags i h).0, rw (low_count xs ys m) (u.tags i h).1);
  places = λ i h. ((u.places i h).0, rw (low_len_of xs ys (place_at t i) m) (u.places i h).1);
}

union_high : (t j : Column) (xs ys : List Layout) → AreLowNodes xs ys
    → height (union t j (layouts_from ys)) ≤ height_limit (uni (types xs))
union_high t j xs ys m = omega (arith, low_heights xs ys m)

union_low : (t j : Column) (xs ys : List Layout) (x : Layout)
    → IsOpened x (opened.Union t j xs) → AreLowNodes xs ys
    → IsLowNode x (union t j (layouts_from ys))
union_low t j xs ys x o m = record {
  size = o.size;
  typ = ap uni (low_types xs ys m) ∙ sym o.kind;
  items = λ i h.
      let k = place_at t i in
      ap (alt k) (low_among xs ys k (place_at j i)
      (o.valid.1.places i (omega (arith, h, o.size))).1 m)
      ∙ sym (o.items i h);
  low = subst (λ u. height (union t j (layouts_from ys)) ≤ height_limit u) (sym o.kind)
      (union_high t j xs ys m);
}

-- ---- either

pub beside_low : (f : Frame) (xs ys : List Layout) (x : Layout) → IsOpened x (kind_of f xs)
    → AreLowNodes xs ys → IsLowNode x (framed (len x) f ys)
beside_low (frame.Row names) xs ys x o m = row_low names xs ys x o m
beside_low (frame.Union t j) xs ys x o m = union_low t j xs ys x o m

pub beside_fits : (f : Frame) (xs ys : List Layout) (x : Layout) → IsOpened x (kind_of f xs)
    → AreLowNodes xs ys → Frames (len x) f ys
beside_fits (frame.Row names) xs ys x o m =
    (o.valid.0, rw (low_count xs ys m) o.valid.1, low_reach (len x) xs ys o.valid.2 m)
beside_fits (frame.Union t j) xs ys x o m = (o.valid.0, union_fits t j xs ys o.valid.1 m)
