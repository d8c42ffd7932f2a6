-- Rows and unions over what is made of their contents.
use Rattle.std.proofs.Common.{◌≡◌, ℕ, zero, suc, ◌+◌, ◌<◌, ◌||◌, List, [], ◌∷◌, map, refl, ap, ap₂}
use Rattle.std.proofs.Common.{sym, ◌∙◌, arith}
use Rattle.std.specs.Prelude.{Bool, false, Option, Some, None}
use Rattle.std.specs.List.{list_any}
use Rattle.awk_types.specs.DataType.{Name, DataTypes, type, types_from, row_type, uni}
use Rattle.awk_types.specs.Simple.{in_row, in_alternative, values_by, value_by}
use Rattle.awk_types.specs.Value.{Value, row, alt, value, value_list, values_from}
use Rattle.awk_types.specs.declared.primitive.Primitive.{Primitive}
use Rattle.awk_lanes.specs.Column.{Column}
use Rattle.awk_lanes.specs.Places.{place_at}
use Rattle.awk_layout.specs.Frames.{framed, Frames}
use Rattle.awk_layout.specs.Item.{items_across, item_of}
use Rattle.awk_layout.specs.Layout.{Layout, layouts_from, count, rows, union}
use Rattle.awk_layout.specs.Typing.{layout_types, array_type, array_items}
use Rattle.awk_layout.specs.Valid.{len, len_of, AllReach, IsUnion}
use Rattle.awk_layout.specs.declared.frame.Frame.{Frame}
use Rattle.awk_gather.specs.Arrays.{array_item}
use Rattle.awk_columns.specs.Parts.{AreParts, AreAlternatives}
use Rattle.awk_open.specs.Opened.{AreLong}
use Rattle.awk_open.specs.Opens.{across, item_among, OpensRow, OpensUnion}
use Rattle.awk_cast.specs.Cast.{cast_type, cast_types, cast_value, cast_values, some_node}
use Rattle.awk_cast.specs.Cast.{some_nodes, some_part, some_alternative, are_many, leaf_past, told}
use Rattle.awk_cast.specs.Casting.{IsCast, AreCast, told_of, told_of_all}
use Rattle.awk_cast.specs.Levels.{AreBeside}
use Rattle.awk_layout.specs.declared.frame.Frame.TheVariants as frame

abbrev types : List Layout → DataTypes
types xs = types_from (map array_type xs)

-- ---- contents

types_cast : (p : Primitive) (xs ys : List Layout) → AreCast p xs ys
    → layout_types (layouts_from ys) ≡ types_from (cast_types p (types xs))
types_cast p [] [] m = refl
types_cast p [] (y ∷ ys) m = absurd m
types_cast p (x ∷ xs) [] m = absurd m
types_cast p (x ∷ xs) (y ∷ ys) m = ap₂ type m.0.typ (types_cast p xs ys m.1)

count_cast : (p : Primitive) (xs ys : List Layout) → AreCast p xs ys
    → count (layouts_from ys) ≡ count (layouts_from xs)
count_cast p [] [] m = refl
count_cast p [] (y ∷ ys) m = absurd m
count_cast p (x ∷ xs) [] m = absurd m
count_cast p (x ∷ xs) (y ∷ ys) m = ap (λ (n : ℕ). n + 1) (count_cast p xs ys m.1)

reach_cast : (p : Primitive) (n : ℕ) (xs ys : List Layout) → AreLong n xs → AreCast p xs ys
    → AllReach n (layouts_from ys)
reach_cast p n [] [] a m = tt
reach_cast p n [] (y ∷ ys) a m = absurd m
reach_cast p n (x ∷ xs) [] a m = absurd m
reach_cast p n (x ∷ xs) (y ∷ ys) a m =
    (omega (arith, a.0, m.0.size), reach_cast p n xs ys a.1 m.1)

len_of_cast : (p : Primitive) (xs ys : List Layout) (k : ℕ) → AreCast p xs ys
    → len_of (layouts_from ys) k ≡ len_of (layouts_from xs) k
len_of_cast p [] [] k m = refl
len_of_cast p [] (y ∷ ys) k m = absurd m
len_of_cast p (x ∷ xs) [] k m = absurd m
len_of_cast p (x ∷ xs) (y ∷ ys) zero m = m.0.size
len_of_cast p (x ∷ xs) (y ∷ ys) (suc k) m = len_of_cast p xs ys k m.1

-- ---- rows

cast-row : (p : Primitive) (names : Option (List Name)) (ts : DataTypes)
    → cast_type p (row_type names ts) ≡ row_type names (types_from (cast_types p ts))
cast-row p None ts = refl
cast-row p (Some ns) ts = refl

cast_value-row : (p : Primitive) (names : Option (List Name)) (ts : DataTypes) (v : Value)
    → cast_value p (row_type names ts) v ≡ in_row (cast_values p ts) v
cast_value-row p None ts v = refl
cast_value-row p (Some ns) ts v = refl

some_node-row : (f g : List Value → Bool) (names : Option (List Name)) (ts : DataTypes)
    (vs : List Value) → some_node f g (row_type names ts) vs ≡ some_part (some_nodes f g ts) 0 vs
some_node-row f g None ts vs = refl
some_node-row f g (Some ns) ts vs = refl

-- the parts at a place
parts_cast : (p : Primitive) (n : ℕ) (xs ys : List Layout) (i : ℕ) → i < n → AreLong n xs
    → AreCast p xs ys
    → items_across (layouts_from ys) i
    ≡ values_from (values_by (cast_values p (types xs)) (value_list (across xs i)))
parts_cast p n [] [] i h a m = refl
parts_cast p n [] (y ∷ ys) i h a m = absurd m
parts_cast p n (x ∷ xs) [] i h a m = absurd m
parts_cast p n (x ∷ xs) (y ∷ ys) i h a m =
    ap₂ value (m.0.items i (omega (arith, h, a.0))) (parts_cast p n xs ys i h a.1 m.1)

row_cast : (p : Primitive) (names : Option (List Name)) (xs ys : List Layout) (x : Layout)
    → OpensRow names xs x → AreCast p xs ys → IsCast p x (rows names (len x) (layouts_from ys))
row_cast p names xs ys x o m = record {
  size = refl;
  typ = ap (row_type names) (types_cast p xs ys m)
      ∙ sym (ap (cast_type p) o.typ ∙ cast-row p names (types xs));
  items = λ i h.
      ap row (parts_cast p (len x) xs ys i h o.lens m)
      ∙ ap (in_row (cast_values p (types xs))) (sym (o.items i h))
      ∙ sym (ap (λ t. cast_value p t (array_item x i)) o.typ
      ∙ cast_value-row p names (types xs) (array_item x i));
}

parts_node : (f g : List Value → Bool) (k : ℕ) (vs : List Value) (xs : List Layout)
    → AreParts k vs xs
    → some_part (some_nodes f g (types xs)) k vs
    ≡ list_any (λ x. some_node f g (array_type x) (array_items x)) xs
parts_node f g k vs [] a = refl
parts_node f g k vs (x ∷ xs) a =
    ap₂ (λ b c. b || c) (ap (some_node f g (array_type x)) (sym a.0))
    (parts_node f g (suc k) vs xs a.1)

row_node : (f g : List Value → Bool) (names : Option (List Name)) (xs : List Layout) (x : Layout)
    → OpensRow names xs x
    → some_node f g (array_type x) (array_items x)
    ≡ list_any (λ y. some_node f g (array_type y) (array_items y)) xs
row_node f g names xs x o =
    ap (λ t. some_node f g t (array_items x)) o.typ
    ∙ some_node-row f g names (types xs) (array_items x)
    ∙ parts_node f g 0 (array_items x) xs o.columns

-- ---- unions

-- the item of an alternative
among_cast : (p : Primitive) (xs ys : List Layout) (k i : ℕ) → i < len_of (layouts_from xs) k
    → AreCast p xs ys
    → item_of (layouts_from ys) k i ≡ value_by (cast_values p (types xs)) k (item_among xs k i)
among_cast p [] [] k i h m = refl
among_cast p [] (y ∷ ys) k i h m = absurd m
among_cast p (x ∷ xs) [] k i h m = absurd m
among_cast p (x ∷ xs) (y ∷ ys) zero i h m = m.0.items i h
among_cast p (x ∷ xs) (y ∷ ys) (suc k) i h m = among_cast p xs ys k i h m.1

union_fits : (p : Primitive) (t j : Column) (xs ys : List Layout) → IsUnion t j (layouts_from xs)
    → AreCast p xs ys → IsUnion t j (layouts_from ys)
union_fits p t j xs ys u m = record {
  some = rw (count_cast p xs ys m) u.some;
  tag_kind = u.tag_kind;
  index_kind = u.index_kind;
  same_size = u.same_size;
  tags = λ i h. ((u.tags i h).0, rw (count_cast p xs ys m) (u.tags i h).1);
  places = λ i h. (
    (u.places i h).0,
    rw (len_of_cast p xs ys (place_at t i) m) (u.places i h).1,
  );
}

union_cast : (p : Primitive) (t j : Column) (xs ys : List Layout) (x : Layout)
    → OpensUnion t j xs x → AreCast p xs ys → IsCast p x (union t j (layouts_from ys))
union_cast p t j xs ys x o m = record {
  size = o.size;
  typ = ap uni (types_cast p xs ys m) ∙ ap (cast_type p) (sym o.typ);
  items = λ i h.
      let k = place_at t i in
      ap (alt k) (among_cast p xs ys k (place_at j i)
      (o.union.places i (omega (arith, h, o.size))).1 m)
      ∙ ap (in_alternative (cast_values p (types xs))) (sym (o.items i h))
      ∙ ap (λ u. cast_value p u (array_item x i)) (sym o.typ);
}

alternatives_node : (f g : List Value → Bool) (k : ℕ) (vs : List Value) (xs : List Layout)
    → AreAlternatives k vs xs
    → some_alternative (some_nodes f g (types xs)) k vs
    ≡ list_any (λ x. some_node f g (array_type x) (array_items x)) xs
alternatives_node f g k vs [] a = refl
alternatives_node f g k vs (x ∷ xs) a =
    ap₂ (λ b c. b || c) (ap (some_node f g (array_type x)) (sym a.0))
    (alternatives_node f g (suc k) vs xs a.1)

union_node : (f g : List Value → Bool) (t j : Column) (xs : List Layout) (x : Layout)
    → OpensUnion t j xs x
    → some_node f g (array_type x) (array_items x)
    ≡ list_any (λ y. some_node f g (array_type y) (array_items y)) xs
union_node f g t j xs x o =
    ap (λ u. some_node f g u (array_items x)) o.typ
    ∙ alternatives_node f g 0 (array_items x) xs o.columns

-- ---- either

pub beside_cast : (p : Primitive) (c : Frame) (xs ys : List Layout) (x : Layout)
    → AreBeside x c xs → AreCast p xs ys → IsCast p x (framed (len x) c ys)
beside_cast p (frame.Row names) xs ys x h m = row_cast p names xs ys x h m
beside_cast p (frame.Union t j) xs ys x h m = union_cast p t j xs ys x h m

beside_node : (f g : List Value → Bool) (c : Frame) (xs : List Layout) (x : Layout)
    → AreBeside x c xs
    → some_node f g (array_type x) (array_items x)
    ≡ list_any (λ y. some_node f g (array_type y) (array_items y)) xs
beside_node f g (frame.Row names) xs x h = row_node f g names xs x h
beside_node f g (frame.Union t j) xs x h = union_node f g t j xs x h

-- what is told of an array is what is told of its contents together
pub beside_told : (p : Primitive) (c : Frame) (xs : List Layout) (x : Layout) → AreBeside x c xs
    → told_of p x ≡ told_of_all p xs
beside_told p c xs x h =
    ap₂ told (beside_node are_many (λ vs. false) c xs x h)
    (beside_node (λ vs. false) (list_any (leaf_past p)) c xs x h)

-- the contents that are made fit as the old ones do
pub beside_fits : (p : Primitive) (c : Frame) (xs ys : List Layout) (x : Layout)
    → AreBeside x c xs → AreCast p xs ys → Frames (len x) c ys
beside_fits p (frame.Row names) xs ys x h m =
    (h.fits, rw (count_cast p xs ys m) h.are_names, reach_cast p (len x) xs ys h.lens m)
beside_fits p (frame.Union t j) xs ys x h m = (h.fits, union_fits p t j xs ys h.union m)
