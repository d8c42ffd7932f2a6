-- What is left of an array without its options and indexes, opened, is the array opened.
use Rattle.std.proofs.Common.{◌≡◌, ℕ, suc, ◌<◌, ◌^◌, List, [], ◌∷◌, map, slice_get, Some, arith}
use Rattle.std.proofs.Common.{refl, ap, sym, ◌∙◌, subst}
use Rattle.std.specs.Prelude.{ℤ, pos, negsuc, ◌≤ℤ◌, ◌<ℤ◌, Bool, true, false, Option, None}
use Rattle.std.specs.List.{list_any, flat_map}
use Rattle.std.proofs.lemmas.Int.{ints}
use Rattle.std.proofs.lemmas.Bool.{true≢false}
use Rattle.awk_types.specs.DataType.{Name, DataType, DataTypes, unknown, leaf, var, reg, rec, tup}
use Rattle.awk_types.specs.DataType.{opt, uni, types_from, row_type}
use Rattle.awk_types.specs.Limit.{limit}
use Rattle.awk_types.specs.Simple.{present, is_option, is_union, option_if, present_alternatives}
use Rattle.awk_types.specs.Simple.{simple, simples}
use Rattle.awk_types.proofs.SimpleLaws.{present_stays}
use Rattle.awk_types.proofs.PartLimits.{within_var, within_reg, within_row}
use Rattle.awk_lanes.specs.declared.kind.Kind.TheVariants.{I64}
use Rattle.awk_lanes.specs.Column.{Column}
use Rattle.awk_lanes.specs.Numbers.{nat_of}
use Rattle.awk_lanes.specs.Places.{at, size_of, option_place, option_place_at, IsIndex}
use Rattle.awk_lanes.specs.Places.{IsOptionalIndex}
use Rattle.awk_layout.specs.Layout.{Layout, layouts_from, empty, flat, regular, lists, offset_lists}
use Rattle.awk_layout.specs.Layout.{rows, indexed, optional, byte_masked, bit_masked, unmasked}
use Rattle.awk_layout.specs.Layout.{union}
use Rattle.awk_layout.specs.Valid.{len, IsValid}
use Rattle.awk_layout.specs.Laws.{len-fits}
use Rattle.awk_layout.specs.Item.{at_option}
use Rattle.awk_layout.specs.Typing.{layout_types, array_type}
use Rattle.awk_gather.specs.Arrays.{array_item}
use Rattle.awk_lanes.specs.Made.{lane_of}
use Rattle.awk_gather.specs.Peeled.{IsBare, IsPeeled}
use Rattle.awk_spread.specs.Plain.{IsPlain}
use Rattle.awk_open.specs.Opened.{IsKindOf, IsOpened, IsOpenedAt, AreWithin, opened_layout}
use Rattle.awk_open.specs.Opened.{HasLengths}
use Rattle.awk_open.specs.declared.opening.Opened.{Opened}
use Rattle.awk_open.specs.declared.opening.Opened.TheVariants.{Option as Optional}
use Rattle.awk_lanes.proofs.MadeLanes.{size-lane_of, at-lane_of}
use Rattle.awk_layout.proofs.JudgedTypes.{offsets_within}
use Rattle.awk_gather.proofs.FollowedIndexes.{item_at_place}
use Rattle.awk_open.proofs.OpenedKinds.{opened_empty, type-rows}

-- ---- types of what is bare

present-option_if : (b : Bool) (ts : DataTypes) → is_union (present (option_if b (uni ts))) ≡ true
present-option_if true ts = refl
present-option_if false ts = refl

pub bare_plain : (y : Layout) → IsBare y → is_union (present (array_type y)) ≡ false → IsPlain y
bare_plain empty b e = tt
bare_plain (flat c) b e = tt
bare_plain (regular size n x) b e = tt
bare_plain (lists s t x) b e = tt
bare_plain (offset_lists o x) b e = tt
bare_plain (rows names n xs) b e = tt
bare_plain (indexed j x) b e = absurd b
bare_plain (optional j x) b e = absurd b
bare_plain (byte_masked m v x) b e = absurd b
bare_plain (bit_masked m v x) b e = absurd b
bare_plain (unmasked n x) b e = absurd b
bare_plain (union t j xs) b e =
    absurd (true≢false (sym (present-option_if (list_any is_option (simples (layout_types xs)))
    (types_from (flat_map present_alternatives (simples (layout_types xs))))) ∙ e))

rows_present : (names : Option (List Name)) (ts : DataTypes)
    → present (simple (row_type names ts)) ≡ simple (row_type names ts)
rows_present None ts = refl
rows_present (Some names) ts = refl

pub plain_present : (y : Layout) → IsPlain y → present (array_type y) ≡ array_type y
plain_present empty b = refl
plain_present (flat c) b = refl
plain_present (regular size n x) b = refl
plain_present (lists s t x) b = refl
plain_present (offset_lists o x) b = refl
plain_present (rows names n xs) b = rows_present names (layout_types xs)
plain_present (indexed j x) b = absurd b
plain_present (optional j x) b = absurd b
plain_present (byte_masked m v x) b = absurd b
plain_present (bit_masked m v x) b = absurd b
plain_present (unmasked n x) b = absurd b
plain_present (union t j xs) b = absurd b

pub option_present : (t : DataType) → is_option t ≡ true → t ≡ opt (present t)
option_present (opt t) e = refl
option_present unknown e = cc
option_present (leaf p) e = cc
option_present (var t) e = cc
option_present (reg n t) e = cc
option_present (rec ns ts) e = cc
option_present (tup ts) e = cc
option_present (uni ts) e = cc

-- the type that is left
left_type : (x y : Layout) (p k : Column) → IsPeeled x p k y
    → is_union (present (array_type x)) ≡ false
    → IsPlain y × (array_type y ≡ present (array_type x))
left_type x y p k h u =
    let b : IsPlain y = bare_plain y h.bare (ap is_union h.same_present ∙ u) in
    (b, sym (plain_present y b) ∙ h.same_present)

-- ---- all places

pub all_optional : (n : ℕ) (p : Column) → p ≡ lane_of I64 n (λ i. pos i) → IsOptionalIndex p n
all_optional n p e = rw e (record {
  kind = tt;
  below = λ i k.
      let k' : i < n = omega (arith, size-lane_of I64 n (λ i. pos i)) in
      rw (at-lane_of I64 n (λ i. pos i) i k') (omega (arith, ints));
})

pub peeled_size : (x y : Layout) (p k : Column) → p ≡ lane_of I64 (len x) (λ i. pos i)
    → IsPeeled x p k y → size_of k ≡ len x
peeled_size x y p k e h = h.size ∙ ap size_of e ∙ size-lane_of I64 (len x) (λ i. pos i)

first_at : (x y : Layout) (p k : Column) (j : ℕ) → p ≡ lane_of I64 (len x) (λ i. pos i) → j < len x
    → at p j ≡ pos j
first_at x y p k j e l = ap (λ c. at c j) e ∙ at-lane_of I64 (len x) (λ i. pos i) j l

peeled_item : (x y : Layout) (p k : Column) (j : ℕ) → p ≡ lane_of I64 (len x) (λ i. pos i)
    → IsPeeled x p k y → j < len x → at_option (option_place_at k j) (array_item y) ≡ array_item x j
peeled_item x y p k j e h l =
    let m : size_of p ≡ len x = ap size_of e ∙ size-lane_of I64 (len x) (λ i. pos i) in
    h.items j (omega arith) ∙ ap (λ z. at_option (option_place z) (array_item x))
    (first_at x y p k j e l)

-- ---- an option

pub opened_option : (x y z : Layout) (p k : Column) → p ≡ lane_of I64 (len x) (λ i. pos i)
    → len x < 2 ^ 63 → IsPeeled x p k y → z ≡ y → IsValid y
    → is_union (present (array_type x)) ≡ false → is_option (array_type x) ≡ true
    → IsOpened x (Optional k z)
opened_option x y z p k e l h q v u o = rw q (record {
  kind = option_present (array_type x) o ∙ ap opt (sym (left_type x y p k h u).1);
  size = peeled_size x y p k e h;
  valid = (omega (arith, peeled_size x y p k e h), h.index, v);
  lengths = tt;
  items = λ j i. sym (peeled_item x y p k j e h i);
})

-- ---- no option

place_of : (z : ℤ) (n : ℕ) → pos 0 ≤ℤ z → z <ℤ pos n → (pos 0 ≤ℤ z) × (nat_of z < n)
place_of (pos m) n a b = (a, omega (arith, ints))
place_of (negsuc m) n a b = absurd (omega (arith, ints))

pub peeled_places : (x y : Layout) (p k : Column) → p ≡ lane_of I64 (len x) (λ i. pos i)
    → IsPeeled x p k y → is_option (array_type x) ≡ false → IsIndex k (len y)
peeled_places x y p k e h o = record {
  kind = rw h.kind tt;
  places = λ i q.
      let m : size_of k ≡ len x = peeled_size x y p k e h in
      let q' : i < size_of p = omega (arith, h.size) in
      let a : at p i ≡ pos i = first_at x y p k i e (omega arith) in
      let b : pos 0 ≤ℤ at p i = rw a (omega (arith, ints)) in
      place_of (at k i) (len y) (h.stays o i q' b) (h.index.below i q);
}

pub left_same : (x y : Layout) (p k : Column) → IsPeeled x p k y
    → is_union (present (array_type x)) ≡ false → is_option (array_type x) ≡ false
    → IsPlain y × (array_type y ≡ array_type x)
left_same x y p k h u o =
    let t = left_type x y p k h u in (t.0, t.1 ∙ present_stays (array_type x) o)

pub opened_through : (x y : Layout) (p k : Column) (r : Opened)
    → p ≡ lane_of I64 (len x) (λ i. pos i) → IsPeeled x p k y
    → is_union (present (array_type x)) ≡ false → is_option (array_type x) ≡ false
    → IsOpenedAt y k r → IsOpened x r
opened_through x y p k r e h u o w =
    let m : size_of k ≡ len x = peeled_size x y p k e h in
    let places = peeled_places x y p k e h o in
    record {
      kind = subst (λ t. IsKindOf t r) (left_same x y p k h u o).1 w.kind;
      size = ap (λ n. len (opened_layout n r)) (sym m) ∙ w.size ∙ m;
      valid = subst (λ n. IsValid (opened_layout n r)) m w.valid;
      lengths = subst (λ n. HasLengths n r) m w.lengths;
      items = λ j q.
          let q' : j < size_of k = omega (arith, m) in
          sym (peeled_item x y p k j e h q) ∙ item_at_place (at k j) (array_item y)
          (places.places j q').0 ∙ w.items j q';
    }

-- ---- what the types of contents pass

pub lists_within : (s t : Column) (x y : Layout) → lists s t y ≡ x → limit (array_type x) ≡ None
    → limit (array_type y) ≡ None
lists_within s t x y e h = within_var (array_type y) (ap (λ z. limit (array_type z)) e ∙ h)

pub regular_within : (size n : ℕ) (x y : Layout) → regular size n y ≡ x
    → limit (array_type x) ≡ None → limit (array_type y) ≡ None
regular_within size n x y e h =
    within_reg size (array_type y) (ap (λ z. limit (array_type z)) e ∙ h)

pub all_within : (xs : List Layout)
    → ((k : ℕ) (u : DataType) → slice_get (map array_type xs) k ≡ Some u → limit u ≡ None)
    → AreWithin xs
all_within [] h = tt
all_within (x ∷ xs) h = (h 0 (array_type x) refl, all_within xs (λ k u e. h (suc k) u e))

pub rows_within : (names : Option (List Name)) (n : ℕ) (xs : List Layout) (x : Layout)
    → rows names n (layouts_from xs) ≡ x → limit (array_type x) ≡ None → AreWithin xs
rows_within names n xs x e h =
    all_within xs (λ k u q. within_row names (map array_type xs) k u q
    (ap limit (sym (type-rows names n xs)) ∙ ap (λ z. limit (array_type z)) e ∙ h))

pub ruleset plain =
    (opened_empty, lists_within, offsets_within, regular_within, rows_within, len-fits)
