-- Options over their present items alone.
use Rattle.std.proofs.Common.{◌≡◌, ℕ, suc, zero, ◌+◌, ◌<◌, ◌≤◌, List, [], ◌∷◌, ◌++◌, map, length}
use Rattle.std.proofs.Common.{get_or, arith, refl, ap, ap₂, sym, ◌∙◌, subst}
use Rattle.std.specs.Prelude.{ℤ, pos, negsuc, ◌<ℤ◌, Option, Some, None, true, false, filter}
use Rattle.std.specs.List.{range_with_len, flat_map}
use Rattle.std.proofs.lemmas.Int.{ints}
use Rattle.std.proofs.lemmas.List.{length-map}
use Rattle.std.proofs.lemmas.List.FromFn.{map-range_with_len_more}
use Rattle.awk_types.specs.DataType.{opt}
use Rattle.awk_types.specs.Simple.{is_option}
use Rattle.awk_types.specs.Value.{Value, null, int, truth, list, row, alt}
use Rattle.awk_lanes.specs.declared.kind.Kind.TheVariants.{I64}
use Rattle.awk_lanes.specs.Column.{Column}
use Rattle.awk_lanes.specs.Places.{at, size_of, option_place, option_place_at, IsOptionalIndex}
use Rattle.awk_layout.specs.Layout.{Layout}
use Rattle.awk_layout.specs.Valid.{len, IsValid}
use Rattle.awk_layout.specs.Item.{at_option}
use Rattle.awk_layout.specs.Typing.{array_type, array_items}
use Rattle.awk_gather.specs.Arrays.{array_item}
use Rattle.awk_columns.specs.Columns.{is_present, option_index}
use Rattle.awk_counts.specs.Counted.{first_of, present_place, present_at, count_or_null}
use Rattle.awk_counts.specs.Counted.{counted_at, counted_lane, AreBelow}
use Rattle.awk_open.specs.InOrder.{IsInOrder}
use Rattle.awk_open.specs.Opened.{IsOpened}
use Rattle.awk_columns.specs.Reached.{IsReached}
use Rattle.awk_open.specs.declared.opening.Opened.TheVariants.{Option as Optional}
use Rattle.awk_counts.proofs.FirstPlaces.{first_of-room}
use Rattle.awk_lanes.proofs.MadeLanes.{size-lane_of, at-lane_of}
use Rattle.awk_base.proofs.Ranges.{map-in}
use Rattle.awk_columns.proofs.ArrayLaws.{array_items-at}
use Rattle.awk_columns.proofs.ReachedContents.{below-first_of, first_of-at, reached-len}
use Rattle.awk_columns.proofs.ReachedContents.{reached-item}
use Rattle.awk_columns.proofs.PresentItems.{not_null}
use Rattle.awk_open.proofs.ItemShapes.{present_item}

-- ---- values that are present

filter-present : (v : Value) (vs : List Value) → is_present v ≡ true
    → filter is_present (v ∷ vs) ≡ v ∷ filter is_present vs
filter-present null vs h = cc
filter-present (int z) vs h = refl
filter-present (truth b) vs h = refl
filter-present (list ws) vs h = refl
filter-present (row ws) vs h = refl
filter-present (alt k v) vs h = refl

-- items of an option, of which those that are there are present
abbrev AllPresent : Column → (ℕ → Value) → ℕ → Type 0
AllPresent j g n = (i k : ℕ) → i < n → option_place_at j i ≡ Some k → is_present (g k) ≡ true

abbrev option_items : Column → (ℕ → Value) → ℕ → Value
option_items j g i = at_option (option_place_at j i) g

filter_one : (o : Option ℕ) (g : ℕ → Value) (vs : List Value) (ks : List ℕ)
    → ((k : ℕ) → o ≡ Some k → is_present (g k) ≡ true) → filter is_present vs ≡ map g ks
    → filter is_present (at_option o g ∷ vs) ≡ map g (present_place o ++ ks)
filter_one None g vs ks h e = e
filter_one (Some k) g vs ks h e = filter-present (g k) vs (h k refl) ∙ ap (λ ws. g k ∷ ws) e

filter_from : (j : Column) (g : ℕ → Value) (a n : ℕ) → AllPresent j g (a + n)
    → filter is_present (map (option_items j g) (range_with_len a n)) ≡ map g
    (flat_map (present_at j) (range_with_len a n))
filter_from j g a zero h = refl
filter_from j g a (suc n) h =
    filter_one (option_place_at j a) g (map (option_items j g) (range_with_len (a + 1) n))
    (flat_map (present_at j) (range_with_len (a + 1) n)) (λ k e. h a k (omega arith) e)
    (filter_from j g (a + 1) n (λ i k l e. h i k (omega arith) e))

present_items : (j : Column) (g : ℕ → Value) (n : ℕ) → AllPresent j g n
    → filter is_present (map (option_items j g) (range_with_len 0 n)) ≡ map g
    (first_of (present_at j) n)
present_items j g n h = filter_from j g 0 n (λ i k l e. h i k (omega arith) e)

-- ---- the index that counts up

abbrev number_for : ℕ → Value → ℤ
number_for n null = negsuc 0
number_for n v = pos n

index-append : (n : ℕ) (vs : List Value) (v : Value)
    → option_index n (vs ++ v ∷ []) ≡ option_index n vs ++ number_for
    (n + length (filter is_present vs)) v ∷ []
index-append n [] null = refl
index-append n [] v = ap (λ m. pos m ∷ []) (omega arith)
index-append n (null ∷ vs) v = ap (λ zs. negsuc 0 ∷ zs) (index-append n vs v)
index-append n (w ∷ vs) v =
    ap (λ zs. pos n ∷ zs) (index-append (suc n) vs v ∙ ap
    (λ m. option_index (suc n) vs ++ number_for m v ∷ []) (omega arith))

number_is : (o : Option ℕ) (g : ℕ → Value) (n : ℕ)
    → ((k : ℕ) → o ≡ Some k → is_present (g k) ≡ true)
    → number_for n (at_option o g) ≡ count_or_null n o
number_is None g n h = refl
number_is (Some k) g n h = of (g k) (h k refl)
  where
    of : (v : Value) → is_present v ≡ true → number_for n v ≡ pos n
    of null e = cc
    of (int z) e = refl
    of (truth b) e = refl
    of (list vs) e = refl
    of (row vs) e = refl
    of (alt k v) e = refl

option_index-is : (j : Column) (g : ℕ → Value) (n : ℕ) → AllPresent j g n
    → option_index 0 (map (option_items j g) (range_with_len 0 n)) ≡ map (counted_at j)
    (range_with_len 0 n)
option_index-is j g zero h = refl
option_index-is j g (suc n) h =
    let e : n + 1 ≡ suc n = omega arith in
    let h' : AllPresent j g n = λ i k l q. h i k (omega arith) q in
    let vs = map (option_items j g) (range_with_len 0 n) in
    let m : 0 + length (filter is_present vs) ≡ length (first_of (present_at j) n) =
    omega (arith, ap length (present_items j g n h'), length-map (first_of (present_at j) n) g) in
    subst (λ w. option_index 0 (map (option_items j g) (range_with_len 0 w)) ≡ map (counted_at j)
    (range_with_len 0 w)) e
    (ap (option_index 0) (map-range_with_len_more (option_items j g) 0 n n (omega arith))
    ∙ index-append 0 vs (option_items j g n)
    ∙ ap₂ (λ zs z. zs ++ z ∷ []) (option_index-is j g n h')
    (ap (λ w. number_for w (option_items j g n)) m ∙ number_is (option_place_at j n) g
    (length (first_of (present_at j) n)) (λ k q. h n k (omega arith) q))
    ∙ sym (map-range_with_len_more (counted_at j) 0 n n (omega arith)))

-- ---- the option over its present items

-- the present places are places of the content
place_below : (n : ℕ) (z : ℤ) → z <ℤ pos n → AreBelow n (present_place (option_place z))
place_below n (pos k) h = (omega (arith, ints), tt)
place_below n (negsuc k) h = tt

pub option_below : (j : Column) (n : ℕ) → IsOptionalIndex j n
    → AreBelow n (first_of (present_at j) (size_of j))
option_below j n h =
    below-first_of n (present_at j) (size_of j) (λ i l. place_below n (at j i) (h.below i l))

size-counted : (j : Column) → size_of (counted_lane j) ≡ size_of j
size-counted j = size-lane_of I64 (size_of j) (counted_at j)

at-counted : (j : Column) (i : ℕ) → i < size_of j → at (counted_lane j) i ≡ counted_at j i
at-counted j i l = at-lane_of I64 (size_of j) (counted_at j) i l

counted_below : (j : Column) (i n : ℕ) (o : Option ℕ) → option_place_at j i ≡ o
    → length (first_of (present_at j) i) + length (present_place o) ≤ n
    → count_or_null (length (first_of (present_at j) i)) o <ℤ pos n
counted_below j i n None e h = omega (arith, ints)
counted_below j i n (Some k) e h = omega (arith, ints)

counted_item : (j : Column) (y z : Layout) (i : ℕ) (o : Option ℕ) → option_place_at j i ≡ o
    → i < size_of j → IsReached y (first_of (present_at j) (size_of j)) z
    → at_option o (array_item y) ≡ at_option (option_place
    (count_or_null (length (first_of (present_at j) i)) o)) (array_item z)
counted_item j y z i None e l h = refl
counted_item j y z i (Some k) e l h =
    let one : present_at j i ≡ k ∷ [] = ap present_place e in
    let w : length (present_at j i) ≡ 1 = ap length one in
    let b = length (first_of (present_at j) i) in
    let c : b + 0 ≡ b = omega arith in
    sym (reached-item y z (first_of (present_at j) (size_of j)) b h
    (omega (arith, first_of-room (present_at j) i (size_of j) l, w))
    ∙ ap (λ m. array_item y (get_or (first_of (present_at j) (size_of j)) m 0)) (sym c)
    ∙ ap (array_item y) (first_of-at (present_at j) i (size_of j) 0 0 l (omega arith) ∙ ap
    (λ ks. get_or ks 0 0) one))

option_places : (x y : Layout) (j : Column) → IsOpened x (Optional j y)
    → is_option (array_type y) ≡ false → AllPresent j (array_item y) (size_of j)
option_places x y j h o i k l e =
    not_null (array_item y k) (present_item y k h.valid.2 (below (at j i) k e (h.valid.1.below i l))
    o)
  where
    below : (z : ℤ) (k : ℕ) → option_place z ≡ Some k → z <ℤ pos (len y) → k < len y
    below (pos m) k e b = let f : m ≡ k = cc in omega (arith, ints, f)
    below (negsuc m) k e b = cc

option_values : (x y : Layout) (j : Column) → IsOpened x (Optional j y)
    → array_items x ≡ map (option_items j (array_item y)) (range_with_len 0 (size_of j))
option_values x y j h =
    array_items-at x
    ∙ map-in (array_item x) (option_items j (array_item y)) 0 (len x)
    (λ i l. h.items i (omega arith))
    ∙ ap (λ n. map (option_items j (array_item y)) (range_with_len 0 n)) (sym h.size)

pub option_opened : (x y z : Layout) (j k : Column) → IsOpened x (Optional j y)
    → k ≡ counted_lane j → IsReached y (first_of (present_at j) (size_of j)) z → IsValid z
    → IsOpened x (Optional k z)
option_opened x y z j k h e r v = rw e (record {
  kind = h.kind ∙ ap opt (sym r.typ);
  size = size-counted j ∙ h.size;
  valid = (
    omega (arith, size-counted j, h.valid.0),
    record {
      kind = tt;
      below = λ i l.
          let l' : i < size_of j = omega (arith, size-counted j) in
          rw (at-counted j i l')
          (counted_below j i (len z) (option_place_at j i) refl
          (omega (
            arith,
            first_of-room (present_at j) i (size_of j) l',
            reached-len y z
                (first_of (present_at j) (size_of j)) r,
          )));
    },
    v,
  );
  lengths = tt;
  items = λ i l.
      let l' : i < size_of j = omega (arith, h.size) in
      h.items i l ∙ counted_item j y z i (option_place_at j i) refl l' r
      ∙ ap (λ w. at_option (option_place w) (array_item z)) (sym (at-counted j i l'));
})

pub option_in_order : (x y z : Layout) (j k : Column) → IsOpened x (Optional j y)
    → is_option (array_type y) ≡ false → k ≡ counted_lane j
    → IsReached y (first_of (present_at j) (size_of j)) z → IsInOrder (array_items x) (Optional k z)
option_in_order x y z j k h o e r =
    let values = option_values x y j h in
    let places = option_places x y j h o in (
      e ∙ ap (λ zs. record { kind = I64; items = zs })
          (sym (option_index-is j (array_item y) (size_of j) places) ∙ ap (option_index 0)
          (sym values)),
      r.items ∙ sym (present_items j (array_item y) (size_of j) places) ∙ ap (filter is_present)
          (sym values),
    )
