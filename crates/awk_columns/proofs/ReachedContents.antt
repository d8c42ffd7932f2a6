-- Contents that hold exactly the items at places, in order.
use Rattle.std.proofs.Common.{◌≡◌, ℕ, suc, zero, ◌+◌, ◌-◌, ◌<◌, List, [], ◌∷◌, ◌++◌, map, length}
use Rattle.std.proofs.Common.{get_or, drop, slice_range, arith, refl, ap, ap₂, sym, ◌∙◌, subst}
use Rattle.std.proofs.Common.{length-take, length-drop, get_or-take, get_or-drop}
use Rattle.std.specs.Prelude.{pos}
use Rattle.std.specs.List.{range_with_len, flat_map}
use Rattle.std.proofs.lemmas.Int.{ints}
use Rattle.std.proofs.lemmas.List.{ext_get_or, get_or-map, length-map, get_or_append_left}
use Rattle.std.proofs.lemmas.List.{get_or-append-add}
use Rattle.awk_types.specs.Value.{Value, null}
use Rattle.awk_lanes.specs.declared.kind.Kind.TheVariants.{I64}
use Rattle.awk_lanes.specs.Column.{Column}
use Rattle.awk_lanes.specs.Places.{at, size_of, option_place, IsIndex}
use Rattle.awk_layout.specs.Layout.{Layout}
use Rattle.awk_layout.specs.Valid.{len}
use Rattle.awk_layout.specs.Item.{at_option}
use Rattle.awk_layout.specs.Typing.{array_type, array_items}
use Rattle.awk_gather.specs.Arrays.{array_item, pick}
use Rattle.awk_counts.specs.Counted.{first_of, places_lane, AreBelow, IsRun}
use Rattle.awk_columns.specs.Reached.{IsReached}
use Rattle.awk_counts.proofs.FirstPlaces.{first_of-more, length-first_of, first_of-mono}
use Rattle.awk_counts.proofs.PlacesBelow.{below-get}
use Rattle.awk_gather.proofs.FollowedIndexes.{item_at_place}
use Rattle.awk_layout.proofs.ArrayItems.{length-array_items, get_or-array_items}
use Rattle.awk_gather.proofs.GatheredArrays.{at-I64}

-- ---- what is given at each place, in the list of all

at_last : (f : ℕ → List ℕ) (i q d : ℕ)
    → get_or (first_of f (i + 1)) (length (first_of f i) + q) d ≡ get_or (f i) q d
at_last f i q d =
    ap (λ ks. get_or ks (length (first_of f i) + q) d) (first_of-more f i) ∙ get_or-append-add
    (first_of f i) (f i) q d

at_more : (f : ℕ → List ℕ) (i k q d : ℕ) → q < length (f i)
    → get_or (first_of f (i + 1 + k)) (length (first_of f i) + q) d ≡ get_or (f i) q d
at_more f i zero q d h =
    let e : i + 1 ≡ i + 1 + 0 = omega arith in
    subst (λ m. get_or (first_of f m) (length (first_of f i) + q) d ≡ get_or (f i) q d) e
    (at_last f i q d)
at_more f i (suc k) q d h =
    let e : i + 1 + k + 1 ≡ i + 1 + suc k = omega arith in
    let l : length (first_of f i) + q < length (first_of f (i + 1 + k)) =
    omega (arith, length-first_of f i, first_of-mono f (i + 1) (i + 1 + k) (omega arith)) in
    subst (λ m. get_or (first_of f m) (length (first_of f i) + q) d ≡ get_or (f i) q d) e
    (ap (λ ks. get_or ks (length (first_of f i) + q) d) (first_of-more f (i + 1 + k))
    ∙ get_or_append_left (first_of f (i + 1 + k)) (f (i + 1 + k)) d (length (first_of f i) + q) l
    ∙ at_more f i k q d h)

pub first_of-at : (f : ℕ → List ℕ) (i n q d : ℕ) → i < n → q < length (f i)
    → get_or (first_of f n) (length (first_of f i) + q) d ≡ get_or (f i) q d
first_of-at f i n q d l h =
    let e : i + 1 + (n - (i + 1)) ≡ n = omega arith in
    subst (λ m. get_or (first_of f m) (length (first_of f i) + q) d ≡ get_or (f i) q d) e
    (at_more f i (n - (i + 1)) q d h)

-- ---- places of n items

below-append : (n : ℕ) (ks ls : List ℕ) → AreBelow n ks → AreBelow n ls → AreBelow n (ks ++ ls)
below-append n [] ls h g = g
below-append n (k ∷ ks) ls h g = (h.0, below-append n ks ls h.1 g)

below-each : (n : ℕ) (f : ℕ → List ℕ) (a m : ℕ) → ((i : ℕ) → i < a + m → AreBelow n (f i))
    → AreBelow n (flat_map f (range_with_len a m))
below-each n f a zero h = tt
below-each n f a (suc m) h =
    below-append n (f a) (flat_map f (range_with_len (a + 1) m)) (h a (omega arith))
    (below-each n f (a + 1) m (λ i l. h i (omega arith)))

pub below-first_of : (n : ℕ) (f : ℕ → List ℕ) (m : ℕ) → ((i : ℕ) → i < m → AreBelow n (f i))
    → AreBelow n (first_of f m)
below-first_of n f m h = below-each n f 0 m (λ i l. h i (omega arith))

pub at-places_lane : (ks : List ℕ) (i : ℕ) → i < length ks
    → at (places_lane ks) i ≡ pos (get_or ks i 0)
at-places_lane ks i l = get_or-map (λ k. pos k) ks i 0 (pos 0) l

pub places_index : (n : ℕ) (ks : List ℕ) → AreBelow n ks → IsIndex (places_lane ks) n
places_index n ks h = record {
  kind = tt;
  places = λ i l.
      let l' : i < length ks = omega (arith, length-map ks (λ k. pos k)) in
      rw (at-places_lane ks i l') (omega (arith, ints), below-get n ks i h l');
}

-- ---- contents in order

pick_below : (y : Layout) (ks : List ℕ) → AreBelow (len y) ks
    → pick (array_items y) (map (λ k. pos k) ks) ≡ map (array_item y) ks
pick_below y [] h = refl
pick_below y (k ∷ ks) h = ap₂ (λ v vs. v ∷ vs) (get_or-array_items y k h.0) (pick_below y ks h.1)

pub reached_by : (y z : Layout) (p : Column) (ks : List ℕ) → AreBelow (len y) ks
    → p ≡ places_lane ks → array_type z ≡ array_type y
    → array_items z ≡ pick (array_items y) p.items → IsReached y ks z
reached_by y z p ks h e t i = record {
  typ = t;
  items = i ∙ ap (λ (c : Column). pick (array_items y) c.items) e ∙ pick_below y ks h;
}

pub reached-len : (y z : Layout) (ks : List ℕ) → IsReached y ks z → len z ≡ length ks
reached-len y z ks h = sym (length-array_items z) ∙ ap length h.items ∙ length-map ks (array_item y)

pub reached-item : (y z : Layout) (ks : List ℕ) (i : ℕ) → IsReached y ks z → i < length ks
    → array_item z i ≡ array_item y (get_or ks i 0)
reached-item y z ks i h l =
    let l' : i < len z = omega (arith, reached-len y z ks h) in
    sym (get_or-array_items z i l') ∙ ap (λ vs. get_or vs i null) h.items ∙ get_or-map
    (array_item y) ks i 0 null l

-- ---- places in a row

pub run_picked : (vs : List Value) (p : Column) (first n : ℕ) → p.kind ≡ I64 → IsIndex p n
    → length vs ≡ n → IsRun p n first → slice_range vs first (first + size_of p) ≡ pick vs p.items
run_picked vs p first n e v s h =
    let m : first + size_of p - first ≡ size_of p = omega arith in
    let w : length (slice_range vs first (first + size_of p)) ≡ size_of p =
    omega (
      arith,
      length-take (first + size_of p - first) (drop first vs),
      length-drop first vs,
      h.within,
    ) in
    ext_get_or null _ _ (w ∙ sym (length-map p.items
    (λ z. at_option (option_place z) (λ k. get_or vs k null)))) (λ i l.
    let l' : i < size_of p = omega arith in
    get_or-take (first + size_of p - first) (drop first vs) i null (omega arith)
    ∙ get_or-drop first vs i null
    ∙ ap (λ k. get_or vs k null) (sym (h.places i l'))
    ∙ sym (item_at_place (at p i) (λ k. get_or vs k null) (v.places i l').0)
    ∙ ap (λ z. at_option (option_place z) (λ k. get_or vs k null)) (at-I64 p i e)
    ∙ sym (get_or-map (λ z. at_option (option_place z) (λ k. get_or vs k null)) p.items i (pos 0)
    null l'))
