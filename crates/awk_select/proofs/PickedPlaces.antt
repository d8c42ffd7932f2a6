-- The places that masks and indexes name, as lanes.
use Rattle.std.proofs.Common.{◌≡◌, ℕ, zero, suc, ◌+◌, ◌-◌, ◌<◌, ◌≤◌, List, [], ◌∷◌, ◌++◌, map}
use Rattle.std.proofs.Common.{length, get_or, take, arith, refl, ap, ap₂, sym, ◌∙◌, subst}
use Rattle.std.proofs.Common.{true≢false, ltb-true}
use Rattle.std.specs.Prelude.{ℤ, pos, negsuc, ◌<ℤ◌, Bool, true, false, ◌||◌, nat_lt, Option}
use Rattle.std.specs.Prelude.{Some, None, is_none, if◌then◌else◌}
use Rattle.std.specs.List.{range_with_len, list_any, AllByRecursion}
use Rattle.std.proofs.lemmas.Int.{ints}
use Rattle.std.proofs.lemmas.List.{get_or-map, length-map, map-append, take_all}
use Rattle.std.proofs.lemmas.List.Folds.{list_any_at, list_any_more}
use Rattle.std.proofs.lemmas.Bool.{or_parts}
use Rattle.std.proofs.lemmas.Simd.{map-map}
use Rattle.awk_base.proofs.Lists.{map-by}
use Rattle.awk_base.proofs.Every.{all-each, all-at}
use Rattle.awk_types.specs.DataType.{DataType, unknown, leaf, var, reg, rec, tup, opt, uni}
use Rattle.awk_types.specs.Has.{Has}
use Rattle.awk_types.specs.Simple.{is_option, present, simple_value}
use Rattle.awk_types.specs.Value.{Value, int, truth, null, list, row, alt}
use Rattle.awk_types.specs.declared.primitive.Primitive.{Primitive}
use Rattle.awk_types.specs.declared.primitive.Primitive.TheVariants.{Bool as Truths, I8, I16, I32}
use Rattle.awk_types.specs.declared.primitive.Primitive.TheVariants.{I64, U8, U16, U32, U64}
use Rattle.awk_lanes.specs.Column.{Column}
use Rattle.awk_lanes.specs.Making.{Making}
use Rattle.awk_lanes.specs.Places.{at, option_place, IsIndex, IsOptionalIndex}
use Rattle.awk_lanes.specs.declared.kind.Kind.TheVariants as kind
use Rattle.awk_layout.specs.Layout.{Layout}
use Rattle.awk_layout.specs.Valid.{len}
use Rattle.awk_layout.specs.Item.{item, at_option}
use Rattle.awk_layout.specs.Typing.{layout_type, array_items}
use Rattle.awk_gather.specs.Arrays.{array_item, pick}
use Rattle.awk_lanes.specs.Made.{lane_of}
use Rattle.awk_layout.proofs.ArrayItems.{length-array_items, get_or-array_items}
use Rattle.awk_select.specs.Cells.{IsBelow, place_number, places_lane, mask_numbers}
use Rattle.awk_types.specs.Predicates.{is_leaf}
use Rattle.awk_select.specs.Cells.{take_number}
use Rattle.awk_select.specs.Kept.{Puts}
use Rattle.awk_select.specs.Picks.{picked, is_truths, is_mask, mask_place, mask_places}
use Rattle.awk_types.specs.WholeNumbers.{is_numbers}
use Rattle.awk_select.specs.Picks.{is_index, take_place, take_places, is_outside}
use Rattle.awk_select.specs.Places.{place_in}
use Rattle.awk_base.proofs.Each.{each_of, each_of-more, each_of-room, length-each_of}

-- the items of a lane of places, and null at each -1
number-item : (f : ℕ → Value) (o : Option ℕ)
    → at_option (option_place (place_number o)) f ≡ at_option o f
number-item f None = refl
number-item f (Some k) = refl

pub pick-picked : (vs : List Value) (os : List (Option ℕ)) (p : Column) → p ≡ places_lane os
    → pick vs p.items ≡ picked vs os
pick-picked vs os p e =
    ap (λ (c : Column). pick vs c.items) e
    ∙ map-map (λ z. at_option (option_place z) (λ k. get_or vs k null)) place_number os
    ∙ map-by _ _ (number-item (λ k. get_or vs k null)) os

-- ---- lanes of places

-- it is a place of n items, and not null
abbrev pub IsThere : ℕ → Option ℕ → Type 0
IsThere n None = ⊥
IsThere n (Some k) = k < n

below-number : (n : ℕ) (os : List (Option ℕ)) (i : ℕ) → AllByRecursion (IsBelow n) os
    → i < length os → place_number (get_or os i None) <ℤ pos n
below-number n [] i h l = absurd (omega arith)
below-number n (None ∷ os) zero h l = omega (arith, ints)
below-number n (Some k ∷ os) zero h l = omega (arith, ints, h.0)
below-number n (o ∷ os) (suc i) h l = below-number n os i h.1 (omega arith)

there-number : (n : ℕ) (os : List (Option ℕ)) (i : ℕ) → AllByRecursion (IsThere n) os
    → i < length os → (k : ℕ) × (place_number (get_or os i None) ≡ pos k) × (k < n)
there-number n [] i h l = absurd (omega arith)
there-number n (None ∷ os) zero h l = absurd h.0
there-number n (Some k ∷ os) zero h l = (k, refl, h.0)
there-number n (o ∷ os) (suc i) h l = there-number n os i h.1 (omega arith)

at-places : (os : List (Option ℕ)) (i : ℕ) → i < length os
    → at (places_lane os) i ≡ place_number (get_or os i None)
at-places os i l = get_or-map place_number os i None (pos 0) l

pub optional-lane : (n : ℕ) (os : List (Option ℕ)) (p : Column) → p ≡ places_lane os
    → AllByRecursion (IsBelow n) os → IsOptionalIndex p n
optional-lane n os p e h = subst (λ c. IsOptionalIndex c n) (sym e) (record {
  kind = tt;
  below = λ i l.
      let l' : i < length os = omega (arith, length-map os place_number) in
      subst (λ z. z <ℤ pos n) (sym (at-places os i l')) (below-number n os i h l');
})

pub index-lane : (n : ℕ) (os : List (Option ℕ)) (p : Column) → p ≡ places_lane os
    → AllByRecursion (IsThere n) os → IsIndex p n
index-lane n os p e h = subst (λ c. IsIndex c n) (sym e) (record {
  kind = tt;
  places = λ i l.
      let l' : i < length os = omega (arith, length-map os place_number) in
      let t = there-number n os i h l' in
      rw (at-places os i l', t.1) (omega (arith, ints), t.2);
})

-- ---- masks

-- the places that the first items of a mask give
abbrev pub mask_first : List Value → ℕ → List (Option ℕ)
mask_first ms i = each_of (λ k. mask_place k (get_or ms k null)) i

-- these places are made, of n
pub record IsMade (n : ℕ) (os : List (Option ℕ)) (m : Making) : Type 0 where
  pub kind : m.kind ≡ kind.I64
  pub room : m.room ≡ n
  pub items : m.items ≡ map place_number os

numbers-at : (m : Layout) (i : ℕ) → i < len m
    → map place_number (mask_place i (get_or (array_items m) i null)) ≡ mask_numbers m i
numbers-at m i l = ap (λ v. map place_number (mask_place i v)) (get_or-array_items m i l)

numbers-more : (m : Layout) (i : ℕ) → i < len m
    → map place_number (mask_first (array_items m) (i + 1)) ≡ map place_number
    (mask_first (array_items m) i) ++ mask_numbers m i
numbers-more m i l =
    let f : ℕ → List (Option ℕ) = λ k. mask_place k (get_or (array_items m) k null) in
    ap (map place_number) (each_of-more f i)
    ∙ map-append place_number (each_of f i) (f i)
    ∙ ap (λ zs. map place_number (each_of f i) ++ zs) (numbers-at m i l)

-- how many numbers one item more gives
pub mask-count : (m : Layout) (i : ℕ) (zs : List ℤ) → i < len m → zs ≡ mask_numbers m i
    → length (mask_first (array_items m) (i + 1)) ≡ length (mask_first (array_items m) i) + length
    zs
mask-count m i zs l e =
    let f : ℕ → List (Option ℕ) = λ k. mask_place k (get_or (array_items m) k null) in
    let h : length (f i) ≡ length zs = sym (length-map (f i) place_number) ∙ ap length
    (numbers-at m i l ∙ sym e) in
    omega (arith, length-each_of f i, h)

few-numbers : (k : ℕ) (v : Value) → length (mask_place k v) ≤ 1
few-numbers k (truth true) = omega arith
few-numbers k (truth false) = omega arith
few-numbers k null = omega arith
few-numbers k (int z) = omega arith
few-numbers k (list vs) = omega arith
few-numbers k (row vs) = omega arith
few-numbers k (alt j v) = omega arith

-- no more numbers than items
pub mask-few : (ms : List Value) (i : ℕ) → length (mask_first ms i) ≤ i
mask-few ms zero = omega arith
mask-few ms (suc i) =
    let f : ℕ → List (Option ℕ) = λ k. mask_place k (get_or ms k null) in
    let e : i + 1 ≡ suc i = omega arith in
    subst (λ m. length (mask_first ms m) ≤ m) e
    (omega (arith, mask-few ms i, length-each_of f i, few-numbers i (get_or ms i null)))

-- what one item more gives is put
pub made-put : (m : Layout) (n i : ℕ) (zs : List ℤ) (old new : Making) → i < len m
    → zs ≡ mask_numbers m i → Puts zs old new → IsMade n (mask_first (array_items m) i) old
    → IsMade n (mask_first (array_items m) (i + 1)) new
made-put m n i zs old new l e p h = record {
  kind = ap (λ (w : Making). w.kind) p ∙ h.kind;
  room = ap (λ (w : Making). w.room) p ∙ h.room;
  items = ap (λ (w : Making). w.items) p ∙ ap (λ ys. ys ++ zs) h.items
      ∙ ap (λ us. map place_number (mask_first (array_items m) i) ++ us) e
      ∙ sym (numbers-more m i l);
}

mask-whole : (m : Layout) → mask_places (array_items m) ≡ mask_first (array_items m) (len m)
mask-whole m = ap (mask_first (array_items m)) (length-array_items m)

-- there is room for one number more than are kept
pub made-room : (m : Layout) (n i : ℕ) (old : Making) → n ≡ length (mask_places (array_items m))
    → i < len m → IsMade (n + 1) (mask_first (array_items m) i) old → length old.items < old.room
made-room m n i old e l d =
    let f : ℕ → List (Option ℕ) = λ k. mask_place k (get_or (array_items m) k null) in
    let all : length (mask_first (array_items m) (len m)) ≡ n = sym
    (e ∙ ap length (mask-whole m)) in
    omega (
      arith,
      ap length d.items,
      length-map (mask_first (array_items m) i) place_number,
      d.room,
      each_of-room f i (len m) l,
      all,
    )

-- all is made
pub made-whole : (m : Layout) (n i : ℕ) (w : Making) → i ≡ len m
    → IsMade n (mask_first (array_items m) i) w
    → w.items ≡ map place_number (mask_places (array_items m))
made-whole m n i w e h =
    h.items ∙ ap (λ j. map place_number (mask_first (array_items m) j)) e
    ∙ sym (ap (map place_number) (mask-whole m))

pub count-whole : (m : Layout) (i n : ℕ) → i ≡ len m → n ≡ length (mask_first (array_items m) i)
    → n ≡ length (mask_places (array_items m))
count-whole m i n e h =
    h ∙ ap (λ j. length (mask_first (array_items m) j)) e ∙ sym (ap length (mask-whole m))

-- ---- each place that a mask gives

pub mask_place-below : (n k : ℕ) (v : Value) → k < n → AllByRecursion (IsBelow n) (mask_place k v)
mask_place-below n k (truth true) h = (h, tt)
mask_place-below n k (truth false) h = tt
mask_place-below n k null h = (tt, tt)
mask_place-below n k (int z) h = tt
mask_place-below n k (list vs) h = tt
mask_place-below n k (row vs) h = tt
mask_place-below n k (alt j v) h = tt

pub mask_places-below : (n : ℕ) (ms : List Value) → length ms ≡ n
    → AllByRecursion (IsBelow n) (mask_places ms)
mask_places-below n ms e =
    all-each (IsBelow n) (λ k. mask_place k (get_or ms k null)) 0 (length ms)
    (λ i l. mask_place-below n i (get_or ms i null) (omega arith))

-- a truth value gives no null
pub mask_place-there : (n k : ℕ) (v : Value) → Has (leaf Truths) v → k < n
    → AllByRecursion (IsThere n) (mask_place k v)
mask_place-there n k (truth true) t h = (h, tt)
mask_place-there n k (truth false) t h = tt
mask_place-there n k null t h = absurd t
mask_place-there n k (int z) t h = tt
mask_place-there n k (list vs) t h = tt
mask_place-there n k (row vs) t h = tt
mask_place-there n k (alt j v) t h = tt

-- a mask that is not optional is of truth values
truths-of : (t : DataType) → is_mask t ≡ true → is_option t ≡ false → t ≡ leaf Truths
truths-of unknown m o = absurd (true≢false (sym m))
truths-of (leaf Truths) m o = refl
truths-of (leaf I8) m o = absurd (true≢false (sym m))
truths-of (leaf I16) m o = absurd (true≢false (sym m))
truths-of (leaf I32) m o = absurd (true≢false (sym m))
truths-of (leaf I64) m o = absurd (true≢false (sym m))
truths-of (leaf U8) m o = absurd (true≢false (sym m))
truths-of (leaf U16) m o = absurd (true≢false (sym m))
truths-of (leaf U32) m o = absurd (true≢false (sym m))
truths-of (leaf U64) m o = absurd (true≢false (sym m))
truths-of (var t) m o = absurd (true≢false (sym m))
truths-of (reg n t) m o = absurd (true≢false (sym m))
truths-of (rec ns ts) m o = absurd (true≢false (sym m))
truths-of (tup ts) m o = absurd (true≢false (sym m))
truths-of (opt t) m o = absurd (true≢false o)
truths-of (uni ts) m o = absurd (true≢false (sym m))

pub mask_places-there : (n : ℕ) (t : DataType) (ms : List Value) → length ms ≡ n → is_mask t ≡ true
    → is_option t ≡ false → AllByRecursion (Has t) ms → AllByRecursion (IsThere n) (mask_places ms)
mask_places-there n t ms e m o h =
    let h' : AllByRecursion (Has (leaf Truths)) ms = subst (λ u. AllByRecursion (Has u) ms)
    (truths-of t m o) h in
    all-each (IsThere n) (λ k. mask_place k (get_or ms k null)) 0 (length ms) (λ i l.
    mask_place-there n i (get_or ms i null) (all-at (Has (leaf Truths)) ms i null h' (omega arith))
    (omega arith))

-- ---- each place that an index names

below-if : (b : Bool) (n j : ℕ) → (b ≡ true → j < n) → IsBelow n (if b then Some j else None)
below-if true n j h = h refl
below-if false n j h = tt

pub place_in-below : (n : ℕ) (z : ℤ) → IsBelow n (place_in n z)
place_in-below n (pos k) = below-if (nat_lt k n) n k (ltb-true k n)
place_in-below n (negsuc k) =
    below-if (nat_lt k n) n (n - suc k) (λ h. omega (arith, ltb-true k n h))

pub take_place-below : (n : ℕ) (v : Value) → IsBelow n (take_place n v)
take_place-below n (int z) = place_in-below n z
take_place-below n (truth b) = tt
take_place-below n null = tt
take_place-below n (list vs) = tt
take_place-below n (row vs) = tt
take_place-below n (alt j v) = tt

pub take_places-below : (n : ℕ) (ws : List Value) → AllByRecursion (IsBelow n) (take_places n ws)
take_places-below n [] = tt
take_places-below n (w ∷ ws) = (take_place-below n w, take_places-below n ws)

there-of : (n : ℕ) (o : Option ℕ) → IsBelow n o → is_none o ≡ false → IsThere n o
there-of n None b h = absurd (true≢false h)
there-of n (Some k) b h = b

-- of numbers that are not optional, each is a number
take_place-there : (n : ℕ) (p : Primitive) (v : Value) → is_numbers (leaf p) ≡ true
    → Has (leaf p) v → is_outside n v ≡ false → IsThere n (take_place n v)
take_place-there n p (int z) m t h = there-of n (place_in n z) (place_in-below n z) h
take_place-there n Truths (truth b) m t h = absurd (true≢false (sym m))
take_place-there n I8 (truth b) m t h = absurd t
take_place-there n I16 (truth b) m t h = absurd t
take_place-there n I32 (truth b) m t h = absurd t
take_place-there n I64 (truth b) m t h = absurd t
take_place-there n U8 (truth b) m t h = absurd t
take_place-there n U16 (truth b) m t h = absurd t
take_place-there n U32 (truth b) m t h = absurd t
take_place-there n U64 (truth b) m t h = absurd t
take_place-there n p null m t h = absurd t
take_place-there n p (list vs) m t h = absurd t
take_place-there n p (row vs) m t h = absurd t
take_place-there n p (alt j v) m t h = absurd t

leaves-there : (n : ℕ) (p : Primitive) (ws : List Value) → is_numbers (leaf p) ≡ true
    → AllByRecursion (Has (leaf p)) ws → list_any (is_outside n) ws ≡ false
    → AllByRecursion (IsThere n) (take_places n ws)
leaves-there n p [] m t h = tt
leaves-there n p (w ∷ ws) m t h =
    let e = or_parts (is_outside n w) (list_any (is_outside n) ws) h in
    (take_place-there n p w m t.0 e.0, leaves-there n p ws m t.1 e.1)

unknown-there : (n : ℕ) (ws : List Value) → AllByRecursion (Has unknown) ws
    → AllByRecursion (IsThere n) (take_places n ws)
unknown-there n [] t = tt
unknown-there n (w ∷ ws) t = absurd t.0

pub take_places-there : (n : ℕ) (t : DataType) (ws : List Value) → is_index t ≡ true
    → is_option t ≡ false → AllByRecursion (Has t) ws → list_any (is_outside n) ws ≡ false
    → AllByRecursion (IsThere n) (take_places n ws)
take_places-there n unknown ws m o t h = unknown-there n ws t
take_places-there n (leaf p) ws m o t h = leaves-there n p ws m t h
take_places-there n (var u) ws m o t h = absurd (true≢false (sym m))
take_places-there n (reg k u) ws m o t h = absurd (true≢false (sym m))
take_places-there n (rec ns ts) ws m o t h = absurd (true≢false (sym m))
take_places-there n (tup ts) ws m o t h = absurd (true≢false (sym m))
take_places-there n (opt u) ws m o t h = absurd (true≢false o)
take_places-there n (uni ts) ws m o t h = absurd (true≢false (sym m))

-- the lane of an index
pub take-lane : (n : ℕ) (ix : Layout) (p : Column)
    → p ≡ lane_of kind.I64 (len ix) (take_number n ix)
    → p ≡ places_lane (take_places n (array_items ix))
take-lane n ix p e =
    e ∙ ap (λ zs. record { kind = kind.I64; items = zs }) (sym
    (map-map place_number (take_place n) (array_items ix)
    ∙ map-map (λ v. place_number (take_place n v)) (simple_value (layout_type ix))
    (map (item ix) (range_with_len 0 (len ix)))
    ∙ map-map (λ v. place_number (take_place n (simple_value (layout_type ix) v))) (item ix)
    (range_with_len 0 (len ix))))

-- ---- what is outside

-- one item more, and still none
pub none-more : (p : Value → Bool) (vs : List Value) (i : ℕ) → i < length vs
    → list_any p (take i vs) ≡ false → p (get_or vs i null) ≡ false
    → list_any p (take (i + 1) vs) ≡ false
none-more p vs i l h g = list_any_more p vs i null l ∙ ap₂ (λ a b. a || b) h g

module _ (n : ℕ) (ix : Layout) (i : ℕ) where
  listed : i < len ix → i < length (array_items ix)
  listed l = omega (arith, l, length-array_items ix)

  -- an item that names no place
  pub outside-here : i < len ix → is_outside n (array_item ix i) ≡ true
      → list_any (is_outside n) (array_items ix) ≡ true
  outside-here l h =
      list_any_at (is_outside n) (array_items ix) i null (listed l)
      (ap (is_outside n) (get_or-array_items ix i l) ∙ h)

  -- one item more that is not outside
  pub inside-more : i < len ix → list_any (is_outside n) (take i (array_items ix)) ≡ false
      → is_outside n (array_item ix i) ≡ false
      → list_any (is_outside n) (take (i + 1) (array_items ix)) ≡ false
  inside-more l h e =
      none-more (is_outside n) (array_items ix) i (listed l) h
      (ap (is_outside n) (get_or-array_items ix i l) ∙ e)

  -- none of all items is
  pub inside-all : len ix ≤ i → list_any (is_outside n) (take i (array_items ix)) ≡ false
      → list_any (is_outside n) (array_items ix) ≡ false
  inside-all l h =
      ap (list_any (is_outside n))
      (sym (take_all i (array_items ix) (omega (arith, l, length-array_items ix)))) ∙ h

-- ---- a mask has leaves

truths_leaf : (t : DataType) → is_truths t ≡ true → is_leaf t ≡ true
truths_leaf unknown h = refl
truths_leaf (leaf p) h = refl
truths_leaf (var t) h = absurd (true≢false (sym h))
truths_leaf (reg n t) h = absurd (true≢false (sym h))
truths_leaf (rec ns ts) h = absurd (true≢false (sym h))
truths_leaf (tup ts) h = absurd (true≢false (sym h))
truths_leaf (opt t) h = absurd (true≢false (sym h))
truths_leaf (uni ts) h = absurd (true≢false (sym h))

pub mask_leaf : (t : DataType) → is_mask t ≡ true → is_leaf (present t) ≡ true
mask_leaf t h = truths_leaf (present t) h
