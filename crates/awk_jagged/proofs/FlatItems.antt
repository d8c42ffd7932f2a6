-- Items of lists one after another, as arrays of lists.
use Rattle.std.specs.Prelude.{◌≡◌, ℕ, zero, suc, ◌+◌, ◌-◌, ◌<◌, ◌≤◌, nat_lt, Bool, true, false}
use Rattle.std.specs.Prelude.{refl, List, ◌++◌, length, get_or, ℤ, pos, negsuc, ◌<ℤ◌}
use Rattle.std.specs.Prelude.{Some, None, if◌then◌else◌}
use Rattle.std.proofs.Common.{arith, ap, ap₂, sym, ◌∙◌, subst}
use Rattle.std.proofs.lemmas.Int.{ints}
use Rattle.std.proofs.lemmas.List.{ext_get_or, get_or_append_left, get_or-append-add}
use Rattle.std.proofs.lemmas.List.FromFn.{length-map-range_with_len, get_or-map-range_with_len}
use Rattle.awk_types.proofs.Trees.{values_from-list}
use Rattle.awk_types.specs.Value.{Value, null, list, values_from, value_list}
use Rattle.awk_lanes.proofs.CountedLanes.{before-next, before_mono, place-offsets}
use Rattle.awk_lanes.proofs.MadeLanes.{size-lane_of, at-lane_of}
use Rattle.awk_lanes.specs.Column.{Column}
use Rattle.awk_lanes.specs.Counted.{before, offsets_by}
use Rattle.awk_lanes.specs.Places.{size_of, at, place_at, option_place, IsSpan, IsOffsets}
use Rattle.awk_lanes.specs.declared.kind.Kind.TheVariants.{I64}
use Rattle.awk_layout.proofs.ArrayItems.{length-array_items, get_or-array_items}
use Rattle.awk_layout.proofs.Runs.{value_list-run}
use Rattle.awk_layout.specs.Item.{run}
use Rattle.awk_layout.specs.Layout.{Layout, offset_lists}
use Rattle.awk_layout.specs.Typing.{array_items}
use Rattle.awk_layout.specs.Valid.{len}
use Rattle.awk_gather.specs.Arrays.{array_item}
use Rattle.awk_columns.proofs.ListNodes.{item-list}
use Rattle.awk_base.proofs.Each.{each_of, each_of-more}
use Rattle.awk_jagged_rows.proofs.FlatPlaces.{flat_within}
use Rattle.awk_jagged_places.proofs.FlatLists.{length-each}

-- ---- lists joined

pub each-at : {Y : Type 0} (f : ℕ → List Y) (n i j : ℕ) (d : Y) → i < n → j < length (f i)
    → get_or (each_of f n) (before (λ k. length (f k)) i + j) d ≡ get_or (f i) j d
each-at f zero i j d p q = absurd (omega (arith, p))
each-at {Y} f (suc n) i j d p q = go (nat_lt i n) refl (λ l. each-at f n i j d l q)
  where
    m : ℕ → ℕ
    m k = length (f k)

    whole : each_of f (suc n) ≡ each_of f n ++ f n
    whole =
        let e : suc n ≡ n + 1 = omega arith in
        ap (each_of f) e ∙ each_of-more f n

    go : (b : Bool) → nat_lt i n ≡ b
        → (i < n → get_or (each_of f n) (before (λ k. length (f k)) i + j) d ≡ get_or (f i) j d)
        → get_or (each_of f (suc n)) (before (λ k. length (f k)) i + j) d ≡ get_or (f i) j d
    go true e rest =
        let l : i < n = grind (arith, e) in
        let w : before (λ k. length (f k)) i + j < length (each_of f n) =
        omega (arith, length-each f n, flat_within (λ k. length (f k)) n i j l q) in
        ap (λ (ys : List Y). get_or ys (before (λ k. length (f k)) i + j) d) whole
        ∙ get_or_append_left (each_of f n) (f n) d (before (λ k. length (f k)) i + j) w
        ∙ rest l
    go false e rest =
        let s : n ≡ i = grind (arith, e, p) in
        ap (λ (ys : List Y). get_or ys (before (λ k. length (f k)) i + j) d) whole
        ∙ subst (λ k. get_or (each_of f n ++ f n) (before (λ k. length (f k)) k + j) d
        ≡ get_or (f k) j d) s
        (ap (λ b. get_or (each_of f n ++ f n) (b + j) d) (sym (length-each f n))
        ∙ get_or-append-add (each_of f n) (f n) j d)

-- ---- as arrays

-- the items of an array from where a list begins
pub slice : (y : Layout) (f : ℕ → List Value) (n i : ℕ) → array_items y ≡ each_of f n → i < n
    → value_list (run (array_item y) (before (λ k. length (f k)) i) (length (f i))) ≡ f i
slice y f n i e p =
    let a : ℕ = before (λ k. length (f k)) i in
    value_list-run (array_item y) a (length (f i))
    ∙ ext_get_or null _ _ (length-map-range_with_len (array_item y) a (length (f i)))
    (λ j h.
    let h' : j < length (f i) =
    omega (arith, h, length-map-range_with_len (array_item y) a (length (f i))) in
    let w : a + j < len y = omega (
      arith,
      sym (length-array_items y),
      ap length e,
      length-each f n,
      flat_within (λ k. length (f k)) n i j p h',
    ) in
    get_or-map-range_with_len (array_item y) a (length (f i)) j (a + j) null h' refl
    ∙ sym (get_or-array_items y (a + j) w)
    ∙ ap (λ vs. get_or vs (a + j) null) e
    ∙ each-at f n i j null p h')

-- the list at a place of lists over items
pub list-row : (y : Layout) (o : Column) (f : ℕ → List Value) (n i : ℕ)
    → array_items y ≡ each_of f n → o ≡ offsets_by (λ k. length (f k)) n → i < n
    → array_item (offset_lists o y) i ≡ list (values_from (f i))
list-row y o f n i e g p =
    let m : ℕ → ℕ = λ k. length (f k) in
    let start : place_at o i ≡ before m i =
    ap (λ c. place_at c i) g ∙ place-offsets m n i (omega (arith, p)) in
    let next : place_at o (i + 1) ≡ before m (i + 1) =
    ap (λ c. place_at c (i + 1)) g ∙ place-offsets m n (i + 1) (omega (arith, p)) in
    let size : place_at o (i + 1) - place_at o i ≡ length (f i) =
    omega (arith, start, next, before-next m i) in
    item-list None n o y tt i p
    ∙ ap₂ (λ a b. list (run (array_item y) a b)) start size
    ∙ ap list (sym (values_from-list (run (array_item y) (before m i) (length (f i)))))
    ∙ ap (λ vs. list (values_from vs)) (slice y f n i e p)

-- ---- offsets

at-offsets : (m : ℕ → ℕ) (n i : ℕ) → i ≤ n → at (offsets_by m n) i ≡ pos (before m i)
at-offsets m n i p = at-lane_of I64 (n + 1) (λ j. pos (before m j)) i (omega (arith, p))

pub size-offsets : (m : ℕ → ℕ) (n : ℕ) → size_of (offsets_by m n) ≡ n + 1
size-offsets m n = size-lane_of I64 (n + 1) (λ j. pos (before m j))

offsets-span : (m : ℕ → ℕ) (n i : ℕ) → i + 1 ≤ n
    → IsSpan (before m n) (at (offsets_by m n) i) (at (offsets_by m n) (i + 1))
offsets-span m n i p =
    rw (at-offsets m n i (omega (arith, p)), at-offsets m n (i + 1) p)
    (λ d. (
      omega (arith, ints),
      omega (arith, ints, before_mono m i (i + 1) (omega arith)),
      omega (arith, ints, before_mono m (i + 1) n p),
    ))

pub are-offsets : (m : ℕ → ℕ) (n : ℕ) → IsOffsets (offsets_by m n) (before m n)
are-offsets m n = record {
  kind = tt;
  some = omega (arith, size-offsets m n);
  ordered = λ i q. offsets-span m n i (omega (arith, q, size-offsets m n));
}

-- ---- indexes of what is present

pub present-below : (z : ℤ) (b : Bool) (t n : ℕ)
    → option_place z ≡ (if b then Some t else None) → t < n → z <ℤ pos n
present-below (pos m) true t n e p = grind (arith, ints)
present-below (pos m) false t n e p = absurd cc
present-below (negsuc m) b t n e p = omega (arith, ints)
