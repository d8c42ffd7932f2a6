-- Offsets by what stands before each list, and the lists of an array.
use Rattle.std.specs.Prelude.{◌≡◌, ℕ, zero, suc, ◌+◌, ◌-◌, ◌<◌, ◌≤◌, ◌^◌, refl, List}
use Rattle.std.specs.Prelude.{length, take, drop, get_or, pos, cond, Some, None, true, false}
use Rattle.std.specs.List.{flat_map, range_with_len}
use Rattle.std.proofs.Common.{arith, ap, sym, ◌∙◌, subst}
use Rattle.std.proofs.lemmas.Int.{ints}
use Rattle.std.proofs.Math.Seq.{take-append_seam}
use Rattle.std.proofs.lemmas.List.{length-append, take-append-drop}
use Rattle.std.proofs.lemmas.List.Elements.{filter-append}
use Rattle.std.proofs.lemmas.List.Filters.{length-filter_more}
use Rattle.awk_types.specs.DataType.{DataType, unknown, leaf, var, reg, rec, tup, opt, uni}
use Rattle.awk_types.specs.Parts.{item_of}
use Rattle.awk_types.specs.Simple.{present, is_option}
use Rattle.awk_types.specs.Value.{Value, null, list}
use Rattle.awk_types.specs.ItemLimit.{item_limit}
use Rattle.awk_lanes.specs.Column.{Column}
use Rattle.awk_lanes.specs.Numbers.{nat_of}
use Rattle.awk_lanes.specs.Places.{size_of, at, place_at, IsIndexKind}
use Rattle.awk_lanes.specs.declared.kind.Kind.TheVariants.{I64}
use Rattle.awk_layout.specs.Layout.{Layout}
use Rattle.awk_layout.specs.Item.{run}
use Rattle.awk_layout.specs.Typing.{array_type, array_items}
use Rattle.awk_layout.specs.Valid.{len}
use Rattle.awk_layout.proofs.ArrayItems.{length-array_items, get_or-array_items}
use Rattle.awk_layout.proofs.Runs.{length-run}
use Rattle.awk_gather.specs.Arrays.{array_item}
use Rattle.awk_columns.specs.Columns.{joined_items, list_items, is_present, present_values}
use Rattle.awk_counts.specs.Counted.{first_of, present_at, offset_at}
use Rattle.awk_counts.proofs.FirstPlaces.{length-first_of}
use Rattle.awk_lanes.proofs.MadeLanes.{at-lane_of}
use Rattle.awk_open.proofs.ItemShapes.{present_one}
use Rattle.awk_columns.specs.Joined.{AreOffsets, JoinsLists, IsJoined}
use Rattle.awk_columns.specs.ListClass.{Class, list_type}
use Rattle.awk_columns.specs.Lists.{items_at}
use Rattle.awk_open.specs.Opens.{OpensLists, OpensOption}
use Rattle.awk_columns.specs.declared.lists.Joined.{Joined}
use Rattle.awk_columns.specs.declared.lists.Joined.TheVariants.{TooMany, Lists}
use Rattle.awk_open.proofs.OpenedLists.{lists-inner}
use Rattle.awk_types.specs.Predicates.{is_list_or_unknown}
use Rattle.awk_lists.specs.Listed.{items_before, IsListed}
use Rattle.awk_counts.specs.Present.{present_lane}
use Rattle.awk_lists.proofs.JoinedItems.{items_before-next}

-- ---- offsets

mono_up : (f : ℕ → ℕ) (n : ℕ) → ((i : ℕ) → i < n → f i ≤ f (i + 1)) → (i k : ℕ) → i + k ≤ n
    → f i ≤ f (i + k)
mono_up f n m i zero p = let e : i ≡ i + 0 = omega arith in subst (λ j. f i ≤ f j) e (omega arith)
mono_up f n m i (suc k) p =
    let e : i + k + 1 ≡ i + suc k = omega arith in
    let a : f i ≤ f (i + k) = mono_up f n m i k (omega (arith, p)) in
    let b : f (i + k) ≤ f (i + k + 1) = m (i + k) (omega (arith, p)) in
    subst (λ j. f i ≤ f j) e (omega (arith, a, b))

-- numbers that go up from 0 are offsets
pub rising_offsets : (o : Column) (n whole : ℕ) (f : ℕ → ℕ) → IsIndexKind o.kind
    → size_of o ≡ n + 1 → n < 2 ^ 63 → ((i : ℕ) → i ≤ n → at o i ≡ pos (f i))
    → ((i : ℕ) → i < n → f i ≤ f (i + 1)) → f 0 ≡ 0 → f n ≡ whole → AreOffsets o n whole
rising_offsets o n whole f kind size fits here m first last =
    let most : (i : ℕ) → i ≤ n → f i ≤ whole = λ i p.
    let e : i + (n - i) ≡ n = omega (arith, p) in
    let a : f i ≤ f n =
    subst (λ j. f i ≤ f j) e (mono_up f n m i (n - i) (omega (arith, p))) in
    omega (arith, a, last) in
    record {
      offsets = record {
        kind = kind;
        some = omega (arith, size);
        ordered = λ i p.
            let a = here i (omega (arith, p, size)) in
            let b = here (i + 1) (omega (arith, p, size)) in
            let c = m i (omega (arith, p, size)) in
            let d = most (i + 1) (omega (arith, p, size)) in
            rw (a, b) (λ e. (omega (arith, ints), omega (arith, ints, c), omega (arith, ints, d)));
      };
      fits = omega (arith, size, fits);
      size = size;
      first = ap nat_of (here 0 (omega arith)) ∙ first;
      last = ap nat_of (here n (omega arith)) ∙ last;
      within = λ i p.
          let a : place_at o i ≡ f i = ap nat_of (here i (omega (arith, p))) in
          let b : place_at o (i + 1) ≡ f (i + 1) = ap nat_of (here (i + 1) (omega (arith, p))) in
          let c = m i p in
          let d = most (i + 1) (omega (arith, p)) in
          omega (arith, a, b, c, d);
    }

-- ---- lists joined

pub joined_at : (s t : Column) (y : Layout) (o : Column) (z : Layout) → JoinsLists s t y o z
    → (i : ℕ) → i ≤ size_of s → at o i ≡ pos (place_at o i)
joined_at s t y o z j i p =
    let e : at o i ≡ offset_at s t i = ap (λ c. at c i) j.lane
    ∙ at-lane_of I64 (size_of s + 1) (offset_at s t) i (omega (arith, p)) in
    e ∙ sym (ap (λ w. pos (nat_of w)) e)

list_length : (h : ℕ → Value) (a n : ℕ) → length (list_items (list (run h a n))) ≡ n
list_length h a n = length-run h a n

ends_from : (class : Class) (s t : Column) (y x : Layout) (o : Column) (z : Layout)
    → OpensLists class s t y x → JoinsLists s t y o z → (i : ℕ) → i ≤ len x
    → place_at o i ≡ items_before (array_items x) i
ends_from class s t y x o z op j zero p = j.offsets.first
ends_from class s t y x o z op j (suc i) p =
    let q : i < len x = omega (arith, p) in
    let e : i + 1 ≡ suc i = omega arith in
    let before = ends_from class s t y x o z op j i (omega (arith, p)) in
    let grown = j.lengths i (omega (arith, q, op.size)) in
    let here : length (list_items (get_or (array_items x) i null)) ≡ place_at t i - place_at s i =
    ap (λ v. length (list_items v)) (get_or-array_items x i q ∙ op.items i q)
    ∙ list_length (array_item y) (place_at s i) (place_at t i - place_at s i) in
    let next = items_before-next (array_items x) i (omega (arith, q, length-array_items x)) in
    subst (λ k. place_at o k ≡ items_before (array_items x) k) e
    (omega (arith, before, grown, here, next))

pub present-list : (class : Class) (u : DataType) → item_of (present (list_type class u)) ≡ u
present-list None u = refl
present-list (Some n) u = refl

abbrev flat_items : Column → Column → Layout → ℕ → List Value
flat_items s t y n = flat_map (items_at s t y) (range_with_len 0 n)

pub joined_lists : (class : Class) (s t : Column) (y x : Layout) → OpensLists class s t y x
    → joined_items (array_items x) ≡ flat_items s t y (size_of s)
joined_lists class s t y x op =
    lists-inner class s t y x op ∙ ap (flat_items s t y) (sym op.size)

pub lists_joined : (class : Class) (s t : Column) (y x : Layout) (j : Joined)
    → OpensLists class s t y x → IsJoined s t y j → IsListed x j
lists_joined class s t y x TooMany op h =
    subst (λ n. item_limit < n) (sym (ap length (joined_lists class s t y x op))) h
lists_joined class s t y x (Lists o z) op h =
    let items = joined_lists class s t y x op in (
      subst (λ n. n ≤ item_limit) (sym (ap length items)) h.0,
      record {
        typ = h.1.typ ∙ sym (ap (λ u. item_of (present u)) op.typ
            ∙ present-list class (array_type y));
        valid = h.1.valid;
        ends = record {
          kind = h.1.offsets.offsets.kind;
          size = h.1.offsets.size ∙ ap (λ n. n + 1) (op.size ∙ sym (length-array_items x));
          ends = λ i p.
              let q : i ≤ len x = omega (arith, p, length-array_items x) in
              joined_at s t y o z h.1 i (omega (arith, q, op.size))
              ∙ ap pos (ends_from class s t y x o z op h.1 i q);
        };
        column = h.1.column ∙ sym items;
      },
    )

-- ---- options

pub list_not_option : (t : DataType) → is_list_or_unknown t ≡ true → is_option t ≡ false
list_not_option unknown e = refl
list_not_option (leaf p) e = refl
list_not_option (var t) e = refl
list_not_option (reg n t) e = refl
list_not_option (rec ns ts) e = refl
list_not_option (tup ts) e = refl
list_not_option (uni ts) e = refl
list_not_option (opt t) e = cc

pub list_present : (t : DataType) → is_list_or_unknown t ≡ true → present t ≡ t
list_present unknown e = refl
list_present (leaf p) e = refl
list_present (var t) e = refl
list_present (reg n t) e = refl
list_present (rec ns ts) e = refl
list_present (tup ts) e = refl
list_present (uni ts) e = refl
list_present (opt t) e = cc

pub count_present : (j : Column) (y x : Layout) → OpensOption j y x
    → is_option (array_type y) ≡ false → (i : ℕ) → i ≤ len x
    → length (first_of (present_at j) i) ≡ length (present_values (take i (array_items x)))
count_present j y x op n zero p = refl
count_present j y x op n (suc i) p =
    let q : i < len x = omega (arith, p) in
    let e : i + 1 ≡ suc i = omega arith in
    let before = count_present j y x op n i (omega (arith, p)) in
    let here : length (present_at j i) ≡ cond (is_present (get_or (array_items x) i null)) 1 0 =
    present_one y (at j i) op.valid n (op.index.below i (omega (arith, q, op.size)))
    ∙ ap (λ v. cond (is_present v) 1 0) (sym (get_or-array_items x i q ∙ op.items i q)) in
    let a = length-first_of (present_at j) i in
    let b = length-filter_more is_present (array_items x) i null
    (omega (arith, q, length-array_items x)) in
    subst (λ k. length (first_of (present_at j) k)
    ≡ length (present_values (take k (array_items x)))) e (omega (arith, before, here, a, b))

pub take_present : (vs : List Value) (i : ℕ)
    → take (length (present_values (take i vs))) (present_values vs) ≡ present_values (take i vs)
take_present vs i =
    ap (λ ws. take (length (present_values (take i vs))) (present_values ws))
    (sym (take-append-drop i vs))
    ∙ ap (take (length (present_values (take i vs))))
    (filter-append is_present (take i vs) (drop i vs))
    ∙ take-append_seam (present_values (take i vs)) (present_values (drop i vs))

pub at-counts : (j : Column) (i : ℕ) → i ≤ size_of j
    → at (present_lane j) i ≡ pos (length (first_of (present_at j) i))
at-counts j i p = at-lane_of I64 (size_of j + 1) (λ k. pos (length (first_of (present_at j) k))) i
    (omega (arith, p))

pub filter_few : (vs : List Value) (i : ℕ)
    → length (present_values (take i vs)) ≤ length (present_values vs)
filter_few vs i =
    let e : length (present_values vs)
    ≡ length (present_values (take i vs)) + length (present_values (drop i vs)) =
    ap (λ ws. length (present_values ws)) (sym (take-append-drop i vs))
    ∙ ap length (filter-append is_present (take i vs) (drop i vs))
    ∙ length-append (present_values (take i vs)) (present_values (drop i vs)) in
    omega (arith, e)
