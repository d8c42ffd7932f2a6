-- Lanes that are being made of the counts of parts, one part after another.
use Rattle.std.proofs.Common.{◌≡◌, ℕ, suc, ◌+◌, ◌-◌, ◌*◌, ◌<◌, ◌≤◌, List, [], ◌∷◌, ◌++◌, length}
use Rattle.std.proofs.Common.{get_or, map, take, drop, slice_range, ap, ap₂, sym, ◌∙◌, arith}
use Rattle.std.proofs.Common.{length-take, length-drop, get_or-take, get_or-drop}
use Rattle.std.specs.Prelude.{ℤ, pos, true, ◌^◌}
use Rattle.std.specs.List.{range_with_len}
use Rattle.std.proofs.lemmas.Grind.{common_steps}
use Rattle.std.proofs.lemmas.List.{ext_get_or, get_or-map, length-map, append_assoc, map_more}
use Rattle.std.proofs.lemmas.List.FromFn.{length-map-range_with_len, get_or-map-range_with_len}
use Rattle.awk_lanes.specs.Counted.{numbers_of_lists}
use Rattle.awk_lanes.specs.Column.{Column}
use Rattle.awk_lanes.specs.Making.{Making, with_item}
use Rattle.awk_lanes.specs.Places.{place_at}
use Rattle.awk_lanes.specs.declared.kind.Kind.TheVariants.{I64}
use Rattle.awk_lanes.proofs.CountedLanes.{length-numbers, before-equal}
use Rattle.awk_lanes.proofs.MadeLanes.{IsSoFar, so_far_pushed}
use Rattle.awk_numbers.proofs.PartLaws.{slice_range-map}
use Rattle.awk_parts.specs.Parts.{AreParts, part_at}
use Rattle.awk_bins.specs.Bins.{intervals, count_in, count_under, count_over}
use Rattle.awk_bins.specs.Edges.{are_edges}
use Rattle.awk_bins.specs.Tallies.{tallies}
use Rattle.awk_bins.proofs.BinLaws.{many, tally_in, tally_under, tally_over}
use Rattle.awk_bins.proofs.TallyLaws.{length-tallies, get_or-tallies, tallies_few}

-- ---- a row of tallies

-- those between the first and the last
abbrev pub middle : List ℤ → List ℕ → List ℕ
middle es row = slice_range row 1 (length es)

-- that of part i
pub part_row : {X : Type 0} (number : X → ℤ) (xs : List X) (o : Column) (es : List ℤ) (i a b : ℕ)
    (row : List ℕ) → row ≡ tallies es (map number (slice_range xs a b)) → a ≡ place_at o i
    → b ≡ place_at o (i + 1) → row ≡ tallies es (part_at (map number xs) o i)
part_row number xs o es i a b row h e f =
    h
    ∙ ap (tallies es) (ap₂ (λ a b. map number (slice_range xs a b)) e f
    ∙ sym (slice_range-map number xs (place_at o i) (place_at o (i + 1))))

part_few : (zs : List ℤ) (o : Column) (i : ℕ) → length (part_at zs o i) ≤ length zs
part_few zs o i = grind (arith, common_steps)

pub part_small : (zs : List ℤ) (o : Column) (n i : ℕ) → AreParts zs o n
    → length (part_at zs o i) < 2 ^ 63
part_small zs o n i h = omega (arith, part_few zs o i, h.few)

pub tally_small : (es zs : List ℤ) (row : List ℕ) (j : ℕ) → row ≡ tallies es zs
    → length zs < 2 ^ 63 → j < length es + 1 → get_or row j 0 < 2 ^ 63
tally_small es zs row j e few l =
    let at : get_or row j 0 ≡ get_or (tallies es zs) j 0 = ap (λ ts. get_or ts j 0) e in
    omega (arith, at, tallies_few es zs j l, few)

module _ (es : List ℤ) (h : are_edges es ≡ true) (zs : List ℤ) where
  pub first_under : get_or (tallies es zs) 0 0 ≡ count_under es zs
  first_under = get_or-tallies es zs 0 0 (omega arith) ∙ tally_under es h zs

  pub last_over : get_or (tallies es zs) (length es) 0 ≡ count_over es zs
  last_over = get_or-tallies es zs (length es) 0 (omega arith) ∙ tally_over es h zs

  middle_at : (k : ℕ) → k < intervals es
      → get_or (middle es (tallies es zs)) k 0 ≡ count_in es zs k
  middle_at k l =
      let e : 1 + k ≡ k + 1 = omega arith in
      get_or-take (length es - 1) (drop 1 (tallies es zs)) k 0 l
      ∙ get_or-drop 1 (tallies es zs) k 0 ∙ ap (λ j. get_or (tallies es zs) j 0) e
      ∙ get_or-tallies es zs (k + 1) 0 (omega (arith, l)) ∙ tally_in es h zs k l

  pub length-middle : length (middle es (tallies es zs)) ≡ intervals es
  length-middle =
      omega (
        arith,
        length-take (length es - 1) (drop 1 (tallies es zs)),
        length-drop 1 (tallies es zs),
        length-tallies es zs,
        many es h,
      )

  middle_counts : map (λ n. pos n) (middle es (tallies es zs))
      ≡ map (λ k. pos (count_in es zs k)) (range_with_len 0 (intervals es))
  middle_counts = ext_get_or (pos 0) _ _ size each
    where
      size : length (map (λ n. pos n) (middle es (tallies es zs)))
          ≡ length (map (λ k. pos (count_in es zs k)) (range_with_len 0 (intervals es)))
      size =
          length-map (middle es (tallies es zs)) (λ n. pos n) ∙ length-middle
          ∙ sym (length-map-range_with_len (λ k. pos (count_in es zs k)) 0 (intervals es))

      each : (k : ℕ) → k < length (map (λ n. pos n) (middle es (tallies es zs)))
          → get_or (map (λ n. pos n) (middle es (tallies es zs))) k (pos 0)
          ≡ get_or (map (λ k. pos (count_in es zs k)) (range_with_len 0 (intervals es))) k (pos 0)
      each k l =
          let below : k < length (middle es (tallies es zs)) =
          omega (arith, l, length-map (middle es (tallies es zs)) (λ n. pos n)) in
          let within : k < intervals es = omega (arith, below, length-middle) in
          get_or-map (λ n. pos n) (middle es (tallies es zs)) k 0 (pos 0) below
          ∙ ap pos (middle_at k within)
          ∙ sym (get_or-map-range_with_len (λ k. pos (count_in es zs k)) 0 (intervals es) k k
          (pos 0) within (omega arith))

  pub middle_small : (row : List ℕ) → row ≡ tallies es zs → length zs < 2 ^ 63
      → (j : ℕ) → j < length (middle es row) → get_or (middle es row) j 0 < 2 ^ 63
  middle_small row r few j l =
      let size : length (middle es row) ≡ intervals es =
      ap (λ ts. length (middle es ts)) r ∙ length-middle in
      let within : j < intervals es = omega (arith, l, size) in
      let at : get_or (middle es row) j 0 ≡ get_or row (1 + j) 0 =
      get_or-take (length es - 1) (drop 1 row) j 0 within ∙ get_or-drop 1 row j 0 in
      let small = tally_small es zs row (1 + j) r few (omega (arith, within)) in
      omega (arith, at, small)

-- ---- while the counts are made

pub tally_pushed : (ns : List ℕ) (i : ℕ) (was old new : List ℤ) (z : ℤ) → i < length ns
    → old ≡ was ++ map (λ n. pos n) (take i ns) → new ≡ old ++ z ∷ []
    → z ≡ pos (get_or ns i 0) → new ≡ was ++ map (λ n. pos n) (take (i + 1) ns)
tally_pushed ns i was old new z l e f g =
    f ∙ ap₂ (λ xs x. xs ++ x ∷ []) e g
    ∙ append_assoc was (map (λ n. pos n) (take i ns)) (pos (get_or ns i 0) ∷ [])
    ∙ ap (λ xs. was ++ xs) (sym (map_more (λ n. pos n) ns i 0 l))

-- of the first i of n parts how many numbers lie in each interval
pub record IsCounted (es : List ℤ) (part : ℕ → List ℤ) (n i : ℕ) (m : Making) : Type 0 where
  pub kind : m.kind ≡ I64
  pub room : m.room ≡ n * intervals es
  pub items : m.items
      ≡ numbers_of_lists (λ i. intervals es) (λ i k. pos (count_in es (part i) k)) i

-- and how many lie below the first edge, and from the last on
abbrev pub IsUnder : List ℤ → (ℕ → List ℤ) → ℕ → ℕ → Making → Type 0
IsUnder es part n i m = IsSoFar I64 n (λ i. pos (count_under es (part i))) i m

abbrev pub IsOver : List ℤ → (ℕ → List ℤ) → ℕ → ℕ → Making → Type 0
IsOver es part n i m = IsSoFar I64 n (λ i. pos (count_over es (part i))) i m

more_room : (k i n : ℕ) → i < n → i * k + k ≤ n * k
more_room k i n l = grind (arith, l)

module _ (es : List ℤ) (h : are_edges es ≡ true) (part : ℕ → List ℤ) (n i : ℕ) where
  abbrev counts : ℕ → List ℤ
  counts i = numbers_of_lists (λ i. intervals es) (λ i k. pos (count_in es (part i) k)) i

  length-counts : length (counts i) ≡ i * intervals es
  length-counts =
      length-numbers (λ i. intervals es) (λ i k. pos (count_in es (part i) k)) i
      ∙ before-equal (intervals es) i

  -- there is room for the counts of one more
  pub counts_room : (row : List ℕ) (m : Making) → row ≡ tallies es (part i) → i < n
      → IsCounted es part n i m → length m.items + length (middle es row) ≤ m.room
  counts_room row m r l c =
      let size : length (middle es row) ≡ intervals es =
      ap (λ ts. length (middle es ts)) r ∙ length-middle es h (part i) in
      omega (
        arith,
        size,
        ap length c.items,
        length-counts,
        c.room,
        more_room (intervals es) i n l,
      )

  pub under_more : (row : List ℕ) (z : ℤ) (old new : Making) → row ≡ tallies es (part i)
      → new ≡ with_item old z → z ≡ pos (get_or row 0 0) → IsUnder es part n i old
      → IsUnder es part n (i + 1) new
  under_more row z old new r e f c =
      so_far_pushed I64 n (λ i. pos (count_under es (part i))) i z old new e
      (f ∙ ap (λ ts. pos (get_or ts 0 0)) r ∙ ap pos (first_under es h (part i))) c

  pub over_more : (row : List ℕ) (z : ℤ) (old new : Making) → row ≡ tallies es (part i)
      → new ≡ with_item old z → z ≡ pos (get_or row (length es) 0) → IsOver es part n i old
      → IsOver es part n (i + 1) new
  over_more row z old new r e f c =
      so_far_pushed I64 n (λ i. pos (count_over es (part i))) i z old new e
      (f ∙ ap (λ ts. pos (get_or ts (length es) 0)) r ∙ ap pos (last_over es h (part i))) c

  pub counts_more : (row : List ℕ) (old new : Making) → row ≡ tallies es (part i)
      → new.kind ≡ old.kind → new.room ≡ old.room
      → new.items ≡ old.items ++ map (λ n. pos n) (middle es row)
      → IsCounted es part n i old → IsCounted es part n (i + 1) new
  counts_more row old new r k m e c = record {
    kind = k ∙ c.kind;
    room = m ∙ c.room;
    items = e
        ∙ ap₂ (λ xs ys. xs ++ ys) c.items
        (ap (λ r. map (λ n. pos n) (middle es r)) r ∙ middle_counts es h (part i))
        ∙ ap counts (next i);
  }
    where
      next : (i : ℕ) → suc i ≡ i + 1
      next i = omega arith
