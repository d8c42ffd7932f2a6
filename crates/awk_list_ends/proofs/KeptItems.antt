-- Runs of items, and those of them that a test keeps.
use Rattle.std.specs.Prelude.{◌≡◌, ℕ, zero, suc, ◌+◌, ◌-◌, ◌≤◌, refl, List, [], ◌∷◌, ◌++◌, length}
use Rattle.std.specs.Prelude.{map, take, drop, pos, filter, Bool}
use Rattle.std.specs.List.{range_with_len}
use Rattle.std.proofs.Common.{arith, ap, sym, ◌∙◌}
use Rattle.std.proofs.Math.Seq.{drop-append_seam, take-append_seam}
use Rattle.std.proofs.lemmas.List.{length-append, take-append-drop, drop-take}
use Rattle.std.proofs.lemmas.List.Elements.{filter-append}
use Rattle.std.proofs.lemmas.List.FromFn.{take-map-range_with_len}
use Rattle.awk_types.specs.Value.{Value, value_list}
use Rattle.awk_lanes.specs.Column.{Column}
use Rattle.awk_lanes.specs.Numbers.{nat_of}
use Rattle.awk_lanes.specs.Places.{at, place_at}
use Rattle.awk_layout.specs.Layout.{Layout}
use Rattle.awk_layout.specs.Item.{run}
use Rattle.awk_layout.specs.Typing.{array_items}
use Rattle.awk_layout.specs.Valid.{len}
use Rattle.awk_layout.proofs.ArrayItems.{length-array_items}
use Rattle.awk_layout.proofs.Runs.{value_list-run}
use Rattle.awk_gather.specs.Arrays.{array_item}
use Rattle.awk_columns.proofs.ArrayLaws.{array_items-at}
use Rattle.awk_list_ends.specs.Kept.{KeepsItems}

take-none : (n : ℕ) → take {A = Value} n [] ≡ []
take-none zero = refl
take-none (suc n) = refl

pub take-take : (vs : List Value) (a n : ℕ) → take a (take (a + n) vs) ≡ take a vs
take-take vs zero n = refl
take-take [] (suc a) n = ap (take (suc a)) (take-none (suc a + n))
take-take (v ∷ vs) (suc a) n =
    let e : suc a + n ≡ suc (a + n) = omega arith in
    ap (λ k. take (suc a) (take k (v ∷ vs))) e ∙ ap (λ ws. v ∷ ws) (take-take vs a n)

drop-range : (f : ℕ → Value) (b a m : ℕ)
    → drop a (map f (range_with_len b (a + m))) ≡ map f (range_with_len (b + a) m)
drop-range f b zero m =
    let z : 0 + m ≡ m = omega arith in
    let e : b ≡ b + 0 = omega arith in
    ap (λ k. map f (range_with_len b k)) z ∙ ap (λ k. map f (range_with_len k m)) e
drop-range f b (suc a) m =
    let z : suc a + m ≡ suc (a + m) = omega arith in
    let e : (b + 1) + a ≡ b + suc a = omega arith in
    ap (λ k. drop (suc a) (map f (range_with_len b k))) z
    ∙ drop-range f (b + 1) a m ∙ ap (λ k. map f (range_with_len k m)) e

pub run-slice : (x : Layout) (a n : ℕ) → a + n ≤ len x
    → value_list (run (array_item x) a n) ≡ take n (drop a (array_items x))
run-slice x a n p =
    let m : ℕ = len x - a in
    let e : len x ≡ a + m = omega (arith, p) in
    let z : 0 + a ≡ a = omega arith in
    value_list-run (array_item x) a n
    ∙ sym (ap (λ vs. take n (drop a vs)) (array_items-at x)
    ∙ ap (λ k. take n (drop a (map (array_item x) (range_with_len 0 k)))) e
    ∙ ap (take n) (drop-range (array_item x) 0 a m
    ∙ ap (λ k. map (array_item x) (range_with_len k m)) z)
    ∙ take-map-range_with_len (array_item x) a m n (omega (arith, p)))

-- ---- parts of lists

module _ (keep : Value → Bool) where
  kept_split : (vs : List Value) (a : ℕ)
      → filter keep vs ≡ filter keep (take a vs) ++ filter keep (drop a vs)
  kept_split vs a =
      ap (filter keep) (sym (take-append-drop a vs))
      ∙ filter-append keep (take a vs) (drop a vs)

  abbrev pub kept_before : List Value → ℕ → ℕ
  kept_before vs a = length (filter keep (take a vs))

  before-add : (vs : List Value) (a n : ℕ)
      → kept_before vs (a + n) ≡ kept_before vs a + kept_before (drop a vs) n
  before-add vs a n =
      ap length (kept_split (take (a + n) vs) a)
      ∙ length-append (filter keep (take a (take (a + n) vs)))
      (filter keep (drop a (take (a + n) vs)))
      ∙ ap (λ ws. length (filter keep ws) + length (filter keep (drop a (take (a + n) vs))))
      (take-take vs a n)
      ∙ ap (λ ws. kept_before vs a + length (filter keep ws)) (drop-take a n vs)

  pub before-few : (vs : List Value) (a : ℕ) → kept_before vs a ≤ length (filter keep vs)
  before-few vs a =
      let e = ap length (kept_split vs a)
      ∙ length-append (filter keep (take a vs)) (filter keep (drop a vs)) in
      omega (arith, e)

  slice_kept : (vs : List Value) (a n : ℕ)
      → take (kept_before (drop a vs) n) (drop (kept_before vs a) (filter keep vs))
      ≡ filter keep (take n (drop a vs))
  slice_kept vs a n =
      ap (λ ws. take (kept_before (drop a vs) n) (drop (kept_before vs a) ws))
      (kept_split vs a)
      ∙ ap (take (kept_before (drop a vs) n))
      (drop-append_seam (filter keep (take a vs)) (filter keep (drop a vs)))
      ∙ ap (take (kept_before (drop a vs) n)) (kept_split (drop a vs) n)
      ∙ take-append_seam (filter keep (take n (drop a vs)))
      (filter keep (drop n (drop a vs)))

-- ---- runs of an array

module _ (keep : Value → Bool) (x : Layout) (c : Column) (z : Layout) (h : KeepsItems keep x c z)
  where
    pub at-count : (a : ℕ) → a ≤ len x → at c a ≡ pos (place_at c a)
    at-count a p = h.counts a p ∙ sym (ap (λ w. pos (nat_of w)) (h.counts a p))

    count_is : (a : ℕ) → a ≤ len x → place_at c a ≡ kept_before keep (array_items x) a
    count_is a p = ap nat_of (h.counts a p)

    pub counts_up : (a n : ℕ) → a + n ≤ len x → place_at c a ≤ place_at c (a + n)
    counts_up a n p =
        let i = count_is a (omega (arith, p)) in
        let k = count_is (a + n) p in
        omega (arith, i, k, before-add keep (array_items x) a n)

    pub counts_within : (a : ℕ) → a ≤ len x → place_at c a ≤ len z
    counts_within a p =
        let i = count_is a p in
        let e : length (array_items z) ≡ length (filter keep (array_items x)) =
        ap length h.column in
        omega (arith, i, before-few keep (array_items x) a, e, length-array_items z)

    -- those of a run of items that stay
    pub kept_run : (a n : ℕ) → a + n ≤ len x
        → value_list (run (array_item z) (place_at c a) (place_at c (a + n) - place_at c a))
        ≡ filter keep (value_list (run (array_item x) a n))
    kept_run a n p =
        let i = count_is a (omega (arith, p)) in
        let k = count_is (a + n) p in
        let size : place_at c (a + n) - place_at c a
        ≡ kept_before keep (drop a (array_items x)) n =
        omega (arith, i, k, before-add keep (array_items x) a n) in
        let up = counts_up a n p in
        let within = counts_within (a + n) p in
        run-slice z (place_at c a) (place_at c (a + n) - place_at c a)
        (omega (arith, up, within))
        ∙ ap (λ m. take m (drop (place_at c a) (array_items z))) size
        ∙ ap (λ m. take (kept_before keep (drop a (array_items x)) n) (drop m (array_items z))) i
        ∙ ap (λ ws. take (kept_before keep (drop a (array_items x)) n)
        (drop (kept_before keep (array_items x) a) ws)) h.column
        ∙ slice_kept keep (array_items x) a n
        ∙ ap (filter keep) (sym (run-slice x a n p))
