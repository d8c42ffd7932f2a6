-- How many items lists have together, by their lengths.
use Rattle.std.specs.Prelude.{◌≡◌, ℕ, ◌+◌, ◌*◌, ◌<◌, ◌≤◌, refl, Bool, true, false, length, pos}
use Rattle.std.specs.Prelude.{Some, not}
use Rattle.std.specs.List.{range_with_len}
use Rattle.std.proofs.Common.{arith, ap, sym, ◌∙◌, subst}
use Rattle.std.proofs.lemmas.List.Folds.{flat_map-map}
use Rattle.awk_base.proofs.Ranges.{map-in}
use Rattle.awk_types.specs.ItemLimit.{item_limit}
use Rattle.awk_lanes.specs.Column.{Column}
use Rattle.awk_lanes.specs.Counted.{before, offsets_by}
use Rattle.awk_lanes.specs.Places.{size_of}
use Rattle.awk_lanes.specs.declared.kind.Kind.TheVariants.{I64}
use Rattle.awk_lanes.proofs.CountedLanes.{before-equal, before-same}
use Rattle.awk_layout.specs.Layout.{Layout}
use Rattle.awk_layout.specs.Valid.{len}
use Rattle.awk_columns.specs.Columns.{list_items}
use Rattle.awk_columns.specs.Joined.{total}
use Rattle.awk_columns.specs.Lists.{span_length, AreOfClass}
use Rattle.awk_columns.specs.ListValues.{list_at}
use Rattle.awk_columns.proofs.JoinedLists.{before-spans, joined-count}
use Rattle.awk_list_ends.specs.Total.{AreFew, AreOver}

pub before-total : (s t : Column) (y : Layout)
    → before (span_length s t) (size_of s) ≡ total s t y
before-total s t y =
    before-spans s t (size_of s)
    ∙ sym (joined-count s t y)
    ∙ ap length (flat_map-map list_items (list_at s t y) (range_with_len 0 (size_of s)))

pub few_by : (s t : Column) (y : Layout) (b : Bool)
    → (b ≡ true → before (span_length s t) (size_of s) ≤ item_limit)
    → (b ≡ false → item_limit < before (span_length s t) (size_of s)) → AreFew s t y b
few_by s t y true h k = subst (λ n. n ≤ item_limit) (before-total s t y) (h refl)
few_by s t y false h k = subst (λ n. item_limit < n) (before-total s t y) (k refl)

pub over_by : (s t : Column) (y : Layout) (n : ℕ) (b : Bool) → n ≡ len y
    → (b ≡ true → before (span_length s t) (size_of s) ≤ n)
    → (b ≡ false → n < before (span_length s t) (size_of s)) → AreOver s t y (not b)
over_by s t y n true e h k = omega (arith, e, h refl, before-total s t y)
over_by s t y n false e h k = omega (arith, e, k refl, before-total s t y)

-- ---- lists of one size

sized_before : (size : ℕ) (s t : Column) → AreOfClass (Some size) s t → (i : ℕ) → i ≤ size_of s
    → before (span_length s t) i ≡ before (λ k. size) i
sized_before size s t c i p =
    before-same (span_length s t) (λ k. size) i (λ k q. c k (omega (arith, p, q)))

-- they have as many times this size
pub total-sized : (size : ℕ) (s t : Column) → AreOfClass (Some size) s t
    → before (span_length s t) (size_of s) ≡ size_of s * size
total-sized size s t c =
    sized_before size s t c (size_of s) (omega arith) ∙ before-equal size (size_of s)

-- their offsets are those of any lists of these lengths
pub offsets-sized : (size : ℕ) (s t : Column) → AreOfClass (Some size) s t
    → offsets_by (span_length s t) (size_of s) ≡ offsets_by (λ k. size) (size_of s)
offsets-sized size s t c =
    ap (λ zs. record { kind = I64; items = zs })
    (map-in (λ i. pos (before (span_length s t) i)) (λ i. pos (before (λ k. size) i)) 0
    (size_of s + 1) (λ i q. ap pos (sized_before size s t c i (omega (arith, q)))))
