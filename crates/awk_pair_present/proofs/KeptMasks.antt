-- What is told of the rows that are kept by a mask with a byte for each.
use Rattle.std.proofs.Common.{◌≡◌, ℕ, zero, suc, ◌<◌, ◌≤◌, Bool, true, false, ◌++◌, map}
use Rattle.std.proofs.Common.{length, refl, ap, ap₂, arith, ◌∙◌}
use Rattle.std.specs.Prelude.{List, ℤ, pos, negsuc, if◌then◌else◌}
use Rattle.std.specs.List.{range_with_len}
use Rattle.awk_base.proofs.Ranges.{map-in}
use Rattle.awk_lanes.specs.Column.{Column}
use Rattle.awk_lanes.specs.Counted.{before, items_lane, numbers_of_lists}
use Rattle.awk_lanes.specs.Made.{lane_of}
use Rattle.awk_lanes.specs.Numbers.{is_nonzero}
use Rattle.awk_lanes.specs.Places.{size_of, at, option_place, option_place_at}
use Rattle.awk_lanes.specs.declared.kind.Kind.TheVariants.{I8, I64}
use Rattle.awk_lanes.proofs.CountedLanes.{before-same}
use Rattle.awk_lanes.proofs.MadeLanes.{size-lane_of, at-lane_of}
use Rattle.awk_layout.specs.Item.{byte_shows}
use Rattle.awk_gather.specs.Peeled.{if_shown, byte_index}
use Rattle.awk_counts.specs.Counted.{first_of, present_place, present_at, count_or_null}
use Rattle.awk_counts.specs.Counted.{counted_at, counted_lane}
use Rattle.awk_list_numbers.proofs.NamedPlaces.{named_at, count-read}
use Rattle.awk_pair_sides.proofs.PlaceLaws.{places_of}
use Rattle.awk_pair_present.specs.Presence.{are_there, kept_length, kept_byte}
use Rattle.awk_pair_present.specs.declared.presence.Presence.{Presence}
use Rattle.awk_pair_present.proofs.PresenceLaws.{count_at}

-- ---- one row

nonzero-one : (b : Bool) → is_nonzero (pos (if b then 1 else 0)) ≡ b
nonzero-one true = refl
nonzero-one false = refl

length-shown : (b : Bool) (i : ℕ)
    → length (present_place (option_place (if_shown b i))) ≡ (if b then 1 else 0)
length-shown true i = refl
length-shown false i = refl

count-shown : (b : Bool) (k i : ℕ)
    → count_or_null k (option_place (if_shown b i)) ≡ (if b then pos k else negsuc 0)
count-shown true k i = refl
count-shown false k i = refl

-- lists of the same lengths have the same numbers
lists-same : (f g : ℕ → ℕ) (h : ℕ → ℕ → ℤ) (n : ℕ) → ((i : ℕ) → i < n → f i ≡ g i)
    → numbers_of_lists f h n ≡ numbers_of_lists g h n
lists-same f g h zero e = refl
lists-same f g h (suc n) e =
    ap₂ (λ (xs ys : List ℤ). xs ++ ys) (lists-same f g h n (λ i l. e i (omega (arith, l))))
    (ap (λ k. map (h n) (range_with_len 0 k)) (e n (omega arith)))

pub mask-size : (ps : List Presence) (n : ℕ) (m : Column) → m ≡ lane_of I8 n (kept_byte ps)
    → size_of m ≡ n
mask-size ps n m e = ap size_of e ∙ size-lane_of I8 n (kept_byte ps)

-- ---- all rows, by the index that their mask stands for

module _ (ps : List Presence) (n : ℕ) (m j : Column) (e : m ≡ lane_of I8 n (kept_byte ps))
    (f : j ≡ lane_of I64 (size_of m) (byte_index m true)) where
  pub shown-size : size_of j ≡ n
  shown-size = ap size_of f ∙ size-lane_of I64 (size_of m) (byte_index m true)
      ∙ mask-size ps n m e

  shows : (i : ℕ) → i < n → byte_shows m true i ≡ are_there ps i
  shows i l =
      ap (λ (c : Column). is_nonzero (at c i)) e
      ∙ ap is_nonzero (at-lane_of I8 n (kept_byte ps) i l) ∙ nonzero-one (are_there ps i)

  shown-at : (i : ℕ) → i < n → at j i ≡ if_shown (are_there ps i) i
  shown-at i l =
      ap (λ (c : Column). at c i) f
      ∙ at-lane_of I64 (size_of m) (byte_index m true) i (omega (arith, l, mask-size ps n m e))
      ∙ ap (λ b. if_shown b i) (shows i l)

  shown-length : (i : ℕ) → i < n → named_at j i ≡ kept_length ps i
  shown-length i l =
      ap (λ z. length (present_place (option_place z))) (shown-at i l)
      ∙ length-shown (are_there ps i) i

  shown-before : (i : ℕ) → i ≤ n → length (first_of (present_at j) i) ≡ before (kept_length ps) i
  shown-before i l =
      count-read j i (length (first_of (present_at j) i)) refl
      ∙ before-same (named_at j) (kept_length ps) i (λ k q. shown-length k (omega (arith, l, q)))

  -- how many there are
  pub shown-count : (c : ℕ) → c ≡ length (first_of (present_at j) (size_of j))
      → c ≡ before (kept_length ps) n
  shown-count c h =
      h ∙ ap (λ k. length (first_of (present_at j) k)) shown-size ∙ shown-before n (omega arith)

  pub shown-total : (c : ℕ) → c ≡ length (first_of (present_at j) (size_of j))
      → c ≡ before (named_at j) n
  shown-total c h =
      count-read j n c (h ∙ ap (λ k. length (first_of (present_at j) k)) shown-size)

  -- their index
  counted-at : (i : ℕ) → i < n → counted_at j i ≡ count_at ps i
  counted-at i l =
      ap (λ k. count_or_null k (option_place_at j i)) (shown-before i (omega (arith, l)))
      ∙ ap (λ z. count_or_null (before (kept_length ps) i) (option_place z)) (shown-at i l)
      ∙ count-shown (are_there ps i) (before (kept_length ps) i) i

  pub shown-counted : (r : Column) → r ≡ counted_lane j → r ≡ lane_of I64 n (count_at ps)
  shown-counted r h =
      h ∙ ap (λ k. lane_of I64 k (counted_at j)) shown-size
      ∙ ap (λ zs. record { kind = I64; items = zs })
      (map-in (counted_at j) (count_at ps) 0 n (λ i l. counted-at i (omega (arith, l))))

  -- their places
  pub shown-places : (r : Column) → r ≡ items_lane I64 (named_at j) (λ i k. pos i) n
      → r ≡ places_of (kept_length ps) n
  shown-places r h =
      h ∙ ap (λ zs. record { kind = I64; items = zs })
      (lists-same (named_at j) (kept_length ps) (λ i k. pos i) n shown-length)
