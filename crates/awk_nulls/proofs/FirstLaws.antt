-- The first items of lists.
use Rattle.std.specs.Prelude.{◌≡◌, ℕ, zero, suc, ◌+◌, ◌<◌, ◌≤◌, ◌^◌, ◌==◌, refl, false, ℤ, pos}
use Rattle.std.specs.Prelude.{negsuc, ◌<ℤ◌, if◌then◌else◌}
use Rattle.std.proofs.Common.{arith, ap, sym, ◌∙◌, subst}
use Rattle.std.proofs.lemmas.Int.{ints}
use Rattle.awk_types.specs.DataType.{opt}
use Rattle.awk_types.specs.Simple.{simple_value}
use Rattle.awk_types.specs.Value.{Value, value_list}
use Rattle.awk_lanes.specs.declared.kind.Kind.TheVariants as kinds
use Rattle.awk_lanes.specs.Column.{Column}
use Rattle.awk_lanes.specs.Numbers.{nat_of}
use Rattle.awk_lanes.specs.Places.{size_of, at, place_at, option_place, IsOptionalIndex}
use Rattle.awk_layout.specs.Layout.{Layout, optional}
use Rattle.awk_layout.specs.Item.{run, at_option}
use Rattle.awk_layout.specs.Typing.{array_type}
use Rattle.awk_layout.specs.Valid.{len, IsValid}
use Rattle.awk_gather.specs.Arrays.{array_item}
use Rattle.awk_gather.specs.Peeled.{IsPickedOpt}
use Rattle.awk_lanes.proofs.MadeLanes.{size-lane_of, at-lane_of}
use Rattle.awk_lanes.proofs.PlaceLaws.{named-below}
use Rattle.awk_columns.specs.ListClass.{Class}
use Rattle.awk_list_functions.specs.Made.{IsColumn}
use Rattle.awk_columns.specs.Lists.{AreLists, items_at}
use Rattle.awk_nulls.specs.Firsts.{first_or_null}
use Rattle.awk_nulls.specs.Lanes.{span_length, firsts_lane}
use Rattle.awk_option_nodes.proofs.OptionNodes.{HasItems, optional_type-is, optional_item}
use Rattle.awk_nulls.proofs.PickedColumns.{picked_column}
use Rattle.awk_list_ends.proofs.SpanLaws.{start_there}

abbrev first_number : ℕ → ℤ → ℤ
first_number n a = if n == 0 then negsuc 0 else a

first_some : (n : ℕ) (a : ℤ) → first_number (suc n) a ≡ a
first_some n a =
    let e : (suc n == 0) ≡ false = grind arith in
    ap (λ b. if b then negsuc 0 else a) e

first_shown : (f : ℕ → Value) (n : ℕ) (a : ℤ) → (0 < n → a ≡ pos (nat_of a))
    → at_option (option_place (first_number n a)) f
    ≡ first_or_null (value_list (run f (nat_of a) n))
first_shown f zero a h = refl
first_shown f (suc n) a h =
    let e : a ≡ pos (nat_of a) = h (omega arith) in
    ap (λ z. at_option (option_place z) f) (first_some n a ∙ e)

first_below : (m n : ℕ) (a : ℤ) → (0 < n → (a ≡ pos (nat_of a)) × (nat_of a + n ≤ m))
    → first_number n a <ℤ pos m
first_below m zero a h = omega (arith, ints)
first_below m (suc n) a h =
    let both = h (omega arith) in
    subst (λ z. z <ℤ pos m) (sym (first_some n a ∙ both.0)) (omega (arith, ints, both.1))

module _ (class : Class) (s t : Column) (y : Layout) (a : AreLists class s t y) where
  abbrev number : ℕ → ℤ
  number i = if span_length s t i == 0 then negsuc 0 else at s i

  there : (i : ℕ) → i < size_of s → 0 < span_length s t i
      → (at s i ≡ pos (place_at s i)) × (place_at s i + span_length s t i ≤ len y)
  there i p q = start_there (len y) (at s i) (at t i) (a.spans.ordered i p) q

  size-firsts : size_of (firsts_lane s t) ≡ size_of s
  size-firsts = size-lane_of kinds.I64 (size_of s) (λ i. number i)

  at-firsts : (i : ℕ) → i < size_of s → at (firsts_lane s t) i ≡ number i
  at-firsts i p = at-lane_of kinds.I64 (size_of s) (λ k. number k) i p

  pub firsts_index : IsOptionalIndex (firsts_lane s t) (len y)
  firsts_index = record {
    kind = tt;
    below = λ i p.
        let q : i < size_of s = omega (arith, p, size-firsts) in
        subst (λ z. z <ℤ pos (len y)) (sym (at-firsts i q))
        (first_below (len y) (span_length s t i) (at s i) (there i q));
  }

  firsts_fit : size_of (firsts_lane s t) < 2 ^ 63
  firsts_fit = omega (arith, size-firsts, a.fits)

  firsts_column : HasItems y
      → IsColumn (opt (array_type y)) (λ i. first_or_null (items_at s t y i)) (size_of s)
      (optional (firsts_lane s t) y)
  firsts_column h = record {
    valid = (firsts_fit, firsts_index, a.valid);
    size = size-firsts;
    typ = optional_type-is (firsts_lane s t) y;
    items = λ i p.
        let below : at (firsts_lane s t) i <ℤ pos (len y) =
        firsts_index.below i (omega (arith, p, size-firsts)) in
        optional_item (firsts_lane s t) y i h
        (λ k e. named-below (at (firsts_lane s t) i) (len y) k below e)
        ∙ ap (simple_value (opt (array_type y)))
        (ap (λ z. at_option (option_place z) (array_item y)) (at-firsts i p)
        ∙ first_shown (array_item y) (span_length s t i) (at s i) (λ q. (there i p q).0));
  }

  -- the same of the node that the index is composed with
  pub firsts_given : HasItems y → (r : Layout) → IsValid r → IsPickedOpt y (firsts_lane s t) r
      → IsColumn (opt (array_type y)) (λ i. first_or_null (items_at s t y i)) (size_of s) r
  firsts_given h r v p =
      picked_column (opt (array_type y)) (λ i. first_or_null (items_at s t y i)) (size_of s) y r
      (firsts_lane s t) v p (firsts_column h)
