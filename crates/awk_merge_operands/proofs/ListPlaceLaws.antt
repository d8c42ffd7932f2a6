-- The lists of each row among those of all: their places, and where they end.
use Rattle.std.proofs.Common.{◌≡◌, ◌∙◌, ◌+◌, ◌-◌, ◌*◌, ◌/◌, ◌%◌, ◌<◌, ◌≤◌, ◌^◌, ℕ, zero, suc, Bool}
use Rattle.std.proofs.Common.{true, false, List, [], Option, Some, None, ap, ap₂, sym, subst, refl}
use Rattle.std.proofs.Common.{arith}
use Rattle.std.specs.Prelude.{ℤ, pos, negsuc, ◌<ℤ◌, if◌then◌else◌}
use Rattle.std.proofs.Math.Nat.{mod-lt, div-lt_iff_lt-mul}
use Rattle.std.proofs.lemmas.Int.{ints}
use Rattle.std.proofs.lemmas.Nat.{row_fits, div-mul-add, mod-mul-add}
use Rattle.awk_types.specs.Value.{Value, value_list}
use Rattle.awk_lanes.specs.Column.{Column}
use Rattle.awk_lanes.specs.Numbers.{nat_of}
use Rattle.awk_lanes.specs.Places.{size_of, at, option_place, option_place_at, IsSpan}
use Rattle.awk_lanes.specs.Places.{IsOptionalIndex}
use Rattle.awk_lanes.specs.declared.kind.Kind.TheVariants.{I64}
use Rattle.awk_layout.specs.Item.{run, at_option}
use Rattle.awk_layout.specs.Layout.{Layout}
use Rattle.awk_layout.specs.Valid.{len, IsValid}
use Rattle.awk_gather.specs.Arrays.{array_item}
use Rattle.awk_columns.specs.Columns.{list_items}
use Rattle.awk_lanes.proofs.MadeLanes.{size-lane_of, at-lane_of}
use Rattle.awk_lanes.proofs.PlaceLaws.{named-below}
use Rattle.awk_columns.specs.Lists.{AreLists, items_at}
use Rattle.awk_merge_operands.specs.Operands.{list_place, list_between, IsListIndex, IndexHas}
use Rattle.awk_merge_operands.specs.Operands.{IndexesAll, is_whole, row_or_null, rows_lane, end_at}
use Rattle.awk_merge_operands.specs.Operands.{end_of_row, end_in_rows, ends_in_rows}

-- ---- places in k columns of n values

pub cell : (n k i j : ℕ) → i < n → j < k → j * n + i < k * n
cell n k i j p q = omega (arith, p, row_fits j n k n q (omega arith))

pub few_rows : (n k : ℕ) → 0 < k → n ≤ k * n
few_rows n zero p = absurd (omega (arith, p))
few_rows n (suc k) p = let w : suc k * n ≡ n + k * n = grind arith in omega (arith, w)

pub some_of : (t n k : ℕ) → t < n * k → 0 < k
some_of t n zero p = let w : n * 0 ≡ 0 = grind arith in absurd (omega (arith, p, w))
some_of t n (suc k) p = omega arith

pub row_within : (t n k : ℕ) → t < n * k → t / k < n
row_within t n k p = (div-lt_iff_lt-mul (some_of t n k p)).1 p

pub column_within : (t n k : ℕ) → t < n * k → t % k < k
column_within t n k p = mod-lt t (some_of t n k p)

pub block_within : (n k i j : ℕ) → i < n → j < k → i * k + j < n * k
block_within n k i j p q = omega (arith, q, row_fits i k n k p (omega arith))

-- ---- the index

pub place_within : (index : Option Column) (m size j p : ℕ) → IsListIndex index m size → j < m
    → list_place index j ≡ Some p → p < size
place_within None m size j p h l e = let f : j ≡ p = cc in omega (arith, l, f, h)
place_within (Some c) m size j p h l e =
    named-below (at c j) size p (h.1.below j (omega (arith, l, h.0))) e

pub indexes_all : (index : Option Column) (m size : ℕ) → IsListIndex index m size
    → IndexesAll index m
indexes_all None m size h = tt
indexes_all (Some c) m size h = (h.1.kind, h.0)

pub index_has : (index : Option Column) (m j : ℕ) → IndexesAll index m → j < m → IndexHas index j
index_has None m j h l = tt
index_has (Some c) m j h l = (h.0, omega (arith, l, h.1))

-- ---- the rows without null

abbrev row_place : Bool → ℕ → ℤ
row_place b i = if b then pos i else negsuc 0

row_below : (b : Bool) (i n : ℕ) → i < n → row_place b i <ℤ pos n
row_below true i n p = omega (arith, ints, p)
row_below false i n p = omega (arith, ints)

pub size-rows : (index : Option Column) (n k : ℕ) → size_of (rows_lane index n k) ≡ n
size-rows index n k = size-lane_of I64 n (row_or_null index n k)

pub at-rows : (index : Option Column) (n k i : ℕ) → i < n
    → at (rows_lane index n k) i ≡ row_or_null index n k i
at-rows index n k i p = at-lane_of I64 n (row_or_null index n k) i p

pub rows_index : (index : Option Column) (n k m : ℕ) → n ≤ m
    → IsOptionalIndex (rows_lane index n k) m
rows_index index n k m l = record {
  kind = tt;
  below = λ i p.
      let q : i < n = omega (arith, p, size-rows index n k) in
      rw (at-rows index n k i q) (row_below (is_whole index n k i) i m (omega (arith, q, l)));
}

-- ---- the ends of the lists of a row

abbrev pub ends_place : Bool → ℕ → Option ℕ
ends_place b i = if b then Some i else None

row_option : (b : Bool) (i : ℕ) → option_place (row_place b i) ≡ ends_place b i
row_option true i = refl
row_option false i = refl

module _ (index : Option Column) (n k : ℕ) where
  abbrev rows : Column
  rows = rows_lane index n k

  pub option-rows : (i : ℕ) → i < n → option_place_at rows i ≡ ends_place (is_whole index n k i) i
  option-rows i p =
      ap option_place (at-rows index n k i p) ∙ row_option (is_whole index n k i) i

  pub size-ends : (s : Column) → size_of (ends_in_rows index rows k s) ≡ n * k
  size-ends s =
      size-lane_of I64 (size_of rows * k) (end_in_rows index rows k s)
      ∙ ap (λ m. m * k) (size-rows index n k)

  at-ends : (s : Column) (t : ℕ) → t < n * k
      → at (ends_in_rows index rows k s) t
      ≡ end_of_row index n s (t % k) (ends_place (is_whole index n k (t / k)) (t / k))
  at-ends s t p =
      at-lane_of I64 (size_of rows * k) (end_in_rows index rows k s) t
      (subst (λ m. t < m * k) (sym (size-rows index n k)) p)
      ∙ ap₂ (λ m o. end_of_row index m s (t % k) o) (size-rows index n k)
      (option-rows (t / k) (row_within t n k p))

  -- list j of row i
  pub at-end : (s : Column) (i j : ℕ) → i < n → j < k
      → at (ends_in_rows index rows k s) (i * k + j)
      ≡ end_of_row index n s j (ends_place (is_whole index n k i) i)
  at-end s i j p q =
      at-ends s (i * k + j) (block_within n k i j p q)
      ∙ ap₂ (λ a b. end_of_row index n s b (ends_place (is_whole index n k a) a))
      (div-mul-add i k j q) (mod-mul-add i k j q)

  -- ---- they are ends of lists

  module _ (class : Option ℕ) (s t : Column) (y : Layout) (a : AreLists class s t y)
      (h : IsListIndex index (k * n) (size_of s)) where
    place_span : (o : Option ℕ) → ((p : ℕ) → o ≡ Some p → p < size_of s)
        → IsSpan (len y) (end_at s o) (end_at t o)
    place_span None l = λ d. absurd (d refl)
    place_span (Some p) l = a.spans.ordered p (l p refl)

    row_span : (b : Bool) (i j : ℕ) → i < n → j < k
        → IsSpan (len y) (end_of_row index n s j (ends_place b i))
        (end_of_row index n t j (ends_place b i))
    row_span false i j p q = λ d. absurd (d refl)
    row_span true i j p q =
        place_span (list_place index (j * n + i))
        (λ m e. place_within index (k * n) (size_of s) (j * n + i) m h (cell n k i j p q) e)

    pub ends_are : k * n < 2 ^ 63 → IsValid y
        → AreLists None (ends_in_rows index rows k s) (ends_in_rows index rows k t) y
    ends_are f v = record {
      spans = record {
        start_kind = tt;
        stop_kind = tt;
        same_size = size-ends s ∙ sym (size-ends t);
        ordered = λ r p.
            let q : r < n * k = omega (arith, p, size-ends s) in
            rw (at-ends s r q, at-ends t r q)
            (row_span (is_whole index n k (r / k)) (r / k) (r % k) (row_within r n k q)
            (column_within r n k q));
      };
      fits =
          let w : n * k ≡ k * n = grind arith in
          omega (arith, size-ends s, w, f);
      valid = v;
      same_class = tt;
    }

  -- ---- their items

  -- those of a row without null
  abbrev pub row_items : Bool → Option ℕ → Column → Column → Layout → List Value
  row_items b o s t y = if b then list_items (at_option o (list_between s t y)) else []

  ends_items : (b : Bool) (i j : ℕ) (s t : Column) (y : Layout)
      → value_list (run (array_item y) (nat_of (end_of_row index n s j (ends_place b i)))
      (nat_of (end_of_row index n t j (ends_place b i))
      - nat_of (end_of_row index n s j (ends_place b i))))
      ≡ row_items b (list_place index (j * n + i)) s t y
  ends_items false i j s t y = refl
  ends_items true i j s t y = there (list_place index (j * n + i))
    where
      there : (o : Option ℕ)
          → value_list (run (array_item y) (nat_of (end_at s o))
          (nat_of (end_at t o) - nat_of (end_at s o)))
          ≡ list_items (at_option o (list_between s t y))
      there None = refl
      there (Some p) = refl

  pub items-end : (s t : Column) (y : Layout) (i j : ℕ) → i < n → j < k
      → items_at (ends_in_rows index rows k s) (ends_in_rows index rows k t) y (i * k + j)
      ≡ row_items (is_whole index n k i) (list_place index (j * n + i)) s t y
  items-end s t y i j p q =
      ap₂ (λ a b. value_list (run (array_item y) (nat_of a) (nat_of b - nat_of a)))
      (at-end s i j p q) (at-end t i j p q)
      ∙ ends_items (is_whole index n k i) i j s t y
