-- The items of an array that are not null, and runs of them.
use Rattle.std.specs.Prelude.{◌≡◌, ℕ, zero, suc, ◌+◌, ◌<◌, ◌≤◌, ◌^◌, refl, true, false, List, []}
use Rattle.std.specs.Prelude.{◌∷◌, length, take, get_or, cond, pos}
use Rattle.std.specs.List.{AllByRecursion}
use Rattle.std.proofs.Common.{arith, ap, sym, ◌∙◌, subst}
use Rattle.std.proofs.lemmas.List.Filters.{length-filter_more}
use Rattle.awk_types.specs.DataType.{DataType}
use Rattle.awk_types.specs.Has.{Has}
use Rattle.awk_types.specs.Simple.{present, is_option}
use Rattle.awk_types.specs.Value.{Value, null, int, truth, list, row, alt}
use Rattle.awk_types.proofs.SimpleLaws.{null_in_option, present_stays}
use Rattle.awk_lanes.specs.Column.{Column}
use Rattle.awk_lanes.specs.Places.{size_of, at}
use Rattle.awk_lanes.specs.declared.kind.Kind.TheVariants.{I64}
use Rattle.awk_layout.specs.Layout.{Layout, flat}
use Rattle.awk_layout.specs.Laws.{len-fits}
use Rattle.awk_layout.specs.Typing.{array_type, array_items}
use Rattle.awk_layout.specs.Valid.{len, IsValid}
use Rattle.awk_layout.proofs.ArrayItems.{length-array_items, get_or-array_items}
use Rattle.awk_columns.specs.Columns.{is_present, present_values}
use Rattle.awk_counts.specs.Counted.{first_of, present_at, counted_lane, numbers_at}
use Rattle.awk_lanes.specs.Made.{lane_of}
use Rattle.awk_counts.proofs.FirstPlaces.{length-first_of}
use Rattle.awk_open.specs.Opened.{IsOpened}
use Rattle.awk_open.specs.declared.opening.Opened.TheVariants.{Option as Optional}
use Rattle.awk_open.proofs.ItemShapes.{present_one}
use Rattle.awk_lanes.proofs.MadeLanes.{size-lane_of, at-lane_of}
use Rattle.awk_columns.proofs.MovedNumbers.{named_reached}
use Rattle.awk_open.specs.Opens.{OpensOption}
use Rattle.awk_open.proofs.OrderedOptions.{option_in_order}
use Rattle.awk_nulls.specs.Lanes.{ArePresent, HasPresent}
use Rattle.awk_counts.specs.Present.{present_lane}
use Rattle.awk_nulls.proofs.NullLaws.{inner_not_option}
use Rattle.awk_option_nodes.proofs.OptionNodes.{HasItems, size-counts}
use Rattle.awk_list_ends.specs.Kept.{KeepsItems}

-- ---- values that are present

has_present : (t : DataType) (v : Value) → is_option t ≡ false → Has t v → is_present v ≡ true
has_present t null n h = let e = null_in_option t h in cc
has_present t (int z) n h = refl
has_present t (truth b) n h = refl
has_present t (list vs) n h = refl
has_present t (row vs) n h = refl
has_present t (alt k v) n h = refl

present_first : (v : Value) (vs : List Value) → is_present v ≡ true
    → present_values (v ∷ vs) ≡ v ∷ present_values vs
present_first null vs h = cc
present_first (int z) vs h = refl
present_first (truth b) vs h = refl
present_first (list ws) vs h = refl
present_first (row ws) vs h = refl
present_first (alt k v) vs h = refl

all_present : (t : DataType) → is_option t ≡ false → (vs : List Value) → AllByRecursion (Has t) vs
    → present_values vs ≡ vs
all_present t n [] h = refl
all_present t n (v ∷ vs) h = present_first v vs (has_present t v n h.0)
    ∙ ap (λ ws. v ∷ ws) (all_present t n vs h.1)

all_counted : (t : DataType) → is_option t ≡ false → (vs : List Value) → AllByRecursion (Has t) vs
    → (i : ℕ) → i ≤ length vs → length (present_values (take i vs)) ≡ i
all_counted t n vs h zero p = refl
all_counted t n [] h (suc i) p = absurd (omega (arith, p))
all_counted t n (v ∷ vs) h (suc i) p =
    ap length (present_first v (take i vs) (has_present t v n h.0))
    ∙ ap suc (all_counted t n vs h.1 i (omega (arith, p)))

-- where the type is no option
pub whole_present : (x : Layout) → IsValid x → is_option (array_type x) ≡ false → HasItems x
    → ArePresent x (lane_of I64 (len x + 1) pos) x
whole_present x v n h = record {
  typ = sym (present_stays (array_type x) n);
  valid = v;
  column = sym (all_present (array_type x) n (array_items x) h);
  kind = tt;
  size = size-lane_of I64 (len x + 1) pos;
  counts = λ i p.
      let c : length (present_values (take i (array_items x))) ≡ i =
      all_counted (array_type x) n (array_items x) h i
      (omega (arith, p, length-array_items x)) in
      at-lane_of I64 (len x + 1) pos i (omega (arith, p)) ∙ ap pos (sym c);
}

-- ---- options

count_present : (j : Column) (y x : Layout) → IsOpened x (Optional j y)
    → is_option (array_type y) ≡ false → (i : ℕ) → i ≤ len x
    → length (first_of (present_at j) i) ≡ length (present_values (take i (array_items x)))
count_present j y x op n zero p = refl
count_present j y x op n (suc i) p =
    let q : i < len x = omega (arith, p) in
    let e : i + 1 ≡ suc i = omega arith in
    let before = count_present j y x op n i (omega (arith, p)) in
    let here : length (present_at j i) ≡ cond (is_present (get_or (array_items x) i null)) 1 0 =
    present_one y (at j i) op.valid.2 n (op.valid.1.below i (omega (arith, q, op.size)))
    ∙ ap (λ v. cond (is_present v) 1 0) (sym (get_or-array_items x i q ∙ op.items i q)) in
    let a = length-first_of (present_at j) i in
    let b = length-filter_more is_present (array_items x) i null
    (omega (arith, q, length-array_items x)) in
    subst (λ k. length (first_of (present_at j) k)
    ≡ length (present_values (take k (array_items x)))) e (omega (arith, before, here, a, b))

-- what holds the present items alone, beside the index of what an option opens to
present_items : (j : Column) (y x z : Layout) → IsOpened x (Optional j y) → IsValid z
    → array_type z ≡ array_type y → array_items z ≡ present_values (array_items x)
    → ArePresent x (present_lane j) z
present_items j y x z op v t e = record {
  typ = t ∙ sym (ap present op.kind);
  valid = v;
  column = e;
  kind = tt;
  size = size-counts j ∙ ap (λ n. n + 1) op.size;
  counts = λ i p.
      at-lane_of I64 (size_of j + 1) (λ k. pos (length (first_of (present_at j) k))) i
      (omega (arith, p, op.size))
      ∙ ap pos (count_present j y x op (inner_not_option x y op.kind) i p);
}

option_opens : (j : Column) (y x : Layout) → OpensOption j y x → IsOpened x (Optional j y)
option_opens j y x op = record {
  kind = op.typ;
  size = op.size;
  valid = (op.fits, op.index, op.valid);
  lengths = tt;
  items = op.items;
}

-- an option in order
pub option_present : (j : Column) (y x : Layout) → OpensOption j y x → HasPresent x j y
option_present j y x op = record {
  kind = op.index.kind;
  present = present_items j y x y (option_opens j y x op) op.valid refl op.column;
}

-- numbers that were moved
pub moved_present : (j c : Column) (y x z : Layout) → IsOpened x (Optional j y) → y ≡ flat c
    → z ≡ flat (numbers_at c (first_of (present_at j) (size_of j))) → IsValid z
    → HasPresent x j z
moved_present j c y x z op ey ez v =
    let r = named_reached y z c (first_of (present_at j) (size_of j)) ey ez in
    let order = option_in_order x y z j (counted_lane j) op (inner_not_option x y op.kind) refl r in
    record {
      kind = op.valid.1.kind;
      present = present_items j y x z op v r.typ order.1;
    }

-- ---- those present as the items that a test keeps

pub keeps_present : (x : Layout) (c : Column) (z : Layout) → ArePresent x c z
    → KeepsItems is_present x c z
keeps_present x c z h = record {
  valid = h.valid;
  column = h.column;
  kind = h.kind;
  size = h.size;
  counts = h.counts;
}

-- ---- the index of an option

pub option_size : (x : Layout) (j : Column) (z : Layout) → HasPresent x j z → size_of j ≡ len x
option_size x j z h = omega (arith, size-counts j, h.present.size)

pub option_fits : (x : Layout) (j : Column) (z : Layout) → IsValid x → HasPresent x j z
    → size_of j < 2 ^ 63
option_fits x j z v h = omega (arith, option_size x j z h, len-fits x v)
