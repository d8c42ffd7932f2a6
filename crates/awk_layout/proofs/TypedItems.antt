-- The items of a valid layout are of its type.
use Rattle.std.proofs.Common.{◌≡◌, ℕ, zero, suc, ◌+◌, ◌-◌, ◌*◌, ◌<◌, ◌≤◌, ◌==◌, Bool, true, false}
use Rattle.std.proofs.Common.{List, Option, Some, None, if◌then◌else◌, refl, subst, sym, ◌∙◌, arith}
use Rattle.std.proofs.Common.{ℤ, get_or, map}
use Rattle.std.specs.Prelude.{pos}
use Rattle.std.specs.List.{range_with_len, AllByRecursion}
use Rattle.std.specs.Ordering.{int_eq}
use Rattle.awk_types.specs.DataType.{Name, DataType, leaf, var, reg, opt, row_type}
use Rattle.awk_types.specs.Has.{Has, HasRow, HasAlternative}
use Rattle.awk_types.specs.Simple.{simple_value}
use Rattle.awk_types.specs.Value.{Value, row, value_list}
use Rattle.awk_types.proofs.SimpleLaws.{has_simple, has_option}
use Rattle.awk_lanes.specs.declared.kind.Kind.{Kind}
use Rattle.awk_lanes.specs.declared.kind.Kind.TheVariants.{Bool as Truths, I8, I16, I32, I64, U8}
use Rattle.awk_lanes.specs.declared.kind.Kind.TheVariants.{U16, U32, U64}
use Rattle.awk_lanes.specs.Column.{Column}
use Rattle.awk_lanes.specs.Numbers.{element}
use Rattle.awk_lanes.specs.Places.{at, place_at, option_place_at}
use Rattle.awk_lanes.specs.Ranges.{IsNumber, AreNumbers}
use Rattle.awk_layout.specs.Layout.{Layout, Layouts, empty, flat, regular, lists, offset_lists}
use Rattle.awk_layout.specs.Layout.{rows, indexed, optional, byte_masked, bit_masked, unmasked}
use Rattle.awk_layout.specs.Layout.{union, no_layouts, layout}
use Rattle.awk_layout.specs.Valid.{len, len_of, IsValid, AllValid, AllReach}
use Rattle.awk_layout.specs.Numbered.{IsNumbered, AreNumbered}
use Rattle.awk_layout.specs.Item.{item, items_across, item_of, leaf_value, run, byte_shows}
use Rattle.awk_layout.specs.Item.{bit_shows}
use Rattle.awk_layout.specs.Place.{span, missing, through, case_of, value_of, span_between}
use Rattle.awk_layout.specs.Place.{through_option, IsWithin}
use Rattle.awk_layout.proofs.Runs.{length-run}
use Rattle.awk_layout.specs.Laws.{item-case_of, case_of-within, AllReach-le}
use Rattle.awk_layout.specs.Kinds.{primitive_of}
use Rattle.awk_layout.specs.Typing.{layout_type, layout_types, array_type, array_items}

-- a number in the range of its kind
leaf_has : (c : Column) (i : ℕ) → AreNumbers c
    → Has (leaf (primitive_of c.kind)) (leaf_value c.kind (at c i))
leaf_has c i h = of c.kind (get_or c.items i (pos 0)) (h i)
  where
    of : (k : Kind) (z : ℤ) → IsNumber k z
        → Has (leaf (primitive_of k)) (leaf_value k (element k z))
    of Truths z h = tt
    of I8 z h = h
    of I16 z h = h
    of I32 z h = h
    of I64 z h = h
    of U8 z h = h
    of U16 z h = h
    of U32 z h = h
    of U64 z h = h

run_has : (t : DataType) (f : ℕ → Value) (n : ℕ) → ((j : ℕ) → j < n → Has t (f j)) → (first m : ℕ)
    → first + m ≤ n → AllByRecursion (Has t) (value_list (run f first m))
run_has t f n each first zero h = tt
run_has t f n each first (suc m) h =
    (each first (omega arith), run_has t f n each (suc first) m (omega arith))

-- a list of items
span_has : (h : ℕ) (t : DataType) (y : Layout) (lo hi : ℕ)
    → ((j : ℕ) → j < len y → Has t (item y j)) → IsWithin h (span y lo hi)
    → AllByRecursion (Has t) (value_list (run (item y) lo (hi - lo)))
span_has h t y lo hi each w = run_has t (item y) (len y) each lo (hi - lo) (omega (arith, w.0, w.1))

between_has : (h : ℕ) (t : DataType) (y : Layout) (a b : ℤ) (e : Bool) → int_eq a b ≡ e
    → ((j : ℕ) → j < len y → Has t (item y j)) → IsWithin h (span_between y a b)
    → Has (var t) (value_of (span_between y a b))
between_has h t y a b true e each w = rw e tt
between_has h t y a b false e each w = rw e (span_has h t y _ _ each (rw e at w))

block_has : (h size i : ℕ) (t : DataType) (y : Layout) (e : Bool) → (size == 0) ≡ e
    → ((j : ℕ) → j < len y → Has t (item y j))
    → IsWithin h (if size == 0 then span y 0 0 else span y (i * size) (i * size + size))
    → Has (reg size t) (value_of (if size == 0 then span y 0 0 else span y (i * size)
    (i * size + size)))
block_has h size i t y true e each w = let z : size ≡ 0 = grind arith in rw e (sym z, tt)
block_has h size i t y false e each w =
    let d : i * size + size - i * size ≡ size = omega arith in
    rw e (
      length-run (item y) (i * size) (i * size + size - i * size) ∙ d,
      span_has h t y _ _ each
          (rw e at w),
    )

option_has : (h : ℕ) (t : DataType) (y : Layout) (o : Option ℕ)
    → ((j : ℕ) → j < len y → Has t (item y j)) → IsWithin h (through_option y o)
    → Has (opt t) (value_of (through_option y o))
option_has h t y None each w = tt
option_has h t y (Some k) each w = has_option t (item y k) (each k w.0)

mask_has : (h i : ℕ) (t : DataType) (y : Layout) (b : Bool)
    → ((j : ℕ) → j < len y → Has t (item y j)) → IsWithin h (if b then through y i else missing)
    → Has (opt t) (value_of (if b then through y i else missing))
mask_has h i t y true each w = has_option t (item y i) (each i w.0)
mask_has h i t y false each w = tt

row_has : (names : Option (List Name)) (xs : Layouts) (i : ℕ)
    → HasRow (layout_types xs) (value_list (items_across xs i))
    → Has (row_type names (layout_types xs)) (row (items_across xs i))
row_has None xs i h = h
row_has (Some names) xs i h = h

by_case : (x : Layout) (i : ℕ) → Has (layout_type x) (value_of (case_of x i))
    → Has (layout_type x) (item x i)
by_case x i h = subst (λ v. Has (layout_type x) v) (sym (item-case_of x i)) h

mutual
  pub item_has : (x : Layout) (i : ℕ) → IsValid x → IsNumbered x → i < len x
      → Has (layout_type x) (item x i)
  item_has empty i v w p = absurd (omega arith)
  item_has (flat c) i v w p = leaf_has c i w
  item_has (regular size n x) i v w p =
      by_case (regular size n x) i (block_has _ size i (layout_type x) x (size == 0) refl
      (λ j q. item_has x j v.2 w q) (case_of-within (regular size n x) i v p))
  item_has (lists s t x) i v w p =
      by_case (lists s t x) i (between_has _ (layout_type x) x (at s i) (at t i) _ refl
      (λ j q. item_has x j v.2 w q) (case_of-within (lists s t x) i v p))
  item_has (offset_lists o x) i v w p =
      by_case (offset_lists o x) i (between_has _ (layout_type x) x (at o i) (at o (i + 1)) _ refl
      (λ j q. item_has x j v.2 w q) (case_of-within (offset_lists o x) i v p))
  item_has (rows names n xs) i v w p =
      row_has names xs i (items_have xs i v.3 w (AllReach-le (i + 1) n xs v.2 (omega arith)))
  item_has (indexed j x) i v w p = item_has x (place_at j i) v.2 w ((v.1.places i p).1)
  item_has (optional j x) i v w p =
      by_case (optional j x) i (option_has _ (layout_type x) x (option_place_at j i)
      (λ k q. item_has x k v.2 w q) (case_of-within (optional j x) i v p))
  item_has (byte_masked m b x) i v w p =
      by_case (byte_masked m b x) i (mask_has _ i (layout_type x) x (byte_shows m b i)
      (λ k q. item_has x k v.2 w q) (case_of-within (byte_masked m b x) i v p))
  item_has (bit_masked m b x) i v w p =
      by_case (bit_masked m b x) i (mask_has _ i (layout_type x) x (bit_shows m b i)
      (λ k q. item_has x k v.2 w q) (case_of-within (bit_masked m b x) i v p))
  item_has (unmasked n x) i v w p =
      has_option (layout_type x) (item x i) (item_has x i v.2 w (omega (arith, v.1)))
  item_has (union t j xs) i v w p =
      alternative_has xs (place_at t i) (place_at j i) v.2 w ((v.1.places i p).1)

  pub items_have : (xs : Layouts) (i : ℕ) → AllValid xs → AreNumbered xs → AllReach (i + 1) xs
      → HasRow (layout_types xs) (value_list (items_across xs i))
  items_have no_layouts i v w r = tt
  items_have (layout x xs) i v w r =
      (item_has x i v.0 w.0 (omega (arith, r.0)), items_have xs i v.1 w.1 r.1)

  pub alternative_has : (xs : Layouts) (k i : ℕ) → AllValid xs → AreNumbered xs → i < len_of xs k
      → HasAlternative (layout_types xs) k (item_of xs k i)
  alternative_has no_layouts k i v w p = absurd (omega arith)
  alternative_has (layout x xs) zero i v w p = item_has x i v.0 w.0 p
  alternative_has (layout x xs) (suc k) i v w p = alternative_has xs k i v.1 w.1 p

-- so are those of an array
each_has : (x : Layout) → IsValid x → IsNumbered x → (first n : ℕ) → first + n ≤ len x
    → AllByRecursion (Has (array_type x)) (map (simple_value (layout_type x))
    (map (item x) (range_with_len first n)))
each_has x v w first zero h = tt
each_has x v w first (suc n) h = (
  has_simple (layout_type x) (item x first) (item_has x first v w (omega arith)),
  each_has x v w
      (first + 1) n (omega arith),
)

pub array_items_have : (x : Layout) → IsValid x → IsNumbered x
    → AllByRecursion (Has (array_type x)) (array_items x)
array_items_have x v w = each_has x v w 0 (len x) (omega arith)
