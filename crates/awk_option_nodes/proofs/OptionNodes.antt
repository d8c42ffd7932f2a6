-- An index over an array's items, with null where it is negative, and the same composed.
use Rattle.std.specs.Prelude.{◌≡◌, ℕ, zero, suc, ◌+◌, ◌<◌, ◌≤◌, refl, length, map, get_or}
use Rattle.std.specs.Prelude.{Option, Some, None, pos}
use Rattle.std.specs.List.{AllByRecursion}
use Rattle.std.proofs.Common.{arith, ap, sym, ◌∙◌}
use Rattle.std.proofs.lemmas.List.{get_or-map, ext_get_or}
use Rattle.awk_types.specs.DataType.{DataType, opt}
use Rattle.awk_types.specs.Has.{Has}
use Rattle.awk_types.specs.Simple.{simple, simple_value, option_of}
use Rattle.awk_types.specs.Value.{null, value_list}
use Rattle.awk_types.proofs.SimpleLaws.{simple_twice, simple_is_simple, value_stays, each_stays}
use Rattle.awk_types.proofs.SimpleLaws.{in_option_stays}
use Rattle.awk_lanes.specs.Column.{Column}
use Rattle.awk_lanes.specs.Places.{size_of, option_place_at}
use Rattle.awk_lanes.specs.declared.kind.Kind.TheVariants.{I64}
use Rattle.awk_lanes.proofs.MadeLanes.{size-lane_of}
use Rattle.awk_counts.specs.Counted.{first_of, present_at}
use Rattle.awk_counts.specs.Present.{present_lane}
use Rattle.awk_layout.specs.Layout.{Layout, optional}
use Rattle.awk_layout.specs.Item.{run, at_option}
use Rattle.awk_layout.specs.Typing.{layout_type, array_type, array_items}
use Rattle.awk_layout.specs.Valid.{len}
use Rattle.awk_layout.proofs.ArrayItems.{length-array_items, get_or-array_items}
use Rattle.awk_layout.proofs.Runs.{run-same}
use Rattle.awk_gather.specs.Arrays.{array_item}
use Rattle.awk_gather.specs.Peeled.{IsPickedOpt}
use Rattle.awk_gather.proofs.OptionItems.{item-optional}
use Rattle.awk_columns.proofs.ArrayLaws.{run_map}

-- an array whose items are of its type
abbrev pub HasItems : Layout → Type 0
HasItems y = AllByRecursion (Has (array_type y)) (array_items y)

-- simplifying changes nothing in an array's items
pub item_stays : (y : Layout) → HasItems y → (k : ℕ) → k < len y
    → simple_value (array_type y) (array_item y k) ≡ array_item y k
item_stays y h k p =
    let t : DataType = array_type y in
    let all : map (simple_value t) (array_items y) ≡ array_items y =
    each_stays t (simple_value t) (λ v i. value_stays t v (simple_is_simple (layout_type y)) i)
    (array_items y) h in
    ap (simple_value t) (sym (get_or-array_items y k p))
    ∙ sym (get_or-map (simple_value t) (array_items y) k null null
    (omega (arith, p, length-array_items y)))
    ∙ ap (λ vs. get_or vs k null) all
    ∙ get_or-array_items y k p

pub run_stays : (y : Layout) → HasItems y → (a n : ℕ) → a + n ≤ len y
    → map (simple_value (array_type y)) (value_list (run (array_item y) a n))
    ≡ value_list (run (array_item y) a n)
run_stays y h a n p =
    run_map (simple_value (array_type y)) (array_item y) a n
    ∙ ap value_list (run-same (λ k. simple_value (array_type y) (array_item y k)) (array_item y) a n
    (λ k _ q. item_stays y h k (omega (arith, q, p))))

-- the same of a list, which is within the array where it has items
pub span_stays : (y : Layout) → HasItems y → (a n : ℕ) → (0 < n → a + n ≤ len y)
    → map (simple_value (array_type y)) (value_list (run (array_item y) a n))
    ≡ value_list (run (array_item y) a n)
span_stays y h a zero p = refl
span_stays y h a (suc n) p = run_stays y h a (suc n) (p (omega arith))

-- ---- with null where an index is negative

pub optional_type-is : (j : Column) (y : Layout)
    → array_type (optional j y) ≡ simple (opt (array_type y))
optional_type-is j y = ap option_of (sym (simple_twice (layout_type y)))

pub option_stays : (y : Layout) → HasItems y → (o : Option ℕ) → ((k : ℕ) → o ≡ Some k → k < len y)
    → simple_value (opt (array_type y)) (at_option o (array_item y)) ≡ at_option o (array_item y)
option_stays y h None b = refl
option_stays y h (Some k) b =
    in_option_stays (simple_value (array_type y)) (array_item y k) (item_stays y h k (b k refl))

pub optional_item : (j : Column) (y : Layout) (i : ℕ) → HasItems y
    → ((k : ℕ) → option_place_at j i ≡ Some k → k < len y)
    → array_item (optional j y) i
    ≡ simple_value (opt (array_type y)) (at_option (option_place_at j i) (array_item y))
optional_item j y i h b = item-optional j y i ∙ sym (option_stays y h (option_place_at j i) b)

-- ---- items that are picked, and null elsewhere, are those of an index over the array

pub picked_item : (y r : Layout) (p : Column) → IsPickedOpt y p r → (i : ℕ) → i < size_of p
    → array_item r i ≡ array_item (optional p y) i
picked_item y r p h i q = h.items i q ∙ sym (item-optional p y i)

pub picked_items : (y r : Layout) (p : Column) → IsPickedOpt y p r
    → array_items r ≡ array_items (optional p y)
picked_items y r p h =
    let n : length (array_items r) ≡ size_of p = length-array_items r ∙ h.size in
    ext_get_or null (array_items r) (array_items (optional p y))
    (n ∙ sym (length-array_items (optional p y)))
    (λ i q.
    let within : i < size_of p = omega (arith, q, n) in
    get_or-array_items r i (omega (arith, within, h.size))
    ∙ picked_item y r p h i within
    ∙ sym (get_or-array_items (optional p y) i within))

-- one count more than places
pub size-counts : (j : Column) → size_of (present_lane j) ≡ size_of j + 1
size-counts j = size-lane_of I64 (size_of j + 1) (λ i. pos (length (first_of (present_at j) i)))
