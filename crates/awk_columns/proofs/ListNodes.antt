-- Lists of a class over offsets, as one node.
use Rattle.std.specs.Prelude.{◌≡◌, ℕ, zero, suc, ◌+◌, ◌-◌, ◌*◌, ◌<◌, ◌≤◌, refl}
use Rattle.std.specs.Prelude.{Some, None}
use Rattle.std.proofs.Common.{arith, ap, sym, ◌∙◌, add-one}
use Rattle.awk_types.specs.DataType.{DataType}
use Rattle.awk_types.specs.Value.{Value, list}
use Rattle.awk_types.specs.Simple.{simple, simple_value, in_list}
use Rattle.awk_lanes.specs.Column.{Column}
use Rattle.awk_lanes.specs.Places.{size_of, place_at}
use Rattle.awk_layout.specs.Layout.{Layout}
use Rattle.awk_layout.specs.Valid.{len, IsValid}
use Rattle.awk_layout.specs.Item.{item, run}
use Rattle.awk_layout.specs.Typing.{layout_type, array_type}
use Rattle.awk_columns.specs.ListClass.{Class, list_type}
use Rattle.awk_columns.specs.Lists.{AreOfClass}
use Rattle.awk_gather.specs.Arrays.{array_item}
use Rattle.awk_columns.specs.Joined.{AreOffsets, JoinsLists}
use Rattle.awk_columns.specs.ListNode.{AreEven, list_layout}
use Rattle.awk_columns.proofs.ArrayLaws.{run_in_list}

pub simple-list : (class : Class) (t : DataType)
    → simple (list_type class t) ≡ list_type class (simple t)
simple-list None t = refl
simple-list (Some n) t = refl

pub simple_value-list : (class : Class) (t : DataType) (v : Value)
    → simple_value (list_type class t) v ≡ in_list (simple_value t) v
simple_value-list None t v = refl
simple_value-list (Some n) t v = refl

pub array_type-list : (class : Class) (n : ℕ) (o : Column) (z : Layout)
    → array_type (list_layout class n o z) ≡ list_type class (array_type z)
array_type-list None n o z = refl
array_type-list (Some m) n o z = refl

pub len-list : (class : Class) (n : ℕ) (o : Column) (z : Layout) → size_of o ≡ n + 1
    → len (list_layout class n o z) ≡ n
len-list None n o z e = omega (arith, e)
len-list (Some m) n o z e = refl

pub valid-list : (class : Class) (n : ℕ) (o : Column) (z : Layout) → AreOffsets o n (len z)
    → AreEven class o n → IsValid z → IsValid (list_layout class n o z)
valid-list None n o z a e v = (a.fits, a.offsets, v)
valid-list (Some m) n o z a e v = (
  omega (arith, a.fits, a.size),
  omega (arith, e n (omega arith), a.last),
  v,
)

-- the list at a place of lists over a content
pub item-list : (class : Class) (n : ℕ) (o : Column) (z : Layout) → AreEven class o n → (i : ℕ)
    → i < n → array_item (list_layout class n o z) i ≡ list
    (run (array_item z) (place_at o i) (place_at o (i + 1) - place_at o i))
item-list None n o z e i p = run_in_list (simple_value (layout_type z)) (item z) (place_at o i)
    (place_at o (i + 1) - place_at o i)
item-list (Some m) n o z e i p =
    let start : place_at o i ≡ i * m = e i (omega (arith, p)) in
    let next : place_at o (i + 1) ≡ (i + 1) * m = e (i + 1) (omega (arith, p)) in
    let size : place_at o (i + 1) - place_at o i ≡ m =
    omega (arith, start, next, distributes i m) in
    run_in_list (simple_value (layout_type z)) (item z) (i * m) m
    ∙ sym (ap (λ a. list (run (array_item z) a (place_at o (i + 1) - place_at o i))) start
    ∙ ap (λ n. list (run (array_item z) (i * m) n)) size)
  where
    distributes : (i m : ℕ) → (i + 1) * m ≡ i * m + m
    distributes i m = grind arith

pub joined_even : (class : Class) (s t : Column) (y : Layout) (o : Column) (z : Layout)
    → AreOfClass class s t → JoinsLists s t y o z → AreEven class o (size_of s)
joined_even None s t y o z c j = tt
joined_even (Some m) s t y o z c j = go
  where
    go : (i : ℕ) → i ≤ size_of s → place_at o i ≡ i * m
    go zero p = omega (arith, j.offsets.first)
    go (suc i) p =
        let here : place_at o i ≡ i * m = go i (omega (arith, p)) in
        let grown : place_at o (i + 1) ≡ place_at o i + (place_at t i - place_at s i) =
        j.lengths i (omega (arith, p)) in
        let size : place_at t i - place_at s i ≡ m = c i (omega (arith, p)) in
        let next : suc i * m ≡ i * m + m = grind arith in
        let all : place_at o (i + 1) ≡ suc i * m = omega (arith, here, grown, size, next) in
        rw add-one at all
