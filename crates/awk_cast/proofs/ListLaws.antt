-- Lists joined, under what is made of their items.
use Rattle.std.proofs.Common.{◌≡◌, ℕ, ◌<◌, ◌≤◌, ◌||◌, true, false, length, ap}
use Rattle.std.proofs.Common.{sym, ◌∙◌, arith}
use Rattle.std.specs.Prelude.{nat_lt, Some}
use Rattle.std.specs.List.{range_with_len, flat_map}
use Rattle.awk_types.specs.ItemLimit.{item_limit}
use Rattle.awk_types.specs.Value.{list}
use Rattle.awk_types.specs.declared.fault.Fault.TheVariants.{Size}
use Rattle.awk_types.specs.declared.primitive.Primitive.{Primitive}
use Rattle.awk_lanes.specs.Column.{Column}
use Rattle.awk_lanes.specs.Places.{size_of}
use Rattle.awk_layout.specs.Layout.{Layout}
use Rattle.awk_layout.specs.Typing.{array_type, array_items}
use Rattle.awk_columns.specs.Columns.{joined_items}
use Rattle.awk_columns.specs.Joined.{JoinsLists, total}
use Rattle.awk_columns.specs.ListClass.{Class, list_type}
use Rattle.awk_open.specs.Opens.{OpensLists}
use Rattle.awk_columns.specs.Lists.{items_at}
use Rattle.awk_open.proofs.OpenedLists.{lists-inner}
use Rattle.awk_columns.proofs.ListNodes.{joined_even}
use Rattle.awk_cast.specs.Cast.{are_many, is_large, told}
use Rattle.awk_cast.specs.Casting.{is_large_array, array_overflows, told_of}
use Rattle.awk_cast.specs.Levels.{IsListed}
use Rattle.awk_cast.proofs.CoverLaws.{some_node-list}

-- the items of all lists
inner_items : (class : Class) (s t : Column) (y x : Layout) → OpensLists class s t y x
    → joined_items (array_items x) ≡ flat_map (items_at s t y) (range_with_len 0 (size_of s))
inner_items class s t y x o =
    lists-inner class s t y x o
    ∙ ap (λ n. flat_map (items_at s t y) (range_with_len 0 n)) (sym o.size)

pub listed : (class : Class) (s t o : Column) (y z x : Layout) → OpensLists class s t y x
    → total s t y ≤ item_limit → JoinsLists s t y o z → IsListed class o z x
listed class s t o y z x opens few j = record {
  typ = opens.typ ∙ ap (list_type class) (sym j.typ);
  offsets = rw (← opens.size) j.offsets;
  even = rw (← opens.size) (joined_even class s t y o z opens.lists.same_class j);
  column = j.column ∙ sym (inner_items class s t y x opens);
  few = not_over (length (array_items z)) (omega (arith, few, ap length j.column));
  items = λ i h. opens.items i h ∙ ap list (j.lists i (omega (arith, h, opens.size)));
}
  where
    not_over : (n : ℕ) → n ≤ item_limit → nat_lt item_limit n ≡ false
    not_over n h = grind arith

-- lists that hold too many items together
pub many_told : (p : Primitive) (class : Class) (s t : Column) (y x : Layout)
    → OpensLists class s t y x → item_limit < total s t y → told_of p x ≡ Some Size
many_told p class s t y x o many =
    let large : is_large_array x ≡ true =
    ap (λ u. is_large u (array_items x)) o.typ
    ∙ some_node-list are_many (λ vs. false) class (array_type y) (array_items x)
    ∙ ap (λ b. b || is_large (array_type y) (joined_items (array_items x)))
    (over (length (joined_items (array_items x)))
    (omega (arith, many, ap length (inner_items class s t y x o)))) in
    ap (λ b. told b (array_overflows p x)) large
  where
    over : (n : ℕ) → item_limit < n → nat_lt item_limit n ≡ true
    over n h = grind arith
