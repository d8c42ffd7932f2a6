-- Lists and options over contents that show the same.
use Rattle.std.proofs.Common.{◌≡◌, ℕ, ◌+◌, ◌-◌, ◌<◌, refl, ap, arith, sym, subst, ◌∙◌}
use Rattle.std.specs.Prelude.{map, get_or, ℤ, pos, negsuc, ◌<ℤ◌}
use Rattle.std.specs.List.{range_with_len}
use Rattle.std.proofs.lemmas.Int.{ints}
use Rattle.awk_base.proofs.Ranges.{map-in}
use Rattle.awk_types.specs.Simple.{option_of}
use Rattle.awk_types.specs.Value.{Value, null, list}
use Rattle.awk_lanes.specs.Column.{Column}
use Rattle.awk_lanes.specs.Places.{size_of, at, place_at, option_place, IsOptionKind}
use Rattle.awk_lanes.specs.Places.{IsOptionalIndex}
use Rattle.awk_lanes.proofs.PlaceLaws.{at-index, option-index}
use Rattle.awk_layout.specs.Item.{at_option}
use Rattle.awk_layout.specs.Layout.{Layout, optional}
use Rattle.awk_layout.specs.Valid.{len}
use Rattle.awk_layout.proofs.ArrayItems.{get_or-array_items}
use Rattle.awk_layout.proofs.Runs.{run-same}
use Rattle.awk_gather.specs.Arrays.{array_item}
use Rattle.awk_gather.proofs.OptionItems.{item-optional}
use Rattle.awk_columns.specs.Joined.{AreOffsets}
use Rattle.awk_columns.specs.ListClass.{Class, list_type}
use Rattle.awk_columns.specs.ListNode.{AreEven, list_layout}
use Rattle.awk_columns.proofs.ArrayLaws.{array_items-at}
use Rattle.awk_columns.proofs.ListNodes.{array_type-list, len-list, item-list}
use Rattle.awk_frames.specs.Framed.{IsAlike}
use Rattle.awk_frames.specs.Shape.{numbers_of}

alike-item : (x y : Layout) → IsAlike x y → (k : ℕ) → k < len x → array_item y k ≡ array_item x k
alike-item x y h k l =
    sym (get_or-array_items y k (omega (arith, l, h.size)))
    ∙ ap (λ vs. get_or vs k null) h.items ∙ get_or-array_items x k l

-- ---- lists

pub alike-lists : (c : Class) (o : Column) (x y : Layout) → AreOffsets o (size_of o - 1) (len x)
    → AreEven c o (size_of o - 1) → IsAlike x y
    → IsAlike (list_layout c (size_of o - 1) o x) (list_layout c (size_of o - 1) o y)
alike-lists c o x y a e h =
    let n = size_of o - 1 in
    let old = list_layout c n o x in
    let new = list_layout c n o y in
    let long : len old ≡ n = len-list c n o x a.size in
    let same : len new ≡ len old = len-list c n o y a.size ∙ sym long in
    record {
      size = same;
      typ = array_type-list c n o y ∙ ap (list_type c) h.typ ∙ sym (array_type-list c n o x);
      items = array_items-at new
          ∙ ap (λ k. map (array_item new) (range_with_len 0 k)) same
          ∙ map-in (array_item new) (array_item old) 0 (len old)
          (λ i l.
          let q : i < n = omega (arith, l, long) in
          item-list c n o y e i q
          ∙ ap list (run-same (array_item y) (array_item x) (place_at o i)
          (place_at o (i + 1) - place_at o i)
          (λ k f t. alike-item x y h k (omega (arith, t, a.within i q))))
          ∙ sym (item-list c n o x e i q))
          ∙ sym (array_items-at old);
    }

-- ---- options

-- a number of an index is that of its numbers
numbers-at : (j k : Column) → IsOptionKind j.kind → IsOptionKind k.kind → numbers_of k ≡ j
    → (i : ℕ) → at k i ≡ at j i
numbers-at j k s t e i =
    at-index k i (option-index k.kind t)
    ∙ ap (λ (c : Column). get_or c.items i (pos 0)) e
    ∙ sym (at-index j i (option-index j.kind s))

pub numbers_fit : (j k : Column) (n : ℕ) → IsOptionalIndex j n → IsOptionKind k.kind
    → numbers_of k ≡ j → IsOptionalIndex k n
numbers_fit j k n h t e = record {
  kind = t;
  below = λ i l.
      subst (λ z. z <ℤ pos n) (sym (numbers-at j k h.kind t e i))
      (h.below i (omega (arith, l, ap size_of e)));
}

place-alike : (z : ℤ) (n : ℕ) (f g : ℕ → Value) → z <ℤ pos n → ((k : ℕ) → k < n → f k ≡ g k)
    → at_option (option_place z) f ≡ at_option (option_place z) g
place-alike (pos k) n f g l h = h k (omega (arith, ints, l))
place-alike (negsuc k) n f g l h = refl

pub alike-options : (j k : Column) (x y : Layout) → IsOptionalIndex j (len x)
    → IsOptionKind k.kind → numbers_of k ≡ j → IsAlike x y
    → IsAlike (optional j x) (optional k y)
alike-options j k x y b t e h =
    let old = optional j x in
    let new = optional k y in
    let same : size_of k ≡ size_of j = ap size_of e in
    record {
      size = same;
      typ = ap option_of h.typ;
      items = array_items-at new
          ∙ ap (λ m. map (array_item new) (range_with_len 0 m)) same
          ∙ map-in (array_item new) (array_item old) 0 (size_of j)
          (λ i l.
          item-optional k y i
          ∙ ap (λ z. at_option (option_place z) (array_item y)) (numbers-at j k b.kind t e i)
          ∙ place-alike (at j i) (len x) (array_item y) (array_item x)
          (b.below i (omega (arith, l))) (alike-item x y h)
          ∙ sym (item-optional j x i))
          ∙ sym (array_items-at old);
    }
