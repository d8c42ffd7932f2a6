-- Lists by offsets that begin at 0.
use Rattle.std.proofs.Common.{◌≡◌, ◌≢◌, ℕ, zero, suc, ◌+◌, ◌-◌, ◌<◌, ◌≤◌, Bool, true, false}
use Rattle.std.proofs.Common.{refl, ap, ap₂, arith, sym, subst, ◌∙◌, drop}
use Rattle.std.proofs.Common.{length-take, length-drop, get_or-take, get_or-drop}
use Rattle.std.specs.Prelude.{length, get_or, slice_range, nat_lt, ℤ, pos, negsuc, ◌≤ℤ◌}
use Rattle.std.proofs.lemmas.Int.{ints}
use Rattle.std.proofs.lemmas.List.FromFn.{fill_by_all}
use Rattle.awk_types.specs.DataType.{var}
use Rattle.awk_types.specs.Value.{Value, Values, list, null, no_values, value_list}
use Rattle.awk_lanes.specs.Column.{Column}
use Rattle.awk_lanes.specs.Counted.{before, offsets_by}
use Rattle.awk_lanes.specs.Numbers.{nat_of, element}
use Rattle.awk_lanes.specs.Places.{size_of, at, place_at, IsSpan, IsOffsets}
use Rattle.awk_lanes.specs.declared.kind.Kind.TheVariants.{I64}
use Rattle.awk_lanes.proofs.CountedLanes.{before-room}
use Rattle.awk_lanes.proofs.PlaceLaws.{pos-nat_of}
use Rattle.awk_layout.specs.Item.{run}
use Rattle.awk_layout.specs.Layout.{Layout, offset_lists}
use Rattle.awk_layout.specs.Typing.{array_type, array_items}
use Rattle.awk_layout.specs.Valid.{len, IsValid}
use Rattle.awk_layout.proofs.ArrayItems.{length-array_items, get_or-array_items}
use Rattle.awk_layout.proofs.Runs.{length-run, get-run}
use Rattle.awk_gather.specs.Arrays.{array_item}
use Rattle.awk_columns.specs.Lists.{Listed, length_of}
use Rattle.awk_list_rows.specs.InRow.{HasLists, AreEnds, HoldsItems}
use Rattle.awk_list_rows.proofs.WholeLaws.{span-up}
use Rattle.awk_columns.proofs.ArrayLaws.{item-offset_lists}

-- ---- offsets that begin at 0 are places

pos-within : (n a b : ℕ) (c : Bool) → nat_lt a b ≡ c → IsSpan n (pos a) (pos b) → a ≤ n → b ≤ n
pos-within n a b true e h l =
    let q : a < b = grind (arith, e) in
    let d : pos a ≢ pos b = λ f. let g : a ≡ b = ap nat_of f in omega (arith, g, q) in
    omega (arith, ints, (h d).2)
pos-within n a b false e h l = let q : b ≤ a = grind (arith, e) in omega (arith, q, l)

-- a span that begins at a place of n items ends at most behind them
span-within : (n : ℕ) (a b : ℤ) → IsSpan n a b → pos 0 ≤ℤ a → nat_of a ≤ n → nat_of b ≤ n
span-within n (pos a) (pos b) h p l = pos-within n a b (nat_lt a b) refl h l
span-within n (pos a) (negsuc b) h p l = omega arith
span-within n (negsuc a) b h p l = absurd (omega (arith, ints, p))

module _ (o : Column) (n : ℕ) (v : IsOffsets o n) (z : at o 0 ≡ pos 0) where
  pub offset-place : (i : ℕ) → i < size_of o → (pos 0 ≤ℤ at o i) × (place_at o i ≤ n)
  offset-place zero l = (
    subst (λ a. pos 0 ≤ℤ a) (sym z) (omega (arith, ints)),
    subst (λ a. nat_of a ≤ n) (sym z) (omega arith),
  )
  offset-place (suc i) l =
      let e : i + 1 ≡ suc i = omega arith in
      let p : (pos 0 ≤ℤ at o i) × (place_at o i ≤ n) = offset-place i (omega (arith, l)) in
      let s : IsSpan n (at o i) (at o (i + 1)) = v.ordered i (omega (arith, l)) in
      subst (λ j. (pos 0 ≤ℤ at o j) × (place_at o j ≤ n)) e (
        (span-up n (at o i) (at o (i + 1)) s p.0).0,
        span-within n (at o i) (at o (i + 1)) s p.0 p.1,
      )

  pub offset-next : (i : ℕ) → i + 1 < size_of o → place_at o i ≤ place_at o (i + 1)
  offset-next i l =
      (span-up n (at o i) (at o (i + 1)) (v.ordered i l) (offset-place i (omega (arith, l))).0).1

-- ---- lists by them

abbrev values-in : Value → Values
values-in (list vs) = vs
values-in v = no_values

module _ (o : Column) (c : Layout) (v : IsValid (offset_lists o c)) (z : at o 0 ≡ pos 0)
    (l : Listed) (h : HasLists (offset_lists o c) l) where
  same-run : (i : ℕ) → i < size_of o - 1
      → run (array_item c) (place_at o i) (place_at o (i + 1) - place_at o i)
      ≡ run (array_item l.content) (place_at l.starts i) (length_of l i)
  same-run i q = ap values-in (sym (item-offset_lists o c i) ∙ h i q)

  own-length : (i : ℕ) → i < size_of o - 1 → place_at o (i + 1) - place_at o i ≡ length_of l i
  own-length i q =
      sym (length-run (array_item c) (place_at o i) (place_at o (i + 1) - place_at o i))
      ∙ ap (λ vs. length (value_list vs)) (same-run i q)
      ∙ length-run (array_item l.content) (place_at l.starts i) (length_of l i)

  own-item : (i k : ℕ) → i < size_of o - 1 → k < length_of l i
      → array_item c (place_at o i + k) ≡ array_item l.content (place_at l.starts i + k)
  own-item i k q r =
      sym (get-run (array_item c) (place_at o i) (place_at o (i + 1) - place_at o i) k
      (omega (arith, r, own-length i q)))
      ∙ ap (λ vs. get_or (value_list vs) k null) (same-run i q)
      ∙ get-run (array_item l.content) (place_at l.starts i) (length_of l i) k r

  own-before : (i : ℕ) → i < size_of o → place_at o i ≡ before (length_of l) i
  own-before zero q = ap nat_of z
  own-before (suc i) q =
      let e : i + 1 ≡ suc i = omega arith in
      let b : place_at o i ≡ before (length_of l) i = own-before i (omega (arith, q)) in
      let s : place_at o (i + 1) - place_at o i ≡ length_of l i =
      own-length i (omega (arith, q)) in
      let t : place_at o i ≤ place_at o (i + 1) =
      offset-next o (len c) v.1 z i (omega (arith, q)) in
      sym (ap (place_at o) e) ∙ omega (arith, b, s, t)

  pub own_ends : o.kind ≡ I64 → o ≡ offsets_by (length_of l) (size_of o - 1)
  own_ends k =
      let w : size_of o ≡ size_of o - 1 + 1 = omega (arith, v.1.some) in
      let p : (i : ℕ) → i < size_of o - 1 + 1
      → get_or o.items i (pos 0) ≡ pos (before (length_of l) i) =
      λ i q.
      ap (λ j. element j (get_or o.items i (pos 0))) (sym k)
      ∙ pos-nat_of (at o i) (offset-place o (len c) v.1 z i (omega (arith, q, w))).0
      ∙ ap (λ j. pos j) (own-before i (omega (arith, q, w))) in
      ap₂ (λ j zs. record { kind = j; items = zs }) k
      (fill_by_all (λ i. pos (before (length_of l) i)) o.items (size_of o - 1 + 1) (pos 0) w p)

  module _ (y : Layout)
      (e : array_items y ≡ slice_range (array_items c) 0 (place_at o (size_of o - 1))) where
    own-most : place_at o (size_of o - 1) ≤ len c
    own-most = (offset-place o (len c) v.1 z (size_of o - 1) (omega (arith, v.1.some))).1

    own-len : len y ≡ place_at o (size_of o - 1)
    own-len =
        sym (length-array_items y) ∙ ap length e
        ∙ omega (
          arith,
          length-take (place_at o (size_of o - 1) - 0) (drop 0 (array_items c)),
          length-drop 0 (array_items c),
          length-array_items c,
          own-most,
        )

    pub own_size : len y ≡ before (length_of l) (size_of o - 1)
    own_size = own-len ∙ own-before (size_of o - 1) (omega (arith, v.1.some))

    pub own_items : (i k : ℕ) → i < size_of o - 1 → k < length_of l i
        → array_item y (before (length_of l) i + k)
        ≡ array_item l.content (place_at l.starts i + k)
    own_items i k q r =
        let n : ℕ = size_of o - 1 in
        let total : place_at o n ≡ before (length_of l) n =
        own-before n (omega (arith, v.1.some)) in
        let a : place_at o i ≡ before (length_of l) i = own-before i (omega (arith, q)) in
        let b : before (length_of l) i + k < place_at o n =
        omega (arith, total, before-room (length_of l) n i k q r) in
        sym (get_or-array_items y (before (length_of l) i + k) (omega (arith, b, own-len)))
        ∙ ap (λ vs. get_or vs (before (length_of l) i + k) null) e
        ∙ get_or-take (place_at o n - 0) (drop 0 (array_items c)) (before (length_of l) i + k)
        null (omega (arith, b))
        ∙ get_or-drop 0 (array_items c) (before (length_of l) i + k) null
        ∙ get_or-array_items c (0 + (before (length_of l) i + k)) (omega (arith, b, own-most))
        ∙ ap (array_item c) (omega (arith, a))
        ∙ own-item i k q r

-- ---- of a column

pub ends_are_own : (x : Layout) (o r : Column) (y : Layout) → offset_lists o y ≡ x → IsValid x
    → o.kind ≡ I64 → at o 0 ≡ pos 0 → r ≡ o → AreEnds x r
ends_are_own x o r y e v k z f l h =
    f
    ∙ own_ends o y (subst IsValid (sym e) v) z l (subst (λ w. HasLists w l) (sym e) h) k
    ∙ ap (λ w. offsets_by (length_of l) (len w)) e

own-holds : (o : Column) (y z : Layout) → IsValid (offset_lists o y) → at o 0 ≡ pos 0
    → array_type z ≡ array_type y
    → array_items z ≡ slice_range (array_items y) 0 (place_at o (size_of o - 1))
    → HoldsItems (offset_lists o y) z
own-holds o y z v f t i = record {
  typ = ap (λ a. var a) (sym t);
  size = λ l h. own_size o y v f l h z i;
  items = λ l h. own_items o y v f l h z i;
}

pub items_are_own : (x : Layout) (o : Column) (y z : Layout) → offset_lists o y ≡ x → IsValid x
    → at o 0 ≡ pos 0 → array_type z ≡ array_type y
    → array_items z ≡ slice_range (array_items y) 0 (place_at o (size_of o - 1)) → HoldsItems x z
items_are_own x o y z e v f t i =
    subst (λ w. HoldsItems w z) e (own-holds o y z (subst IsValid (sym e) v) f t i)

-- what is an array's offsets
pub own_offsets : (x : Layout) (o : Column) (y : Layout) → offset_lists o y ≡ x → IsValid x
    → IsValid (offset_lists o y)
own_offsets x o y e v = subst IsValid (sym e) v
