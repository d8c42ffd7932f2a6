-- Columns without their nulls, and the index into all that is present.
use Rattle.std.proofs.Common.{◌≡◌, ℕ, zero, suc, ◌+◌, ◌<◌, ◌≤◌, List, [], ◌∷◌, ◌++◌, false, length}
use Rattle.std.proofs.Common.{map, take, get_or, Option, Some, None, refl, ap, ap₂, sym, subst, ◌∙◌}
use Rattle.std.proofs.Common.{arith, length-append, append_assoc}
use Rattle.std.specs.Prelude.{ℤ, pos, negsuc, ◌<ℤ◌, slice_get, ◌^◌}
use Rattle.std.specs.List.{AllByRecursion, range_with_len}
use Rattle.std.proofs.lemmas.Int.{ints}
use Rattle.std.proofs.lemmas.List.{length-map, map-append, get_or_append_left, get_or-append-add}
use Rattle.std.proofs.lemmas.List.FromFn.{fill_by_all, length-map-range_with_len}
use Rattle.std.proofs.lemmas.List.FromFn.{map-range_with_len_more}
use Rattle.std.proofs.lemmas.Simd.{map-map}
use Rattle.awk_base.proofs.Ranges.{map-same}
use Rattle.awk_base.proofs.Every.{all-append}
use Rattle.awk_types.specs.DataType.{DataType, opt}
use Rattle.awk_types.specs.Simple.{is_option, IsSimple}
use Rattle.awk_types.specs.Value.{Value, null}
use Rattle.awk_base.proofs.Lists.{take-get}
use Rattle.awk_lanes.specs.Column.{Column}
use Rattle.awk_lanes.specs.Making.{Making, with_item, with_items}
use Rattle.awk_lanes.specs.Places.{size_of, at, option_place, option_place_at, IsOptionalIndex}
use Rattle.awk_layout.specs.Item.{at_option}
use Rattle.awk_layout.specs.Layout.{Layout}
use Rattle.awk_layout.specs.Typing.{array_type, array_items}
use Rattle.awk_layout.specs.Valid.{len}
use Rattle.awk_gather.specs.Arrays.{array_item, pick}
use Rattle.awk_open.specs.Opens.{OpensOption}
use Rattle.awk_columns.proofs.ArrayLaws.{array_items-at}
use Rattle.awk_unify.specs.Carry.{Carry, carried}
use Rattle.awk_merge_rows.specs.Present.{places_on, moved, index_on, ArePresent, IsPresentPut}
use Rattle.awk_merge_sides.specs.Sides.{Side, side_items, merged_items, with_side, Carries, IsSide}
use Rattle.awk_merge_sides.specs.Sides.{AreSides}
use Rattle.awk_unify.proofs.AfterLaws.{carry_null}
use Rattle.awk_layout.proofs.OptionItems.{option_same}
use Rattle.awk_merge_sides.proofs.CarryLaws.{Carries-opt, Carries-present}
use Rattle.awk_merge_sides.proofs.SideLaws.{merged_items-side, merged_items-with_side}
use Rattle.awk_merge_sides.proofs.SideLaws.{AreSides-with_side, length-carried, get_or-carried}
use Rattle.awk_merge_sides.proofs.SideLaws.{total-with_side, total-within}

-- ---- an index into one list behind another

pub pick-append : (vs : List Value) (xs zs : List ℤ) → pick vs (xs ++ zs) ≡ pick vs xs ++ pick vs zs
pick-append vs xs zs = map-append (λ z. at_option (option_place z) (λ k. get_or vs k null)) xs zs

pub length-pick : (vs : List Value) (zs : List ℤ) → length (pick vs zs) ≡ length zs
length-pick vs zs = length-map zs (λ z. at_option (option_place z) (λ k. get_or vs k null))

abbrev AllBelow : ℕ → List ℤ → Type 0
AllBelow n zs = AllByRecursion (λ z. z <ℤ pos n) zs

pick_one : (vs ws : List Value) (z : ℤ) → z <ℤ pos (length vs)
    → at_option (option_place z) (λ k. get_or (vs ++ ws) k null)
    ≡ at_option (option_place z) (λ k. get_or vs k null)
pick_one vs ws (pos k) h = get_or_append_left vs ws null k (omega (arith, ints, h))
pick_one vs ws (negsuc k) h = refl

pick-more : (vs ws : List Value) (zs : List ℤ) → AllBelow (length vs) zs
    → pick (vs ++ ws) zs ≡ pick vs zs
pick-more vs ws [] h = refl
pick-more vs ws (z ∷ zs) h = ap₂ (λ x xs. x ∷ xs) (pick_one vs ws z h.0) (pick-more vs ws zs h.1)

below-more : (n m : ℕ) (zs : List ℤ) → n ≤ m → AllBelow n zs → AllBelow m zs
below-more n m [] l h = tt
below-more n m (z ∷ zs) l h = (less z h.0, below-more n m zs l h.1)
  where
    less : (z : ℤ) → z <ℤ pos n → z <ℤ pos m
    less z p = omega (arith, ints, p, l)

moved_item : (vs ws : List Value) (o : Option ℕ)
    → at_option (option_place (moved (length vs) o)) (λ k. get_or (vs ++ ws) k null)
    ≡ at_option o (λ k. get_or ws k null)
moved_item vs ws (Some k) = get_or-append-add vs ws k null
moved_item vs ws None = refl

pick-index : (vs ws : List Value) (j : Column) → pick (vs ++ ws) (index_on (length vs) j)
    ≡ map (λ i. at_option (option_place_at j i) (λ k. get_or ws k null))
    (range_with_len 0 (size_of j))
pick-index vs ws j =
    map-map (λ z. at_option (option_place z) (λ k. get_or (vs ++ ws) k null))
    (λ i. moved (length vs) (option_place_at j i)) (range_with_len 0 (size_of j))
    ∙ map-same (λ i. at_option (option_place (moved (length vs) (option_place_at j i)))
    (λ k. get_or (vs ++ ws) k null)) (λ i. at_option (option_place_at j i) (λ k. get_or ws k null))
    0 (size_of j) (λ i p q. moved_item vs ws (option_place_at j i))

pick-places : (vs ws : List Value) (n : ℕ) → length ws ≡ n
    → pick (vs ++ ws) (places_on (length vs) n) ≡ ws
pick-places vs ws n e =
    map-map (λ z. at_option (option_place z) (λ k. get_or (vs ++ ws) k null))
    (λ i. pos (length vs + i)) (range_with_len 0 n)
    ∙ map-same (λ i. get_or (vs ++ ws) (length vs + i) null) (λ i. get_or ws i null) 0 n
    (λ i p q. get_or-append-add vs ws i null)
    ∙ sym (fill_by_all (λ i. get_or ws i null) ws n null e (λ k l. refl))

-- the numbers of such an index
all_in_range : (P : ℤ → Type 0) (g : ℕ → ℤ) (a n : ℕ) → ((i : ℕ) → i < a + n → P (g i))
    → AllByRecursion P (map g (range_with_len a n))
all_in_range P g a zero h = tt
all_in_range P g a (suc n) h =
    (h a (omega arith), all_in_range P g (a + 1) n (λ i l. h i (omega (arith, l))))

below-index : (n m : ℕ) (j : Column) → IsOptionalIndex j m → AllBelow (n + m) (index_on n j)
below-index n m j h =
    all_in_range (λ z. z <ℤ pos (n + m)) (λ i. moved n (option_place_at j i)) 0 (size_of j)
    (λ i l. less (at j i) (h.below i (omega (arith, l))))
  where
    less : (z : ℤ) → z <ℤ pos m → moved n (option_place z) <ℤ pos (n + m)
    less (pos k) p = omega (arith, ints, p)
    less (negsuc k) p = omega (arith, ints)

below-places : (n m : ℕ) → AllBelow (n + m) (places_on n m)
below-places n m =
    all_in_range (λ z. z <ℤ pos (n + m)) (λ i. pos (n + i)) 0 m (λ i l. omega (arith, ints, l))

-- ---- the numbers of an index, put one by one

pub items_room : (f : ℕ → ℤ) (old m : Making) (i n : ℕ)
    → m ≡ with_items old (map f (range_with_len 0 i)) → i < n → length old.items + n ≤ old.room
    → length m.items < m.room
items_room f old m i n e l r =
    let size : length (old.items ++ map f (range_with_len 0 i)) ≡ length old.items + i =
    length-append old.items (map f (range_with_len 0 i))
    ∙ ap (λ k. length old.items + k) (length-map-range_with_len f 0 i) in
    let here : length m.items ≡ length old.items + i =
    ap (λ (m : Making). length m.items) e ∙ size in
    let room : m.room ≡ old.room = ap (λ (m : Making). m.room) e in
    omega (arith, here, room, l, r)

pub items_next : (f : ℕ → ℤ) (old m new : Making) (i : ℕ) (z : ℤ) → new ≡ with_item m z → z ≡ f i
    → m ≡ with_items old (map f (range_with_len 0 i))
    → new ≡ with_items old (map f (range_with_len 0 (i + 1)))
items_next f old m new i z e a h =
    e ∙ ap₂ with_item h a
    ∙ ap (λ zs. record { kind = old.kind; room = old.room; items = zs })
    (append_assoc old.items (map f (range_with_len 0 i)) (f i ∷ [])
    ∙ ap (λ zs. old.items ++ zs) (sym (map-range_with_len_more f 0 i i (omega arith))))

pub index_more : (j : Column) (n m : ℕ) → n ≤ m → IsOptionalIndex j n → IsOptionalIndex j m
index_more j n m l h = record {
  kind = h.kind;
  below = λ i p. less (at j i) (h.below i p);
}
  where
    less : (z : ℤ) → z <ℤ pos n → z <ℤ pos m
    less z q = omega (arith, ints, q, l)

-- where the columns with one more are counted, so many places fit
pub pushed_room : (before after : List Side) (total first : ℕ) (x : Layout) (f : Carry)
    → after ≡ with_side before x f → first ≡ length (merged_items before)
    → total ≡ length (merged_items after) → total < 2 ^ 63 → first + len x < 2 ^ 63
pushed_room before after total first x f a b t l =
    let size : length (merged_items after) ≡ length (merged_items before) + len x =
    ap (λ ss. length (merged_items ss)) a ∙ total-with_side before x f in
    omega (arith, size, b, t, l)

-- ---- one column more

pub all-left : {X : Type 0} (P : X → Type 0) (xs ys : List X) → AllByRecursion P (xs ++ ys)
    → AllByRecursion P xs
all-left P [] ys h = tt
all-left P (x ∷ xs) ys h = (h.0, all-left P xs ys h.1)

pub all-last : {X : Type 0} (P : X → Type 0) (xs : List X) (x : X) → AllByRecursion P (xs ++ x ∷ [])
    → P x
all-last P [] x h = h.0
all-last P (y ∷ xs) x h = all-last P xs x h.1

present_more : (ss before after : List Side) (s : Side) (zs ws : List ℤ) (vs : List Value)
    → merged_items after ≡ merged_items before ++ vs
    → AllBelow (length (merged_items before) + length vs) ws
    → side_items s ≡ pick (merged_items before ++ vs) ws
    → ((u : DataType) → is_option u ≡ false → IsSide (opt u) s → AreSides u before
    → AreSides u after)
    → ArePresent ss before zs → ArePresent (ss ++ s ∷ []) after (zs ++ ws)
present_more ss before after s zs ws vs e b i a h =
    let total : length (merged_items after) ≡ length (merged_items before) + length vs =
    ap length e ∙ length-append (merged_items before) vs in
    record {
      sides = λ u o k. a u o (all-last (IsSide (opt u)) ss s k)
          (h.sides u o (all-left (IsSide (opt u)) ss (s ∷ []) k));
      below = subst (λ n. AllBelow n (zs ++ ws)) (sym total)
          (all-append (λ z. z <ℤ pos (length (merged_items before) + length vs)) zs ws
          (below-more (length (merged_items before)) (length (merged_items before) + length vs) zs
          (omega arith) h.below) b);
      items = merged_items-side ss s
          ∙ ap₂ (λ xs ys. xs ++ ys)
          (h.items ∙ sym (pick-more (merged_items before) vs zs h.below)) i
          ∙ sym (pick-append (merged_items before ++ vs) zs ws)
          ∙ ap (λ us. pick us (zs ++ ws)) (sym e);
    }

-- a column of what is never null
pub whole_put : (x : Layout) (f : Carry) (before after : List Side) (old new : Making) (first : ℕ)
    → is_option (array_type x) ≡ false → after ≡ with_side before x f
    → first ≡ length (merged_items before) → new ≡ with_items old (places_on first (len x))
    → IsPresentPut (record { column = x; carry = f }) before old after new
whole_put x f before after old new first o a b e = record {
  kind = ap (λ (m : Making). m.kind) e;
  room = ap (λ (m : Making). m.room) e;
  more = λ ss h. rw (e, a, b)
      (present_more ss before (with_side before x f) (record { column = x; carry = f }) old.items
      (places_on (length (merged_items before)) (len x)) vs (merged_items-with_side before x f)
      (subst (λ n. AllBelow (length (merged_items before) + n)
      (places_on (length (merged_items before)) (len x))) (sym (length-carried x f))
      (below-places (length (merged_items before)) (len x)))
      (sym (pick-places (merged_items before) vs (len x) (length-carried x f)))
      (λ u q k h. AreSides-with_side u before x f h
      (λ p. Carries-present (array_type x) u f o k.values)) h);
}
  where
    vs : List Value
    vs = map (carried f) (array_items x)

-- a column of an index and of what is present
inner_option : (a b : DataType) → a ≡ opt b → IsSimple a → is_option b ≡ false
inner_option a b e s = let t : IsSimple (opt b) = subst IsSimple e s in t.0

carried_option : (f : Carry) (o : Option ℕ) (g : ℕ → Value)
    → carried f (at_option o g) ≡ at_option o (λ k. carried f (g k))
carried_option f None g = carry_null f
carried_option f (Some k) g = refl

option_items : (x y : Layout) (f : Carry) (j : Column) → OpensOption j y x
    → map (carried f) (array_items x)
    ≡ map (λ i. at_option (option_place_at j i)
    (λ k. get_or (map (carried f) (array_items y)) k null)) (range_with_len 0 (size_of j))
option_items x y f j o =
    ap (map (carried f)) (array_items-at x)
    ∙ map-map (carried f) (array_item x) (range_with_len 0 (len x))
    ∙ map-same (λ i. carried f (array_item x i)) item 0 (len x)
    (λ i p q. ap (carried f) (o.items i (omega (arith, q)))
    ∙ carried_option f (option_place_at j i) (array_item y)
    ∙ option_same (at j i) (len y) (λ k. carried f (array_item y k))
    (λ k. get_or (map (carried f) (array_items y)) k null)
    (o.index.below i (omega (arith, q, o.size))) (λ k l. sym (get_or-carried y f k l)))
    ∙ ap (λ n. map item (range_with_len 0 n)) (sym o.size)
  where
    item : ℕ → Value
    item i = at_option (option_place_at j i) (λ k. get_or (map (carried f) (array_items y)) k null)

pub present_put : (x y : Layout) (f : Carry) (j : Column) (before after : List Side)
    (old new : Making) (first : ℕ) → IsSimple (array_type x) → OpensOption j y x
    → after ≡ with_side before y f → first ≡ length (merged_items before)
    → new ≡ with_items old (index_on first j)
    → IsPresentPut (record { column = x; carry = f }) before old after new
present_put x y f j before after old new first s o a b e = record {
  kind = ap (λ (m : Making). m.kind) e;
  room = ap (λ (m : Making). m.room) e;
  more = λ ss h. rw (e, a, b)
      (present_more ss before (with_side before y f) (record { column = x; carry = f }) old.items
      (index_on (length (merged_items before)) j) vs (merged_items-with_side before y f)
      (subst (λ n. AllBelow (length (merged_items before) + n)
      (index_on (length (merged_items before)) j)) (sym (length-carried y f))
      (below-index (length (merged_items before)) (len y) j o.index))
      (option_items x y f j o ∙ sym (pick-index (merged_items before) vs j))
      (λ u q k h. AreSides-with_side u before y f h
      (λ p. Carries-present (array_type y) u f (inner_option _ _ o.typ s)
      (Carries-opt (array_type y) (opt u) f (subst (λ a. Carries a f (opt u)) o.typ k.values)))) h);
}
  where
    vs : List Value
    vs = map (carried f) (array_items y)

-- ---- loops

pub present_next : (ss : List Side) (i : ℕ) (s : Side) (before after : List Side)
    (old new : Making) → slice_get ss i ≡ Some s → IsPresentPut s before old after new
    → ArePresent (take i ss) before old.items → ArePresent (take (i + 1) ss) after new.items
present_next ss i s before after old new e p h =
    subst (λ us. ArePresent us after new.items) (sym (take-get ss i s e)) (p.more (take i ss) h)

-- how many numbers are in the index so far
pub present_size : (ss present : List Side) (zs : List ℤ) → ArePresent ss present zs
    → length zs ≡ length (merged_items ss)
present_size ss present zs h = sym (ap length h.items ∙ length-pick (merged_items present) zs)

-- there is room for those of the next column
pub present_room : (ss : List Side) (i : ℕ) (s : Side) (present : List Side) (m : Making)
    → slice_get ss i ≡ Some s → m.room ≡ length (merged_items ss)
    → ArePresent (take i ss) present m.items → length m.items + len s.column ≤ m.room
present_room ss i s present m e r h =
    omega (arith, total-within ss i s e, present_size (take i ss) present m.items h, r)
