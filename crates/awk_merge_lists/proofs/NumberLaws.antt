-- Numbers of columns in one lane.
use Rattle.std.proofs.Common.{◌≡◌, ℕ, zero, suc, ◌+◌, ◌*◌, ◌<◌, List, [], ◌∷◌, ◌++◌, true, false}
use Rattle.std.proofs.Common.{length, map, take, get_or, Some, None, refl, ap, ap₂, sym, subst, ◌∙◌}
use Rattle.std.proofs.Common.{arith, length-append}
use Rattle.std.specs.Prelude.{ℤ, pos, slice_get}
use Rattle.std.specs.List.{AllByRecursion, range_with_len}
use Rattle.std.proofs.lemmas.List.{length-map, get_or-map, map-append, append-nil}
use Rattle.std.proofs.lemmas.Int.{ints}
use Rattle.std.proofs.lemmas.Simd.{map-map}
use Rattle.std.proofs.lemmas.List.FromFn.{fill_by_all}
use Rattle.awk_base.proofs.Ranges.{map-same}
use Rattle.awk_types.specs.DataType.{DataType, leaf}
use Rattle.awk_types.specs.Has.{Has}
use Rattle.awk_types.specs.Value.{Value, int, truth, null}
use Rattle.awk_types.specs.declared.primitive.Primitive.{Primitive}
use Rattle.awk_lanes.specs.Column.{Column}
use Rattle.awk_lanes.specs.Made.{lane_of}
use Rattle.awk_lanes.specs.Numbers.{numbers, width, int_of, is_nonzero, IsOf}
use Rattle.awk_lanes.specs.Places.{size_of, at}
use Rattle.awk_lanes.specs.declared.kind.Kind.{Kind}
use Rattle.awk_lanes.specs.declared.kind.Kind.TheVariants.{Bool as Truths, I8, I16, I32, I64, U8}
use Rattle.awk_lanes.specs.declared.kind.Kind.TheVariants.{U16, U32, U64}
use Rattle.awk_lanes.specs.declared.kind.Num.{Num}
use Rattle.awk_lanes.specs.declared.kind.Num.TheVariants.{Int, Nat, Truth}
use Rattle.awk_lanes.proofs.NumberParts.{numbers-join}
use Rattle.awk_lanes.proofs.PlaceLaws.{is_nonzero-bit}
use Rattle.awk_layout.specs.Item.{leaf_value}
use Rattle.awk_layout.specs.Kinds.{primitive_of, kind_of, primitive_of-kind_of}
use Rattle.awk_layout.specs.Layout.{flat}
use Rattle.awk_layout.specs.Shown.{value_of_num}
use Rattle.awk_layout.specs.Typing.{array_type, array_items}
use Rattle.awk_open.specs.InOrder.{IsInOrder}
use Rattle.awk_columns.specs.ListClass.{Class, list_type}
use Rattle.awk_open.specs.Opened.{IsKindOf}
use Rattle.awk_open.specs.declared.opening.Opened.{Opened}
use Rattle.awk_open.specs.declared.opening.Opened.TheVariants.{Empty, Leaf, Items, Row}
use Rattle.awk_open.specs.declared.opening.Opened.TheVariants.{Option as Optional, Union}
use Rattle.awk_columns.proofs.ArrayLaws.{array_items-at}
use Rattle.awk_unify.specs.Carry.{Carry, carried}
use Rattle.awk_merge_lists.specs.Leaves.{lane_value, leaf_values, AreOf}
use Rattle.awk_merge_sides.specs.Sides.{Side, side_items, merged_items, IsSide, IsMerged}
use Rattle.awk_gather.specs.Arrays.{array_item}
use Rattle.awk_merge_sides.proofs.CarryLaws.{IsLeafType, leaf_scalar, scalar_stays, leaves_before}
use Rattle.awk_merge_sides.proofs.SideLaws.{side_has, merged_items-next, item_has}

-- ---- the values of a lane

-- by place
pub leaf_values-at : (c : Column)
    → map (λ i. leaf_value c.kind (at c i)) (range_with_len 0 (size_of c)) ≡ leaf_values c
leaf_values-at c =
    sym (fill_by_all (λ i. leaf_value c.kind (at c i)) (leaf_values c) (size_of c) null
    (length-map c.items (lane_value c.kind))
    (λ j l. get_or-map (lane_value c.kind) c.items j (pos 0) null l))

pub flat_items : (c : Column) → array_items (flat c) ≡ leaf_values c
flat_items c = array_items-at (flat c) ∙ leaf_values-at c

pub length-leaf_values : (c : Column) → length (leaf_values c) ≡ size_of c
length-leaf_values c = length-map c.items (lane_value c.kind)

-- ---- what a carry does to a number: nothing

leaves_carried : (p : Primitive) (f : Carry) (vs : List Value)
    → AllByRecursion (Has (leaf p)) (map (carried f) vs) → map (carried f) vs ≡ vs
leaves_carried p f [] h = refl
leaves_carried p f (v ∷ vs) h =
    ap₂ (λ w ws. w ∷ ws) (scalar_stays f v (leaf_scalar p (carried f v) h.0))
    (leaves_carried p f vs h.1)

-- ---- only a column of numbers becomes numbers
pub leaf_opened : (p : Primitive) (s : Side) (r : Opened) → IsSide (leaf p) s
    → AllByRecursion (Has (array_type s.column)) (array_items s.column)
    → IsKindOf (array_type s.column) r → ((c : Column) → r ≡ Leaf c → ⊥) → ⊥
leaf_opened p s r h k o n =
    by_kind r (leaves_before p (array_type s.column) s.carry (array_item s.column 0)
    (item_has s.column 0 k h.some) h.values) o n
  where
    lists_not : (c : Class) (u : DataType) → IsLeafType (list_type c u) → ⊥
    lists_not None u q = q
    lists_not (Some n) u q = q

    by_kind : (r : Opened) → IsLeafType (array_type s.column) → IsKindOf (array_type s.column) r
        → ((c : Column) → r ≡ Leaf c → ⊥) → ⊥
    by_kind Empty q k n = subst IsLeafType k q
    by_kind (Leaf c) q k n = n c refl
    by_kind (Items l) q k n =
        lists_not l.class (array_type l.content) (subst IsLeafType k q)
    by_kind (Row None ys) q k n = subst IsLeafType k q
    by_kind (Row (Some ns) ys) q k n = subst IsLeafType k q
    by_kind (Optional j y) q k n = subst IsLeafType k q
    by_kind (Union t j ys) q k n = subst IsLeafType k q

-- the lane of a column of numbers
pub side_leaves : (p : Primitive) (s : Side) (c : Column) → IsSide (leaf p) s
    → AllByRecursion (Has (array_type s.column)) (array_items s.column)
    → IsInOrder (array_items s.column) (Leaf c) → side_items s ≡ leaf_values c
side_leaves p s c h k o =
    leaves_carried p s.carry (array_items s.column) (side_has (leaf p) s h k)
    ∙ o ∙ leaf_values-at c

pub side_of_kind : (p : Primitive) (s : Side) (c : Column) → IsSide (leaf p) s
    → AllByRecursion (Has (array_type s.column)) (array_items s.column)
    → IsInOrder (array_items s.column) (Leaf c) → AreOf p c
side_of_kind p s c h k o =
    subst (AllByRecursion (Has (leaf p))) (side_leaves p s c h k o) (side_has (leaf p) s h k)

-- ---- a number as code holds it

pub value-of : (k : Kind) (x : Num) → IsOf k x → leaf_value k (int_of x) ≡ value_of_num x
value-of Truths (Truth true) h = refl
value-of Truths (Truth false) h = refl
value-of I8 (Int z) h = refl
value-of I16 (Int z) h = refl
value-of I32 (Int z) h = refl
value-of I64 (Int z) h = refl
value-of U8 (Nat n) h = refl
value-of U16 (Nat n) h = refl
value-of U32 (Nat n) h = refl
value-of U64 (Nat n) h = refl
value-of _ _ h = absurd h

-- a value of a lane whose values a primitive holds
value_has : (p : Primitive) (c : Column) (i : ℕ) → AreOf p c → i < size_of c
    → Has (leaf p) (leaf_value c.kind (at c i))
value_has p c i h l =
    subst (Has (leaf p)) (get_or-map (lane_value c.kind) c.items i (pos 0) null l)
    (at_place (Has (leaf p)) (leaf_values c) i h (omega (arith, l, length-leaf_values c)))
  where
    at_place : (P : Value → Type 0) (vs : List Value) (i : ℕ) → AllByRecursion P vs
        → i < length vs → P (get_or vs i null)
    at_place P [] i h l = absurd (omega (arith, l))
    at_place P (v ∷ vs) zero h l = h.0
    at_place P (v ∷ vs) (suc i) h l = at_place P vs i h.1 (omega (arith, l))

-- the same as code holds it
pub read_of : (p : Primitive) (c : Column) (i : ℕ) (x : Num) → AreOf p c → i < size_of c
    → IsOf c.kind x → int_of x ≡ at c i → Has (leaf p) (value_of_num x)
read_of p c i x h l a e =
    subst (Has (leaf p)) (ap (leaf_value c.kind) (sym e) ∙ value-of c.kind x a)
    (value_has p c i h l)

-- ---- a number in another kind that holds it

truth_value : (k : Kind) (z : ℤ) → Has (leaf (primitive_of k)) (truth (is_nonzero z))
    → lane_value k z ≡ truth (is_nonzero z)
truth_value Truths z h = ap truth (is_nonzero-bit (is_nonzero z))
truth_value I8 z h = absurd h
truth_value I16 z h = absurd h
truth_value I32 z h = absurd h
truth_value I64 z h = absurd h
truth_value U8 z h = absurd h
truth_value U16 z h = absurd h
truth_value U32 z h = absurd h
truth_value U64 z h = absurd h

int_value : (k : Kind) (z : ℤ) → Has (leaf (primitive_of k)) (int z) → lane_value k z ≡ int z
int_value Truths z h = absurd (omega (arith, ints, h.0, h.1))
int_value I8 z h = refl
int_value I16 z h = refl
int_value I32 z h = refl
int_value I64 z h = refl
int_value U8 z h = refl
int_value U16 z h = refl
int_value U32 z h = refl
int_value U64 z h = refl

same_value : (k l : Kind) (z : ℤ) → Has (leaf (primitive_of k)) (leaf_value l z)
    → lane_value k z ≡ leaf_value l z
same_value k Truths z h = truth_value k z h
same_value k I8 z h = int_value k z h
same_value k I16 z h = int_value k z h
same_value k I32 z h = int_value k z h
same_value k I64 z h = int_value k z h
same_value k U8 z h = int_value k z h
same_value k U16 z h = int_value k z h
same_value k U32 z h = int_value k z h
same_value k U64 z h = int_value k z h

-- the numbers of a lane in a kind that holds them have the same values
pub converted_values : (k : Kind) (c : Column) → AreOf (primitive_of k) c
    → leaf_values (lane_of k (size_of c) (at c)) ≡ leaf_values c
converted_values k c h =
    map-map (lane_value k) (at c) (range_with_len 0 (size_of c))
    ∙ map-same (λ i. lane_value k (at c i)) (λ i. leaf_value c.kind (at c i)) 0 (size_of c)
    (λ i p q. same_value k c.kind (at c i)
    (value_has (primitive_of k) c i h (omega (arith, q))))
    ∙ leaf_values-at c

-- ---- bytes one after another

-- the bytes of numbers with these values
pub record AreBytesOf (k : Kind) (vs : List Value) (b : List ℕ) : Type 0 where
  pub size : length b ≡ length vs * width k
  pub values : map (lane_value k) (numbers k (length vs) b) ≡ vs

pub bytes_of_more : (k : Kind) (vs ws : List Value) (c : Column) (a b : List ℕ)
    → c.kind ≡ k → leaf_values c ≡ ws → numbers c.kind (size_of c) b ≡ c.items
    → length b ≡ size_of c * width c.kind → AreBytesOf k vs a → AreBytesOf k (vs ++ ws) (a ++ b)
bytes_of_more k vs ws c a b e v n l h =
    let m : length ws ≡ size_of c = ap length (sym v) ∙ length-leaf_values c in
    let total : length (vs ++ ws) ≡ length vs + length ws = length-append vs ws in
    let d : (length vs + length ws) * width k ≡ length vs * width k + length ws * width k =
    omega arith in
    let l' : length b ≡ length ws * width k = l ∙ ap₂ (λ n k. n * width k) (sym m) e in
    let others : map (lane_value k) (numbers k (length ws) b) ≡ ws =
    ap (λ n. map (lane_value k) (numbers k n b)) m
    ∙ ap (λ k. map (lane_value k) (numbers k (size_of c) b)) (sym e)
    ∙ ap (map (lane_value c.kind)) n ∙ v in
    record {
      size = length-append a b ∙ ap₂ (λ x y. x + y) h.size l' ∙ sym d
          ∙ ap (λ n. n * width k) (sym total);
      values = ap (λ n. map (lane_value k) (numbers k n (a ++ b))) total
          ∙ ap (map (lane_value k)) (numbers-join k (length vs) (length ws) a b h.size)
          ∙ map-append (lane_value k) (numbers k (length vs) a) (numbers k (length ws) b)
          ∙ ap₂ (λ x y. x ++ y) h.values others;
    }

-- the bytes of the next column
pub bytes_next : (k : Kind) (ss : List Side) (i : ℕ) (s : Side) (c : Column) (a b : List ℕ)
    → slice_get ss i ≡ Some s → c.kind ≡ k → leaf_values c ≡ side_items s
    → numbers c.kind (size_of c) b ≡ c.items → length b ≡ size_of c * width c.kind
    → AreBytesOf k (merged_items (take i ss)) a
    → AreBytesOf k (merged_items (take (i + 1) ss)) (a ++ b)
bytes_next k ss i s c a b e q v n l h =
    subst (λ vs. AreBytesOf k vs (a ++ b)) (sym (merged_items-next ss i s e))
    (bytes_of_more k (merged_items (take i ss)) (side_items s) c a b q v n l h)

-- ---- all numbers

pub only_side : (ss : List Side) (s : Side) → length ss ≡ 1 → slice_get ss 0 ≡ Some s
    → side_items s ≡ merged_items ss
only_side [] s l e = cc
only_side (x ∷ []) s l e =
    let is : x ≡ s = cc in
    ap side_items (sym is) ∙ sym (append-nil (side_items x))
only_side (x ∷ y ∷ ss) s l e = absurd (omega (arith, l))

pub numbers_merged : (p : Primitive) (ss : List Side) (c : Column) → c.kind ≡ kind_of p
    → leaf_values c ≡ merged_items ss → IsMerged (leaf p) ss (flat c)
numbers_merged p ss c e v = record {
  typ = ap (λ k. leaf (primitive_of k)) e ∙ ap leaf (primitive_of-kind_of p);
  items = flat_items c ∙ v;
}
