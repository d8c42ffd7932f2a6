-- One column more of those that become a union: its alternatives in their groups, and its items by
-- their tags and places.
use Rattle.std.proofs.Common.{◌≡◌, ◌+◌, ◌<◌, ◌≤◌, ◌^◌, ◌∷◌, ◌++◌, [], ℕ, suc, zero, List, false}
use Rattle.std.proofs.Common.{length, map, take, get_or, slice_get, Some, replicate, ap, sym}
use Rattle.std.proofs.Common.{subst, ◌∙◌, arith}
use Rattle.std.specs.Prelude.{pos}
use Rattle.std.proofs.lemmas.Int.{ints}
use Rattle.std.proofs.lemmas.Option.{slice_get-get_or, slice_get-map}
use Rattle.std.specs.List.{AllByRecursion, range_with_len}
use Rattle.std.specs.Option.{option_map}
use Rattle.awk_base.proofs.Every.{all-append}
use Rattle.awk_types.specs.DataType.{DataType, uni, types_from}
use Rattle.awk_types.specs.Has.{Has}
use Rattle.awk_types.specs.Simple.{is_union}
use Rattle.awk_types.specs.Value.{Value, null, alt}
use Rattle.awk_types.proofs.PartLimits.{few_alternatives}
use Rattle.awk_lanes.specs.Column.{Column}
use Rattle.awk_lanes.specs.Making.{Making}
use Rattle.awk_lanes.specs.Numbers.{element}
use Rattle.awk_lanes.specs.Places.{size_of, at, place_at}
use Rattle.awk_lanes.specs.declared.kind.Kind.TheVariants.{I8, I64}
use Rattle.awk_layout.specs.Array.{IsArrayType}
use Rattle.awk_layout.specs.Laws.{len-fits}
use Rattle.awk_layout.specs.Layout.{Layout, layouts_from, count}
use Rattle.awk_layout.specs.Typing.{array_type, array_items}
use Rattle.awk_layout.specs.Valid.{len, IsValid, AllValid}
use Rattle.awk_open.specs.Opens.{item_among, OpensUnion}
use Rattle.awk_unify.specs.Carry.{Carry, carried}
use Rattle.awk_gather.specs.Arrays.{array_item}
use Rattle.awk_layout.specs.Contents.{count-layouts_from}
use Rattle.awk_layout.proofs.LayoutLists.{len_of-get}
use Rattle.awk_merge_rows.proofs.AlternativeLaws.{alternative-carried, alternative-carries}
use Rattle.awk_merge_rows.proofs.AlternativeLaws.{alternative-inside, single-carried}
use Rattle.awk_merge_rows.proofs.AlternativeLaws.{single-carries, single-inside, single, no-option}
use Rattle.awk_merge_sides.proofs.GroupLaws.{length-groups, AreGroups-none, AreGroups-with_side_at}
use Rattle.awk_merge_sides.proofs.SideLaws.{item_has, side_has, total-within, merged_items-all}
use Rattle.awk_merge_sides.proofs.SideLaws.{merged_items-next, IsSide-get}
use Rattle.awk_merge_rows.proofs.TaggedLaws.{tagged-append, tagged-grown, tagged-items, tagged-at}
use Rattle.awk_merge_rows.proofs.TaggedLaws.{length-tags, length-places}
use Rattle.awk_merge_rows.proofs.TargetLaws.{Grows, grows-side, grows-alternatives, Lies, lies-side}
use Rattle.awk_merge_rows.proofs.TargetLaws.{lies-alternatives, fits-lies, groups-fit}
use Rattle.awk_merge_rows.proofs.TargetLaws.{length-targets_of, AreGroups-alternatives}
use Rattle.awk_merge_sides.specs.Groups.{groups_of, AreGroups, AreCounted}
use Rattle.awk_merge_rows.specs.UnionLevels.{item_in, IsUnionLevel}
use Rattle.awk_merge_sides.specs.Lifts.{alternative_tag, alternative_carry}
use Rattle.awk_merge_sides.specs.Sides as sides
use Rattle.awk_merge_sides.specs.Sides.{Side, sides_of, side_items, merged_items, IsSide, AreSides}
use Rattle.awk_merge_sides.specs.Sides.{IsCounted}
use Rattle.awk_merge_rows.specs.Tagged.{target_in, target_at, targets_of, with_alternative}
use Rattle.awk_merge_rows.specs.Tagged.{with_alternatives, item_tag, item_place, IsTargeted}
use Rattle.awk_merge_rows.specs.Tagged.{AreTargeted, IsReady, with_numbers, IsTagged, AreTagged}
use Rattle.awk_merge_rows.specs.Tagged.{IsUnionSoFar, PutsSide}
use Rattle.awk_merge_sides.specs.declared.groups.Groups.{Groups}
use Rattle.awk_merge_sides.specs.declared.sides.Sides.{Sides}
use Rattle.awk_merge_rows.specs.declared.unions.Tagged.{Tagged}
use Rattle.awk_merge_rows.specs.declared.unions.Target.{Target}

-- ---- contents of an opened union

among-is : (ys : List Layout) (k i : ℕ) (y : Layout) → slice_get ys k ≡ Some y
    → item_among ys k i ≡ array_item y i
among-is [] k i y e = cc
among-is (z ∷ ys) zero i y e = let f : z ≡ y = cc in ap (λ w. array_item w i) f
among-is (z ∷ ys) (suc k) i y e = among-is ys k i y e

valid-is : (ys : List Layout) (k : ℕ) (y : Layout) → slice_get ys k ≡ Some y
    → AllValid (layouts_from ys) → IsValid y
valid-is [] k y e h = cc
valid-is (z ∷ ys) zero y e h = let f : z ≡ y = cc in subst IsValid f h.0
valid-is (z ∷ ys) (suc k) y e h = valid-is ys k y e h.1

type-is : (ys : List Layout) (k : ℕ) (y : Layout) → slice_get ys k ≡ Some y
    → slice_get (map array_type ys) k ≡ Some (array_type y)
type-is ys k y e = slice_get-map array_type ys k ∙ ap (option_map array_type) e

lies-at : (f : Carry) (ys : List Layout) (gs : List (List Side)) (k : ℕ) (y : Layout)
    → slice_get ys k ≡ Some y
    → Lies y (alternative_carry f k) (alternative_tag f k) (with_alternatives f 0 ys gs)
    (target_at (targets_of f 0 ys gs) k)
lies-at f ys gs k y e =
    let zero-on : 0 + k ≡ k = omega arith in
    subst (λ n. Lies y (alternative_carry f n) (alternative_tag f n) (with_alternatives f 0 ys gs)
    (target_at (targets_of f 0 ys gs) k)) zero-on (lies-alternatives f 0 ys gs k y e)

-- its tags and places can be written
pub union-targets : (f : Carry) (x : Layout) (t j : Column) (ys : List Layout)
    (gs : List (List Side)) (ss : List Sides) (xs : List Target) → OpensUnion t j ys x
    → length gs ≤ 127 → map sides_of ss ≡ with_alternatives f 0 ys gs
    → AllByRecursion IsCounted ss → xs ≡ targets_of f 0 ys gs → AreTargeted t j xs
union-targets f x t j ys gs ss xs o few e counted d = record {
  tag_kind = o.union.tag_kind;
  index_kind = o.union.index_kind;
  same_size = o.union.same_size;
  each = λ i h. subst (λ zs. IsTargeted t j zs i) (sym d) (one i h);
}
  where
    hs : List (List Side)
    hs = with_alternatives f 0 ys gs

    one : (i : ℕ) → i < size_of t → IsTargeted t j (targets_of f 0 ys gs) i
    one i h =
        let k = place_at t i in
        let within : k < length ys = omega (arith, (o.union.tags i h).1, count-layouts_from ys) in
        let y = get_or ys k x in
        let here : slice_get ys k ≡ Some y = slice_get-get_or ys k x within in
        let lies = lies-at f ys gs k y here in
        let total : (k : ℕ) → length (merged_items (get_or hs k [])) < 2 ^ 63
        = λ k. subst (λ gs. length (merged_items (get_or gs k [])) < 2 ^ 63) e
        (groups-fit ss counted k) in
        let fits = fits-lies y (alternative_carry f k) (alternative_tag f k) hs
        (target_at (targets_of f 0 ys gs) k) total
        (len-fits y (valid-is ys k y here o.valid)) lies in
        record {
          tag = (o.union.tags i h).0;
          place = (o.union.places i h).0;
          within = omega (arith, within, length-targets_of f 0 ys gs);
          tag_fits = lies.small (omega (arith, few, (grows-alternatives f 0 ys gs).size));
          place_fits = omega (arith, fits, (o.union.places i h).1, len_of-get ys k y here);
        }

-- ---- an item by its tag and place

tagged-one : (y : Layout) (c : Carry) (g p : ℕ) (hs : List (List Side)) (x : Target) (v : Value)
    → Lies y c g hs x → g < length hs → p < len y → v ≡ alt g (carried c (array_item y p))
    → IsTagged hs (pos x.tag) (pos (x.base + p)) v
tagged-one y c g p hs x v lies h l e =
    let tag : x.tag ≡ g = lies.tag h in
    record {
      tag = omega (arith, ints);
      within = omega (arith, tag, h);
      place = omega (arith, ints);
      below = omega (
        arith,
        lies.below h,
        l,
        ap (λ n. length (merged_items (get_or hs n []))) tag,
      );
      value = e ∙ ap (alt g) (sym (lies.items h p l))
          ∙ ap (λ n. alt n (item_in hs n (x.base + p))) (sym tag);
    }

-- ---- one column more

go-on : (ts : List DataType) (n : ℕ) (vs : List Value) (s : Side) (g g' : Groups) (m m' : Tagged)
    (count : ℕ) (a b : ℕ → ℕ) → IsUnionSoFar ts n vs g m → AreGroups ts (groups_of g')
    → AreCounted g' → Grows (groups_of g) (groups_of g') → IsSide (uni (types_from ts)) s
    → AllByRecursion (Has (array_type s.column)) (array_items s.column) → count ≡ len s.column
    → m'.tags ≡ with_numbers m.tags count a → m'.index ≡ with_numbers m.index count b
    → ((i : ℕ) → i < len s.column
    → IsTagged (groups_of g') (pos (a i)) (pos (b i)) (carried s.carry (array_item s.column i)))
    → IsUnionSoFar ts n (vs ++ side_items s) g' m'
go-on ts n vs s g g' m m' count a b so groups counted grows side has size tags index each =
    let new : AreTagged (groups_of g') (map (λ i. pos (a i)) (range_with_len 0 count))
    (map (λ i. pos (b i)) (range_with_len 0 count)) (side_items s)
    = tagged-items (groups_of g') s.column s.carry count a b size each in
    let old : AreTagged (groups_of g') m.tags.items m.index.items vs
    = tagged-grown (groups_of g) (groups_of g') m.tags.items m.index.items vs grows so.tagged in
    let both : AreTagged (groups_of g')
    (m.tags.items ++ map (λ i. pos (a i)) (range_with_len 0 count))
    (m.index.items ++ map (λ i. pos (b i)) (range_with_len 0 count)) (vs ++ side_items s)
    = tagged-append (groups_of g') m.tags.items m.index.items
    (map (λ i. pos (a i)) (range_with_len 0 count))
    (map (λ i. pos (b i)) (range_with_len 0 count)) vs (side_items s) old new in
    record {
      groups = groups;
      counted = counted;
      tag_kind = ap (λ (k : Making). k.kind) tags ∙ so.tag_kind;
      index_kind = ap (λ (k : Making). k.kind) index ∙ so.index_kind;
      tag_room = ap (λ (k : Making). k.room) tags ∙ so.tag_room;
      index_room = ap (λ (k : Making). k.room) index ∙ so.index_room;
      tagged = subst (λ zs. AreTagged (groups_of g') zs m'.index.items (vs ++ side_items s))
          (sym (ap (λ (k : Making). k.items) tags))
          (subst (λ zs. AreTagged (groups_of g')
          (m.tags.items ++ map (λ i. pos (a i)) (range_with_len 0 count)) zs (vs ++ side_items s))
          (sym (ap (λ (k : Making). k.items) index)) both);
      typed = all-append (Has (uni (types_from ts))) vs (side_items s) so.typed
          (side_has (uni (types_from ts)) s side has);
    }

-- ---- of a union

union-groups : (ts : List DataType) (f : Carry) (x : Layout) (t j : Column) (ys : List Layout)
    (gs : List (List Side)) → IsArrayType (uni (types_from ts)) → OpensUnion t j ys x
    → sides.Carries (array_type x) f (uni (types_from ts)) → AreGroups ts gs
    → AreGroups ts (with_alternatives f 0 ys gs)
union-groups ts f x t j ys gs lawful o c h =
    AreGroups-alternatives ts f 0 ys gs h (λ a y u d e.
    let on : 0 + a ≡ a = omega arith in
    let e' : slice_get ts (alternative_tag f a) ≡ Some u
    = subst (λ n. slice_get ts (alternative_tag f n) ≡ Some u) on e in
    let c' : sides.Carries (uni (types_from (map array_type ys))) f (uni (types_from ts))
    = subst (λ t. sides.Carries t f (uni (types_from ts))) o.typ c in
    subst (λ n. sides.Carries (array_type y) (alternative_carry f n) u) (sym on)
    (alternative-carries ts (map array_type ys) f a (array_type y) u lawful.is_simple c'
    (type-is ys a y d) e'))

union-tagged : (ts : List DataType) (f : Carry) (x : Layout) (t j : Column) (ys : List Layout)
    (gs : List (List Side)) → IsArrayType (uni (types_from ts)) → OpensUnion t j ys x
    → sides.Carries (array_type x) f (uni (types_from ts)) → AreGroups ts gs
    → AllByRecursion (Has (array_type x)) (array_items x) → (i : ℕ) → i < len x
    → IsTagged (with_alternatives f 0 ys gs) (pos (item_tag t (targets_of f 0 ys gs) i))
    (pos (item_place t j (targets_of f 0 ys gs) i)) (carried f (array_item x i))
union-tagged ts f x t j ys gs lawful o c groups all i l =
    let k = place_at t i in
    let p = place_at j i in
    let h : i < size_of t = omega (arith, l, o.size) in
    let within : k < length ys = omega (arith, (o.union.tags i h).1, count-layouts_from ys) in
    let y = get_or ys k x in
    let here : slice_get ys k ≡ Some y = slice_get-get_or ys k x within in
    let inside : p < len y = omega (arith, (o.union.places i h).1, len_of-get ys k y here) in
    let is : array_item x i ≡ alt k (array_item y p)
    = o.items i l ∙ ap (alt k) (among-is ys k p y here) in
    let has : Has (uni (types_from (map array_type ys))) (alt k (array_item y p))
    = subst (Has (uni (types_from (map array_type ys)))) is
    (subst (λ t. Has t (array_item x i)) o.typ (item_has x i all l)) in
    let c' : sides.Carries (uni (types_from (map array_type ys))) f (uni (types_from ts))
    = subst (λ t. sides.Carries t f (uni (types_from ts))) o.typ c in
    let reach : alternative_tag f k < length ts
    = alternative-inside ts (map array_type ys) f k (array_item y p) lawful.is_simple c' has in
    let size : length (with_alternatives f 0 ys gs) ≡ length ts
    = (grows-alternatives f 0 ys gs).size ∙ length-groups ts gs groups in
    tagged-one y (alternative_carry f k) (alternative_tag f k) p (with_alternatives f 0 ys gs)
    (target_at (targets_of f 0 ys gs) k) (carried f (array_item x i)) (lies-at f ys gs k y here)
    (omega (arith, reach, size)) inside
    (ap (carried f) is
    ∙ alternative-carried ts f k (array_item y p) lawful.is_simple
    (c' (alt k (array_item y p)) has))

pub union-side : (s : Side) (t j : Column) (ys : List Layout) (g g' : Groups) (m m' : Tagged)
    (xs : List Target) → OpensUnion t j ys s.column
    → AllByRecursion (Has (array_type s.column)) (array_items s.column)
    → groups_of g' ≡ with_alternatives s.carry 0 ys (groups_of g) → AreCounted g'
    → xs ≡ targets_of s.carry 0 ys (groups_of g)
    → m'.tags ≡ with_numbers m.tags (size_of t) (item_tag t xs)
    → m'.index ≡ with_numbers m.index (size_of t) (item_place t j xs) → PutsSide s g m g' m'
union-side s t j ys g g' m m' xs o all e counted d tags index = record {
  so_far = λ ts n vs lawful side so.
      let gs = groups_of g in
      go-on ts n vs s g g' m m' (size_of t) (item_tag t xs) (item_place t j xs) so
      (subst (AreGroups ts) (sym e)
      (union-groups ts s.carry s.column t j ys gs lawful o side.values so.groups))
      counted (subst (Grows gs) (sym e) (grows-alternatives s.carry 0 ys gs)) side all o.size
      tags index
      (λ i l. subst (λ hs. IsTagged hs (pos (item_tag t xs i)) (pos (item_place t j xs i))
      (carried s.carry (array_item s.column i))) (sym e)
      (subst (λ zs. IsTagged (with_alternatives s.carry 0 ys gs) (pos (item_tag t zs i))
      (pos (item_place t j zs i)) (carried s.carry (array_item s.column i))) (sym d)
      (union-tagged ts s.carry s.column t j ys gs lawful o side.values so.groups all i l)));
}

-- ---- of one alternative

whole-tagged : (ts : List DataType) (f : Carry) (x : Layout) (gs : List (List Side))
    → IsArrayType (uni (types_from ts)) → is_union (array_type x) ≡ false
    → sides.Carries (array_type x) f (uni (types_from ts)) → AreGroups ts gs
    → AllByRecursion (Has (array_type x)) (array_items x) → (i : ℕ) → i < len x
    → IsTagged (with_alternative f 0 x gs) (pos (target_in (alternative_tag f 0) gs).tag)
    (pos ((target_in (alternative_tag f 0) gs).base + i)) (carried f (array_item x i))
whole-tagged ts f x gs lawful u c groups all i l =
    let has : Has (array_type x) (array_item x i) = item_has x i all l in
    let reach : alternative_tag f 0 < length ts
    = single-inside ts f (array_type x) (array_item x i) lawful.is_simple u c has in
    let size : length (with_alternative f 0 x gs) ≡ length ts
    = (grows-side (alternative_tag f 0) gs x (alternative_carry f 0)).size
    ∙ length-groups ts gs groups in
    tagged-one x (alternative_carry f 0) (alternative_tag f 0) i (with_alternative f 0 x gs)
    (target_in (alternative_tag f 0) gs) (carried f (array_item x i))
    (lies-side x (alternative_carry f 0) (alternative_tag f 0) gs)
    (omega (arith, reach, size)) l
    (single-carried ts f (array_item x i) lawful.is_simple
    (single (array_type x) (array_item x i) (no-option (array_type x) f ts c) u has)
    (c (array_item x i) has))

pub whole-side : (s : Side) (g g' : Groups) (m m' : Tagged) (x : Target) (n : ℕ)
    → is_union (array_type s.column) ≡ false
    → AllByRecursion (Has (array_type s.column)) (array_items s.column)
    → groups_of g' ≡ with_alternative s.carry 0 s.column (groups_of g) → AreCounted g'
    → x ≡ target_in (alternative_tag s.carry 0) (groups_of g) → n ≡ len s.column
    → m'.tags ≡ with_numbers m.tags n (λ i. x.tag)
    → m'.index ≡ with_numbers m.index n (λ i. x.base + i) → PutsSide s g m g' m'
whole-side s g g' m m' x count u all e counted d size tags index = record {
  so_far = λ ts n vs lawful side so.
      let gs = groups_of g in
      let f = s.carry in
      go-on ts n vs s g g' m m' count (λ i. x.tag) (λ i. x.base + i) so
      (subst (AreGroups ts) (sym e)
      (AreGroups-with_side_at ts gs (alternative_tag f 0) s.column (alternative_carry f 0) so.groups
      (λ some t i. single-carries ts f (array_type s.column) t lawful.is_simple u side.values i)))
      counted
      (subst (Grows gs) (sym e) (grows-side (alternative_tag f 0) gs s.column
      (alternative_carry f 0)))
      side all size tags index
      (λ i l. subst (λ hs. IsTagged hs (pos x.tag) (pos (x.base + i))
      (carried f (array_item s.column i))) (sym e)
      (subst (λ (z : Target). IsTagged (with_alternative f 0 s.column gs) (pos z.tag)
      (pos (z.base + i)) (carried f (array_item s.column i))) (sym d)
      (whole-tagged ts f s.column gs lawful u side.values so.groups all i l)));
}

-- ---- all columns

pub level-none : (ts : List DataType) (n k a b : ℕ) (g : Groups) (m : Tagged)
    → groups_of g ≡ replicate k [] → k ≡ length ts → AreCounted g → a ≡ n → b ≡ n
    → m.tags ≡ record { kind = I8; room = a; items = [] }
    → m.index ≡ record { kind = I64; room = b; items = [] } → IsUnionSoFar ts n [] g m
level-none ts n k a b g m e d counted x y tags index = record {
  groups = subst (AreGroups ts) (sym (e ∙ ap (λ j. replicate j []) d)) (AreGroups-none ts);
  counted = counted;
  tag_kind = ap (λ (k : Making). k.kind) tags;
  index_kind = ap (λ (k : Making). k.kind) index;
  tag_room = ap (λ (k : Making). k.room) tags ∙ x;
  index_room = ap (λ (k : Making). k.room) index ∙ y;
  tagged = subst (λ zs. AreTagged (groups_of g) zs m.index.items [])
      (sym (ap (λ (k : Making). k.items) tags))
      (subst (λ zs. AreTagged (groups_of g) [] zs []) (sym (ap (λ (k : Making). k.items) index))
      tt);
  typed = tt;
}

pub level-few : (ts : List DataType) (n : ℕ) (vs : List Value) (g : Groups) (m : Tagged)
    → IsArrayType (uni (types_from ts)) → IsUnionSoFar ts n vs g m → length (groups_of g) ≤ 127
level-few ts n vs g m lawful so =
    omega (
      arith,
      length-groups ts (groups_of g) so.groups,
      few_alternatives ts lawful.within_limits,
    )

pub level-ready : (ts : List DataType) (n : ℕ) (ss : List Side) (i : ℕ) (s : Side) (g : Groups)
    (m : Tagged) → slice_get ss i ≡ Some s → n ≡ length (merged_items ss)
    → IsUnionSoFar ts n (merged_items (take i ss)) g m → IsReady (len s.column) m
level-ready ts n ss i s g m e d so =
    let more = total-within ss i s e in
    record {
      tag_kind = so.tag_kind;
      index_kind = so.index_kind;
      tag_room = omega (
        arith,
        more,
        d,
        so.tag_room,
        length-tags (groups_of g) m.tags.items m.index.items (merged_items (take i ss)) so.tagged,
      );
      index_room = omega (
        arith,
        more,
        d,
        so.index_room,
        length-places (groups_of g) m.tags.items m.index.items (merged_items (take i ss)) so.tagged,
      );
    }

-- one column more
pub level-next : (ts : List DataType) (n : ℕ) (ss : List Side) (i : ℕ) (s : Side) (g g' : Groups)
    (m m' : Tagged) → slice_get ss i ≡ Some s → IsArrayType (uni (types_from ts))
    → AreSides (uni (types_from ts)) ss → IsUnionSoFar ts n (merged_items (take i ss)) g m
    → PutsSide s g m g' m' → IsUnionSoFar ts n (merged_items (take (i + 1) ss)) g' m'
level-next ts n ss i s g g' m m' e lawful sides so puts =
    subst (λ vs. IsUnionSoFar ts n vs g' m') (sym (merged_items-next ss i s e))
    (puts.so_far ts n (merged_items (take i ss)) lawful
    (IsSide-get (uni (types_from ts)) ss i s e sides) so)

-- all are there
pub level-all : (ts : List DataType) (n : ℕ) (ss : List Side) (i : ℕ) (g : Groups) (m : Tagged)
    → length ss ≤ i → IsUnionSoFar ts n (merged_items (take i ss)) g m
    → IsUnionSoFar ts n (merged_items ss) g m
level-all ts n ss i g m h so =
    subst (λ vs. IsUnionSoFar ts n vs g m) (merged_items-all ss i h) so

pub level-tags : (ts : List DataType) (n : ℕ) (ss : List Side) (g : Groups) (m : Tagged)
    → n ≡ length (merged_items ss) → IsUnionSoFar ts n (merged_items ss) g m
    → length m.tags.items ≡ m.tags.room
level-tags ts n ss g m d so =
    length-tags (groups_of g) m.tags.items m.index.items (merged_items ss) so.tagged
    ∙ sym (so.tag_room ∙ d)

pub level-places : (ts : List DataType) (n : ℕ) (ss : List Side) (g : Groups) (m : Tagged)
    → n ≡ length (merged_items ss) → IsUnionSoFar ts n (merged_items ss) g m
    → length m.index.items ≡ m.index.room
level-places ts n ss g m d so =
    length-places (groups_of g) m.tags.items m.index.items (merged_items ss) so.tagged
    ∙ sym (so.index_room ∙ d)

tag-at : (c : Column) (i : ℕ) → c.kind ≡ I8 → at c i ≡ get_or c.items i (pos 0)
tag-at c i e = ap (λ k. element k (get_or c.items i (pos 0))) e

index-at : (c : Column) (i : ℕ) → c.kind ≡ I64 → at c i ≡ get_or c.items i (pos 0)
index-at c i e = ap (λ k. element k (get_or c.items i (pos 0))) e

pub level-made : (ts : List DataType) (n : ℕ) (ss : List Side) (g : Groups) (m : Tagged)
    (t j : Column) → n < 2 ^ 63 → n ≡ length (merged_items ss) → IsUnionSoFar ts n (merged_items ss)
    g m
    → t.kind ≡ m.tags.kind → t.items ≡ m.tags.items → j.kind ≡ m.index.kind
    → j.items ≡ m.index.items → IsUnionLevel ts ss (record { tags = t; index = j; groups = g })
level-made ts n ss g m t j fits size so tk ti jk ji = record {
  groups = so.groups;
  counted = so.counted;
  fits = omega (arith, fits, size, tags);
  tag_kind = tk ∙ so.tag_kind;
  index_kind = jk ∙ so.index_kind;
  same_size = tags ∙ sym places;
  size = sym tags;
  tags = λ i h. ((one i h).tag, (one i h).within);
  places = λ i h. ((one i h).place, (one i h).below);
  items = λ i h. (one i h).value;
  typed = so.typed;
}
  where
    gs : List (List Side)
    gs = groups_of g

    all : AreTagged gs t.items j.items (merged_items ss)
    all = subst (λ zs. AreTagged gs zs j.items (merged_items ss)) (sym ti)
        (subst (λ zs. AreTagged gs m.tags.items zs (merged_items ss)) (sym ji) so.tagged)

    tags : size_of t ≡ length (merged_items ss)
    tags = length-tags gs t.items j.items (merged_items ss) all

    places : size_of j ≡ length (merged_items ss)
    places = length-places gs t.items j.items (merged_items ss) all

    one : (i : ℕ) → i < size_of t → IsTagged gs (at t i) (at j i) (get_or (merged_items ss) i null)
    one i h =
        subst (λ z. IsTagged gs z (at j i) (get_or (merged_items ss) i null))
        (sym (tag-at t i (tk ∙ so.tag_kind)))
        (subst (λ z. IsTagged gs (get_or t.items i (pos 0)) z (get_or (merged_items ss) i null))
        (sym (index-at j i (jk ∙ so.index_kind)))
        (tagged-at gs t.items j.items (merged_items ss) i all h))
