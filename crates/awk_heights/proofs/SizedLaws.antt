-- Lists of one size, once options and indexes are taken off.
use Rattle.std.proofs.Common.{◌≡◌, ℕ, ◌<◌, refl, ap, sym, subst, ◌∙◌, arith}
use Rattle.std.specs.Prelude.{true, false, pos}
use Rattle.awk_types.specs.DataType.{DataType, unknown, leaf, var, reg, rec, tup, opt, uni}
use Rattle.awk_types.specs.Predicates.{is_sized}
use Rattle.awk_types.specs.Simple.{present, is_option, is_union}
use Rattle.awk_lanes.specs.declared.kind.Kind.TheVariants.{I64}
use Rattle.awk_lanes.specs.Column.{Column}
use Rattle.awk_lanes.specs.Made.{lane_of}
use Rattle.awk_lanes.specs.Places.{at, place_at, size_of, option_place, option_place_at}
use Rattle.awk_lanes.proofs.MadeLanes.{at-lane_of}
use Rattle.awk_layout.specs.Item.{at_option}
use Rattle.awk_layout.specs.Laws.{len-fits}
use Rattle.awk_layout.specs.Layout.{Layout, regular}
use Rattle.awk_layout.specs.Typing.{array_type}
use Rattle.awk_layout.specs.Valid.{len, IsValid}
use Rattle.awk_gather.specs.Arrays.{array_item}
use Rattle.awk_gather.specs.Peeled.{IsPeeled}
use Rattle.awk_gather.proofs.FollowedIndexes.{item_at_place}
use Rattle.awk_spread.specs.Plain.{IsPlain}
use Rattle.awk_open.proofs.OpenedArrays.{left_same, peeled_size, peeled_places}
use Rattle.awk_open.proofs.OpenedKinds.{item-regular}
use Rattle.awk_heights.specs.Levels.{IsOver}
use Rattle.awk_heights.specs.declared.level.Cover.TheVariants as cover

-- ---- types of lists of one size

no_union : (t : DataType) → is_sized t ≡ true → is_union (present t) ≡ false
no_union (reg n t) e = refl
no_union unknown e = cc
no_union (leaf p) e = cc
no_union (var t) e = cc
no_union (rec ns ts) e = cc
no_union (tup ts) e = cc
no_union (opt t) e = cc
no_union (uni ts) e = cc

no_option : (t : DataType) → is_sized t ≡ true → is_option t ≡ false
no_option (reg n t) e = refl
no_option unknown e = cc
no_option (leaf p) e = cc
no_option (var t) e = cc
no_option (rec ns ts) e = cc
no_option (tup ts) e = cc
no_option (opt t) e = cc
no_option (uni ts) e = cc

-- ---- what is left

module _ (x y : Layout) (p k : Column) (h : IsPeeled x p k y) (e : is_sized (array_type x) ≡ true)
  where
    left : IsPlain y × (array_type y ≡ array_type x)
    left = left_same x y p k h (no_union (array_type x) e) (no_option (array_type x) e)

    -- an item is that of the regular node at its place
    item_left : p ≡ lane_of I64 (len x) (λ i. pos i) → (i : ℕ) → i < len x
        → array_item x i ≡ at_option (option_place_at k i) (array_item y)
    item_left all i l =
        let there : i < size_of p = omega (arith, l, h.size, peeled_size x y p k all h) in
        let place : at p i ≡ pos i =
        ap (λ c. at c i) all ∙ at-lane_of I64 (len x) (λ i. pos i) i l in
        sym (h.items i there
        ∙ ap (λ z. at_option (option_place z) (array_item x)) place)

    -- an index over the regular node is over the content
    pub sized_over : (size : ℕ) (z : Layout) → y ≡ regular size (len y) z → IsValid y
        → p ≡ lane_of I64 (len x) (λ i. pos i) → IsValid x
        → IsOver x (cover.Sized k size (len y)) z
    sized_over size z q v all w =
        let there : IsValid (regular size (len y) z) = subst IsValid q v in
        let long : size_of k ≡ len x = peeled_size x y p k all h in
        let places = peeled_places x y p k all h (no_option (array_type x) e) in
        record {
          fits = (omega (arith, long, len-fits x w), there.0, there.1, places);
          size = long;
          typ = sym left.1 ∙ ap array_type q;
          items = λ i l.
              let i' : i < size_of k = omega (arith, l, long) in
              item_left all i l
              ∙ item_at_place (at k i) (array_item y) (places.places i i').0
              ∙ ap (λ c. array_item c (place_at k i)) q
              ∙ item-regular size (len y) z (place_at k i);
        }
