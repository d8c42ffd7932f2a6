-- A lane under a mask of bytes, and values of which none is null.
use Rattle.std.proofs.Common.{◌≡◌, ℕ, ◌<◌, Bool, true, false, not, refl, ap, ap₂, sym, subst, ◌∙◌}
use Rattle.std.proofs.Common.{arith}
use Rattle.std.specs.Prelude.{ℤ, pos, List, [], ◌∷◌, map, length, get_or, if◌then◌else◌}
use Rattle.std.specs.List.{range_with_len}
use Rattle.std.specs.Simd.Lanes.{zip2}
use Rattle.std.proofs.lemmas.List.{ext_get_or}
use Rattle.std.proofs.lemmas.List.FromFn.{get_or-map-range_with_len, length-map-range_with_len}
use Rattle.std.proofs.lemmas.Simd.{zip2_of_maps, map-map}
use Rattle.awk_base.proofs.Lists.{map-each}
use Rattle.awk_types.specs.Parts.{number_of}
use Rattle.awk_types.specs.Predicates.{is_null}
use Rattle.awk_types.specs.Simple.{in_option, simple_value}
use Rattle.awk_types.specs.DataType.{leaf}
use Rattle.awk_types.specs.Value.{Value, int, truth, null, list, row, alt}
use Rattle.awk_lanes.specs.Column.{Column}
use Rattle.awk_lanes.specs.Numbers.{element, is_nonzero}
use Rattle.awk_lanes.specs.Places.{size_of, at}
use Rattle.awk_lanes.specs.declared.kind.Kind.TheVariants.{I8}
use Rattle.awk_layout.specs.Item.{item, leaf_value}
use Rattle.awk_layout.specs.Kinds.{primitive_of}
use Rattle.awk_layout.specs.Layout.{flat, byte_masked}
use Rattle.awk_layout.specs.Typing.{array_items}
use Rattle.awk_leaves.specs.Values.{chosen_at, chosen_values, is_nonzero as is_true}
use Rattle.awk_pointwise.specs.Optional.{unless_null, masked_values}
use Rattle.awk_pointwise.specs.Sides.{lane_values}
use Rattle.awk_pointwise.proofs.BlockLaws.{length-lane}
use Rattle.awk_pointwise.proofs.SideLaws.{lane_values-at}
use Rattle.awk_ends.proofs.LaneLaws.{flat-items}
use Rattle.awk_choose.specs.Ends.{ArePresent}

-- ---- a lane under a mask

mask-at : (m : Column) → m.kind ≡ I8 → m.items ≡ map (at m) (range_with_len 0 (size_of m))
mask-at m k =
    sym (ext_get_or (pos 0) (map (at m) (range_with_len 0 (size_of m))) m.items
    (length-map-range_with_len (at m) 0 (size_of m))
    (λ i h.
    let q : i < size_of m = subst (λ n. i < n) (length-map-range_with_len (at m) 0 (size_of m)) h in
    get_or-map-range_with_len (at m) 0 (size_of m) i i (pos 0) q (omega arith)
    ∙ ap (λ j. element j (get_or m.items i (pos 0))) k))

leaf-same : (c : Column) (v : Value)
    → in_option (simple_value (leaf (primitive_of c.kind))) v ≡ v
leaf-same c (int z) = refl
leaf-same c (truth b) = refl
leaf-same c null = refl
leaf-same c (list vs) = refl
leaf-same c (row vs) = refl
leaf-same c (alt k v) = refl

shown-one : (b : Bool) (v : Value) → (if not b then v else null) ≡ (if b then null else v)
shown-one true v = refl
shown-one false v = refl

-- the items of a lane, null where the mask's byte is not 0
pub masked-items : (m c : Column) → m.kind ≡ I8 → size_of m ≡ size_of c
    → array_items (byte_masked m false (flat c)) ≡ masked_values m c
masked-items m c k s =
    let places = range_with_len 0 (size_of m) in
    let x = byte_masked m false (flat c) in
    let leaf_at : ℕ → Value = λ i. leaf_value c.kind (at c i) in
    let simple : Value → Value = in_option (simple_value (leaf (primitive_of c.kind))) in
    map-map simple (item x) places
    ∙ map-each (λ i. simple (item x i)) (λ i. unless_null (at m i) (leaf_at i)) places
    (λ i. leaf-same c (item x i) ∙ shown-one (is_nonzero (at m i)) (leaf_at i))
    ∙ sym (zip2_of_maps unless_null (at m) leaf_at places (mask-at m k)
    (sym (lane_values-at c) ∙ ap (λ n. map leaf_at (range_with_len 0 n)) (sym s)))

-- ---- no nulls

shown-present : (b : Bool) (v : Value) → is_null (if b then null else v) ≡ false
    → (if b then null else v) ≡ v
shown-present true v h = absurd cc
shown-present false v h = refl

all-shown : (ms : List ℤ) (vs : List Value) → length ms ≡ length vs
    → ArePresent (zip2 unless_null ms vs) → zip2 unless_null ms vs ≡ vs
all-shown [] [] s h = refl
all-shown [] (v ∷ vs) s h = absurd (omega (arith, s))
all-shown (m ∷ ms) [] s h = absurd (omega (arith, s))
all-shown (m ∷ ms) (v ∷ vs) s h =
    ap₂ (λ u us. u ∷ us) (shown-present (is_nonzero m) v h.0)
    (all-shown ms vs (omega (arith, s)) h.1)

-- where none is null the mask has no say
pub present-items : (m c : Column) → size_of m ≡ size_of c → ArePresent (masked_values m c)
    → array_items (flat c) ≡ masked_values m c
present-items m c s h =
    flat-items c
    ∙ sym (all-shown m.items (lane_values c) (s ∙ sym (length-lane c)) h)

-- ---- a choice among values of which none is null

either-present : (b : Bool) (x y : Value) → is_null x ≡ false → is_null y ≡ false
    → is_null (if b then x else y) ≡ false
either-present true x y h k = h
either-present false x y h k = k

present-choice : (c x y : Value) → is_null c ≡ false → is_null x ≡ false → is_null y ≡ false
    → is_null (chosen_at c x y) ≡ false
present-choice c x y e h k =
    ap (λ b. is_null (if b then null else if is_true (number_of c) then x else y)) e
    ∙ either-present (is_true (number_of c)) x y h k

pub present-choices : (cs xs ys : List Value) → ArePresent cs → ArePresent xs → ArePresent ys
    → ArePresent (chosen_values cs xs ys)
present-choices [] xs ys e h k = tt
present-choices (c ∷ cs) [] ys e h k = tt
present-choices (c ∷ cs) (x ∷ xs) [] e h k = tt
present-choices (c ∷ cs) (x ∷ xs) (y ∷ ys) e h k =
    (present-choice c x y e.0 h.0 k.0, present-choices cs xs ys e.1 h.1 k.1)
