-- An array and a mask over it as columns that are paired, and what is made of these.
use Rattle.std.specs.Prelude.{◌≡◌, ℕ, ◌<◌, Bool, true, false, not, List, [], ◌∷◌, length}
use Rattle.std.specs.Prelude.{map, get_or, Option, Some, None, Ok}
use Rattle.std.specs.List.{AllByRecursion}
use Rattle.std.proofs.Common.{arith, ap, ap₂, sym, ◌∙◌, subst, slice_get}
use Rattle.std.proofs.lemmas.List.{ext_get_or, get_or-map, length-map}
use Rattle.awk_types.specs.DataType.{DataType}
use Rattle.awk_types.specs.Datum.{arr}
use Rattle.awk_types.specs.Gives.{Told, refused_or}
use Rattle.awk_types.specs.Has.{Has}
use Rattle.awk_types.specs.Simple.{IsSimple, simple, simple_value}
use Rattle.awk_types.specs.Value.{Value, null}
use Rattle.awk_types.specs.declared.fault.Fault.{Fault}
use Rattle.awk_types.proofs.RefusalLaws.{Told-same, refused_or-Ok}
use Rattle.awk_layout.specs.Layout.{Layout}
use Rattle.awk_layout.specs.Typing.{array_type, array_items, array_datum}
use Rattle.awk_layout.specs.Valid.{len}
use Rattle.awk_layout.proofs.ArrayItems.{length-array_items, get_or-array_items}
use Rattle.awk_gather.specs.Arrays.{array_item}
use Rattle.awk_columns.specs.Columns.{part_at}
use Rattle.awk_columns.specs.Parts.{AreParts}
use Rattle.awk_frames.specs.Framed.{IsFrame, over, over_type}
use Rattle.awk_frames.specs.Shape.{Shape, shape, ends}
use Rattle.awk_pair_operands.specs.Answer.{single_or_fault, shared_shape, shared_ends}
use Rattle.awk_pair_operands.specs.Pairs.{pair_refused, pair_values, some_array, leaf_types}
use Rattle.awk_mask_pairs.specs.MaskTypes.{mask_levels, has_ones, under}
use Rattle.awk_mask_pairs.specs.MaskTypes.{shared_type, classed, masked_row, is_innermost}
use Rattle.awk_mask_pairs.specs.MaskTypes.{IsMasking}
use Rattle.awk_mask_pairs.specs.MaskValues.{masks, masked_type, masked_value, in_pairs, differs}
use Rattle.awk_mask_pairs.specs.MaskValues.{lists_differ}
use Rattle.awk_mask_pairs.proofs.TypeLaws.{masking}
use Rattle.awk_mask_pairs.proofs.PairedLaws.{leaves-data, innermost-data, typed-data, items-data}
use Rattle.awk_mask_pairs.proofs.PairedLaws.{frame-data, refusal-data, even-data, shape-data}
use Rattle.awk_mask_pairs.proofs.PairedLaws.{ends-data, result-type}
use Rattle.awk_mask.specs.MaskLeaves.{IsMasked}
use Rattle.awk_mask.specs.MaskedArrays.{depth_under, both, masked_array}

-- ---- two columns

pub two-long : (ys : List Layout) (t u : DataType) → map array_type ys ≡ t ∷ u ∷ []
    → length ys ≡ 2
two-long ys t u e = sym (length-map ys array_type) ∙ ap length e

pub first-type : (ys : List Layout) (y : Layout) (t u : DataType)
    → map array_type ys ≡ t ∷ u ∷ [] → slice_get ys 0 ≡ Some y → array_type y ≡ t
first-type [] y t u e g = cc
first-type (z ∷ zs) y t u e g = let f : y ≡ z = cc in ap array_type f ∙ cc

pub second-type : (ys : List Layout) (y : Layout) (t u : DataType)
    → map array_type ys ≡ t ∷ u ∷ [] → slice_get ys 1 ≡ Some y → array_type y ≡ u
second-type [] y t u e g = cc
second-type (x ∷ []) y t u e g = cc
second-type (x ∷ z ∷ zs) y t u e g = let f : y ≡ z = cc in ap array_type f ∙ cc

pub first-items : (vs : List Value) (ys : List Layout) (y : Layout) → AreParts 0 vs ys
    → slice_get ys 0 ≡ Some y → array_items y ≡ map (part_at 0) vs
first-items vs [] y h e = cc
first-items vs (z ∷ zs) y h e = let f : y ≡ z = cc in ap array_items f ∙ h.0

pub second-items : (vs : List Value) (ys : List Layout) (y : Layout) → AreParts 0 vs ys
    → slice_get ys 1 ≡ Some y → array_items y ≡ map (part_at 1) vs
second-items vs [] y h e = cc
second-items vs (x ∷ []) y h e = cc
second-items vs (x ∷ z ∷ zs) y h e = let f : y ≡ z = cc in ap array_items f ∙ h.1.0

pub part-long : (k : ℕ) (vs : List Value) (y : Layout) → array_items y ≡ map (part_at k) vs
    → len y ≡ length vs
part-long k vs y e = sym (length-array_items y) ∙ ap length e ∙ length-map vs (part_at k)

-- ---- a column under a mask, as rows masked

part-item : (k : ℕ) (vs : List Value) (y : Layout) → array_items y ≡ map (part_at k) vs
    → (i : ℕ) → i < len y → array_item y i ≡ part_at k (get_or vs i null)
part-item k vs y e i p =
    sym (get_or-array_items y i p)
    ∙ ap (λ us. get_or us i null) e
    ∙ get_or-map (part_at k) vs i null null (omega (arith, p, part-long k vs y e))

pub rows-masked : (x m r : Layout) (keep : Bool) (vs : List Value) → IsMasked x m keep r
    → array_items x ≡ map (part_at 0) vs → array_items m ≡ map (part_at 1) vs
    → array_items r ≡ map (λ w. simple_value (masked_type (array_type m) (array_type x))
    (masked_row keep (array_type m) w)) vs
rows-masked x m r keep vs h e f =
    let g : Value → Value = λ w. simple_value (masked_type (array_type m) (array_type x))
    (masked_row keep (array_type m) w) in
    let n : len r ≡ length vs = h.size ∙ part-long 0 vs x e in
    let l : len m ≡ length vs = part-long 1 vs m f in
    ext_get_or null (array_items r) (map g vs)
    (length-array_items r ∙ n ∙ sym (length-map vs g))
    (λ i q.
    let p : i < len x = omega (arith, q, length-array_items r, h.size) in
    get_or-array_items r i (omega (arith, q, length-array_items r))
    ∙ h.items i p
    ∙ ap₂ (λ a b. simple_value (masked_type (array_type m) (array_type x))
    (masked_value (array_type m) keep a b))
    (part-item 1 vs m f i (omega (arith, p, h.size, n, l))) (part-item 0 vs x e i p)
    ∙ sym (get_or-map g vs i null null (omega (arith, p, h.size, n))))

-- ---- an array and a mask of lists that are not stretched

module _ (keep : Bool) (m x : Layout) (s : IsSimple (array_type m))
    (o : has_ones (array_type m) ≡ false)
    (a : masks (array_type m) (array_type x) ≡ true)
    (p : AllByRecursion (Has (array_type x)) (array_items x))
    (q : AllByRecursion (Has (array_type m)) (array_items m)) where
  abbrev t : DataType
  t = array_type x

  abbrev u : DataType
  u = array_type m

  abbrev n : ℕ
  n = mask_levels (array_type m)

  abbrev S : DataType
  S = shared_type n t u

  abbrev W : List Value
  W = pair_values true (depth_under m) (both m x)

  h : IsMasking n t u
  h = masking u t s o a

  pub leaf-types : leaf_types (depth_under m) (both m x) ≡ under n t ∷ under n u ∷ []
  leaf-types = leaves-data keep t u (array_items x) (array_items m) h p q

  pub leaf-mask : (v : DataType) → v ≡ under n u → is_innermost v ≡ true
  leaf-mask v e = ap is_innermost e ∙ innermost-data keep t u (array_items x) (array_items m) h p q

  pub told-pair : (e : Option Fault) → Told e (single_or_fault true (depth_under m) (both m x))
      → Told e (masked_array m x keep)
  told-pair e f =
      Told-same e _ (pair_refused true (depth_under m) (both m x)) _ _
      (refusal-data keep t u (array_items x) (array_items m) h p q) f

  module _ (b : Bool) (f : single_or_fault true (depth_under m) (both m x) ≡ Ok b) where
    none : pair_refused true (depth_under m) (both m x) ≡ None
    none = (refused_or-Ok (pair_refused true (depth_under m) (both m x))
        (not (some_array (both m x))) b f).0

    even : lists_differ (differs u) (array_items m) (array_items x) ≡ false
    even = (even-data keep t u (array_items x) (array_items m) h p q none).0

    abbrev E : List Value
    E = shared_ends true (depth_under m) (both m x)

    pub shape-under : (z : Shape) → z ≡ classed t (shared_shape true (depth_under m) (both m x))
        → z ≡ shape S W
    shape-under z e = e ∙ shape-data keep t u (array_items x) (array_items m) h p q

    ends-under : E ≡ ends S W
    ends-under = ends-data keep t u (array_items x) (array_items m) h p q

    pub frame-under : (z : Shape) (k : ℕ)
        → z ≡ classed t (shared_shape true (depth_under m) (both m x)) → k ≡ length E
        → IsFrame z k
    frame-under z k e l =
        subst (λ y. IsFrame y k) (sym (shape-under z e))
        (subst (IsFrame (shape S W)) (sym (l ∙ ap length ends-under))
        (frame-data keep t u (array_items x) (array_items m) h p q even
        (even-data keep t u (array_items x) (array_items m) h p q none).1))

    pub typed-under : AllByRecursion (Has S) W
    typed-under = typed-data keep t u (array_items x) (array_items m) h p q even

    -- the function at the ends
    abbrev pub end-value : Value → Value
    end-value w = simple_value (masked_type (under n u) (under n t)) (masked_row keep (under n u) w)

    pub ends-made : (y z r : Layout) → array_type y ≡ under n t → array_type z ≡ under n u
        → array_items y ≡ map (part_at 0) E → array_items z ≡ map (part_at 1) E
        → IsMasked y z keep r → array_items r ≡ map end-value (ends S W)
    ends-made y z r ty tz iy iz g =
        rows-masked y z r keep E g iy iz
        ∙ ap₂ (λ a b. map (λ w. simple_value (masked_type b a) (masked_row keep b w)) E) ty tz
        ∙ ap (map end-value) ends-under

    pub told-made : (r : Layout) → array_items r ≡ map (over S end-value) W
        → array_type r ≡ over_type S (simple (masked_type (under n u) (under n t)))
        → masked_array m x keep ≡ Ok (array_datum r)
    told-made r e g =
        ap (λ k. refused_or k (arr (simple (masked_type u t))
        (map (simple_value (masked_type u t))
        (in_pairs (masked_value u keep) (array_items m) (array_items x)))))
        (refusal-data keep t u (array_items x) (array_items m) h p q ∙ none)
        ∙ ap₂ (λ a vs. Ok (arr a vs))
        (sym (g ∙ result-type keep t u (array_items x) (array_items m) h p q))
        (sym (e ∙ items-data keep t u (array_items x) (array_items m) h p q even))
