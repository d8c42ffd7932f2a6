-- The arrays that a gather gives.
use Rattle.std.proofs.Common.{◌≡◌, ℕ, ◌<◌, get_or, arith, refl, ap, ap₂, sym, ◌∙◌, subst}
use Rattle.std.specs.Prelude.{ℤ, pos, negsuc, ◌<ℤ◌, None, option_map}
use Rattle.std.proofs.lemmas.Int.{ints}
use Rattle.std.proofs.lemmas.List.{ext_get_or, get_or-map, length-map}
use Rattle.awk_types.specs.DataType.{opt}
use Rattle.awk_types.specs.Datum.{arr}
use Rattle.awk_types.specs.Faults.{limit_fault}
use Rattle.awk_types.specs.Gives.{refused_or}
use Rattle.awk_types.specs.Value.{null}
use Rattle.awk_types.specs.Limit.{limit}
use Rattle.awk_types.specs.Simple.{simple, simple_value, option_of}
use Rattle.awk_types.proofs.SimpleLaws.{simple_twice}
use Rattle.awk_lanes.specs.declared.kind.Kind.TheVariants.{I64}
use Rattle.awk_lanes.specs.Column.{Column}
use Rattle.awk_lanes.specs.Numbers.{element}
use Rattle.awk_lanes.specs.Places.{at, place_at, size_of, option_place, option_place_at, IsIndex}
use Rattle.awk_lanes.specs.Places.{IsOptionalIndex}
use Rattle.awk_layout.specs.Layout.{Layout, optional}
use Rattle.awk_layout.specs.Valid.{len}
use Rattle.awk_layout.specs.Item.{item, at_option}
use Rattle.awk_layout.specs.Typing.{layout_type, array_type, array_items}
use Rattle.awk_layout.proofs.ArrayItems.{length-array_items, get_or-array_items}
use Rattle.awk_gather.specs.Arrays.{array_item, pick, IsGathered, IsGatheredOpt, optional_type}
use Rattle.awk_gather.specs.Arrays.{picked_or_null}
use Rattle.awk_gather.specs.Picked.{IsPicked}
use Rattle.awk_gather.specs.Peeled.{IsPeeled, IsPickedOpt}
use Rattle.awk_gather.proofs.ArrayAnswers.{datum_or_fault}
use Rattle.awk_gather.proofs.FollowedIndexes.{item_at_place}
use Rattle.awk_gather_lanes.proofs.PickedLanes.{optional_of_places}
use Rattle.awk_gather.proofs.OptionItems.{item-optional}

pub picked_item : (x : Layout) (z : ℤ) → z <ℤ pos (len x)
    → at_option (option_place z) (λ k. get_or (array_items x) k null) ≡ at_option (option_place z)
    (array_item x)
picked_item x (pos n) h = get_or-array_items x n (omega (arith, ints))
picked_item x (negsuc n) h = refl

pub at-I64 : (p : Column) (j : ℕ) → p.kind ≡ I64 → at p j ≡ get_or p.items j (pos 0)
at-I64 p j e = ap (λ k. element k (get_or p.items j (pos 0))) e

-- an array with the items at places has the list of them
pub picked_items : (x r : Layout) (p : Column) → p.kind ≡ I64 → IsOptionalIndex p (len x)
    → len r ≡ size_of p
    → ((j : ℕ) → j < size_of p → array_item r j ≡ at_option (option_place_at p j) (array_item x))
    → array_items r ≡ pick (array_items x) p.items
picked_items x r p e v s h =
    ext_get_or null _ _ (length-array_items r ∙ s ∙ sym
    (length-map p.items (λ z. at_option (option_place z) (λ k. get_or (array_items x) k null))))
    (λ j l.
    let l' : j < size_of p = omega (arith, length-array_items r, s) in
    get_or-array_items r j (omega (arith, s))
    ∙ h j l'
    ∙ sym (picked_item x (at p j) (v.below j l'))
    ∙ ap (λ z. at_option (option_place z) (λ k. get_or (array_items x) k null)) (at-I64 p j e)
    ∙ sym (get_or-map (λ z. at_option (option_place z) (λ k. get_or (array_items x) k null)) p.items
    j (pos 0) null l'))

-- what was picked by place, as an array
pub gathered : (x r : Layout) (p : Column) → p.kind ≡ I64 → IsIndex p (len x) → IsPicked x p r
    → IsGathered x p r
gathered x r p e v h = record {
  typ = ap simple h.same_type;
  items = picked_items x r p e (optional_of_places p (len x) e v) h.size (λ j l.
      each j l ∙ sym (item_at_place (at p j) (array_item x) (v.places j l).0));
  size = h.size;
  each = each;
}
  where
    each : (j : ℕ) → j < size_of p → array_item r j ≡ array_item x (place_at p j)
    each j l =
        ap (λ t. simple_value t (item r j)) h.same_type ∙ ap (simple_value (layout_type x))
        (h.items j l)

pub gathered_of : (x r r' : Layout) (p : Column) → r' ≡ r → p.kind ≡ I64 → IsIndex p (len x)
    → IsPicked x p r → IsGathered x p r'
gathered_of x r r' p q e v h = subst (IsGathered x p) (sym q) (gathered x r p e v h)

-- its type passes no limit
pub gathered_limit : (x r : Layout) (p : Column) → IsPicked x p r → limit (array_type x) ≡ None
    → limit (array_type r) ≡ None
gathered_limit x r p h e = ap (λ t. limit (simple t)) h.same_type ∙ e

-- an option of what is left
pub peeled_opt : (x y y' r : Layout) (p k : Column) → IsPeeled x p k y → y' ≡ y → r ≡ optional k y'
    → IsPickedOpt x p r
peeled_opt x y y' r p k h e f = rw (f, e) (record {
  size = h.size;
  items = λ j l. item-optional k y j ∙ h.items j l;
  typ = ap opt h.same_present;
  held_within = omega (arith, h.held_within);
})

option_twice : (x : Layout) → option_of (array_type x) ≡ optional_type x
option_twice x = ap option_of (sym (simple_twice (layout_type x)))

pub gathered_opt : (x r r' : Layout) (p : Column) → r' ≡ r → IsPickedOpt x p r
    → IsGatheredOpt x p r'
gathered_opt x r r' p q h =
    subst (IsGatheredOpt x p) (sym q) (record { size = h.size; each = h.items })

-- its type and items, or the limit that this type passes
pub picked_or_null-is : (x r : Layout) (p : Column) → p.kind ≡ I64 → IsOptionalIndex p (len x)
    → IsPickedOpt x p r → picked_or_null x p ≡ datum_or_fault r
picked_or_null-is x r p e v h =
    ap₂ (λ t vs. refused_or (option_map limit_fault (limit t)) (arr t vs))
    (sym (h.typ ∙ option_twice x)) (sym (picked_items x r p e v h.size h.items))
