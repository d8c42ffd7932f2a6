-- What masks and indexes answer: the first refusal, or the items.
use Rattle.std.proofs.Common.{◌≡◌, ℕ, ◌<◌, ◌≤◌, List, length, refl, ap, ap₂, sym, ◌∙◌, subst}
use Rattle.std.proofs.Common.{eq-eqb, ne_eqb}
use Rattle.std.specs.Prelude.{true, false, Some, None, Result, Ok, Err, if◌then◌else◌}
use Rattle.std.specs.List.{list_any}
use Rattle.awk_types.specs.DataType.{DataType}
use Rattle.awk_types.specs.Datum.{Datum, arr}
use Rattle.awk_types.specs.Faults.{fault_told}
use Rattle.awk_types.specs.Gives.{Gives, refused_or, ◌or◌}
use Rattle.awk_types.specs.Value.{Value}
use Rattle.awk_types.specs.ItemLimit.{item_limit, too_many}
use Rattle.awk_types.specs.declared.fault.Fault.{Fault}
use Rattle.awk_types.specs.declared.fault.Fault.TheVariants.{Lengths, Index, Size}
use Rattle.awk_types.proofs.RefusalLaws.{refused_or-None}
use Rattle.awk_types.proofs.ItemLimits.{over_limit, within_limit}
use Rattle.awk_lanes.specs.Column.{Column}
use Rattle.awk_lanes.specs.declared.kind.Kind.TheVariants.{I64}
use Rattle.awk_layout.specs.Layout.{Layout}
use Rattle.awk_layout.specs.Valid.{len}
use Rattle.awk_layout.specs.Typing.{array_type, array_items, array_datum}
use Rattle.awk_layout.proofs.ArrayItems.{length-array_items}
use Rattle.awk_gather.specs.Arrays.{pick}
use Rattle.awk_lanes.specs.Made.{lane_of}
use Rattle.awk_select.specs.Cells.{places_lane, take_number}
use Rattle.awk_select.specs.Picks.{picked, picked_type, mask_places, alike, take_places, is_outside}
use Rattle.awk_select.specs.Picks.{index_refused}
use Rattle.awk_select.proofs.PickedPlaces.{pick-picked, take-lane}

-- ---- masks

pub mask-size : (k n : ℕ) (a : Datum) → k ≡ n → item_limit < k
    → refused_or (too_many n) a ≡ Err Size
mask-size k n a e h = ap (λ o. refused_or o a) (ap too_many (sym e) ∙ over_limit k h)

pub mask-said : (x m : Layout) (p : Column) (u : DataType) (k : ℕ) (r : Result Layout Fault)
    → u ≡ array_type m → p ≡ places_lane (mask_places (array_items m))
    → k ≡ length (mask_places (array_items m)) → k ≤ item_limit
    → Gives array_datum fault_told r (Ok (arr (picked_type u (array_type x))
    (pick (array_items x) p.items))) → Gives array_datum fault_told r
    (refused_or (too_many (length (mask_places (array_items m))))
    (arr (picked_type (array_type m) (array_type x))
    (picked (array_items x) (mask_places (array_items m)))))
mask-said x m p u k r t e c l h =
    let os = mask_places (array_items m) in
    let a = arr (picked_type (array_type m) (array_type x)) (picked (array_items x) os) in
    let same : Ok (arr (picked_type u (array_type x)) (pick (array_items x) p.items)) ≡ refused_or
    (too_many (length os)) a =
    ap₂ (λ t vs. Ok (arr (picked_type t (array_type x)) vs)) t (pick-picked (array_items x) os p e)
    ∙ sym (refused_or-None (too_many (length os)) a a (ap too_many (sym c) ∙ within_limit k l)
    refl) in
    subst (λ said. Gives array_datum fault_told r said) same h

-- ---- indexes

pub take-outside : (n k : ℕ) (ws : List Value) (a : Datum) → k ≡ n
    → list_any (is_outside k) ws ≡ true
    → refused_or (index_refused n ws or too_many (length ws)) a ≡ Err Index
take-outside n k ws a e h =
    ap (λ m. refused_or (index_refused m ws or too_many (length ws)) a) (sym e)
    ∙ ap (λ b. refused_or ((if b then Some Index else None) or too_many (length ws)) a) h

take-inside : (n k : ℕ) (ws : List Value) (a : Datum) → k ≡ n → list_any (is_outside k) ws ≡ false
    → refused_or (index_refused n ws or too_many (length ws)) a ≡ refused_or (too_many (length ws))
    a
take-inside n k ws a e h =
    ap (λ m. refused_or (index_refused m ws or too_many (length ws)) a) (sym e)
    ∙ ap (λ b. refused_or ((if b then Some Index else None) or too_many (length ws)) a) h

pub take-size : (n k q : ℕ) (ws : List Value) (a : Datum) → k ≡ n
    → list_any (is_outside k) ws ≡ false → q ≡ length ws → item_limit < q
    → refused_or (index_refused n ws or too_many (length ws)) a ≡ Err Size
take-size n k q ws a e h c l = take-inside n k ws a e h ∙ mask-size q (length ws) a c l

pub take-said : (x ix : Layout) (p : Column) (u : DataType) (n q : ℕ) (r : Result Layout Fault)
    → u ≡ array_type ix → n ≡ length (array_items x) → p ≡ lane_of I64 (len ix) (take_number n ix)
    → list_any (is_outside n) (array_items ix) ≡ false → q ≡ length (array_items ix)
    → q ≤ item_limit
    → Gives array_datum fault_told r (Ok (arr (picked_type u (array_type x))
    (pick (array_items x) p.items))) → Gives array_datum fault_told r
    (refused_or (index_refused (length (array_items x)) (array_items ix) or too_many
    (length (array_items ix))) (arr (picked_type (array_type ix) (array_type x))
    (picked (array_items x) (take_places (length (array_items x)) (array_items ix)))))
take-said x ix p u n q r t e lane inside c l h =
    let ws = array_items ix in
    let a = arr (picked_type (array_type ix) (array_type x))
    (picked (array_items x) (take_places (length (array_items x)) ws)) in
    let same : Ok (arr (picked_type u (array_type x)) (pick (array_items x) p.items)) ≡ refused_or
    (index_refused (length (array_items x)) ws or too_many (length ws)) a =
    ap₂ (λ t vs. Ok (arr (picked_type t (array_type x)) vs)) t
    (pick-picked (array_items x) (take_places n ws) p (take-lane n ix p lane) ∙ ap
    (λ m. picked (array_items x) (take_places m ws)) e)
    ∙ sym (take-inside (length (array_items x)) n ws a e inside ∙ refused_or-None
    (too_many (length ws)) a a (ap too_many (sym c) ∙ within_limit q l) refl) in
    subst (λ said. Gives array_datum fault_told r said) same h

-- ---- lengths

pub alike-refused : (x m : Layout) (a b : ℕ) → a ≡ len x → b ≡ len m → (a ≡ b → ⊥)
    → alike (array_type x) (array_items x) (array_type m) (array_items m) ≡ Err Lengths
alike-refused x m a b e h n =
    let apart : length (array_items x) ≡ length (array_items m) → ⊥ = λ s. n
    (e ∙ sym (length-array_items x) ∙ s ∙ length-array_items m ∙ sym h) in
    ap (λ b. refused_or ((if b then None else Some Lengths) or too_many
    (length (mask_places (array_items m))))
    (arr (picked_type (array_type m) (array_type x))
    (picked (array_items x) (mask_places (array_items m)))))
    (ne_eqb (length (array_items x)) (length (array_items m)) apart)

pub alike-said : (x m : Layout) (r : Result Layout Fault) → len x ≡ len m
    → Gives array_datum fault_told r (refused_or (too_many (length (mask_places (array_items m))))
    (arr (picked_type (array_type m) (array_type x))
    (picked (array_items x) (mask_places (array_items m))))) → Gives array_datum fault_told r
    (alike (array_type x) (array_items x) (array_type m) (array_items m))
alike-said x m r e h =
    subst (λ said. Gives array_datum fault_told r said)
    (sym (ap (λ b. refused_or ((if b then None else Some Lengths) or too_many
    (length (mask_places (array_items m))))
    (arr (picked_type (array_type m) (array_type x))
    (picked (array_items x) (mask_places (array_items m)))))
    (eq-eqb (length (array_items x)) (length (array_items m))
    (length-array_items x ∙ e ∙ sym (length-array_items m))))) h
