-- What an array's view answers, from what is chosen of its node.
use Rattle.std.proofs.Common.{◌≡◌, ℕ, zero, suc, ◌+◌, ◌<◌, ◌≤◌, ◌∷◌, map, Option, Some, None}
use Rattle.std.proofs.Common.{Result, Ok, Err, refl, ap, ap₂, ◌∙◌, sym, subst, arith}
use Rattle.std.specs.List.{range_with_len}
use Rattle.std.specs.Option.{option_map}
use Rattle.std.specs.Prelude.{IsErrAnd}
use Rattle.awk_types.specs.DataType.{Name}
use Rattle.awk_types.specs.Datum.{arr}
use Rattle.awk_types.specs.Gives.{Told, Gives, refused_or, ◌or◌}
use Rattle.awk_types.specs.Limit.{Limit, depth_limit, size_limit, limit, limit_told}
use Rattle.awk_types.specs.Faults.{fault_of, limit_fault, fault_told}
use Rattle.awk_types.specs.Simple.{simple, simple_value}
use Rattle.awk_types.specs.declared.limit.TypeFault.{TypeFault}
use Rattle.awk_types.specs.declared.limit.TypeFault.TheVariants as refused
use Rattle.awk_types.specs.declared.fault.Fault.{Fault}
use Rattle.awk_types.specs.declared.fault.Fault.TheVariants.{NoField}
use Rattle.awk_types.proofs.RefusalLaws.{refused_or-Ok, refused_or-Err, Gives-Err}
use Rattle.awk_layout.specs.Layout.{Layout}
use Rattle.awk_layout.specs.Valid.{len, IsValid}
use Rattle.awk_layout.specs.Numbered.{IsNumbered}
use Rattle.awk_layout.specs.Item.{item}
use Rattle.awk_layout.specs.Typing.{layout_type, array_type, array_items, array_datum}
use Rattle.awk_layout.specs.Array.{array_of}
use Rattle.awk_layout.proofs.TypedItems.{item_has}
use Rattle.awk_view.specs.Choice.{Choice, absent, chosen_type, chosen_value}
use Rattle.awk_view.specs.Answer.{choice_fault, choice_answer}
use Rattle.awk_view.specs.Layouts.{IsFound, layout_of_choice}
use Rattle.awk_view.proofs.ChoiceTypes.{absent-simple, chosen_type-simple}
use Rattle.awk_view.proofs.ChoiceValues.{chosen_value-simple}
use Rattle.awk_view.proofs.ChoiceLayouts.{type-layout_of_choice, len-layout_of_choice}
use Rattle.awk_view.proofs.ChoiceItems.{item-layout_of_choice}

-- the type and the items of what is chosen

pub type_chosen : (c : Choice) (x : Layout)
    → array_type (layout_of_choice c x) ≡ chosen_type c (array_type x)
type_chosen c x = ap simple (type-layout_of_choice c x) ∙ sym (chosen_type-simple c (layout_type x))

item_chosen : (c : Choice) (x : Layout) → IsValid x → IsNumbered x → (i : ℕ) → i < len x →
    simple_value (layout_type (layout_of_choice c x)) (item (layout_of_choice c x) i) ≡ chosen_value
    c (array_type x) (simple_value (layout_type x) (item x i))
item_chosen c x v n i p =
    ap₂ simple_value (type-layout_of_choice c x) (item-layout_of_choice c x v i p)
    ∙ sym (chosen_value-simple c (layout_type x) (item x i) (item_has x i v n p))

each_chosen : (c : Choice) (x : Layout) → IsValid x → IsNumbered x → (first k : ℕ)
    → first + k ≤ len x →
    map (simple_value (layout_type (layout_of_choice c x)))
    (map (item (layout_of_choice c x)) (range_with_len first k)) ≡ map
    (chosen_value c (array_type x)) (map (simple_value (layout_type x))
    (map (item x) (range_with_len first k)))
each_chosen c x v n first zero h = refl
each_chosen c x v n first (suc k) h =
    ap₂ (λ w ws. w ∷ ws) (item_chosen c x v n first (omega arith))
    (each_chosen c x v n (first + 1) k (omega arith))

pub items_chosen : (c : Choice) (x : Layout) → IsValid x → IsNumbered x → IsFound c (layout_type x)
    → array_items (layout_of_choice c x) ≡ map (chosen_value c (array_type x)) (array_items x)
items_chosen c x v n f =
    ap (λ k. map (simple_value (layout_type (layout_of_choice c x)))
    (map (item (layout_of_choice c x)) (range_with_len 0 k))) (len-layout_of_choice c x v f)
    ∙ each_chosen c x v n 0 (len x) (omega arith)

-- ---- answers

-- a field that is not found
pub absent_told : (c : Choice) (x : Layout) (k : Name) (r : Result Layout Fault)
    → r ≡ Err (NoField k) → Some k ≡ absent c (layout_type x)
    → Gives array_datum fault_told r (choice_answer c (array_type x) (array_items x))
absent_told c x k r e a =
    Gives-Err array_datum fault_told r (NoField k) (choice_answer c (array_type x) (array_items x))
    e
    (ap (λ o. refused_or (option_map NoField o or option_map limit_fault
    (limit (chosen_type c (array_type x))))
    (arr (chosen_type c (array_type x)) (map (chosen_value c (array_type x)) (array_items x))))
    (absent-simple c (layout_type x) ∙ sym a))

-- where it is found, the answer is by the limits alone
limits_alone : (c : Choice) (x : Layout) (o : Option Limit)
    → limit (chosen_type c (array_type x)) ≡ o → absent c (layout_type x) ≡ None
    → choice_fault c (array_type x) ≡ option_map limit_fault o
limits_alone c x o e a =
    ap₂ (λ p q. option_map NoField p or option_map limit_fault q)
    (absent-simple c (layout_type x) ∙ a) e

limit_told_by : (c : Choice) (x made : Layout) (o : Limit) → made ≡ layout_of_choice c x
    → absent c (layout_type x) ≡ None → array_of made ≡ Err o
    → choice_answer c (array_type x) (array_items x) ≡ Err (limit_fault o)
limit_told_by c x made o e a h =
    let l : limit (chosen_type c (array_type x)) ≡ Some o = ap limit (sym (type_chosen c x)) ∙ ap
    (λ y. limit (array_type y)) (sym e) ∙ refused_or-Err (limit (array_type made)) made o h in
    ap (λ p. refused_or p (arr (chosen_type c (array_type x))
    (map (chosen_value c (array_type x)) (array_items x)))) (limits_alone c x (Some o) l a)

-- a type that is refused
pub refused_told : (c : Choice) (x made : Layout) (t : TypeFault) (e : Fault)
    (r : Result Layout Fault) → r ≡ Err e → e ≡ fault_of t → made ≡ layout_of_choice c x → absent c
    (layout_type x) ≡ None → Told (limit_told t) (array_of made) → Gives array_datum fault_told r
    (choice_answer c (array_type x) (array_items x))
refused_told c x made t e r re et m a h =
    Gives-Err array_datum fault_told r e (choice_answer c (array_type x) (array_items x)) re
    (subst (λ f. Told (fault_told f) (choice_answer c (array_type x) (array_items x))) (sym et)
    (by t h))
  where
    by : (t : TypeFault) → Told (limit_told t) (array_of made)
        → Told (fault_told (fault_of t)) (choice_answer c (array_type x) (array_items x))
    by refused.Depth h = limit_told_by c x made depth_limit m a h
    by refused.Size h = limit_told_by c x made size_limit m a h
    by refused.NoMemory h = tt

-- an array
pub chosen_told : (c : Choice) (x made y : Layout) (r : Result Layout Fault) → r ≡ Ok y
    → made ≡ layout_of_choice c x → absent c (layout_type x) ≡ None → IsValid x → IsNumbered x
    → IsFound c (layout_type x) → array_of made ≡ Ok y
    → Gives array_datum fault_told r (choice_answer c (array_type x) (array_items x))
chosen_told c x made y r re m a v n f h =
    let o = refused_or-Ok (limit (array_type made)) made y h in
    let l : limit (chosen_type c (array_type x)) ≡ None = ap limit (sym (type_chosen c x)) ∙ ap
    (λ y. limit (array_type y)) (sym m) ∙ o.0 in
    let is : y ≡ layout_of_choice c x = sym o.1 ∙ m in
    subst (λ r. Gives array_datum fault_told r (choice_answer c (array_type x) (array_items x)))
    (sym re)
    (ap (λ p. refused_or p (arr (chosen_type c (array_type x))
    (map (chosen_value c (array_type x)) (array_items x)))) (limits_alone c x None l a)
    ∙ sym (ap (λ z. Ok (array_datum z)) is ∙ ap₂ (λ t vs. Ok (arr t vs)) (type_chosen c x)
    (items_chosen c x v n f)))

pub refusal_told : (c : Choice) (x made : Layout) (t : TypeFault) (r : Result Layout Fault)
    → IsErrAnd r (λ e. e ≡ fault_of t) → made ≡ layout_of_choice c x
    → absent c (layout_type x) ≡ None → Told (limit_told t) (array_of made)
    → Gives array_datum fault_told r (choice_answer c (array_type x) (array_items x))
refusal_told c x made t (Ok y) h m a l = absurd h
refusal_told c x made t (Err e) h m a l = refused_told c x made t e (Err e) refl h m a l
