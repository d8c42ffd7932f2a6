-- What is told of a function of one list, applied to the lists inside items.
use Rattle.std.specs.Prelude.{◌≡◌, [], ◌∷◌, map, length, Option, Some, None, Ok, Err, option_map}
use Rattle.std.proofs.Common.{arith, ap, ap₂, sym, ◌∙◌}
use Rattle.std.specs.List.{range_with_len}
use Rattle.std.proofs.lemmas.Simd.{map-map}
use Rattle.awk_base.proofs.Ranges.{map-same}
use Rattle.awk_types.specs.DataType.{DataType}
use Rattle.awk_types.specs.Datum.{Datum, arr, one}
use Rattle.awk_types.specs.Gives.{refused_or}
use Rattle.awk_types.specs.Limit.{limit}
use Rattle.awk_types.specs.Simple.{simple, simple_value}
use Rattle.awk_types.specs.Value.{Value}
use Rattle.awk_layout.specs.Datum.{first_item}
use Rattle.awk_layout.specs.Layout.{Layout}
use Rattle.awk_layout.specs.Valid.{len}
use Rattle.awk_layout.specs.Typing.{array_type, array_items}
use Rattle.awk_layout.proofs.ArrayItems.{length-array_items, array_items-one}
use Rattle.awk_gather.specs.Arrays.{array_item}
use Rattle.awk_list_functions.specs.declared.causes.Spoil.{Spoil}
use Rattle.awk_list_functions.specs.declared.place.Reach.{Reach}
use Rattle.awk_axis.specs.declared.lift.Mapped.TheVariants as mapped
use Rattle.awk_list_functions.specs.Causes.{first_spoil}
use Rattle.awk_list_functions.specs.Spoils.{too_many, spoil_at}
use Rattle.awk_list_functions.specs.ListFunction.{ListFunction}
use Rattle.awk_list_functions.specs.Lift.{refusal_at, lifted_type, lifted_value}
use Rattle.awk_list_functions.specs.Lifting.{spoil_fault, on_items, on_one}
use Rattle.awk_list_functions.specs.Made.{IsMapped}
use Rattle.awk_axis.specs.Mapped.{IsLifted}
use Rattle.awk_columns.proofs.ArrayLaws.{array_items-at}
use Rattle.awk_list_functions.proofs.CauseLaws.{first_spoil-none_after}
use Rattle.awk_list_functions.proofs.JudgedTypes.{told_values}

mapped_items : (t : DataType) (g : Value → Value) (x y : Layout) → IsMapped t g x y
    → array_items y ≡ map (λ v. simple_value t (g v)) (array_items x)
mapped_items t g x y m =
    array_items-at y ∙ ap (λ n. map (array_item y) (range_with_len 0 n)) m.size
    ∙ map-same (array_item y) (λ i. simple_value t (g (array_item x i))) 0 (len x)
    (λ i _ q. m.items i (omega (arith, q)))
    ∙ sym (ap (map (λ v. simple_value t (g v))) (array_items-at x)
    ∙ map-map (λ v. simple_value t (g v)) (array_item x) (range_with_len 0 (len x)))

-- nothing is told by types
abbrev pub IsAccepted : ListFunction → Reach → Layout → Type 0
IsAccepted f k x =
    (refusal_at f k (array_type x) ≡ None)
    × (limit (simple (lifted_type f.giving k (array_type x))) ≡ None)

-- ---- an array

-- what is given where nothing is told
abbrev given_items : ListFunction → Reach → Layout → Datum
given_items f k x =
    arr (simple (lifted_type f.giving k (array_type x)))
    (map (λ v. simple_value (lifted_type f.giving k (array_type x))
    (lifted_value f.giving k (array_type x) v)) (array_items x))

pub items_spoilt : (f : ListFunction) (k : Reach) (x : Layout) (many s : Option Spoil) (w : Spoil)
    → IsAccepted f k x → many ≡ too_many (len x) → spoil_at f k (array_type x) (array_items x) ≡ s
    → first_spoil many s ≡ Some w → on_items f k (array_type x) (array_items x) ≡ Err
    (spoil_fault w)
items_spoilt f k x many s w a p q h =
    let spoil : first_spoil (too_many (length (array_items x)))
    (spoil_at f k (array_type x) (array_items x)) ≡ Some w =
    ap (λ n. first_spoil (too_many n) (spoil_at f k (array_type x) (array_items x)))
    (length-array_items x) ∙ ap (λ z. first_spoil (too_many (len x)) z) q
    ∙ ap (λ z. first_spoil z s) (sym p) ∙ h in
    told_values _ _ _ (given_items f k x) a.0 a.1
    ∙ ap (λ z. refused_or (option_map spoil_fault z) (given_items f k x)) spoil

pub items_made : (f : ListFunction) (k : Reach) (x y : Layout) (many : Option Spoil)
    → IsAccepted f k x → many ≡ too_many (len x) → many ≡ None → IsLifted f k x (mapped.Column y)
    → on_items f k (array_type x) (array_items x) ≡ Ok (arr (array_type y) (array_items y))
items_made f k x y many a p n h =
    let t = lifted_type f.giving k (array_type x) in
    let g = lifted_value f.giving k (array_type x) in
    let spoil : first_spoil (too_many (length (array_items x)))
    (spoil_at f k (array_type x) (array_items x)) ≡ None =
    ap (λ n. first_spoil (too_many n) (spoil_at f k (array_type x) (array_items x)))
    (length-array_items x) ∙ ap (λ z. first_spoil (too_many (len x)) z) h.0
    ∙ ap (λ z. first_spoil z None) (sym p ∙ n) in
    told_values _ _ _ (given_items f k x) a.0 a.1
    ∙ ap (λ z. refused_or (option_map spoil_fault z) (given_items f k x)) spoil
    ∙ ap (λ u. Ok (arr u (map (λ v. simple_value t (g v)) (array_items x)))) (sym h.1.typ)
    ∙ ap (λ vs. Ok (arr (array_type y) vs)) (sym (mapped_items t g x y h.1))

pub items_many : (f : ListFunction) (k : Reach) (x y : Layout) (many : Option Spoil) (w : Spoil)
    → IsAccepted f k x → many ≡ too_many (len x) → many ≡ Some w → IsLifted f k x (mapped.Column y)
    → on_items f k (array_type x) (array_items x) ≡ Err (spoil_fault w)
items_many f k x y many w a p n h =
    items_spoilt f k x many None w a p h.0 (first_spoil-none_after many ∙ n)

-- ---- a single value

abbrev given_one : ListFunction → Reach → Layout → Datum
given_one f k x =
    one (simple (lifted_type f.giving k (array_type x)))
    (simple_value (lifted_type f.giving k (array_type x))
    (lifted_value f.giving k (array_type x) (first_item x)))

pub one_spoilt : (f : ListFunction) (k : Reach) (x : Layout) (w : Spoil) → len x ≡ 1
    → IsAccepted f k x → IsLifted f k x (mapped.Spoiled w)
    → on_one f k (array_type x) (first_item x) ≡ Err (spoil_fault w)
one_spoilt f k x w e a h =
    let spoil : spoil_at f k (array_type x) (first_item x ∷ []) ≡ Some w =
    ap (spoil_at f k (array_type x)) (sym (array_items-one x e)) ∙ h in
    told_values _ _ _ (given_one f k x) a.0 a.1
    ∙ ap (λ z. refused_or (option_map spoil_fault z) (given_one f k x)) spoil

pub one_made : (f : ListFunction) (k : Reach) (x y : Layout) → len x ≡ 1 → IsAccepted f k x
    → IsLifted f k x (mapped.Column y)
    → on_one f k (array_type x) (first_item x) ≡ Ok (one (array_type y) (first_item y))
one_made f k x y e a h =
    let spoil : spoil_at f k (array_type x) (first_item x ∷ []) ≡ None =
    ap (spoil_at f k (array_type x)) (sym (array_items-one x e)) ∙ h.0 in
    told_values _ _ _ (given_one f k x) a.0 a.1
    ∙ ap (λ z. refused_or (option_map spoil_fault z) (given_one f k x)) spoil
    ∙ ap₂ (λ u v. Ok (one u v)) (sym h.1.typ) (sym (h.1.items 0 (omega (arith, e))))

pub one_size : (f : ListFunction) (k : Reach) (x y : Layout) → len x ≡ 1
    → IsLifted f k x (mapped.Column y) → len y ≡ 1
one_size f k x y e h = h.1.size ∙ e
