-- An array of the node that is made, and data.
use Rattle.std.proofs.Common.{◌≡◌, ℕ, ◌<◌, ◌≤◌, ◌||◌, true, false, List, [], ◌∷◌, map}
use Rattle.std.proofs.Common.{ap, ap₂, sym, subst, ◌∙◌, arith}
use Rattle.std.specs.Prelude.{Option, None, Ok, Err}
use Rattle.std.specs.List.{range_with_len}
use Rattle.std.proofs.lemmas.Simd.{map-map}
use Rattle.awk_base.proofs.Ranges.{map-same}
use Rattle.awk_types.specs.Datum.{arr, one}
use Rattle.awk_types.specs.Faults.{fault_told}
use Rattle.awk_types.specs.Gives.{Told, refused_or}
use Rattle.awk_types.specs.Limit.{limit}
use Rattle.awk_types.specs.Simple.{simple, simple_value}
use Rattle.awk_types.specs.Value.{Value}
use Rattle.awk_types.specs.declared.fault.Fault.{Fault}
use Rattle.awk_types.specs.declared.fault.Fault.TheVariants as fault
use Rattle.awk_types.specs.declared.primitive.Primitive.{Primitive}
use Rattle.awk_types.proofs.SimpleLaws.{simple_stays, value_stays}
use Rattle.awk_layout.specs.Array.{IsArrayType}
use Rattle.awk_layout.specs.Datum.{first_item}
use Rattle.awk_layout.specs.Item.{item}
use Rattle.awk_layout.specs.Layout.{Layout}
use Rattle.awk_layout.specs.Numbered.{IsNumbered}
use Rattle.awk_layout.specs.Typing.{array_type, array_items}
use Rattle.awk_layout.specs.Valid.{len, IsValid}
use Rattle.awk_layout.proofs.ArrayItems.{length-array_items, array_items-one}
use Rattle.awk_layout.proofs.TypedItems.{item_has}
use Rattle.awk_gather.specs.Arrays.{array_item}
use Rattle.awk_columns.proofs.ArrayLaws.{array_items-at}
use Rattle.awk_cast.specs.Cast.{cast_type, cast_value, cast_of, are_many, is_large, overflows, told}
use Rattle.awk_cast.specs.Casting.{IsCast, IsArrayOf, IsTold, fault_of, told_of, is_large_array}
use Rattle.awk_cast.specs.Casting.{array_overflows}
use Rattle.awk_cast.specs.declared.fault.CastFault.{CastFault}
use Rattle.awk_cast.specs.declared.fault.CastFault.TheVariants.{Size, Overflow, NoMemory}
use Rattle.awk_cast.proofs.TypeLaws.{limit-cast, simple_cast}

-- ---- the array of a node

module _ (p : Primitive) (x y : Layout) (lawful : IsArrayType (array_type x)) (m : IsCast p x y)
  where
    made_type : array_type y ≡ cast_type p (array_type x)
    made_type =
        ap simple m.typ
        ∙ simple_stays (cast_type p (array_type x)) (simple_cast p (array_type x) lawful.is_simple)

    pub made_limit : limit (array_type y) ≡ None
    made_limit = ap limit made_type ∙ limit-cast p (array_type x) ∙ lawful.within_limits

    pub made_array : IsValid y → IsNumbered y → IsArrayOf p x y
    made_array v n = record {
      size = m.size;
      typ = made_type;
      items =
          array_items-at y
          ∙ ap (λ k. map (array_item y) (range_with_len 0 k)) m.size
          ∙ map-same (array_item y) (λ i. cast_value p (array_type x) (array_item x i)) 0 (len x)
          (λ i _ h. at_place i (omega (arith, h)))
          ∙ sym (map-map (cast_value p (array_type x)) (array_item x) (range_with_len 0 (len x)))
          ∙ ap (map (cast_value p (array_type x))) (sym (array_items-at x));
    }
      where
        at_place : (i : ℕ) → i < len x
            → array_item y i ≡ cast_value p (array_type x) (array_item x i)
        at_place i h =
            ap (λ t. simple_value t (item y i)) m.typ
            ∙ value_stays (cast_type p (array_type x)) (item y i)
            (simple_cast p (array_type x) lawful.is_simple)
            (rw (← m.typ) (item_has y i v n (omega (arith, h, m.size))))
            ∙ m.items i h

-- ---- data

told_datum : {X : Type 0} (s : Option Fault) (e : CastFault) (d : X) → IsTold s e
    → Told (fault_told (fault_of e)) (refused_or s d)
told_datum s NoMemory d h = tt
told_datum s Size d h = ap (λ o. refused_or o d) h
told_datum s Overflow d h = ap (λ o. refused_or o d) h

-- an array that is no longer than a column
few_told : (p : Primitive) (x : Layout) → are_many (array_items x) ≡ false
    → told (are_many (array_items x) || is_large_array x) (array_overflows p x) ≡ told_of p x
few_told p x e = ap (λ b. told (b || is_large_array x) (array_overflows p x)) e

pub array_told : (p : Primitive) (x : Layout) (e : CastFault) → are_many (array_items x) ≡ false
    → IsTold (told_of p x) e
    → Told (fault_told (fault_of e)) (cast_of p (arr (array_type x) (array_items x)))
array_told p x e few h =
    let t = array_type x in
    told_datum _ e (arr (cast_type p t) (map (cast_value p t) (array_items x)))
    (subst (λ s. IsTold s e) (sym (few_told p x few)) h)

pub array_given : (p : Primitive) (x y : Layout) → are_many (array_items x) ≡ false
    → told_of p x ≡ None → IsArrayOf p x y
    → cast_of p (arr (array_type x) (array_items x)) ≡ Ok (arr (array_type y) (array_items y))
array_given p x y few h m =
    ap₂ refused_or (few_told p x few ∙ h) (ap₂ arr (sym m.typ) (sym m.items))

pub many_told : (p : Primitive) (x : Layout) → are_many (array_items x) ≡ true
    → cast_of p (arr (array_type x) (array_items x)) ≡ Err fault.Size
many_told p x e =
    ap (λ b. refused_or (told (b || is_large_array x) (array_overflows p x))
    (arr (cast_type p (array_type x)) (map (cast_value p (array_type x)) (array_items x)))) e

pub over_limit : (x : Layout) (n : ℕ) → n ≡ len x → 1073741824 < n → are_many (array_items x) ≡ true
over_limit x n e h = grind (arith, h, e, length-array_items x)

pub within_limit : (x : Layout) (n : ℕ) → n ≡ len x → n ≤ 1073741824
    → are_many (array_items x) ≡ false
within_limit x n e h = grind (arith, h, e, length-array_items x)

-- ---- single values

one_told_is : (p : Primitive) (x : Layout) → len x ≡ 1
    → told (is_large (array_type x) (first_item x ∷ []))
    (overflows p (array_type x) (first_item x ∷ [])) ≡ told_of p x
one_told_is p x e =
    ap (λ vs. told (is_large (array_type x) vs) (overflows p (array_type x) vs))
    (sym (array_items-one x e))

pub one_told : (p : Primitive) (x : Layout) (e : CastFault) → len x ≡ 1 → IsTold (told_of p x) e
    → Told (fault_told (fault_of e)) (cast_of p (one (array_type x) (first_item x)))
one_told p x e n h =
    told_datum _ e (one (cast_type p (array_type x)) (cast_value p (array_type x) (first_item x)))
    (subst (λ s. IsTold s e) (sym (one_told_is p x n)) h)

first_of_list : (v w : Value) → ◌≡◌ {A = List Value} (v ∷ []) (w ∷ []) → v ≡ w
first_of_list v w e = cc

pub one_given : (p : Primitive) (x y : Layout) → len x ≡ 1 → told_of p x ≡ None
    → IsArrayOf p x y
    → cast_of p (one (array_type x) (first_item x)) ≡ Ok (one (array_type y) (first_item y))
one_given p x y n h m =
    let first : cast_value p (array_type x) (first_item x) ≡ first_item y =
    first_of_list _ _
    (sym (ap (map (cast_value p (array_type x))) (array_items-one x n)) ∙ sym m.items
    ∙ array_items-one y (m.size ∙ n)) in
    ap₂ refused_or (one_told_is p x n ∙ h) (ap₂ one (sym m.typ) first)
