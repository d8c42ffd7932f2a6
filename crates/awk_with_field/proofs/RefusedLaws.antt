-- What is told of the result's type, and of an array that is one list beside a single value.
use Rattle.std.proofs.Common.{◌≡◌, ℕ, Bool, true, false, not, refl, ap, sym, subst, ◌∙◌}
use Rattle.std.specs.Prelude.{List, [], ◌∷◌, length, Some, None, Err, option_map, nat_lt}
use Rattle.std.specs.Prelude.{if◌then◌else◌}
use Rattle.std.proofs.lemmas.List.{length-map}
use Rattle.awk_types.specs.DataType.{Name, DataType, var}
use Rattle.awk_types.specs.Datum.{Datum, arr, one, datum_type}
use Rattle.awk_types.specs.Faults.{fault_told, limit_fault}
use Rattle.awk_types.specs.Gives.{Told, refused_or, ◌or◌}
use Rattle.awk_types.specs.Limit.{Limit, depth_limit, size_limit, limit, limit_told}
use Rattle.awk_types.specs.Simple.{IsSimple}
use Rattle.awk_types.specs.Value.{Value, list, values_from}
use Rattle.awk_types.specs.declared.fault.Fault.{Fault}
use Rattle.awk_types.specs.declared.fault.Fault.TheVariants as fault
use Rattle.awk_types.specs.declared.limit.TypeFault.{TypeFault}
use Rattle.awk_types.specs.declared.limit.TypeFault.TheVariants as refused
use Rattle.awk_types.proofs.RefusalLaws.{refused_or-Err}
use Rattle.awk_layout.specs.Array.{array_of}
use Rattle.awk_layout.specs.Datum.{datum_of, kept, first_item}
use Rattle.awk_layout.specs.Layout.{Layout}
use Rattle.awk_layout.specs.Single.{own_datum}
use Rattle.awk_layout.specs.Typing.{array_type, array_items}
use Rattle.awk_layout.specs.Valid.{len}
use Rattle.awk_layout.specs.declared.datum.Datum as code
use Rattle.awk_layout.specs.declared.datum.Datum.TheVariants.{Arr, One}
use Rattle.awk_layout.specs.declared.datum.Operand.{Operand}
use Rattle.awk_layout.proofs.ArrayItems.{array_items-one}
use Rattle.awk_pair_operands.specs.First.{all_data}
use Rattle.awk_pair_operands.specs.Pairs.{pair_refused, datum_from, some_array}
use Rattle.awk_put_field.specs.Depths.{depth_over, list_told}
use Rattle.awk_put_field.specs.Ends.{ends_at_records}
use Rattle.awk_with_field.specs.Refused.{IsListFault}
use Rattle.awk_with_field.specs.WithField.{levels_of, beside, both, is_wrong, with_type}
use Rattle.awk_with_field.specs.WithField.{with_values, with_field_at, with_field_of}
use Rattle.awk_with_field.proofs.AnswerLaws.{wrong-none}
use Rattle.awk_put_field.proofs.DepthLaws.{deep_result, large_result}
use Rattle.awk_with_field.proofs.LevelLaws.{wrong-told}

pub type-kept : (d : code.Datum) → datum_type (datum_of d) ≡ array_type (kept d)
type-kept (Arr x) = refl
type-kept (One x) = refl

-- what ends at records is not wrong, and all else is
pub right-told : (e v : Datum) → IsSimple (datum_type e) → ends_at_records (datum_type e) ≡ true
    → is_wrong (levels_of e) (both e v) ≡ false
right-told e v s r = wrong-told e v s ∙ ap not r

pub wrong_answer : (n : Name) (e v : Datum) → IsSimple (datum_type e)
    → ends_at_records (datum_type e) ≡ false → with_field_of n e v ≡ Err fault.WrongType
wrong_answer n e v s r =
    let d = levels_of e in
    let ds = both e v in
    ap (λ b. refused_or ((if b then Some fault.WrongType else None)
    or (option_map limit_fault (limit (with_type n d ds)) or pair_refused true (Some d) ds))
    (datum_from (some_array ds) (with_type n d ds) (with_values n d ds)))
    (wrong-told e v s ∙ ap not r)

-- a limit that the type passes is told
limit_answer : (n : Name) (d : ℕ) (ds : List Datum) (l : Limit) → is_wrong d ds ≡ false
    → limit (with_type n d ds) ≡ Some l → with_field_at n d ds ≡ Err (limit_fault l)
limit_answer n d ds l r h =
    let made = datum_from (some_array ds) (with_type n d ds) (with_values n d ds) in
    let rest = pair_refused true (Some d) ds in
    ap (λ o. refused_or (o or (option_map limit_fault (limit (with_type n d ds)) or rest)) made)
    (wrong-none (is_wrong d ds) r)
    ∙ ap (λ o. refused_or (option_map limit_fault o or rest) made) h

limit-or : (b : Bool) → limit_fault (if b then depth_limit else size_limit)
    ≡ (if b then fault.Depth else fault.Size)
limit-or true = refl
limit-or false = refl

-- an array that is one list
pub list_refused : (n : Name) (t u : DataType) (w : Value) (ws : List Value) (f : TypeFault)
    (y : Layout) → array_type y ≡ var u → limit u ≡ None → Told (limit_told f) (array_of y)
    → IsSimple t → ends_at_records t ≡ true
    → Told (list_told n t u f) (with_field_of n (one t w) (arr u ws))
list_refused n t u w ws refused.Depth y e k h s r =
    let l : limit (var u) ≡ Some depth_limit =
    ap limit (sym e) ∙ refused_or-Err (limit (array_type y)) y depth_limit h in
    limit_answer n (levels_of (one t w)) (both (one t w) (arr u ws)) depth_limit
    (right-told (one t w) (arr u ws) s r) (deep_result n t (var u) s r l)
list_refused n t u w ws refused.Size y e k h s r =
    let l : limit (var u) ≡ Some size_limit =
    ap limit (sym e) ∙ refused_or-Err (limit (array_type y)) y size_limit h in
    let b = nat_lt 60 (depth_over n false t (var u)) in
    limit_answer n (levels_of (one t w)) (both (one t w) (arr u ws))
    (if b then depth_limit else size_limit)
    (right-told (one t w) (arr u ws) s r) (large_result n t u s r l k)
    ∙ ap (λ z. Err z) (limit-or b)
list_refused n t u w ws refused.NoMemory y e k h s r = tt

-- the list as a single value
pub one_datum : (x y : Layout) (u : DataType) → array_type y ≡ var u
    → array_items y ≡ list (values_from (array_items x)) ∷ [] → len y ≡ 1
    → datum_of (One y) ≡ one (var u) (list (values_from (array_items x)))
one_datum x y u e f l =
    let g : first_item y ∷ [] ≡ list (values_from (array_items x)) ∷ [] =
    sym (array_items-one y l) ∙ f in
    let h : first_item y ≡ list (values_from (array_items x)) = cc in
    ap (λ t. one t (first_item y)) e ∙ ap (one (var u)) h

-- ---- both data

pub both-are : (e v w : Datum) (ds : List Datum) → ds ≡ e ∷ w ∷ [] → w ≡ beside e v
    → ds ≡ both e v
both-are e v w ds p q = p ∙ ap (λ d. e ∷ d ∷ []) q

pub two-are : (xs : List Operand) (e w : Datum) → all_data xs ≡ e ∷ w ∷ [] → length xs ≡ 2
two-are xs e w p = sym (length-map xs own_datum) ∙ ap length p

pub same-answer : (n : Name) (e v : Datum) (d : ℕ) (ds : List Datum) → d ≡ levels_of e
    → ds ≡ both e v → with_field_at n d ds ≡ with_field_of n e v
same-answer n e v d ds p q =
    ap (λ k. with_field_at n k ds) p ∙ ap (with_field_at n (levels_of e)) q

pub list-fault : (n : Name) (a b : code.Datum) (x v : Layout) (t : DataType) (f : Fault)
    → a ≡ One x → b ≡ Arr v → t ≡ array_type x → IsSimple (array_type x)
    → ends_at_records (datum_type (datum_of a)) ≡ true → IsListFault n t (array_type v) f
    → Told (fault_told f) (with_field_of n (datum_of a) (datum_of b))
list-fault n a b x v t f p q e s r h =
    let k : IsListFault n (array_type x) (array_type v) f =
    subst (λ u. IsListFault n u (array_type v) f) e h in
    subst (λ d. Told (fault_told f) (with_field_of n (datum_of d) (datum_of b))) (sym p)
    (subst (λ d. Told (fault_told f) (with_field_of n (datum_of (One x)) (datum_of d))) (sym q)
    (k (first_item x) (array_items v) s
    (ap (λ d. ends_at_records (datum_type (datum_of d))) (sym p) ∙ r)))
