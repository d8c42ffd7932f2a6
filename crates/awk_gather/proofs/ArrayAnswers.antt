-- The array of a node as what an operation answers: its type and items, or the fault of the limit
-- that its type passes.
use Rattle.std.proofs.Common.{◌≡◌, Result, Ok, Err, ap, ap₂, sym, ◌∙◌, subst}
use Rattle.std.specs.Option.{option_map}
use Rattle.std.specs.Prelude.{IsErrAnd}
use Rattle.awk_types.specs.Datum.{Datum}
use Rattle.awk_types.specs.Faults.{fault_of, limit_fault, fault_told}
use Rattle.awk_types.specs.Gives.{Told, Gives, refused_or}
use Rattle.awk_types.specs.Limit.{Limit, depth_limit, size_limit, limit, limit_told}
use Rattle.awk_types.specs.declared.fault.Fault.{Fault}
use Rattle.awk_types.specs.declared.limit.TypeFault.{TypeFault}
use Rattle.awk_types.specs.declared.limit.TypeFault.TheVariants as refused
use Rattle.awk_types.proofs.RefusalLaws.{refused_or-Ok, refused_or-Err}
use Rattle.awk_layout.specs.Layout.{Layout}
use Rattle.awk_layout.specs.Typing.{array_type, array_datum}
use Rattle.awk_layout.specs.Array.{array_of}

abbrev pub datum_or_fault : Layout → Result Datum Fault
datum_or_fault made =
    refused_or (option_map limit_fault (limit (array_type made))) (array_datum made)

limit_answer : (made : Layout) (l : Limit) → array_of made ≡ Err l
    → datum_or_fault made ≡ Err (limit_fault l)
limit_answer made l h =
    ap (λ o. refused_or (option_map limit_fault o) (array_datum made))
    (refused_or-Err (limit (array_type made)) made l h)

refusal_answer : (made : Layout) (t : TypeFault) → Told (limit_told t) (array_of made)
    → Told (fault_told (fault_of t)) (datum_or_fault made)
refusal_answer made refused.Depth h = limit_answer made depth_limit h
refusal_answer made refused.Size h = limit_answer made size_limit h
refusal_answer made refused.NoMemory h = tt

-- a call that fails as the array of the node is refused
pub answer_refused : (made : Layout) (said : Result Datum Fault) (t : TypeFault)
    (r : Result Layout Fault) → said ≡ datum_or_fault made → IsErrAnd r (λ e. e ≡ fault_of t) → Told
    (limit_told t) (array_of made) → Gives array_datum fault_told r said
answer_refused made said t (Ok y) s h l = absurd h
answer_refused made said t (Err e) s h l =
    subst (λ z. Told (fault_told e) z) (sym s)
    (subst (λ f. Told (fault_told f) (datum_or_fault made)) (sym h) (refusal_answer made t l))

-- a call that gives the array of the node
pub answer_given : (made y : Layout) (said : Result Datum Fault) → said ≡ datum_or_fault made
    → array_of made ≡ Ok y → said ≡ Ok (array_datum y)
answer_given made y said s h =
    let o = refused_or-Ok (limit (array_type made)) made y h in
    s ∙ ap₂ (λ l z. refused_or (option_map limit_fault l) (array_datum z)) o.0 o.1
