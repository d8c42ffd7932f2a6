-- What types tell, and what is told where they tell nothing.
use Rattle.std.specs.Prelude.{◌≡◌, refl, Option, Some, None, Ok, Err, option_map}
use Rattle.awk_types.specs.DataType.{DataType}
use Rattle.awk_types.specs.Datum.{Datum}
use Rattle.awk_types.specs.Faults.{fault_told, limit_fault}
use Rattle.awk_types.specs.Gives.{Told, refused_or, ◌or◌}
use Rattle.awk_types.specs.Limit.{Limit, limit, within, limit_told}
use Rattle.awk_types.specs.declared.fault.Fault.{Fault}
use Rattle.awk_types.specs.declared.limit.TypeFault.{TypeFault}
use Rattle.awk_types.proofs.RefusalLaws.{refused_or-Ok}
use Rattle.awk_list_functions.specs.declared.causes.Refusal.{Refusal}
use Rattle.awk_list_functions.specs.declared.causes.Spoil.{Spoil}
use Rattle.awk_list_functions.specs.Causes.{first_spoil}
use Rattle.awk_list_functions.specs.Faults.{IsJudged}
use Rattle.awk_list_functions.specs.Lifting.{refusal_fault, spoil_fault, first_told}
use Rattle.awk_list_functions.proofs.CauseLaws.{first_spoil-both}

told_refusal : (e : Fault) (w : Refusal) (l : Option Limit) (s : Option Spoil) (d : Datum)
    → fault_told e ≡ Some (refusal_fault w)
    → Told (fault_told e) (refused_or (first_told (Some w) l s) d)
told_refusal e w l s d h = rw h refl

pub judged_refused : (X : Type 0) (r : Option Refusal) (l : Option Limit) (w : Refusal) (e : Fault)
    → r ≡ Some w → fault_told e ≡ Some (refusal_fault w) → IsJudged {X = X} r l (Err e)
judged_refused X r l w e q h = rw q (λ s d. told_refusal e w l s d h)

pub judged_accepted : (X : Type 0) (x : X) (r : Option Refusal) (t s : DataType)
    → r ≡ None → within t ≡ Ok s → IsJudged {X = X} r (limit t) (Ok x)
judged_accepted X x r t s q h = (q, (refused_or-Ok (limit t) t s h).0)

limited_told : (m : Option Limit) (c : Option Fault) (t : DataType) (l : Option Limit)
    (s : Option Spoil) (d : Datum) → c ≡ option_map limit_fault m → Told m (refused_or l t)
    → Told c (refused_or (option_map limit_fault l or option_map spoil_fault s) d)
limited_told None c t l s d e h = rw e tt
limited_told (Some m) c t None s d e h = absurd (cc)
limited_told (Some m) c t (Some k) s d e h = let f : k ≡ m = cc in rw (e, f) refl

pub judged_limited : (X : Type 0) (r : Option Refusal) (t : DataType) (w : TypeFault) (e : Fault)
    → r ≡ None → fault_told e ≡ option_map limit_fault (limit_told w)
    → Told (limit_told w) (within t) → IsJudged {X = X} r (limit t) (Err e)
judged_limited X r t w e q h told =
    rw q (λ s d. limited_told (limit_told w) (fault_told e) t (limit t) s d h told)

-- where types tell nothing, values tell
pub told_values : (r : Option Refusal) (l : Option Limit) (s : Option Spoil) (d : Datum)
    → r ≡ None → l ≡ None
    → refused_or (first_told r l s) d ≡ refused_or (option_map spoil_fault s) d
told_values r l s d p q = rw (p, q) refl

pub first_some : (many : Option Spoil) (w : Spoil) → first_spoil many (Some w) ≡ None → ⊥
first_some many w h = let e : Some w ≡ None = (first_spoil-both many (Some w) h).1 in cc

pub ruleset judging = (judged_refused, judged_accepted, judged_limited)
