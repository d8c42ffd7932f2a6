-- A form is read where its nodes are and its type passes no limit.
use Rattle.std.proofs.Common.{◌≡◌, None, option_map, Ok, ap}
use Rattle.awk_types.specs.DataType.{DataType}
use Rattle.awk_types.specs.Gives.{Told, refused_or}
use Rattle.awk_types.specs.Limit.{depth_limit, size_limit, limit, limit_told, within}
use Rattle.awk_types.specs.declared.limit.TypeFault.{TypeFault}
use Rattle.awk_types.specs.declared.limit.TypeFault.TheVariants.{Depth, Size, NoMemory}
use Rattle.awk_types.proofs.RefusalLaws.{refused_or-Ok, refused_or-Err}
use Rattle.awk_form.specs.Reading.{limited}
use Rattle.awk_form.specs.Told.{refusal_told, fault_of}

-- a limit of the type is one of the form
pub told_limit : {A : Type 0} (e : TypeFault) (t : DataType) (a : A)
    → Told (limit_told e) (within t)
    → Told (refusal_told (fault_of e)) (refused_or (option_map limited (limit t)) a)
told_limit Depth t a h =
    ap (λ o. refused_or (option_map limited o) a) (refused_or-Err (limit t) t depth_limit h)
told_limit Size t a h =
    ap (λ o. refused_or (option_map limited o) a) (refused_or-Err (limit t) t size_limit h)
told_limit NoMemory t a h = tt

-- a type within its limits refuses nothing
pub no_limit : (t u : DataType) → within t ≡ Ok u → option_map limited (limit t) ≡ None
no_limit t u h = ap (option_map limited) (refused_or-Ok (limit t) t u h).0
