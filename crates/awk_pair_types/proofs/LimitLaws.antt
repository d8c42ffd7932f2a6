-- The fault of a type that passes a limit, and faults that are want of memory.
use Rattle.std.proofs.Common.{◌≡◌, ap, sym, ◌∙◌}
use Rattle.std.specs.Prelude.{None, Ok, option_map}
use Rattle.awk_types.specs.DataType.{DataType}
use Rattle.awk_types.specs.Faults.{fault_of, fault_told, limit_fault, limit_refused}
use Rattle.awk_types.specs.Gives.{Told, refused_or}
use Rattle.awk_types.specs.Limit.{limit, limit_told, depth_limit, size_limit}
use Rattle.awk_types.specs.declared.limit.TypeFault.{TypeFault}
use Rattle.awk_types.specs.declared.limit.TypeFault.TheVariants as refused
use Rattle.awk_types.proofs.RefusalLaws.{refused_or-Err}
use Rattle.awk_layout.specs.Array.{array_of}
use Rattle.awk_layout.specs.Layout.{Layout}
use Rattle.awk_layout.specs.Typing.{array_type}

pub limit_said : (e : TypeFault) (y : Layout) → Told (limit_told e) (array_of y)
    → Told (fault_told (fault_of e)) (refused_or (limit_refused (array_type y)) (array_type y))
limit_said refused.Depth y h =
    ap (λ o. refused_or (option_map limit_fault o) (array_type y))
    (refused_or-Err (limit (array_type y)) y depth_limit h)
limit_said refused.Size y h =
    ap (λ o. refused_or (option_map limit_fault o) (array_type y))
    (refused_or-Err (limit (array_type y)) y size_limit h)
limit_said refused.NoMemory y h = tt

pub limit_fine : (t u : DataType) → u ≡ t → limit u ≡ None
    → refused_or (limit_refused t) t ≡ Ok u
limit_fine t u e l =
    ap (λ o. refused_or (option_map limit_fault o) t) (sym (ap limit e) ∙ l)
    ∙ ap (λ v. Ok v) (sym e)
