use Rattle.std.proofs.Common.{◌≡◌, ◌∙◌, ap, arith}
use Rattle.std.specs.Prelude.{Err}
use Rattle.awk_types.specs.Faults.{fault_of, fault_told, limit_refused}
use Rattle.awk_types.specs.Gives.{refused_or}
use Rattle.awk_types.specs.View.{typ_of}
use Rattle.awk_types.proofs.RefusalLaws.{Gives-Err}
use Rattle.awk_layout.specs.Typing.{array_type}
use Rattle.awk_pair_types.proofs.LimitLaws.{limit_said, limit_fine}
use Rattle.awk_pair_types.proofs.limits.typ_within.Goals as goal

pub returns-in_err-array-clause-answer : goal.returns-in_err-array-clause-answer
returns-in_err-array-clause-answer c =
    let e = c.in_err-array.field-0.0 in
    let t = array_type c.args.node in
    let failed : c.from_residual.result ≡ Err (fault_of e) = grind arith in
    Gives-Err typ_of fault_told c.from_residual.result (fault_of e)
    (refused_or (limit_refused t) t) failed (limit_said e c.args.node c.in_err-array.ensures.gives)

pub returns-clause-answer : goal.returns-clause-answer
returns-clause-answer c =
    let of : typ_of c.into_parts-typ.result.1 ≡ array_type c.args.node =
    c.into_parts-typ.ensures.typ.typ ∙ ap array_type c.in_ok-array.ensures.node in
    limit_fine (array_type c.args.node) (typ_of c.into_parts-typ.result.1) of
    c.into_parts-typ.ensures.typ.lawful.within_limits

pub returns-clause-lawful : goal.returns-clause-lawful
returns-clause-lawful c = c.into_parts-typ.ensures.typ.lawful
