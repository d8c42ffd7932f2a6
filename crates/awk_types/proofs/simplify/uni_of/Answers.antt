use Rattle.std.proofs.Common.{◌∙◌}
use Rattle.std.proofs.lemmas.Result.{IfOk-weaker}
use Rattle.awk_types.specs.DataType.{uni, types_from}
use Rattle.awk_types.specs.View.{typ_of, typs_of}
use Rattle.awk_types.proofs.Simplified.{simplifies_to}
use Rattle.awk_types.proofs.simplify.uni_of.Goals as goal

pub returns-clause-laws : goal.returns-clause-laws
returns-clause-laws c =
    IfOk-weaker c.checked.result _ _ (λ s same. simplifies_to (uni (types_from (typs_of c.args.ts)))
    (typ_of s) (same ∙ c.in_ok-union.ensures)) c.checked.ensures.same
