use Rattle.std.proofs.Common.{ap, ◌∙◌}
use Rattle.std.proofs.lemmas.Result.{IfOk-weaker}
use Rattle.awk_types.specs.DataType.{opt}
use Rattle.awk_types.specs.Simple.{option_of}
use Rattle.awk_types.specs.View.{typ_of}
use Rattle.awk_types.proofs.Simplified.{simplifies_to}
use Rattle.awk_types.proofs.simplify.opt_of.Goals as goal

pub returns-clause-laws : goal.returns-clause-laws
returns-clause-laws c =
    IfOk-weaker c.checked.result _ _ (λ s same. simplifies_to (opt (typ_of c.args.t)) (typ_of s)
    (same ∙ c.in_ok-optional.ensures ∙ ap option_of c.in_ok-item.ensures))
    c.checked.ensures.same
