use Rattle.std.proofs.Common.{◌++◌, ap, ◌∙◌, sym}
use Rattle.std.proofs.lemmas.Result.{IfOk-equal}
use Rattle.awk_types.specs.DataType.{types_from}
use Rattle.awk_types.specs.Simple.{present_alternatives, simple, simples}
use Rattle.awk_types.specs.View.{typ_of, typs_of}
use Rattle.awk_types.proofs.SimpleLaws.{present_alternatives-union_of}
use Rattle.awk_types.proofs.Views.{typ_of-Uni}
use Rattle.awk_types.proofs.simplify.+simple.Goals as goal

pub splice-returns-in-Uni-clause-spliced : goal.splice-returns-in-Uni-clause-spliced
splice-returns-in-Uni-clause-spliced t c =
    let is = ap (λ x. present_alternatives (simple (typ_of x))) c.in-Uni.is ∙ ap
    (λ x. present_alternatives (simple x)) (typ_of-Uni c.in-Uni.alternatives) ∙
    present_alternatives-union_of (simples (types_from (typs_of c.in-Uni.alternatives))) in
    IfOk-equal c.splice_all.result _ _ _ c.splice_all.ensures.spliced
    (ap (λ us. typs_of c.args.made.now ++ us) (sym is))
