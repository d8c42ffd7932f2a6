use Rattle.std.proofs.Common.{◌∙◌, arith, sym}
use Rattle.awk_unify.specs.View.{lifts_of}
use Rattle.awk_unify.proofs.Afters.{carry_at-beyond}
use Rattle.awk_unify.proofs.Views.{lift_of-Same}
use Rattle.awk_unify.proofs.fields.lift_at.Goals as goal

pub returns-else-k-len : goal.returns-else-k-len
returns-else-k-len c =
    lift_of-Same ∙ sym (carry_at-beyond (lifts_of c.args.fs.now) c.args.k
    (omega (arith, c.if-k-len.false, c.len.ensures)))
