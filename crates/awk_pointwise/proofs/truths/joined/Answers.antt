use Rattle.std.proofs.Common.{ap, sym, ◌∙◌}
use Rattle.awk_leaves.specs.Values as values
use Rattle.awk_pointwise.proofs.WordLaws.{differ_xor}
use Rattle.awk_pointwise.proofs.truths.joined.Goals as goal

pub returns-in-Xor : goal.returns-in-Xor
returns-in-Xor c =
    differ_xor c.args.a c.args.b
    ∙ ap (λ op. values.joined op c.args.a c.args.b) (sym c.in-Xor.is)
