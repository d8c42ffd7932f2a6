use Rattle.std.proofs.Common.{◌≡◌, ap, ◌∙◌, replicate}
use Rattle.std.specs.Int.{w128, cast_signed as to_z, cast_unsigned as of_z}
use Rattle.std.proofs.lemmas.Int.{to_z-of_z}
use Rattle.std.proofs.lemmas.Result.{IfOk-weaker}
use Rattle.awk_types.specs.Value.{int}
use Rattle.awk_leaves.specs.declared.leaf_type.LeafType.TheVariants.{Literal}
use Rattle.awk_pointwise.specs.Numbers.{AreNumbersOf, word_numbers}
use Rattle.awk_pointwise.proofs.SideLaws.{literal_seen}
use Rattle.awk_pointwise.proofs.see.see_literal.Goals as goal

pub returns : goal.returns
returns c =
    IfOk-weaker c.repeated.result
    (λ w. word_numbers w ≡ replicate c.args.n (to_z w128 (of_z w128 c.args.z)))
    (AreNumbersOf (Literal c.args.z) (replicate c.args.n (int c.args.z)))
    (λ w e. literal_seen c.args.z c.args.n w
    (e ∙ ap (replicate c.args.n) (to_z-of_z w128 c.args.z c.ranges.z))) c.repeated.ensures
