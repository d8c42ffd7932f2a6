use Rattle.std.proofs.Common.{◌≡◌, ap, sym, subst, ◌∙◌, replicate}
use Rattle.std.specs.Int.{w128, cast_signed as to_z, cast_unsigned as of_z}
use Rattle.std.proofs.lemmas.Int.{to_z-of_z}
use Rattle.std.proofs.lemmas.Result.{IfOk-weaker}
use Rattle.awk_leaves.specs.Values.{value_in}
use Rattle.awk_leaves.specs.declared.leaf_type.LeafType.TheVariants.{Of}
use Rattle.awk_pointwise.specs.Numbers.{AreNumbersOf, word_numbers}
use Rattle.awk_pointwise.specs.Sides.{IsNumber64}
use Rattle.awk_pointwise.proofs.SideLaws.{one_seen, leaf_64}
use Rattle.awk_pointwise.proofs.see.see_one.Goals as goal

pub repeated-requires : goal.repeated-requires
repeated-requires c = subst IsNumber64 (sym (to_z-of_z w128 c.args.z c.ranges.z))
    (leaf_64 c.args.prim c.args.z c.requires)

pub returns : goal.returns
returns c =
    IfOk-weaker c.repeated.result
    (λ w. word_numbers w ≡ replicate c.args.n (to_z w128 (of_z w128 c.args.z)))
    (AreNumbersOf (Of c.args.prim) (replicate c.args.n (value_in c.args.prim c.args.z)))
    (λ w e. one_seen c.args.prim c.args.z c.args.n w c.requires
    (e ∙ ap (replicate c.args.n) (to_z-of_z w128 c.args.z c.ranges.z))) c.repeated.ensures
