use Rattle.std.proofs.Common.{◌∙◌, ap, arith, refl, subst, sym}
use Rattle.awk_types.specs.View.{typ_of}
use Rattle.awk_unify.proofs.Views.{lift_of-Same}
use Rattle.awk_unify.specs.View.{lift_of}
use Rattle.awk_merge_sides.specs.Sides.{IsMerged, side_of, sides_of}
use Rattle.awk_merge_columns.proofs.MergedLaws.{only_merged}
use Rattle.awk_merge_columns.proofs.nodes.only.Goals as goal

pub returns-in_ok-copy-in-Same : goal.returns-in_ok-copy-in-Same
returns-in_ok-copy-in-Same c =
    subst (IsMerged (typ_of c.args.t.now) (sides_of c.args.sides.now))
    (sym (c.in_ok-copy-in-Same.ensures ∙ c.node.ensures))
    (only_merged (typ_of c.args.t.now) (sides_of c.args.sides.now) (side_of c.get-side.result.now)
    (omega (arith, c.len.ensures, c.if-len-ne1.false)) c.get-side.ensures
    (ap lift_of c.in-Same.is ∙ lift_of-Same) (sym c.typ.ensures.typ ∙ c.if-same.ensures.0 refl))
