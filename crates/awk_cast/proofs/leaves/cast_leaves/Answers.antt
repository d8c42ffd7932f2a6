use Rattle.std.proofs.Common.{◌≡◌, ◌∙◌, ap, subst, sym}
use Rattle.std.specs.Prelude.{Ok}
use Rattle.awk_types.specs.DataType.{leaf}
use Rattle.awk_cast.specs.Casting.{IsAnswer}
use Rattle.awk_cast.proofs.LeafLaws.{own_cast}
use Rattle.awk_cast.proofs.leaves.cast_leaves.Goals as goal

pub returns-then-are_same : goal.returns-then-are_same
returns-then-are_same g c =
    let same : c.args.from ≡ c.args.to = c.are_same.ensures c.if-are_same.true in
    subst (λ y. IsAnswer c.args.to c.args.x.now (Ok y))
    (sym (c.in_ok-copy.ensures ∙ c.node.ensures))
    (own_cast c.args.to c.args.x.now (c.requires ∙ ap leaf same) c.len.ensures.items)
