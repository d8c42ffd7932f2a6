use Rattle.std.proofs.Common.{subst}
use Rattle.awk_layout.specs.Numbered.{IsNumbered}
use Rattle.awk_layout.specs.Valid.{IsValid}
use Rattle.awk_layout.specs.Contents.{AllValid-append, AreNumbered-append}
use Rattle.awk_layout.proofs.node.Nodes.push.Goals as goal

pub invariant_of-self-2 : goal.invariant_of-self-2
invariant_of-self-2 c =
    rw c.in_ok-push.ensures.items (
      AllValid-append _ _ c.self.invariant.0 (subst IsValid c.item.view_is c.item.invariant.0),
      AreNumbered-append _ _ c.self.invariant.1
          (subst IsNumbered c.item.view_is c.item.invariant.1),
    )
