use Rattle.std.proofs.Common.{subst, sym, ◌∙◌}
use Rattle.std.proofs.lemmas.Result.{IfOk-weaker}
use Rattle.awk_layout.specs.Kinds.{primitive_of}
use Rattle.awk_layout.specs.Typing.{array_items}
use Rattle.awk_open.specs.InOrder.{IsInOrder}
use Rattle.awk_merge_sides.specs.Sides.{side_of}
use Rattle.awk_merge_lists.proofs.NumberLaws.{leaf_opened, side_leaves, side_of_kind}
use Rattle.awk_merge_lists.proofs.leaves.side_lane.Goals as goal

pub in_kind-requires : goal.in_kind-requires
in_kind-requires g c = record {
  holds = side_of_kind (primitive_of c.args.kind) (side_of c.args.side.now) c.in-Leaf.lane
      c.requires.side c.len.ensures.items
      (subst (IsInOrder (array_items c.args.side.now.column)) c.in-Leaf.is
      c.in_ok-lane.ensures.order);
}

pub unreachable-requires : goal.unreachable-requires
unreachable-requires g c =
    leaf_opened (primitive_of c.args.kind) (side_of c.args.side.now) c.in_ok-lane.field-0
    c.requires.side c.len.ensures.items c.in_ok-lane.ensures.opened.kind c.in_default.not-Leaf

pub returns-clause-values : goal.returns-clause-values
returns-clause-values g c =
    IfOk-weaker c.in_kind.result _ _
    (λ r w. w ∙ sym (side_leaves (primitive_of c.args.kind) (side_of c.args.side.now) c.in-Leaf.lane
    c.requires.side c.len.ensures.items
    (subst (IsInOrder (array_items c.args.side.now.column)) c.in-Leaf.is
    c.in_ok-lane.ensures.order))) c.in_kind.ensures.values
