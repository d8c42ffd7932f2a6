-- The lane has all numbers of the shape, and a buffer is no longer than all of them together.
use Rattle.std.proofs.Common.{◌*◌, sym, ◌∙◌, arith}
use Rattle.awk_types.proofs.RefusalLaws.{refused_or-Ok}
use Rattle.awk_store.proofs.ByKeyLaws.{unread_len-≤}
use Rattle.awk_valid.specs.Broken.{shape_break}
use Rattle.awk_valid.specs.Needs.{product}
use Rattle.awk_valid.proofs.ShapeLaws.{read-size}
use Rattle.awk_valid.proofs.numbers.numbers_node.Goals as goal

pub returns-in_err-lane-clause-cost : goal.returns-in_err-lane-clause-cost
returns-in_err-lane-clause-cost g c =
    omega (arith, c.lane_at.ensures.cost, unread_len-≤ c.args.store.now c.deref.result.now)

pub shaped_node-requires-clause-numbers : goal.shaped_node-requires-clause-numbers
shaped_node-requires-clause-numbers g c =
    let inner = c.args.inner.now in
    let judged =
    refused_or-Ok (shape_break c.args.n inner)
    (c.args.n * product inner) c.in_ok-items.items c.in_ok-items.ensures.answer in
    read-size _ _ _ c.in_ok-items.items _ c.in_ok-lane.lane c.in_ok-lane.ensures.answer ∙ sym
    judged.1

pub returns-in_err-shaped_node-clause-cost : goal.returns-in_err-shaped_node-clause-cost
returns-in_err-shaped_node-clause-cost g c =
    omega (
      arith,
      c.lane_at.ensures.cost,
      c.shaped_node.ensures.cost,
      unread_len-≤ c.args.store.now c.deref.result.now,
    )

pub returns-clause-cost : goal.returns-clause-cost
returns-clause-cost g c =
    omega (
      arith,
      c.lane_at.ensures.cost,
      c.shaped_node.ensures.cost,
      unread_len-≤ c.args.store.now c.deref.result.now,
    )
