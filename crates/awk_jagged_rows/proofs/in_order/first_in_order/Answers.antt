use Rattle.std.proofs.Common.{arith, sym, ◌∙◌}
use Rattle.awk_layout.specs.Laws.{len-fits}
use Rattle.awk_layout.specs.Valid.{len}
use Rattle.awk_jagged_rows.proofs.OrderLaws.{order-begun, order-none, order-some, order-whole}
use Rattle.awk_jagged_rows.proofs.OrderLaws.{begin-fits, some-length}
use Rattle.awk_jagged_rows.proofs.in_order.first_in_order.Goals as goal

pub loop-i-init : goal.loop-i-init
loop-i-init g c = order-begun c.args.lists.now

pub loop-i-preserved-then-span-eq0 : goal.loop-i-preserved-then-span-eq0
loop-i-preserved-then-span-eq0 g c =
    order-none c.args.lists.now c.loop-i.i c.loop-i.first c.loop-i.count c.loop-i.invariant
    (sym c.span_of-span.ensures.length ∙ c.if-span-eq0.true)

pub overflow_add-begin : goal.overflow_add-begin
overflow_add-begin g c =
    omega (
      arith,
      begin-fits c.loop-i.count c.begin_at-begin.result c.loop-i.first
          c.span_of-span.result.start (len c.args.lists.now.content) c.begin_at-begin.ensures.none
          c.begin_at-begin.ensures.some (omega (arith, c.span_of-span.ensures.small))
          c.loop-i.invariant.within
          (len-fits c.args.lists.now.content c.content.ensures.lists.valid),
    )

pub loop-i-preserved : goal.loop-i-preserved
loop-i-preserved g c =
    order-some c.args.lists.now c.loop-i.i c.loop-i.first c.loop-i.count c.begin_at-begin.result
    c.span_of-span.result.start c.span_of-span.result.length c.loop-i.invariant
    c.begin_at-begin.ensures.none c.begin_at-begin.ensures.some c.span_of-span.ensures.start
    c.span_of-span.ensures.length c.if-span-begin.false
    (c.span_of-span.ensures.within (some-length c.span_of-span.result.length c.if-span-eq0.false))

pub returns : goal.returns
returns g c =
    order-whole c.args.lists.now c.loop-i.i c.loop-i.first c.loop-i.count
    (omega (arith, c.loop-i-test.false, c.loop-i.auto.i-end, c.len-i-end.ensures.len))
    c.loop-i.invariant
