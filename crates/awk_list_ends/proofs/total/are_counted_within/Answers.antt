use Rattle.std.proofs.Common.{◌≡◌, ◌≤◌, arith, subst}
use Rattle.awk_lanes.specs.Counted.{before}
use Rattle.awk_lanes.specs.Places.{size_of}
use Rattle.awk_lanes.proofs.CountedLanes.{before-next, total_passed}
use Rattle.awk_columns.specs.Lists.{span_length}
use Rattle.awk_list_ends.proofs.total.are_counted_within.Goals as goal

pub returns-then-length-limit-clause-beyond : goal.returns-then-length-limit-clause-beyond
returns-then-length-limit-clause-beyond c e =
    total_passed (span_length c.args.lists.now.starts c.args.lists.now.stops) c.args.limit
    (size_of c.args.lists.now.starts) c.loop-i.i c.loop-i.total c.length_at-length.result
    (omega (arith, c.loop-i-test.true, c.len-i-end.ensures.len)) c.loop-i.invariant.total
    c.length_at-length.ensures.length
    (omega (arith, c.if-length-limit.true, c.loop-i.invariant.small))

pub loop-i-preserved : goal.loop-i-preserved
loop-i-preserved c = record {
  total = omega (
    arith,
    before-next (span_length c.args.lists.now.starts c.args.lists.now.stops) c.loop-i.i,
    c.loop-i.invariant.total,
    c.length_at-length.ensures.length,
  );
  small = omega (arith, c.if-length-limit.false, c.loop-i.invariant.small);
}

pub returns-clause-within : goal.returns-clause-within
returns-clause-within c e =
    let s = c.args.lists.now.starts in
    let m = span_length s c.args.lists.now.stops in
    let done : c.loop-i.i ≡ size_of s =
    omega (arith, c.loop-i-test.false, c.len-i-end.ensures.len) in
    subst (λ k. before m k ≤ c.args.limit) done
    (omega (arith, c.loop-i.invariant.total, c.loop-i.invariant.small))
