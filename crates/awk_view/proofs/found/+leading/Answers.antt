-- The least of all alternatives is that of the first that is wanting in any.
use Rattle.std.proofs.Common.{arith}
use Rattle.awk_view.proofs.LeadingLaws.{empty_leads, least_end, least_next, least_start}
use Rattle.awk_view.proofs.LeadingLaws.{numbers_lead}
use Rattle.awk_view.proofs.found.+leading.Goals as goal

pub leading_found-returns-in-Empty : goal.leading_found-returns-in-Empty
leading_found-returns-in-Empty t c =
    empty_leads c.args.x.now c.args.names.now c.in-Empty.ensures.class

pub leading_found-returns-in-Numpy : goal.leading_found-returns-in-Numpy
leading_found-returns-in-Numpy t c =
    numbers_lead c.args.x.now c.in-Numpy.lane.now c.args.names.now c.in-Numpy.ensures.class

pub leading_of_each-loop-i-init : goal.leading_of_each-loop-i-init
leading_of_each-loop-i-init t c = record {
  within = omega (arith, c.len-least.ensures);
  least = least_start c.args.names.now c.args.contents.now c.len-least.result c.len-least.ensures;
}

pub leading_of_each-loop-i-preserved : goal.leading_of_each-loop-i-preserved
leading_of_each-loop-i-preserved t c = record {
  within = omega (arith, c.loop-i.invariant.within, c.min-least.ensures);
  least = least_next c.args.names.now c.args.contents.now c.loop-i.i c.get.result.now
      c.loop-i.least c.in_ok-leading_found.field-0 c.min-least.result c.get.ensures
      c.in_ok-leading_found.ensures (omega (arith, c.min-least.ensures)) c.loop-i.invariant.least;
}

pub leading_of_each-returns : goal.leading_of_each-returns
leading_of_each-returns t c =
    least_end c.args.names.now c.args.contents.now c.loop-i.i c.loop-i.least
    (omega (arith, c.loop-i-test.false, c.loop-i.auto.i-end, c.len-i-end.ensures))
    c.loop-i.invariant.within c.loop-i.invariant.least
