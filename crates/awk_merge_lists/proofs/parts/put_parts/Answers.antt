use Rattle.std.proofs.Common.{arith}
use Rattle.awk_merge_sides.specs.Sides.{side_of, sides_of}
use Rattle.awk_merge_lists.proofs.PartedLaws.{parts-more, parts-all}
use Rattle.awk_merge_lists.proofs.parts.put_parts.Goals as goal

pub loop-start-preserved : goal.loop-start-preserved
loop-start-preserved g c = record {
  order = omega (arith, c.min-stop.ensures);
  counted = c.in_ok-push.ensures.counted;
  put = parts-more (side_of c.args.side.now) (sides_of c.args.made.now)
      (sides_of c.loop-start.made) (sides_of c.push.new.self) c.in_ok-part.part
      c.loop-start.start c.min-stop.result
      (omega (arith, c.min-stop.ensures, c.saturating_add.ensures, c.loop-start-test.true))
      c.in_ok-part.ensures.items c.in_ok-part.ensures.typ c.in_ok-push.ensures.sides
      c.loop-start.invariant.put;
}

pub returns-clause-put : goal.returns-clause-put
returns-clause-put g c =
    parts-all (side_of c.args.side.now) (sides_of c.args.made.now) (sides_of c.loop-start.made)
    c.loop-start.start c.len-n.result c.len-n.ensures.len
    (omega (arith, c.loop-start-test.false)) c.loop-start.invariant.put
