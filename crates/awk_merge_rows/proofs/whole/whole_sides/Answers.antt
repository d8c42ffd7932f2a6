use Rattle.std.proofs.Common.{[], sym, subst, arith, take_all}
use Rattle.awk_merge_sides.specs.Sides.{side_of, sides_of}
use Rattle.awk_merge_rows.specs.PresentLevels.{IsWholeLevel}
use Rattle.awk_merge_rows.proofs.WholeLaws.{found_whole, whole_none, whole_next}
use Rattle.awk_merge_rows.proofs.whole.whole_sides.Goals as goal

pub loop-i-init : goal.loop-i-init
loop-i-init c = record {
  counted = c.new-present.ensures.counted;
  whole = subst (IsWholeLevel []) (sym c.new-present.ensures.none) whole_none;
}

pub loop-i-preserved : goal.loop-i-preserved
loop-i-preserved c =
    let found = found_whole c.in_ok-column.field-0 c.get-side.result.now.column c.in-Some.column
    c.in-Some.is c.in_ok-column.ensures in
    record {
      counted = c.in_ok-push.ensures.counted;
      whole =
          whole_next (sides_of c.args.sides.now) (sides_of c.loop-i.present)
          (sides_of c.push.new.self) c.loop-i.i (side_of c.get-side.result.now) c.in-Some.column
          c.get-side.ensures c.in_ok-push.ensures.sides found c.loop-i.invariant.whole;
    }

pub returns-clause-whole : goal.returns-clause-whole
returns-clause-whole c =
    subst (λ ss. IsWholeLevel ss (sides_of c.loop-i.present))
    (take_all c.loop-i.i (sides_of c.args.sides.now)
    (omega (arith, c.loop-i-test.false, c.len-i-end.ensures)))
    c.loop-i.invariant.whole
