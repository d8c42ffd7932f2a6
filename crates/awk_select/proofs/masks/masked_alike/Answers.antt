use Rattle.std.proofs.Common.{arith}
use Rattle.awk_select.proofs.PickAnswers.{alike-refused, alike-said}
use Rattle.awk_select.proofs.masks.masked_alike.Goals as goal

pub returns-then-len : goal.returns-then-len
returns-then-len g c = record {
  answer =
      alike-refused c.args.x.now c.args.m.now _ _ c.len.ensures.len c.len-2.ensures.len
      c.if-len.true;
}

pub returns : goal.returns
returns g c = record {
  answer =
      alike-said c.args.x.now c.args.m.now c.masked_items.result
      (omega (arith, c.if-len.false, c.len.ensures.len, c.len-2.ensures.len))
      c.masked_items.ensures.answer;
}
