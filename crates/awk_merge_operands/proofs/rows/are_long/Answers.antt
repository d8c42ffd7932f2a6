use Rattle.std.proofs.Common.{◌≡◌, ◌∙◌, ◌==◌, ap, sym, length, false, arith}
use Rattle.awk_layout.specs.Valid.{len}
use Rattle.awk_merge_operands.specs.Operands.{column_in}
use Rattle.awk_merge_operands.proofs.AnswerLaws.{long_next, long_fails, long_last, length-column}
use Rattle.awk_merge_operands.proofs.rows.are_long.Goals as goal

pub loop-i-preserved : goal.loop-i-preserved
loop-i-preserved c =
    let n : length (column_in c.get.result.now) ≡ c.len.result =
    length-column c.get.result.now ∙ sym (c.len.ensures.len ∙ ap len c.kept.ensures) in
    long_next c.args.xs.now c.loop-i.i c.args.n c.get.result.now _ c.get.ensures.item
    (n ∙ grind (arith, c.if-len-n.false)) c.loop-i.invariant

pub returns-then-len-n : goal.returns-then-len-n
returns-then-len-n c =
    let n : length (column_in c.get.result.now) ≡ c.len.result =
    length-column c.get.result.now ∙ sym (c.len.ensures.len ∙ ap len c.kept.ensures) in
    let other : (length (column_in c.get.result.now) == c.args.n) ≡ false =
    grind (arith, n, c.if-len-n.true) in
    long_fails c.args.xs.now c.loop-i.i c.args.n c.get.result.now _ c.get.ensures.item other
    c.loop-i.invariant

pub returns : goal.returns
returns c =
    long_last c.args.xs.now c.loop-i.i c.args.n _
    (omega (arith, c.loop-i-test.false, c.len-i-end.ensures)) c.loop-i.invariant
