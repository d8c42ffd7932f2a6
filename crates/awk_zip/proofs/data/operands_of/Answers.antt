use Rattle.std.proofs.Common.{arith}
use Rattle.awk_zip.proofs.DataLaws.{data_push, data_all}
use Rattle.awk_zip.proofs.data.operands_of.Goals as goal

pub loop-i-preserved : goal.loop-i-preserved
loop-i-preserved c =
    data_push c.args.xs.now c.loop-i.operands c.push.new.self c.loop-i.i c.get.result.now
    c.in_ok-datum.datum c.get.ensures.item c.in_ok-push.ensures.ok c.in_ok-datum.ensures
    c.loop-i.invariant

pub returns : goal.returns
returns c =
    data_all c.args.xs.now c.loop-i.operands c.loop-i.i
    (omega (arith, c.loop-i-test.false, c.len-i-end.ensures)) c.loop-i.invariant
