use Rattle.std.proofs.Common.{arith, map}
use Rattle.serde_json.specs.View.{view}
use Rattle.awk_plain_columns.proofs.SuitedLaws.{parts_all, parts_more}
use Rattle.awk_plain_columns.specs.Suited.{members_of}
use Rattle.awk_plain_columns.proofs.records.joined_members.Goals as goal

pub loop-i-preserved : goal.loop-i-preserved
loop-i-preserved c =
    parts_more members_of (λ v. view v.now) c.args.values.now c.loop-i.i c.index-values-i.result
    (map (λ v. view v.now) c.loop-i.parts.items)
    (map (λ v. view v.now) c.push_members.new.parts.items)
    (omega arith) c.index-values-i.is c.loop-i.invariant c.in_ok-push_members.ensures

pub returns : goal.returns
returns c =
    parts_all members_of (λ v. view v.now) c.args.values.now c.loop-i.i
    (map (λ v. view v.now) c.loop-i.parts.items) (omega (arith, c.loop-i-test.false))
    c.loop-i.invariant
