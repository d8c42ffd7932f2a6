use Rattle.std.proofs.Common.{arith, map}
use Rattle.serde_json.specs.View.{view}
use Rattle.awk_plain_columns.proofs.SuitedLaws.{parts_all, parts_more}
use Rattle.awk_plain_columns.specs.Suited.{items_of}
use Rattle.awk_plain_columns.proofs.lists.joined_items.Goals as goal

pub loop-i-preserved : goal.loop-i-preserved
loop-i-preserved c =
    parts_more items_of (λ v. view v.now) c.args.values.now c.loop-i.i c.index-values-i.result
    (map (λ v. view v.now) c.loop-i.items.items)
    (map (λ v. view v.now) c.push_items.new.items.items)
    (omega arith) c.index-values-i.is c.loop-i.invariant c.in_ok-push_items.ensures

pub returns : goal.returns
returns c =
    parts_all items_of (λ v. view v.now) c.args.values.now c.loop-i.i
    (map (λ v. view v.now) c.loop-i.items.items) (omega (arith, c.loop-i-test.false))
    c.loop-i.invariant
