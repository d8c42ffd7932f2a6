use Rattle.std.proofs.Common.{◌+◌, ap, map, rules}
use Rattle.awk_merge_sides.specs.Sides.{side_of}
use Rattle.awk_merge_sides.proofs.SideLaws.{counted_push, on_err-anyway}
use Rattle.awk_merge_sides.proofs.sides.Sides.push.Goals as goal

pub returns-clause-counted : goal.returns-clause-counted
returns-clause-counted c =
    counted_push c.args.self.now _ _ c.requires.counted c.in_ok-push.ensures.items
    (ap (λ n. c.args.self.now.total + n) c.len-n.ensures.len) (search rules)

pub returns-in_err-push-clause-err : goal.returns-in_err-push-clause-err
returns-in_err-push-clause-err c =
    on_err-anyway c.from_residual-in_err-push.result _
    (ap (map side_of) c.in_err-push.ensures.items)
