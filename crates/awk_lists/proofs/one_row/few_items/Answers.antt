use Rattle.std.specs.Prelude.{true, false}
use Rattle.awk_list_ends.specs.Total.{AreFew}
use Rattle.awk_lists.proofs.one_row.few_items.Goals as goal

pub returns-then-few : goal.returns-then-few
returns-then-few g c =
    let l = c.args.lists.now in
    let few : AreFew l.starts l.stops l.content true = rw c.if-few.true at c.in_ok-few.ensures in
    (few, c.in_ok-items.ensures, c.len.ensures.valid)

pub returns : goal.returns
returns g c =
    let l = c.args.lists.now in
    let many : AreFew l.starts l.stops l.content false =
    rw c.if-few.false at c.in_ok-few.ensures in
    many
