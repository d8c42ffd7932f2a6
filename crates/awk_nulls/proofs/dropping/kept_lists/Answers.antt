use Rattle.std.specs.Prelude.{true, false}
use Rattle.awk_list_ends.specs.Total.{AreFew}
use Rattle.awk_nulls.proofs.KeptLaws.{kept_spoilt, kept_fine, kept_spanned}
use Rattle.awk_nulls.proofs.dropping.kept_lists.Goals as goal

pub returns-then-few : goal.returns-then-few
returns-then-few g c =
    let l = c.args.lists.now in
    let few : AreFew l.starts l.stops l.content true = rw c.if-few.true at c.in_ok-few.ensures in
    rw c.in_ok-made.ensures (
      kept_fine l.class l.starts l.stops l.content c.content.ensures.lists c.requires.plain few,
      (
        tt,
        kept_spanned l.class l.starts l.stops l.content c.content.ensures.lists c.requires.plain
            (rw c.content.ensures.content at c.len.ensures.items),
      ),
    )

pub returns : goal.returns
returns g c =
    let l = c.args.lists.now in
    let many : AreFew l.starts l.stops l.content false =
    rw c.if-few.false at c.in_ok-few.ensures in
    kept_spoilt l.class l.starts l.stops l.content c.content.ensures.lists c.requires.plain many
