use Rattle.std.specs.Prelude.{true, false}
use Rattle.awk_list_ends.specs.Total.{AreFew}
use Rattle.awk_fill.proofs.FillLaws.{filled_spanned, filled_spoilt, filled_fine}
use Rattle.awk_fill.proofs.filling.kept_lists.Goals as goal

pub returns-then-few : goal.returns-then-few
returns-then-few g c =
    let l = c.args.lists.now in
    let few : AreFew l.starts l.stops l.content true = rw c.if-few.true at c.in_ok-few.ensures in
    rw (c.in_ok-made.ensures, c.requires.class) (λ f. (
      filled_fine f l.starts l.stops l.content few,
      (
        tt,
        filled_spanned f l.class l.starts l.stops l.content c.content.ensures.lists
            (rw c.content.ensures.content at c.len.ensures.items) c.requires.plain,
      ),
    ))

pub returns : goal.returns
returns g c =
    let l = c.args.lists.now in
    let many : AreFew l.starts l.stops l.content false =
    rw c.if-few.false at c.in_ok-few.ensures in
    λ f. filled_spoilt f l.starts l.stops l.content many
