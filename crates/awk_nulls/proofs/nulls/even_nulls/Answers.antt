use Rattle.std.proofs.Common.{arith}
use Rattle.std.specs.Prelude.{true, false}
use Rattle.awk_layout.specs.Laws.{len-fits}
use Rattle.awk_list_ends.specs.Total.{AreFew}
use Rattle.awk_nulls.proofs.EvenLaws.{even_nulls_given}
use Rattle.awk_nulls.proofs.NullLaws.{nulls_spoilt, nulls_fine}
use Rattle.awk_nulls.proofs.nulls.even_nulls.Goals as goal

pub numpy-requires : goal.numpy-requires
numpy-requires g c =
    omega (
      arith,
      c.in_ok-nulls.ensures.size,
      len-fits c.in_ok-items.items c.len.ensures.valid,
    )

pub returns-then-few : goal.returns-then-few
returns-then-few g c =
    let l = c.args.lists.now in
    let few : AreFew l.starts l.stops l.content true = rw c.if-few.true at c.in_ok-few.ensures in (
      nulls_fine l.starts l.stops l.content few,
      c.requires.sized,
      rw c.numpy.ensures.node (even_nulls_given l.class l.starts l.stops l.content
          c.in_ok-items.items c.in_ok-nulls.nulls c.requires.sized c.content.ensures.lists few
          c.in_ok-items.ensures c.len.ensures.valid c.in_ok-nulls.ensures),
    )

pub returns : goal.returns
returns g c =
    let l = c.args.lists.now in
    let many : AreFew l.starts l.stops l.content false =
    rw c.if-few.false at c.in_ok-few.ensures in
    nulls_spoilt l.starts l.stops l.content many
