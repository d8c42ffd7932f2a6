use Rattle.std.proofs.Common.{refl, ap, ◌∙◌, arith}
use Rattle.awk_layout.specs.Laws.{len-fits}
use Rattle.awk_products.specs.Sources.{repeated}
use Rattle.awk_cartesian.proofs.OpeningLaws.{whole_opened}
use Rattle.awk_cartesian.proofs.opening.whole_source.Goals as goal

pub repeated-requires-2 : goal.repeated-requires-2
repeated-requires-2 g c =
    omega (arith, len-fits c.args.x.now c.len.ensures.valid, c.len.ensures.len)

pub returns : goal.returns
returns g c =
    whole_opened c.args.x.now _ c.len.ensures.valid refl c.in_ok-first.ensures
    (c.in_ok-length.ensures ∙ ap (repeated 1) c.len.ensures.len) c.in_ok-content.ensures
