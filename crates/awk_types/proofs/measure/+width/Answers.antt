use Rattle.std.proofs.Common.{arith, ap, ◌∙◌}
use Rattle.awk_types.specs.Limit.{width as width_of}
use Rattle.awk_types.specs.View.{typ_of, typs_of}
use Rattle.awk_types.proofs.Trees.{length-widths}
use Rattle.awk_types.proofs.Views.{typ_of-Uni}
use Rattle.awk_types.proofs.measure.+width.Goals as goal

pub width-returns-in-Uni : goal.width-returns-in-Uni
width-returns-in-Uni t c =
    let e = ap (λ x. width_of (typ_of x)) c.in-Uni.is ∙ ap width_of
    (typ_of-Uni c.in-Uni.alternatives) in
    omega (
      arith,
      e,
      length-widths (typs_of c.in-Uni.alternatives),
      c.len.ensures,
      c.max.ensures,
      c.width_of_typs-in-Uni.ensures,
    )
