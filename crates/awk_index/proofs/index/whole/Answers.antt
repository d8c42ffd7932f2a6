use Rattle.std.proofs.Common.{map, ap, ◌∙◌}
use Rattle.awk_lanes.specs.Numbers.{number}
use Rattle.awk_lanes.specs.declared.kind.Kind.TheVariants.{I64}
use Rattle.awk_index.proofs.IndexLaws.{numbers-groups}
use Rattle.awk_index.proofs.index.whole.Goals as goal

pub returns : goal.returns
returns g c =
    ap (λ zs. record { kind = c.args.kind; items = zs })
    (ap (map (number I64)) c.as_chunks.ensures.front
    ∙ numbers-groups c.args.lane.now c.in_ok-bytes.bytes.now c.requires.wide
    c.in_ok-bytes.ensures.size c.in_ok-bytes.ensures.numbers)
