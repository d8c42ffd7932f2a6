use Rattle.std.proofs.Common.{map, ap, sym, ◌∙◌}
use Rattle.awk_lanes.specs.Numbers.{number}
use Rattle.awk_lanes.specs.declared.kind.Kind.TheVariants.{I32}
use Rattle.awk_narrow.proofs.NarrowLaws.{numbers-groups}
use Rattle.awk_narrow.proofs.index.narrow_index.Goals as goal

pub returns : goal.returns
returns g c =
    ap (λ zs. record { kind = I32; items = zs })
    (ap (map (number I32)) c.as_chunks.ensures.front
    ∙ numbers-groups c.args.lane.now c.narrow_bytes.result.now c.requires
    c.narrow_bytes.ensures.size
    c.narrow_bytes.ensures.numbers)
    ∙ ap (λ k. record { kind = k; items = c.args.lane.now.items }) (sym c.requires)
