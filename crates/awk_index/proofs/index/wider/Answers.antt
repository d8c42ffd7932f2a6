use Rattle.std.proofs.Common.{map, ap, sym, ◌∙◌}
use Rattle.awk_lanes.specs.Numbers.{number}
use Rattle.awk_lanes.specs.declared.kind.Kind.TheVariants.{I32}
use Rattle.awk_index.proofs.IndexLaws.{kind_numbers-groups}
use Rattle.awk_index.proofs.index.wider.Goals as goal

pub returns : goal.returns
returns g c =
    let lane = c.args.lane.now in
    let numbers = c.in_ok-groups.ensures
    ∙ ap (map (number I32)) c.as_chunks.ensures.front
    ∙ kind_numbers-groups I32 lane c.narrow_bytes.result.now c.requires c.narrow_bytes.ensures.size
    c.narrow_bytes.ensures.numbers in
    ap (λ zs. record { kind = I32; items = zs }) numbers
    ∙ ap (λ k. record { kind = k; items = lane.items }) (sym c.requires)
