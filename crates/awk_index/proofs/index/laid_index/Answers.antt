use Rattle.std.proofs.Common.{map, length, ap, sym, ◌∙◌, ◌≡◌, ◌/◌}
use Rattle.std.specs.Simd.{first_chunks}
use Rattle.awk_lanes.specs.Column.{Column}
use Rattle.awk_lanes.specs.Numbers.{number}
use Rattle.awk_lanes.specs.declared.kind.Kind.TheVariants.{I64}
use Rattle.awk_index.proofs.IndexLaws.{numbers-groups}
use Rattle.awk_lanes.proofs.RunLaws.{seen_bytes}
use Rattle.awk_index.proofs.index.laid_index.Goals as goal

pub returns-in-Bytes : goal.returns-in-Bytes
returns-in-Bytes g c =
    let same = seen_bytes _ c.in-Bytes.lane c.args.lane.now c.in-Bytes.is c.held.ensures in
    let lane = c.in-Bytes.lane in
    let kind : lane.kind ≡ I64 = ap (λ (v : Column). v.kind) same ∙ c.requires in
    ap (λ zs. record { kind = I64; items = zs })
    (ap (map (number I64)) {y = first_chunks 8 (length c.bulk.result.now / 8) c.bulk.result.now}
    c.as_chunks.ensures.front
    ∙ numbers-groups lane c.bulk.result.now kind c.bulk.ensures.size c.bulk.ensures.numbers)
    ∙ ap (λ k. record { kind = k; items = lane.items }) (sym kind)
    ∙ same
