use Rattle.std.proofs.Common.{ap, ◌∙◌, map}
use Rattle.awk_lanes.specs.Numbers.{number}
use Rattle.awk_lanes.specs.declared.kind.Kind.TheVariants as Kind
use Rattle.awk_index.proofs.IndexLaws.{numbers-groups}
use Rattle.awk_parts.proofs.parts.groups_of.Goals as goal

pub returns : goal.returns
returns g c =
    ap (map (number Kind.I64)) c.as_chunks.ensures.front
    ∙ numbers-groups c.args.lane.now c.in_ok-bytes.bytes.now c.requires c.in_ok-bytes.ensures.size
    c.in_ok-bytes.ensures.numbers
