use Rattle.std.proofs.Common.{ap, ◌∙◌, map}
use Rattle.awk_lanes.specs.Numbers.{element, number}
use Rattle.awk_lanes.specs.declared.kind.Kind.TheVariants as Kind
use Rattle.awk_numbers.proofs.PartLaws.{truth_cells}
use Rattle.awk_cells.proofs.truths.truth_groups.Goals as goal

pub returns : goal.returns
returns c =
    ap (map (λ g. element Kind.Bool (number Kind.Bool g))) c.as_chunks.ensures.front
    ∙ truth_cells c.args.bytes.now
