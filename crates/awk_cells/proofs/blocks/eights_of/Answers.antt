use Rattle.std.proofs.Common.{◌/◌, length, ap, ◌∙◌}
use Rattle.std.specs.List.{flat_map}
use Rattle.awk_cells.proofs.BlockLaws.{joined_chunks}
use Rattle.awk_cells.proofs.blocks.eights_of.Goals as goal

pub returns-clause-front : goal.returns-clause-front
returns-clause-front g c =
    ap (flat_map (λ b. b)) c.as_chunks.ensures.front
    ∙ joined_chunks 8 (length c.args.groups.now / 8) c.args.groups.now
