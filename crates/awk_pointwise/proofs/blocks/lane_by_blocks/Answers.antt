use Rattle.std.proofs.Common.{◌/◌, length, ap₂, sym, ◌∙◌}
use Rattle.awk_lanes.specs.Numbers.{width, numbers}
use Rattle.awk_pointwise.proofs.BlockLaws.{all_so_far}
use Rattle.awk_pointwise.proofs.blocks.lane_by_blocks.Goals as goal

pub returns-clause-answer : goal.returns-clause-answer
returns-clause-answer g c =
    all_so_far (g.S.Blocks.results c.args.source.now) (g.S.Blocks.kind c.args.source.now) c.args.n
    c.add_block.new.bytes.items c.new.result c.in_ok-add_block.ensures c.requires.size
    (c.new.ensures.kind ∙ sym c.requires.kind)
    (c.new.ensures.items ∙ ap₂ (λ k b. numbers k (length b / width k) b) (sym c.requires.kind)
    c.into_bump_slice.ensures)
