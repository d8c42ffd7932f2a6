use Rattle.std.proofs.Common.{sym, subst}
use Rattle.awk_types.specs.Faults.{fault_told}
use Rattle.awk_pointwise.specs.Blocks.{IsSoFar}
use Rattle.awk_pointwise.proofs.BlockLaws.{more_so_far, told_so_far}
use Rattle.awk_pointwise.proofs.blocks.add_block.Goals as goal

pub returns : goal.returns
returns g c =
    told_so_far (g.S.Blocks.results c.args.source.now) (g.S.Blocks.kind c.args.source.now)
    c.args.lo c.args.hi c.args.bytes.now.items (fault_told c.in-Err.fault) c.requires.order
    c.requires.before c.in-Err.ensures.answer

pub returns-in-Ok : goal.returns-in-Ok
returns-in-Ok g c =
    let rs = g.S.Blocks.results c.args.source.now in
    let k = g.S.Blocks.kind c.args.source.now in
    subst (IsSoFar rs k c.args.hi) (sym c.in_ok-extend_from_slice-in-Ok.ensures.items)
    (more_so_far rs k c.args.lo c.args.hi c.args.bytes.now.items c.in_ok-block-in-Ok.block.now
    c.in-Ok.lane
    c.requires.order c.requires.within c.requires.before c.in-Ok.ensures.kind
    c.in-Ok.ensures.answer c.in_ok-block-in-Ok.ensures.numbers c.in_ok-block-in-Ok.ensures.size)
