use Rattle.std.proofs.Common.{◌∙◌, ap, sym, subst}
use Rattle.awk_sorting.specs.Cells.{height, IsRanked}
use Rattle.awk_sorting.proofs.ranks.height_at.Goals as goal

pub height-requires : goal.height-requires
height-requires g c =
    let r = c.args.ranks.now in
    subst (IsRanked r.up r.reach.least r.reach.last) (sym c.number-cell.ensures.number)
    (c.requires.ranked.ranked c.args.i c.requires.within)

pub returns-clause-height : goal.returns-clause-height
returns-clause-height g c =
    let r = c.args.ranks.now in
    c.height.ensures.height
    ∙ ap (height r.up r.reach.least r.reach.last) c.number-cell.ensures.number
