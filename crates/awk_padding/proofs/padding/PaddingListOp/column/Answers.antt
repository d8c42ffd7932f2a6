use Rattle.awk_padding.proofs.padding.PaddingListOp.column.Goals as goal

pub returns-then-clip : goal.returns-then-clip
returns-then-clip g c =
    rw c.if-clip.true (rw c.in_ok-bounds.ensures at c.in_ok-clipped.ensures)

pub returns : goal.returns
returns g c = rw c.in_ok-bounds.ensures at c.in_ok-longer.ensures
