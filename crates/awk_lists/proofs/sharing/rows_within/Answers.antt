use Rattle.std.specs.Prelude.{Some}
use Rattle.std.proofs.Common.{sym, subst}
use Rattle.awk_types.specs.ItemLimit.{item_limit}
use Rattle.awk_lanes.specs.Counted.{AreOffsetsBy}
use Rattle.awk_lanes.specs.Places.{size_of}
use Rattle.awk_layout.specs.Typing.{array_items}
use Rattle.awk_columns.specs.Lists.{span_length}
use Rattle.awk_lists.specs.Listed.{AreEnds}
use Rattle.awk_lists.proofs.SharedRows.{offsets_end, few_held}
use Rattle.awk_lists.proofs.sharing.rows_within.Goals as goal

pub rows_among-requires-clause-offsets : goal.rows_among-requires-clause-offsets
rows_among-requires-clause-offsets g c =
    let i = c.args.inner.now in
    let o : AreOffsetsBy item_limit (span_length i.starts i.stops) (size_of i.starts)
    (Some c.in-Some.offsets) =
    rw (c.in-Some.is, c.len.ensures.len) at c.in_ok-offsets_within.ensures in
    subst (λ k. AreEnds k (array_items c.args.lists.now.content)) (sym o.2)
    (offsets_end i.class i.starts i.stops i.content c.args.lists.now.content c.requires.opens)

pub rows_among-requires-clause-few : goal.rows_among-requires-clause-few
rows_among-requires-clause-few g c =
    let i = c.args.inner.now in
    let o : AreOffsetsBy item_limit (span_length i.starts i.stops) (size_of i.starts)
    (Some c.in-Some.offsets) =
    rw (c.in-Some.is, c.len.ensures.len) at c.in_ok-offsets_within.ensures in
    few_held i.class i.starts i.stops i.content c.args.lists.now.content c.requires.opens o.1
