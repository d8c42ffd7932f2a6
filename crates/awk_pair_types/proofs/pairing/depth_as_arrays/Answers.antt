use Rattle.std.proofs.Common.{◌∙◌, sym, arith}
use Rattle.awk_pair_operands.specs.First.{all_data}
use Rattle.awk_pair_types.proofs.DepthLaws.{depth_of_arrays, depth_of_single}
use Rattle.awk_pair_types.proofs.EmptyLaws.{data_some}
use Rattle.awk_pair_types.proofs.pairing.depth_as_arrays.Goals as goal

pub returns-then-some_array : goal.returns-then-some_array
returns-then-some_array c =
    depth_of_arrays c.args.depth (all_data c.args.xs.now)
    (data_some c.args.xs.now c.requires.some) (sym c.some_array.ensures ∙ c.if-some_array.true)

pub returns : goal.returns
returns c =
    depth_of_single c.args.depth c.saturating_add.result (all_data c.args.xs.now)
    (data_some c.args.xs.now c.requires.some) (sym c.some_array.ensures ∙ c.if-some_array.false)
    c.requires.heights (omega (arith, c.ranges.depth)) c.saturating_add.ensures
