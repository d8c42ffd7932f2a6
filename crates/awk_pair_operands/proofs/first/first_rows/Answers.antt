use Rattle.std.proofs.Common.{◌∙◌, sym}
use Rattle.awk_pair_operands.specs.First.{array_lengths}
use Rattle.awk_pair_operands.proofs.FirstLaws.{first_unequal, first_rows_are, count_is, none_is}
use Rattle.awk_pair_operands.proofs.first.first_rows.Goals as goal

pub returns-then-not-are_long : goal.returns-then-not-are_long
returns-then-not-are_long g c =
    first_unequal c.args.xs.now c.unwrap_or-count.result
    (count_is (array_lengths c.args.xs.now) c.first_length-length.result c.unwrap_or-count.result
    c.first_length-length.ensures.length c.unwrap_or-count.ensures)
    (sym c.are_long.ensures ∙ c.if-not-are_long.true)

pub returns : goal.returns
returns g c =
    first_rows_are c.args.xs.now c.is_none-single.result c.unwrap_or-count.result
    c.in_ok-arrays.arrays
    (count_is (array_lengths c.args.xs.now) c.first_length-length.result c.unwrap_or-count.result
    c.first_length-length.ensures.length c.unwrap_or-count.ensures)
    (none_is (array_lengths c.args.xs.now) c.first_length-length.result c.is_none-single.result
    c.first_length-length.ensures.length c.is_none-single.ensures)
    (sym c.are_long.ensures ∙ c.if-not-are_long.false) c.in_ok-arrays.ensures
