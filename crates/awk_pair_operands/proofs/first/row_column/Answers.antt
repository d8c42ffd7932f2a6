use Rattle.std.proofs.Common.{◌∙◌, sym, subst}
use Rattle.awk_layout.specs.Single.{own_datum}
use Rattle.awk_layout.specs.Valid.{len}
use Rattle.awk_pair_operands.specs.First.{IsRowColumn}
use Rattle.awk_pair_operands.proofs.FirstLaws.{row_kept, zeros_index, single_len, row_repeated}
use Rattle.awk_pair_operands.proofs.first.row_column.Goals as goal

pub returns-then-is_array : goal.returns-then-is_array
returns-then-is_array g c =
    subst (IsRowColumn c.args.n (own_datum c.args.x.now)) (sym c.in_ok-same.ensures)
    (row_kept c.args.n (own_datum c.args.x.now) c.args.column.now
    (sym c.is_array.ensures ∙ c.if-is_array.true) c.requires.column c.requires.long)

pub gather-requires-clause-places : goal.gather-requires-clause-places
gather-requires-clause-places g c =
    zeros_index c.args.n (len c.args.column.now) c.in_ok-zeros.zeros c.in_ok-zeros.ensures.lane
    (single_len (own_datum c.args.x.now) c.args.column.now
    (sym c.is_array.ensures ∙ c.if-is_array.false) c.requires.column)

pub returns : goal.returns
returns g c =
    row_repeated c.args.n (own_datum c.args.x.now) c.args.column.now c.in_ok-repeated.repeated
    c.in_ok-zeros.zeros (sym c.is_array.ensures ∙ c.if-is_array.false) c.requires.column
    c.in_ok-zeros.ensures.lane c.in_ok-repeated.ensures.gathered
