use Rattle.std.proofs.Common.{◌∙◌, ap, sym, subst}
use Rattle.awk_types.specs.Faults.{fault_told}
use Rattle.awk_types.specs.Gives.{Gives}
use Rattle.awk_types.specs.Simple.{is_option}
use Rattle.awk_layout.specs.Typing.{array_type, array_datum}
use Rattle.awk_open.specs.Opens.{OpensOption}
use Rattle.awk_merge_operands.specs.Operands.{IsRowsType}
use Rattle.awk_merge.proofs.NullRowLaws.{var_of, var_in, whole_gives, option_gives}
use Rattle.awk_merge.proofs.joining_rows.rows_of.Goals as goal

pub plain_rows-requires-clause-lists : goal.plain_rows-requires-clause-lists
plain_rows-requires-clause-lists g c =
    var_of (array_type c.args.x.now) c.requires.rows
    (ap is_option (sym c.typ.ensures.typ) ∙ sym c.is_optional.ensures ∙ c.if-not-is_optional.true)

pub plain_rows-requires-clause-index : goal.plain_rows-requires-clause-index
plain_rows-requires-clause-index g c = sym c.requires.whole

pub returns-then-not-is_optional : goal.returns-then-not-is_optional
returns-then-not-is_optional g c =
    subst (Gives array_datum fault_told c.plain_rows.result)
    (whole_gives c.args.n c.args.k c.args.x.now c.requires.whole) c.plain_rows.ensures

pub plain_rows-requires-in-Option-clause-lists : goal.plain_rows-requires-in-Option-clause-lists
plain_rows-requires-in-Option-clause-lists g c =
    let opens : OpensOption c.in-Option.index c.in-Option.content c.args.x.now =
    rw c.in-Option.is at c.in_ok-index.ensures in
    var_in (array_type c.in-Option.content) (subst IsRowsType opens.typ c.requires.rows)

pub plain_rows-requires-in-Option-clause-index : goal.plain_rows-requires-in-Option-clause-index
plain_rows-requires-in-Option-clause-index g c =
    let opens : OpensOption c.in-Option.index c.in-Option.content c.args.x.now =
    rw c.in-Option.is at c.in_ok-index.ensures in
    (opens.size ∙ c.requires.whole, opens.index)

pub returns : goal.returns
returns g c =
    let opens : OpensOption c.in-Option.index c.in-Option.content c.args.x.now =
    rw c.in-Option.is at c.in_ok-index.ensures in
    subst (Gives array_datum fault_told c.plain_rows-in-Option.result)
    (option_gives c.in-Option.index c.args.n c.args.k c.in-Option.content c.args.x.now opens
    c.requires.whole) c.plain_rows-in-Option.ensures
