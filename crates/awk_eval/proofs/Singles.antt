-- The field of a single value.
use Rattle.std.proofs.Common.{◌≡◌, Ok, ap}
use Rattle.awk_types.specs.DataType.{Name}
use Rattle.awk_types.specs.Datum.{one}
use Rattle.awk_types.specs.Settle.{settle}
use Rattle.awk_layout.specs.Datum.{first_item}
use Rattle.awk_layout.specs.Layout.{Layout}
use Rattle.awk_layout.specs.Typing.{array_type, array_datum}
use Rattle.awk_layout.specs.Valid.{len}
use Rattle.awk_lists.proofs.Singles.{choice_of-one}
use Rattle.awk_view.specs.Answer.{view_answer}
use Rattle.awk_view.specs.Choice.{field}
use Rattle.awk_eval.specs.Eval.{field_of, mapped, settled}

-- it is settled
pub field_of-one : (n : Name) (x made : Layout) → len x ≡ 1
    → view_answer (field n) x ≡ Ok (array_datum made)
    → field_of n (one (array_type x) (first_item x))
    ≡ Ok (settle (array_type made) (first_item made))
field_of-one n x made single given =
    ap (mapped settled) (choice_of-one (field n) x made single given)
