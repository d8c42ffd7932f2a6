use Rattle.std.proofs.Common.{subst}
use Rattle.awk_types.specs.Faults.{fault_told}
use Rattle.awk_types.specs.Gives.{Gives}
use Rattle.awk_types.specs.View.{typ_of}
use Rattle.awk_layout.specs.Typing.{array_datum}
use Rattle.awk_merge_operands.specs.Operands.{stacked_datum}
use Rattle.awk_merge.proofs.joining.in_order.Goals as goal

pub returns : goal.returns
returns g c =
    subst (λ vs. Gives array_datum fault_told c.joined_arrays.result
    (stacked_datum (typ_of c.args.whole.now.typ) vs)) c.in_ok-sides.ensures.items
    c.joined_arrays.ensures
