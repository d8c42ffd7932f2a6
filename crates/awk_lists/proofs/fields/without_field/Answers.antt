use Rattle.std.proofs.Common.{ap, ◌∙◌}
use Rattle.awk_layout.specs.Datum.{datum_of}
use Rattle.awk_view.specs.Choice.{without}
use Rattle.awk_lists.specs.WithoutField.{without_field_of}
use Rattle.awk_lists.proofs.Singles.{one_item, len-chosen, choice_of-one}
use Rattle.awk_lists.proofs.fields.without_field.Goals as goal

pub returns-in_ok-without-in-One-clause-answer : goal.returns-in_ok-without-in-One-clause-answer
returns-in_ok-without-in-One-clause-answer g c =
    ap (λ x. without_field_of c.args.name.now (datum_of x)) c.in-One.is
    ∙ choice_of-one (without c.args.name.now) c.in-One.x c.in_ok-without-in-One.field-0
    (one_item c.args.x.now c.in-One.x c.in-One.is c.requires.datum)
    c.in_ok-without-in-One.ensures.answer

pub returns-in_ok-without-in-One-clause-datum : goal.returns-in_ok-without-in-One-clause-datum
returns-in_ok-without-in-One-clause-datum g c =
    len-chosen (without c.args.name.now) c.in-One.x c.in_ok-without-in-One.field-0
    (one_item c.args.x.now c.in-One.x c.in-One.is c.requires.datum)
    c.in_ok-without-in-One.ensures.answer
