use Rattle.std.proofs.Common.{ap, ◌∙◌}
use Rattle.awk_layout.specs.Datum.{datum_of}
use Rattle.awk_view.specs.Choice.{fields}
use Rattle.awk_eval.specs.Eval as meaning
use Rattle.awk_lists.proofs.Singles.{one_item, len-chosen, choice_of-one}
use Rattle.awk_eval.proofs.views.fields_of.Goals as goal

pub returns-in_ok-fields-in-One-clause-answer : goal.returns-in_ok-fields-in-One-clause-answer
returns-in_ok-fields-in-One-clause-answer g c =
    ap (λ x. meaning.fields_of c.args.names.now (datum_of x)) c.in-One.is
    ∙ choice_of-one (fields c.args.names.now) c.in-One.x c.in_ok-fields-in-One.field-0
    (one_item c.args.x.now c.in-One.x c.in-One.is c.requires.datum)
    c.in_ok-fields-in-One.ensures.answer

pub returns-in_ok-fields-in-One-clause-datum : goal.returns-in_ok-fields-in-One-clause-datum
returns-in_ok-fields-in-One-clause-datum g c =
    len-chosen (fields c.args.names.now) c.in-One.x c.in_ok-fields-in-One.field-0
    (one_item c.args.x.now c.in-One.x c.in-One.is c.requires.datum)
    c.in_ok-fields-in-One.ensures.answer
