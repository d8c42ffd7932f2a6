use Rattle.std.proofs.Common.{Ok, ap, sym, ◌∙◌}
use Rattle.awk_layout.specs.Datum.{datum_of}
use Rattle.awk_view.specs.Choice.{field}
use Rattle.awk_eval.specs.Eval as meaning
use Rattle.awk_lists.proofs.Singles.{one_item, len-chosen}
use Rattle.awk_eval.proofs.Singles.{field_of-one}
use Rattle.awk_eval.proofs.views.field_of.Goals as goal

pub settled-requires : goal.settled-requires
settled-requires g c = record {
  one = len-chosen (field c.args.name.now) c.in-One.x c.in_ok-made-in-One.made
      (one_item c.args.x.now c.in-One.x c.in-One.is c.requires) c.in_ok-made-in-One.ensures.answer;
}

pub returns-in_ok-settled-in-One-clause-answer : goal.returns-in_ok-settled-in-One-clause-answer
returns-in_ok-settled-in-One-clause-answer g c =
    ap (λ x. meaning.field_of c.args.name.now (datum_of x)) c.in-One.is
    ∙ field_of-one c.args.name.now c.in-One.x c.in_ok-made-in-One.made
    (one_item c.args.x.now c.in-One.x c.in-One.is c.requires) c.in_ok-made-in-One.ensures.answer
    ∙ ap Ok (sym c.in_ok-settled-in-One.ensures.settled)
