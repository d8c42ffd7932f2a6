use Rattle.std.proofs.Common.{ap, ◌∙◌, rules}
use Rattle.std.specs.Prelude.{FitsSigned}
use Rattle.std.specs.Int.{w64}
use Rattle.std.proofs.lemmas.Int.{to_z-of_z}
use Rattle.awk_layout.specs.Datum.{datum_of}
use Rattle.awk_arguments.specs.Axes.{axis_in}
use Rattle.awk_eval.proofs.lists.at_axis.Goals as goal

pub returns-in-Num-clause-answer : goal.returns-in-Num-clause-answer
returns-in-Num-clause-answer g c =
    let given : FitsSigned w64 c.place.result = search rules in
    let fits : FitsSigned w64 c.axis_in-axis.result = search rules in
    let axis =
    to_z-of_z w64 c.axis_in-axis.result fits ∙ c.axis_in-axis.ensures
    ∙ ap (axis_in (datum_of c.only-x.result.now)) (to_z-of_z w64 c.place.result given) in
    rw (c.in-Num.is, c.place.ensures, c.only-x.ensures.alone) (rw axis at c.num.ensures.answer)

pub returns-in-Flatten-clause-answer : goal.returns-in-Flatten-clause-answer
returns-in-Flatten-clause-answer g c =
    let given : FitsSigned w64 c.place.result = search rules in
    let fits : FitsSigned w64 c.axis_in-axis.result = search rules in
    let axis =
    to_z-of_z w64 c.axis_in-axis.result fits ∙ c.axis_in-axis.ensures
    ∙ ap (axis_in (datum_of c.only-x.result.now)) (to_z-of_z w64 c.place.result given) in
    rw (c.in-Flatten.is, c.place.ensures, c.only-x.ensures.alone)
    (rw axis at c.flatten.ensures.answer)

pub returns-in-LocalIndex-clause-answer : goal.returns-in-LocalIndex-clause-answer
returns-in-LocalIndex-clause-answer g c =
    let given : FitsSigned w64 c.place.result = search rules in
    let fits : FitsSigned w64 c.axis_in-axis.result = search rules in
    let axis =
    to_z-of_z w64 c.axis_in-axis.result fits ∙ c.axis_in-axis.ensures
    ∙ ap (axis_in (datum_of c.only-x.result.now)) (to_z-of_z w64 c.place.result given) in
    rw (c.in-LocalIndex.is, c.place.ensures, c.only-x.ensures.alone)
    (rw axis at c.local_index.ensures.answer)

pub returns-in-IsNone-clause-answer : goal.returns-in-IsNone-clause-answer
returns-in-IsNone-clause-answer g c =
    let given : FitsSigned w64 c.place.result = search rules in
    let fits : FitsSigned w64 c.axis_in-axis.result = search rules in
    let axis =
    to_z-of_z w64 c.axis_in-axis.result fits ∙ c.axis_in-axis.ensures
    ∙ ap (axis_in (datum_of c.only-x.result.now)) (to_z-of_z w64 c.place.result given) in
    rw (c.in-IsNone.is, c.place.ensures, c.only-x.ensures.alone)
    (rw axis at c.is_none.ensures.answer)

pub returns-in-DropNone-clause-answer : goal.returns-in-DropNone-clause-answer
returns-in-DropNone-clause-answer g c =
    let given : FitsSigned w64 c.place.result = search rules in
    let fits : FitsSigned w64 c.axis_in-axis.result = search rules in
    let axis =
    to_z-of_z w64 c.axis_in-axis.result fits ∙ c.axis_in-axis.ensures
    ∙ ap (axis_in (datum_of c.only-x.result.now)) (to_z-of_z w64 c.place.result given) in
    rw (c.in-DropNone.is, c.place.ensures, c.only-x.ensures.alone)
    (rw axis at c.drop_none.ensures.answer)

pub returns-in-Firsts-clause-answer : goal.returns-in-Firsts-clause-answer
returns-in-Firsts-clause-answer g c =
    let given : FitsSigned w64 c.place.result = search rules in
    let fits : FitsSigned w64 c.axis_in-axis.result = search rules in
    let axis =
    to_z-of_z w64 c.axis_in-axis.result fits ∙ c.axis_in-axis.ensures
    ∙ ap (axis_in (datum_of c.only-x.result.now)) (to_z-of_z w64 c.place.result given) in
    rw (c.in-Firsts.is, c.place.ensures, c.only-x.ensures.alone)
    (rw axis at c.firsts.ensures.answer)

pub returns-in-Singletons-clause-answer : goal.returns-in-Singletons-clause-answer
returns-in-Singletons-clause-answer g c =
    let given : FitsSigned w64 c.place.result = search rules in
    let fits : FitsSigned w64 c.axis_in-axis.result = search rules in
    let axis =
    to_z-of_z w64 c.axis_in-axis.result fits ∙ c.axis_in-axis.ensures
    ∙ ap (axis_in (datum_of c.only-x.result.now)) (to_z-of_z w64 c.place.result given) in
    rw (c.in-Singletons.is, c.place.ensures, c.only-x.ensures.alone)
    (rw axis at c.singletons.ensures.answer)
