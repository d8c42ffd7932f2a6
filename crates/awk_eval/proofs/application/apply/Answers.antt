use Rattle.std.proofs.Common.{◌≡◌, true, length, subst}
use Rattle.awk_expr.specs.Allowed.{HasArguments}
use Rattle.awk_arguments.proofs.Rows.{AreDistinct-fields}
use Rattle.awk_arguments.proofs.ZipArguments.{AreNamed-zip}
use Rattle.awk_eval.specs.Views.{is_view_op}
use Rattle.awk_eval.proofs.EdgeArguments.{AreRising-hist}
use Rattle.awk_eval.proofs.WithinLaws.{IsWithin-one}
use Rattle.awk_eval.proofs.application.apply.Goals as goal

pub fields_of-requires-clause-distinct : goal.fields_of-requires-clause-distinct
fields_of-requires-clause-distinct g c =
    AreDistinct-fields (length c.args.operands.now) c.args.fixed.now c.texts.result.now
    (subst (λ o. HasArguments o (length c.args.operands.now) c.args.fixed.now) c.in-Fields.is
    c.requires.arguments) c.texts.ensures

pub rows_of-requires-clause-names : goal.rows_of-requires-clause-names
rows_of-requires-clause-names g c =
    AreNamed-zip (length c.args.operands.now) c.args.fixed.now
    (subst (λ o. HasArguments o (length c.args.operands.now) c.args.fixed.now) c.in-Zip.is
    c.requires.arguments)

pub histogram_of-requires-clause-rising : goal.histogram_of-requires-clause-rising
histogram_of-requires-clause-rising g c =
    AreRising-hist c.in-Hist.of (length c.args.operands.now) c.args.fixed.now
    (subst (λ o. HasArguments o (length c.args.operands.now) c.args.fixed.now) c.in-Hist.is
    c.requires.arguments)

pub returns-in-Range-clause-cost : goal.returns-in-Range-clause-cost
returns-in-Range-clause-cost g c s cuts are =
    c.ranged.ensures.cost s
    (subst (λ o. is_view_op o c.args.fixed.now ≡ true) c.in-Range.is cuts) are

pub returns-in-Field-clause-cost : goal.returns-in-Field-clause-cost
returns-in-Field-clause-cost g c s cuts are =
    c.field_of.ensures.cost s
    (IsWithin-one s c.args.operands.now c.only.result.now c.only.ensures.alone are)

pub returns-in-Fields-clause-cost : goal.returns-in-Fields-clause-cost
returns-in-Fields-clause-cost g c s cuts are =
    c.fields_of.ensures.cost s
    (IsWithin-one s c.args.operands.now c.only-in-Fields.result.now c.only-in-Fields.ensures.alone
    are)

pub returns-in-WithoutField-clause-cost : goal.returns-in-WithoutField-clause-cost
returns-in-WithoutField-clause-cost g c s cuts are =
    c.without_of.ensures.cost s
    (IsWithin-one s c.args.operands.now c.only-in-WithoutField.result.now
    c.only-in-WithoutField.ensures.alone are)
