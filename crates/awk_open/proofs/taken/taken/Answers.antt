-- A part is what the places in a row pick.
use Rattle.std.proofs.Common.{◌+◌, ap, ◌∙◌, subst}
use Rattle.std.specs.Prelude.{IfSome, slice_range}
use Rattle.std.proofs.lemmas.Result.{IfOk-weaker}
use Rattle.awk_layout.specs.Typing.{array_items}
use Rattle.awk_layout.specs.Valid.{len}
use Rattle.awk_counts.specs.Counted.{IsRun}
use Rattle.awk_layout.proofs.ArrayItems.{length-array_items}
use Rattle.awk_columns.proofs.ReachedContents.{run_picked}
use Rattle.awk_open.proofs.taken.taken.Goals as goal

pub returns-in-Some-clause-items : goal.returns-in-Some-clause-items
returns-in-Some-clause-items g c =
    let x = c.args.x.now in
    let p = c.args.places.now in
    let run : IsRun p c.len.result c.in-Some.first = subst (λ o. IfSome o (IsRun p c.len.result))
    c.in-Some.is c.run_start.ensures in
    let run' : IsRun p (len x) c.in-Some.first = subst (λ n. IsRun p n c.in-Some.first)
    c.len.ensures.len run in
    IfOk-weaker c.range.result _ _
    (λ r e. e ∙ ap (λ n. slice_range (array_items x) c.in-Some.first (c.in-Some.first + n))
    c.len-in-Some.ensures.len
    ∙ run_picked (array_items x) p c.in-Some.first (len x) c.requires.kind c.requires.places
    (length-array_items x) run')
    c.range.ensures.items
