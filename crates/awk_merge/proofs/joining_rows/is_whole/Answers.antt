use Rattle.std.proofs.Common.{◌≡◌, ◌∙◌, ◌+◌, ◌*◌, ap, sym, subst, arith}
use Rattle.std.specs.Prelude.{true, not, is_some}
use Rattle.std.specs.List.{list_all, range_with_len}
use Rattle.awk_merge_operands.specs.Operands.{list_place}
use Rattle.awk_merge.proofs.RangeLaws.{holds_next, fails_at}
use Rattle.awk_merge.proofs.joining_rows.is_whole.Goals as goal

pub loop-j-preserved : goal.loop-j-preserved
loop-j-preserved g c =
    holds_next (λ j. is_some (list_place c.args.index.now (j * c.args.n + c.args.i))) c.loop-j.j
    c.loop-j.invariant (ap is_some (sym c.list_place.ensures) ∙ c.if-is_none.ensures)

pub returns : goal.returns
returns g c =
    let e : c.loop-j.j ≡ c.args.k = omega (arith, c.loop-j-test.false, c.loop-j.auto.j-end) in
    sym (subst (λ m. list_all (λ j. is_some (list_place c.args.index.now (j * c.args.n + c.args.i)))
    (range_with_len 0 m) ≡ true) e c.loop-j.invariant)

pub returns-then-is_none : goal.returns-then-is_none
returns-then-is_none g c =
    sym (fails_at (λ j. is_some (list_place c.args.index.now (j * c.args.n + c.args.i))) c.args.k
    c.loop-j.j c.loop-j-test.true
    (ap is_some (sym c.list_place.ensures) ∙ c.is_none.ensures ∙ ap not c.if-is_none.true))
