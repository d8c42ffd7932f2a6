use Rattle.std.proofs.Common.{◌≡◌, zero, suc, ap, sym, ◌∙◌, arith, rules, refl}
use Rattle.std.proofs.Common.{to_z, of_z, length}
use Rattle.std.specs.Prelude.{ℤ, pos, negsuc, true, false, FitsSigned}
use Rattle.std.specs.Int.{w128}
use Rattle.std.specs.List.{list_any, slice_range}
use Rattle.std.proofs.lemmas.Int.{ints, to_z-of_z}
use Rattle.awk_numbers.specs.Folds.{is_zero}
use Rattle.awk_numbers.proofs.PartLaws.{whole_range}
use Rattle.awk_numbers.proofs.ProductLaws.{none_more, some_zero}
use Rattle.awk_numbers.proofs.folds.has_zero.Goals as goal

is_0 : (z : ℤ) → FitsSigned w128 z → of_z w128 z ≡ 0 → is_zero z ≡ true
is_0 z f e = ap is_zero (sym (to_z-of_z w128 z f) ∙ ap (to_z w128) e)

not_0 : (z : ℤ) → (of_z w128 z ≡ 0 → ⊥) → is_zero z ≡ false
not_0 (pos zero) h = absurd (h refl)
not_0 (pos (suc n)) h = grind (arith, ints)
not_0 (negsuc n) h = refl

pub returns-then-at-eq0 : goal.returns-then-at-eq0
returns-then-at-eq0 g c =
    let zs = g.R.Row.numbers c.args.row.now in
    let f : FitsSigned w128 c.at.result = search rules in
    sym (ap (list_any is_zero) (sym (whole_range zs))
    ∙ some_zero zs 0 c.loop-i.i (length zs) (omega arith)
    (omega (arith, c.loop-i-test.true, c.len-i-end.ensures)) (omega arith)
    (ap is_zero (sym c.at.ensures.number) ∙ is_0 c.at.result f c.if-at-eq0.true))

pub loop-i-preserved : goal.loop-i-preserved
loop-i-preserved g c = record {
  none = none_more (g.R.Row.numbers c.args.row.now) 0 c.loop-i.i (omega arith)
      (omega (arith, c.loop-i-test.true, c.len-i-end.ensures)) c.loop-i.invariant.none
      (ap is_zero (sym c.at.ensures.number) ∙ not_0 c.at.result c.if-at-eq0.false);
}

pub returns : goal.returns
returns g c =
    let zs = g.R.Row.numbers c.args.row.now in
    let all : c.loop-i.i ≡ length zs =
    omega (arith, c.loop-i-test.false, c.loop-i.auto.i-end, c.len-i-end.ensures) in
    sym (ap (list_any is_zero) (sym (whole_range zs))
    ∙ ap (λ n. list_any is_zero (slice_range zs 0 n)) (sym all) ∙ c.loop-i.invariant.none)
