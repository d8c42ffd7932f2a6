-- A size that is too large breaks the shape, and one that is not leaves the rest to be judged.
use Rattle.std.proofs.Common.{◌+◌, ◌*◌, drop, arith, ap, ◌∙◌}
use Rattle.awk_types.proofs.RefusalLaws.{refused_or-Ok}
use Rattle.awk_types.specs.Gives.{refused_or}
use Rattle.awk_valid.specs.Broken.{size_break, shape_break}
use Rattle.awk_valid.specs.Loading.{told}
use Rattle.awk_valid.specs.Needs.{product}
use Rattle.awk_valid.proofs.Places.{size_break-none}
use Rattle.awk_valid.proofs.FaultLaws.{Gives-fails}
use Rattle.awk_valid.proofs.ShapeLaws.{told_of_size, told_of_next, shape-next, numbers-next}
use Rattle.awk_valid.proofs.numbers.judged_shape.Goals as goal

pub returns-in_err-judged_size-clause-answer : goal.returns-in_err-judged_size-clause-answer
returns-in_err-judged_size-clause-answer c =
    let e = c.in_err-judged_size.field-0.0 in
    let n = c.args.n in
    let inner = c.args.inner.now in
    Gives-fails (λ x. x) c.from_residual.result e
    (refused_or (shape_break n inner) (n * product inner))
    c.from_residual.ensures.1
    (told_of_size (told e) n inner tt (n * product inner) c.in_err-judged_size.ensures)

pub returns-in_err-items-clause-answer : goal.returns-in_err-items-clause-answer
returns-in_err-items-clause-answer c =
    let e = c.in_err-items.field-0.0 in
    let n = c.args.n in
    let inner = c.args.inner.now in
    Gives-fails (λ x. x) c.from_residual-in_err-items.result e
    (refused_or (shape_break n inner) (n * product inner)) c.from_residual-in_err-items.ensures.1
    (told_of_next (told e) n c.loop-i.i c.loop-i.items c.get.result.now inner
    (c.loop-i.items * c.get.result.now) (n * product inner) c.loop-i.invariant.few c.get.ensures
    c.loop-i.invariant.breaks c.in_err-items.ensures)

pub loop-i-preserved : goal.loop-i-preserved
loop-i-preserved c =
    let inner = c.args.inner.now in
    let i = c.loop-i.i in
    let items = c.loop-i.items in
    let m = c.get.result.now in
    let judged =
    refused_or-Ok (size_break (items * m))
    (items * m) c.in_ok-items.items c.in_ok-items.ensures in
    record {
      few = omega (arith, judged.1, size_break-none (items * m) judged.0);
      breaks =
          shape-next c.args.n i items m inner c.loop-i.invariant.few c.get.ensures
          c.loop-i.invariant.breaks ∙ ap (λ k. shape_break k (drop (i + 1) inner)) judged.1;
      numbers =
          numbers-next _ i items m inner c.get.ensures c.loop-i.invariant.numbers
          ∙ ap (λ k. k * product (drop (i + 1) inner)) judged.1;
    }
