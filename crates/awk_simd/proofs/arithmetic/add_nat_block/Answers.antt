use Rattle.std.proofs.Common.{◌+◌, ◌≤◌, length, arith, ap, sym, ◌∙◌}
use Rattle.std.specs.Prelude.{pos, Ok}
use Rattle.std.specs.Simd.Lanes.{chunk, zip2}
use Rattle.std.proofs.lemmas.Simd.{get_or-put_chunk_below, length-chunk}
use Rattle.awk_simd.proofs.Lanes.{length-results}
use Rattle.awk_simd.proofs.Chosen.{stored}
use Rattle.awk_simd.proofs.Results.{wrapped_sum, sum_made-nat, zero_mask}
use Rattle.awk_simd.proofs.arithmetic.add_nat_block.Goals as goal

pub returns-then-z-x-ne0-clause-below : goal.returns-then-z-x-ne0-clause-below
returns-then-z-x-ne0-clause-below c = λ k l. get_or-put_chunk_below c.args.at c.args.out.now _ k 0 l

pub returns-clause-below : goal.returns-clause-below
returns-clause-below c = λ k l. get_or-put_chunk_below c.args.at c.args.out.now _ k 0 l

pub returns-clause-made : goal.returns-clause-made
returns-clause-made c = λ t k p q.
    let a = c.args.a.now in
    let b = c.args.b.now in
    let at = c.args.at in
    let ra = c.requires.room in
    let rb : at + 8 ≤ length b = omega (arith, ra, c.requires.b) in
    let s = zip2 wrapped_sum (chunk at 8 a) (chunk at 8 b) in
    let long = length-results wrapped_sum (chunk at 8 a) (chunk at 8 b) (length-chunk at 8 a ra)
    (length-chunk at 8 b rb) in
    let fa = c.type_inv.a k in
    let fb = c.type_inv.b k in
    sum_made-nat a b at ra rb c.args.hi k p q fa.fits fb.fits c.if-z-x-ne0.false (zero_mask _ t)
    ∙ ap (λ z. Ok (pos z))
    (sym (stored 0 c.args.out.now s at k long (omega (arith, ra, c.requires.out)) p q))
