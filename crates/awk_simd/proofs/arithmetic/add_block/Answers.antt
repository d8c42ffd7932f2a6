use Rattle.std.proofs.Common.{◌+◌, ◌≤◌, length, arith, ap, sym, ◌∙◌, w64}
use Rattle.std.specs.Prelude.{pos, Ok}
use Rattle.std.specs.Int.{cast_signed as to_z}
use Rattle.std.specs.Simd.Lanes.{zip2}
use Rattle.std.proofs.lemmas.Int.{to_z-of_z}
use Rattle.std.proofs.lemmas.Simd.{get_or-put_chunk_below}
use Rattle.awk_simd.proofs.Masks.{loaded, length-loaded}
use Rattle.awk_simd.proofs.Lanes.{length-results}
use Rattle.awk_simd.proofs.Chosen.{stored_by}
use Rattle.awk_simd.proofs.Results.{wrapped_sum, sum_made, sum_made-all, zero_mask}
use Rattle.awk_simd.proofs.arithmetic.add_block.Goals as goal

pub returns-then-wrapped-ne0-clause-below : goal.returns-then-wrapped-ne0-clause-below
returns-then-wrapped-ne0-clause-below c = λ k l. get_or-put_chunk_below c.args.at c.args.out.now _ k
    (pos 0) l

pub returns-then-takes_all-clause-below : goal.returns-then-takes_all-clause-below
returns-then-takes_all-clause-below c = λ k l. get_or-put_chunk_below c.args.at c.args.out.now _ k
    (pos 0) l

pub returns-then-takes_all-clause-made : goal.returns-then-takes_all-clause-made
returns-then-takes_all-clause-made c = λ t k p q.
    let a = c.args.a.now in
    let b = c.args.b.now in
    let at = c.args.at in
    let ra = c.requires.room in
    let rb : at + 8 ≤ length b = omega (arith, ra, c.requires.b) in
    let s = zip2 wrapped_sum (loaded at a) (loaded at b) in
    let long = length-results wrapped_sum (loaded at a) (loaded at b) (length-loaded at a ra)
    (length-loaded at b rb) in
    sum_made-all a b at ra rb c.args.lo c.args.hi c.ranges.lo c.ranges.hi k p q
    (c.requires.known_a k (omega (arith, ra))) (c.requires.known_b k (omega (arith, rb)))
    c.if-wrapped-ne0.false
    (sym (to_z-of_z w64 c.args.lo c.ranges.lo) ∙ c.if-takes_all.ensures.least t)
    (sym (to_z-of_z w64 c.args.hi c.ranges.hi) ∙ c.if-takes_all.ensures.greatest t)
    ∙ ap (λ z. Ok z) (sym (stored_by (to_z w64) (pos 0) c.args.out.now s at k long
    (omega (arith, ra, c.requires.out)) p q))

pub returns-then-z-lo-ne0-clause-below : goal.returns-then-z-lo-ne0-clause-below
returns-then-z-lo-ne0-clause-below c = λ k l. get_or-put_chunk_below c.args.at c.args.out.now _ k
    (pos 0) l

pub returns-clause-below : goal.returns-clause-below
returns-clause-below c = λ k l. get_or-put_chunk_below c.args.at c.args.out.now _ k (pos 0) l

pub returns-clause-made : goal.returns-clause-made
returns-clause-made c = λ t k p q.
    let a = c.args.a.now in
    let b = c.args.b.now in
    let at = c.args.at in
    let ra = c.requires.room in
    let rb : at + 8 ≤ length b = omega (arith, ra, c.requires.b) in
    let s = zip2 wrapped_sum (loaded at a) (loaded at b) in
    let long = length-results wrapped_sum (loaded at a) (loaded at b) (length-loaded at a ra)
    (length-loaded at b rb) in
    sum_made a b at ra rb c.args.lo c.args.hi c.ranges.lo c.ranges.hi k p q
    (c.requires.known_a k (omega (arith, ra))) (c.requires.known_b k (omega (arith, rb)))
    c.if-wrapped-ne0.false c.if-z-lo-ne0.false (zero_mask _ t)
    ∙ ap (λ z. Ok z) (sym (stored_by (to_z w64) (pos 0) c.args.out.now s at k long
    (omega (arith, ra, c.requires.out)) p q))
