use Rattle.std.proofs.Common.{◌+◌, ◌≤◌, length, arith}
use Rattle.std.specs.Simd.Lanes.{chunk}
use Rattle.std.proofs.lemmas.Simd.{get_or-put_chunk_below}
use Rattle.awk_simd.proofs.Masks.{loaded}
use Rattle.awk_simd.proofs.Mixed.{sizes_fit, mixed_fit, flags_stored-mixed}
use Rattle.awk_simd.proofs.comparisons.compare_mixed_block.Goals as goal

pub overflow_cast-x : goal.overflow_cast-x
overflow_cast-x c = sizes_fit c.args.a.now c.args.at c.requires.room c.requires.known_a

pub overflow_cast-out : goal.overflow_cast-out
overflow_cast-out c =
    let f = c.args.flags in
    let h = c.requires.fits in
    mixed_fit (loaded c.args.at c.args.a.now)
    (chunk c.args.at 8 c.args.b.now) f.less f.equal f.greater
    h.0 h.1 h.2

pub returns-clause-below : goal.returns-clause-below
returns-clause-below c = λ k l. get_or-put_chunk_below c.args.at c.args.out.now _ k 0 l

pub returns-clause-made : goal.returns-clause-made
returns-clause-made c = λ k p q.
    let f = c.args.flags in
    let a = c.args.a.now in
    let b = c.args.b.now in
    let at = c.args.at in
    let rb : at + 8 ≤ length b = omega (arith, c.requires.room, c.requires.b) in
    flags_stored-mixed f.less f.equal f.greater at c.args.out.now a b k
    (omega (arith, c.requires.room, c.requires.out)) c.requires.room rb p q
    (c.requires.known_a k (omega (arith, c.requires.room)))
