use Rattle.std.proofs.Common.{arith, ◌++◌, ◌+◌, drop, refl, ◌∙◌, append_assoc}
use Rattle.std.specs.List.{flat_map}
use Rattle.awk_json.proofs.Puts.{stops, goes, piece_at}
use Rattle.awk_json.proofs.text.write_pieces.Goals as goal

pub returns-in_err-put-clause-bytes : goal.returns-in_err-put-clause-bytes
returns-in_err-put-clause-bytes g c =
    let i = c.loop-piece.piece-index in
    let next = piece_at c.args.pieces.now i _ c.as_bytes.result.now (omega arith)
    c.as_bytes.ensures.value in
    stops (goes c.loop-piece.invariant.put c.in_err-put.ensures.bytes _ refl refl) (grind arith)
    (flat_map (λ p. p.now) (drop (i + 1) c.args.pieces.now))
    (rw (c.loop-piece.invariant.whole, next) (simp append_assoc))

pub loop-piece-preserved : goal.loop-piece-preserved
loop-piece-preserved g c =
    let i = c.loop-piece.piece-index in
    let next = piece_at c.args.pieces.now i _ c.as_bytes.result.now (omega arith)
    c.as_bytes.ensures.value in
    record {
      done = c.loop-piece.invariant.done ++ c.as_bytes.result.now;
      put = goes c.loop-piece.invariant.put c.in_ok-put.ensures.bytes _ refl (simp append_assoc);
      whole = rw (c.loop-piece.invariant.whole, next) (simp append_assoc);
      flushes = c.put.ensures.flushes ∙ c.loop-piece.invariant.flushes;
      later = omega (arith, c.loop-piece.invariant.later, c.put.ensures.cause.later);
    }
