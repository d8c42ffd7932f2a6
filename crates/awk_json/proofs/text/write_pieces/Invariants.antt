use Rattle.std.proofs.Common.{◌≡◌, ◌≤◌, ◌++◌, Ok, drop}
use Rattle.std.specs.List.{flat_map}
use Rattle.awk_edge.specs.Put.{Moves}
use Rattle.awk_edge.specs.declared.output.WriteFault.{WriteFault}
use Rattle.std.proofs.Common.{List, ℕ}
use Rattle.awk_json.proofs.text.write_pieces.Given as goal

-- some pieces are put, and the rest is left
abbrev pub invariant-loop-piece : goal.invariant-loop-piece
invariant-loop-piece g l = record {
  done : List ℕ;
  put : Moves {E = WriteFault} (g.K.Sink.written l.fn.sink) (g.K.Sink.written l.sink) l.out
      (l.fn.out.held ++ done) (Ok tt);
  whole : flat_map (λ p. p.now) l.pieces ≡ done ++ flat_map (λ p. p.now)
      (drop l.piece-index l.pieces);
  flushes : g.K.Sink.flushes l.sink ≡ g.K.Sink.flushes l.fn.sink;
  later : g.K.Sink.faults l.fn.sink ≤ g.K.Sink.faults l.sink;
}
