use Rattle.std.proofs.Common.{◌≡◌, length}
use Rattle.awk_load_line.proofs.RawLaws.{IsPartedSoFar}
use Rattle.awk_load_line.proofs.raw.raw_store.Given as goal

abbrev pub invariant-loop-i : goal.invariant-loop-i
invariant-loop-i l = record {
  so_far : IsPartedSoFar l.parts l.fn.raw l.store.held l.i l.rest;
  counted : l.i-end ≡ length l.parts;
}
