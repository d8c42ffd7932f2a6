use Rattle.std.proofs.Common.{◌≡◌, drop, length}
use Rattle.awk_load_line.specs.Parts.{cut_key}
use Rattle.awk_load_line.proofs.raw.cut_in.Given as goal

-- the first key to come that is cut is the first of all
abbrev pub invariant-loop-i : goal.invariant-loop-i
invariant-loop-i l = record {
  same : cut_key (drop l.i l.parts) l.have ≡ cut_key l.parts (length l.raw);
  counted : l.i-end ≡ length l.parts;
}
