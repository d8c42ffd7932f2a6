use Rattle.std.proofs.Common.{take, drop}
use Rattle.awk_open.specs.Opened.{AreLong}
use Rattle.awk_pair_present.specs.Presence.{ArePresences}
use Rattle.awk_pair_present.proofs.presence.presences_of.Given as goal

abbrev pub invariant-loop-i : goal.invariant-loop-i
invariant-loop-i g l = record {
  long : AreLong l.n (drop l.i l.xs);
  made : ArePresences l.n (take l.i l.xs) l.presences.items;
}
