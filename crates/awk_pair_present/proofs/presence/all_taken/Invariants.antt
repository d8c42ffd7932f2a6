use Rattle.std.proofs.Common.{take, drop}
use Rattle.awk_pair_present.specs.Presence.{AreAsLong, AllKeptOf, AreTaken}
use Rattle.awk_pair_present.proofs.presence.all_taken.Given as goal

abbrev pub invariant-loop-j : goal.invariant-loop-j
invariant-loop-j g l = record {
  long : AreAsLong l.n (drop l.j l.presences);
  kept : AllKeptOf l.n (drop l.j l.presences) l.places;
  made : AreTaken (take l.j l.presences) l.places l.arrays;
}
