use Rattle.std.proofs.Common.{◌≡◌, ◌&&◌, drop}
use Rattle.std.specs.List.{list_all}
use Rattle.awk_pair_present.specs.Presence.{is_there, are_there, AreAsLong}
use Rattle.awk_pair_present.proofs.presence.are_there.Given as goal

abbrev pub invariant-loop-j : goal.invariant-loop-j
invariant-loop-j l = record {
  long : AreAsLong l.n (drop l.j l.presences);
  there : (l.all && list_all (is_there l.i) (drop l.j l.presences)) ≡ are_there l.presences l.i;
}
