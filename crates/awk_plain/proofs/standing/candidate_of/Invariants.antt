use Rattle.std.proofs.Common.{◌≤◌, drop, length}
use Rattle.serde_json.specs.View.{items_view}
use Rattle.awk_types.specs.View.{typ_of}
use Rattle.awk_plain.proofs.StandingLaws.{AreSettled}
use Rattle.awk_plain.proofs.standing.candidate_of.Given as goal

abbrev pub invariant-loop-i : goal.invariant-loop-i
invariant-loop-i l =
    (l.from ≤ length l.items)
    × AreSettled (items_view l.items) (typ_of l.typ) (items_view (drop l.i l.items))
    (items_view (drop l.from l.items))
