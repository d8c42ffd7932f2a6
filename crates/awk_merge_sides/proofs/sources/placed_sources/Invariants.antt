use Rattle.std.proofs.Common.{◌-◌}
use Rattle.awk_unify.specs.View.{lifts_of}
use Rattle.awk_merge_sides.proofs.LiftLaws.{AreFrom}
use Rattle.awk_merge_sides.proofs.sources.placed_sources.Given as goal

-- the parts behind are put
abbrev pub invariant-loop-i : goal.invariant-loop-i
invariant-loop-i l = AreFrom (l.many - l.i) l.places (lifts_of l.parts) l.n l.sources.items
