use Rattle.std.proofs.Common.{◌≡◌, drop}
use Rattle.awk_types.specs.View.{typs_of}
use Rattle.awk_unify.specs.UnifyList.{unification_list, unification_more}
use Rattle.awk_unify.specs.View.{IsIdle, lifts_of, so_far_of}
use Rattle.awk_unify.proofs.several.from_left.Given as goal

abbrev pub invariant-loop-i : goal.invariant-loop-i
invariant-loop-i l = record {
  more : unification_more (so_far_of l.made) (drop l.i (typs_of l.ts))
      ≡ unification_list (typs_of l.ts);
  idle : IsIdle l.made.kept.idle (lifts_of l.made.kept.lifts);
}
