-- After what keeps each value, and after what leaves each lift, nothing changes.
use Rattle.std.proofs.Common.{◌∙◌, ap, map, sym}
use Rattle.std.proofs.lemmas.List.{map-id}
use Rattle.awk_unify.specs.After.{after}
use Rattle.awk_unify.specs.View.{lift_of, lifts_of}
use Rattle.awk_unify.proofs.SameLifts.{idle_leaves}
use Rattle.awk_unify.proofs.several.all_before.Goals as goal

pub returns-then-is_keep-clause-made : goal.returns-then-is_keep-clause-made
returns-then-is_keep-clause-made c =
    sym (ap (λ f. map (after f) (lifts_of c.args.kept.lifts))
    (c.is_keep.ensures.0 c.if-is_keep.true)
    ∙ map-id (lifts_of c.args.kept.lifts))

pub returns-then-is_idle-clause-made : goal.returns-then-is_idle-clause-made
returns-then-is_idle-clause-made c =
    sym (idle_leaves c.args.kept.idle (lift_of c.args.g) (lifts_of c.args.kept.lifts) c.requires
    (c.is_idle.ensures.0 c.if-is_idle.true))
