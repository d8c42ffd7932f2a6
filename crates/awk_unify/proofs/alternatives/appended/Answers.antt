use Rattle.awk_unify.proofs.PlacedLaws.{appended_is}
use Rattle.awk_unify.proofs.Views.{lift_of-Same}
use Rattle.awk_unify.proofs.alternatives.appended.Goals as goal

pub returns : goal.returns
returns c =
    appended_is _ _ _ _ _ _ _ _ _ c.in_ok-push.ensures.ok c.in_ok-typs.ensures
    c.in_ok-copy_type.ensures c.in_ok-all_same.ensures c.len.ensures c.len-2.ensures lift_of-Same
