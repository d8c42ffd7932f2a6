use Rattle.awk_merge_lists.specs.Lists.{moved_place}
use Rattle.awk_merge_lists.proofs.MadePlaces.{ArePut}
use Rattle.awk_merge_lists.proofs.lists.put_places.Given as goal

abbrev pub invariant-loop-i : goal.invariant-loop-i
invariant-loop-i g l = ArePut (moved_place l.base l.n l.ends) l.i l.fn.maker l.maker
