use Rattle.awk_select.specs.Kept.{Puts}
use Rattle.awk_jagged_places.specs.Leaves.{mask_first}
use Rattle.awk_jagged_places.proofs.masks.Kept.put_list.Given as goal

-- what the items before this one give is put
abbrev pub invariant-loop-k : goal.invariant-loop-k
invariant-loop-k g l = Puts (mask_first l.self.xs.now l.self.ws.now l.i l.k) l.fn.made l.made
