use Rattle.awk_pair_operands.proofs.types.+type_down.Given as goal

abbrev pub decreases-type_down : goal.decreases-type_down
decreases-type_down l = l.k
