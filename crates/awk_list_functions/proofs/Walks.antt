-- Laws of going over lists of types from left to right.
use Rattle.awk_base.proofs.Lists.{drop-get}
use Rattle.awk_list_functions.proofs.CauseLaws.{sooner-assoc, sooner-none, sooner-none_after}

pub ruleset walks = (drop-get, sooner-assoc, sooner-none, sooner-none_after)
