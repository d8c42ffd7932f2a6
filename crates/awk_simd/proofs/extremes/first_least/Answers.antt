use Rattle.awk_simd.proofs.Places.{first_least_is}
use Rattle.awk_simd.proofs.extremes.first_least.Goals as goal

pub returns : goal.returns
returns c = first_least_is c.args.xs.now c.place_of_least.result c.place_of_least.ensures
