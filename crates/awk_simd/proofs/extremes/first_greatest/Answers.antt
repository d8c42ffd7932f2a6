use Rattle.awk_simd.proofs.Places.{first_greatest_is}
use Rattle.awk_simd.proofs.extremes.first_greatest.Goals as goal

pub returns : goal.returns
returns c = first_greatest_is c.args.xs.now c.place_of_greatest.result c.place_of_greatest.ensures
