use Rattle.std.proofs.Common.{arith}
use Rattle.awk_lanes.proofs.CountedLanes.{one_within}
use Rattle.awk_places.specs.Products.{product_count}
use Rattle.awk_places.proofs.products.ProductCountsNumbers.number.Goals as goal

pub unreachable-requires : goal.unreachable-requires
unreachable-requires g c =
    omega (
      arith,
      c.in-None.ensures,
      c.requires.ready.1,
      one_within (product_count c.args.self.now.lengths.now) c.args.self.now.n c.args.i
          c.requires.within,
    )
