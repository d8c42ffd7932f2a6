use Rattle.std.proofs.Common.{arith}
use Rattle.awk_numbers.specs.Folds.{whole_numbers}
use Rattle.awk_present.proofs.PresentLaws.{counts_small}
use Rattle.awk_present.proofs.present.present_offsets.Goals as goal

pub offsets_of-requires-clause-small : goal.offsets_of-requires-clause-small
offsets_of-requires-clause-small g c =
    omega (
      arith,
      counts_small (whole_numbers c.args.index.now) c.args.offsets.now c.args.count c.args.count
          c.requires.parts.rising (omega arith),
      c.requires.parts.rising.within c.args.count (omega arith),
      c.requires.parts.few,
    )
