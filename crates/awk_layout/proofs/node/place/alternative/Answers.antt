use Rattle.std.proofs.Common.{arith}
use Rattle.awk_layout.specs.Contents.{count-layouts_from, nth-layouts_from}
use Rattle.awk_layout.proofs.node.place.alternative.Goals as goal

pub get-requires : goal.get-requires
get-requires g c =
    omega (
      arith,
      count-layouts_from c.args.contents.now,
      (c.requires.valid.tags c.args.i c.requires.within).1,
      c.tag_in-tag.ensures.value,
    )

pub returns-clause-case : goal.returns-clause-case
returns-clause-case g c =
    cc (
      nth-layouts_from c.args.contents.now c.tag_in-tag.result c.get.result.now c.get.ensures,
      c.tag_in-tag.ensures.value,
      c.place_in-place.ensures.value,
    )
