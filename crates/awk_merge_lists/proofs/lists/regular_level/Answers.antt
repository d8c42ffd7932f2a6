use Rattle.std.proofs.lemmas.Result.{IfOk-weaker}
use Rattle.awk_types.specs.DataType.{reg}
use Rattle.awk_merge_sides.specs.Sides.{sides_of}
use Rattle.awk_merge_lists.specs.ListLevels.{IsRegularLevel}
use Rattle.awk_merge_lists.proofs.PartedLaws.{level-parted}
use Rattle.awk_merge_lists.proofs.lists.regular_level.Goals as goal

pub part_level-requires-clause-lists : goal.part_level-requires-clause-lists
part_level-requires-clause-lists g c =
    let n = c.requires.lists.0 in
    let u = c.requires.lists.1.0 in
    (n, (u, c.in_ok-parts.ensures.sides (reg n u) c.requires.lists.1.1))

pub returns : goal.returns
returns g c = λ n u k.
    let ss = sides_of c.args.sides.now in
    IfOk-weaker c.part_level.result (IsRegularLevel n u (sides_of c.in_ok-parts.parts))
    (IsRegularLevel n u ss)
    (λ r h. level-parted n u ss c.in_ok-parts.parts r c.in_ok-parts.ensures h)
    (c.part_level.ensures n u (c.in_ok-parts.ensures.sides (reg n u) k))
