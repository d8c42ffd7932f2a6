use Rattle.awk_layout.specs.Typing.{array_type, array_items}
use Rattle.awk_pack.specs.Shown.{packed_of}
use Rattle.awk_answer.proofs.PackLaws.{HasLanes-canon}
use Rattle.awk_answer.proofs.packing.packed.Goals as goal

pub returns-in-Ok-clause-answer : goal.returns-in-Ok-clause-answer
returns-in-Ok-clause-answer g c = HasLanes-canon (array_type c.in-Arr.array)
    (array_items c.in-Arr.array) (packed_of c.in-Ok.p) c.in-Ok.ensures.packed
