use Rattle.awk_types.proofs.SimpleLaws.{simple_twice}
use Rattle.awk_layout.specs.Typing.{layout_type}
use Rattle.awk_lists.proofs.cutting.cut.Goals as goal

pub judge_lists-requires : goal.judge_lists-requires
judge_lists-requires g c = rw c.typ-2.ensures.typ (simple_twice (layout_type c.args.x.now))
