use Rattle.awk_layout.specs.Kinds.{primitive_of}
use Rattle.awk_merge_lists.proofs.NumberLaws.{read_of}
use Rattle.awk_merge_lists.proofs.leaves.InKindNumbers.number.Goals as goal

pub as_kind-requires : goal.as_kind-requires
as_kind-requires g c = record {
  holds = read_of (primitive_of c.args.self.now.kind) c.args.self.now.lane.now c.args.i c.at.result
      c.requires.ready c.requires.within c.at.ensures.kind c.at.ensures.number;
}
