use Rattle.std.specs.List.{AllByRecursion}
use Rattle.std.specs.Prelude.{Some, true}
use Rattle.std.proofs.Common.{subst}
use Rattle.awk_types.specs.Has.{Has}
use Rattle.awk_types.specs.ItemLimit.{item_limit}
use Rattle.awk_lanes.specs.Counted.{AreOffsetsBy}
use Rattle.awk_lanes.specs.Places.{size_of}
use Rattle.awk_layout.specs.Typing.{array_type, array_items}
use Rattle.awk_columns.specs.Lists.{length_of}
use Rattle.awk_jagged_places.specs.Leaves.{numbers_taken, AreTested, AreTestedIn}
use Rattle.awk_jagged_places.specs.Put.{IsPutOr}
use Rattle.awk_jagged.proofs.BesideLaws.{taken-few, taken-outcome, taken-total}
use Rattle.awk_jagged.proofs.PickLaws.{outside-told}
use Rattle.awk_jagged.proofs.leaves.numbers_taken.Goals as goal

pub put_lane-requires-clause-total : goal.put_lane-requires-clause-total
put_lane-requires-clause-total g c =
    taken-total c.args.source.now.xs.now c.args.source.now.ws.now c.args.numbers.now c.args.n
    c.args.offsets.total c.requires.offsets.0

pub returns-in-None : goal.returns-in-None
returns-in-None g c =
    let xs = c.args.source.now.xs.now in
    let ws = c.args.source.now.ws.now in
    let refused : AreTested xs ws true =
    rw (c.in-None.is, c.requires.lists) at c.in_ok-put_lane.ensures in
    outside-told xs ws c.requires.leaf c.requires.mask refused

pub numpy-requires : goal.numpy-requires
numpy-requires g c =
    let xs = c.args.source.now.xs.now in
    let ws = c.args.source.now.ws.now in
    let o : AreOffsetsBy item_limit (length_of ws) (size_of ws.starts) (Some c.args.offsets) =
    subst (λ n. AreOffsetsBy item_limit (length_of ws) n (Some c.args.offsets)) c.requires.lists
    c.requires.offsets in
    let put : IsPutOr (AreTestedIn xs ws) (numbers_taken xs ws c.args.numbers.now)
    (size_of ws.starts) (Some c.in-Some.lane) =
    rw (c.in-Some.is, c.requires.lists) at c.in_ok-put_lane.ensures in
    let has : AllByRecursion (Has (array_type ws.content)) (array_items ws.content) =
    subst (λ y. AllByRecursion (Has (array_type y)) (array_items y))
    c.content-index.ensures.content c.len.ensures.items in
    taken-few xs ws c.requires.leaves.pairs c.content.ensures.lists.spans c.requires.leaf
    c.requires.mask put.0 c.args.numbers.now c.args.offsets.lane c.in-Some.lane
    c.requires.content c.requires.kind o.1 c.content-index.ensures.lists.spans
    c.requires.present has put.1

pub returns-in-Some : goal.returns-in-Some
returns-in-Some g c =
    let xs = c.args.source.now.xs.now in
    let ws = c.args.source.now.ws.now in
    let o : AreOffsetsBy item_limit (length_of ws) (size_of ws.starts) (Some c.args.offsets) =
    subst (λ n. AreOffsetsBy item_limit (length_of ws) n (Some c.args.offsets)) c.requires.lists
    c.requires.offsets in
    let put : IsPutOr (AreTestedIn xs ws) (numbers_taken xs ws c.args.numbers.now)
    (size_of ws.starts) (Some c.in-Some.lane) =
    rw (c.in-Some.is, c.requires.lists) at c.in_ok-put_lane.ensures in
    let has : AllByRecursion (Has (array_type ws.content)) (array_items ws.content) =
    subst (λ y. AllByRecursion (Has (array_type y)) (array_items y))
    c.content-index.ensures.content c.len.ensures.items in
    rw c.numpy.ensures.node
    (taken-outcome xs ws c.requires.leaves.pairs c.content.ensures.lists.spans c.requires.leaf
    c.requires.mask put.0 c.args.numbers.now c.args.offsets.lane c.in-Some.lane
    c.requires.content c.requires.kind o.1 c.content-index.ensures.lists.spans
    c.requires.present has put.1 o.2)
