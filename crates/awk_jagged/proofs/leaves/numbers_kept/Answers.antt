use Rattle.std.specs.List.{AllByRecursion}
use Rattle.std.proofs.Common.{◌≤◌, ap, subst, arith}
use Rattle.awk_base.proofs.Results.{none_left}
use Rattle.awk_types.specs.Has.{Has}
use Rattle.awk_types.specs.ItemLimit.{item_limit}
use Rattle.awk_lanes.specs.Counted.{before}
use Rattle.awk_lanes.specs.Places.{size_of}
use Rattle.awk_layout.specs.Typing.{array_type, array_items}
use Rattle.awk_layout.specs.Valid.{len}
use Rattle.awk_jagged_places.specs.Beside.{kept_length}
use Rattle.awk_jagged.proofs.BesideLaws.{numbers-few, numbers-many, numbers-index, numbers-outcome}
use Rattle.awk_jagged.proofs.leaves.numbers_kept.Goals as goal

pub returns-in_default : goal.returns-in_default
returns-in_default g c =
    let none = none_left _ (λ o e. c.in_default.not-Some o e) in
    let many = rw none at c.in_ok-room.ensures in
    numbers-many c.args.xs.now c.args.ws.now c.requires.pairs c.requires.alike
    c.content.ensures.lists.spans c.requires.leaf c.requires.mask many

pub beside_lists-requires-clause-content : goal.beside_lists-requires-clause-content
beside_lists-requires-clause-content g c = ap len c.requires.content

pub beside_lists-requires-clause-index : goal.beside_lists-requires-clause-index
beside_lists-requires-clause-index g c =
    let has : AllByRecursion (Has (array_type c.args.ws.now.content))
    (array_items c.args.ws.now.content) =
    subst (λ y. AllByRecursion (Has (array_type y)) (array_items y))
    c.content-index.ensures.content c.len.ensures.items in
    rw c.len-n.ensures.len
    (numbers-index c.args.xs.now c.args.ws.now c.requires.pairs c.requires.alike
    c.content.ensures.lists.spans c.requires.leaf c.requires.mask c.args.numbers.now
    c.requires.content c.content-index.ensures.lists.spans c.requires.present has)

pub beside_lists-requires-clause-room : goal.beside_lists-requires-clause-room
beside_lists-requires-clause-room g c =
    let room = rw c.in-Some.is at c.in_ok-room.ensures in
    rw c.len-n.ensures.len room.0

pub beside_lists-requires-clause-few : goal.beside_lists-requires-clause-few
beside_lists-requires-clause-few g c =
    let room = rw c.in-Some.is at c.in_ok-room.ensures in
    room.1

pub numpy-requires : goal.numpy-requires
numpy-requires g c =
    let room = rw c.in-Some.is at c.in_ok-room.ensures in
    let made = rw c.len-n.ensures.len at c.in_ok-moved.ensures in
    let few : before (kept_length c.args.xs.now c.args.ws.now) (size_of c.args.ws.now.starts)
    ≤ item_limit = omega (arith, room.0, room.1) in
    numbers-few c.args.xs.now c.args.ws.now c.requires.pairs c.requires.alike
    c.content.ensures.lists.spans c.requires.leaf c.requires.mask c.args.numbers.now
    c.in_ok-moved.moved.offsets c.in_ok-moved.moved.lane c.requires.content few made.1

pub returns : goal.returns
returns g c =
    let room = rw c.in-Some.is at c.in_ok-room.ensures in
    let made = rw c.len-n.ensures.len at c.in_ok-moved.ensures in
    let few : before (kept_length c.args.xs.now c.args.ws.now) (size_of c.args.ws.now.starts)
    ≤ item_limit = omega (arith, room.0, room.1) in
    let has : AllByRecursion (Has (array_type c.args.ws.now.content))
    (array_items c.args.ws.now.content) =
    subst (λ y. AllByRecursion (Has (array_type y)) (array_items y))
    c.content-index.ensures.content c.len.ensures.items in
    let index = numbers-index c.args.xs.now c.args.ws.now c.requires.pairs c.requires.alike
    c.content.ensures.lists.spans c.requires.leaf c.requires.mask c.args.numbers.now
    c.requires.content c.content-index.ensures.lists.spans c.requires.present has in
    rw c.numpy.ensures.node
    (numbers-outcome c.args.xs.now c.args.ws.now c.requires.pairs c.requires.alike
    c.content.ensures.lists.spans c.requires.leaf c.requires.mask c.args.numbers.now
    c.in_ok-moved.moved.offsets c.in_ok-moved.moved.lane c.requires.content few made.1 index
    c.requires.present made.0)
