use Rattle.std.proofs.Common.{arith, ◌∙◌}
use Rattle.awk_base.proofs.Results.{none_left}
use Rattle.awk_lanes.specs.Places.{size_of}
use Rattle.awk_layout.specs.Laws.{len-fits}
use Rattle.awk_layout.specs.Valid.{len}
use Rattle.awk_columns.proofs.JoinedLists.{spans_wider, before-spans, offsets_by-is, are_joined}
use Rattle.awk_columns.proofs.JoinedLists.{joined_refused, joined_given, offsets_lane-is}
use Rattle.awk_columns.proofs.joining.join_ends.Goals as goal

pub offsets_within-requires-clause-ready : goal.offsets_within-requires-clause-ready
offsets_within-requires-clause-ready g c =
    spans_wider c.args.starts.now c.args.stops.now (len c.args.content.now) 9223372036854775807
    (omega (arith, len-fits c.args.content.now c.len.ensures.valid)) c.requires.spans

pub returns-in_default-clause-answer : goal.returns-in_default-clause-answer
returns-in_default-clause-answer g c =
    let s = c.args.starts.now in
    let t = c.args.stops.now in
    let none = none_left _ (λ k e. c.in_default.not-Some k e) in
    let many = rw (none, c.len-n.ensures.len) at c.in_ok-offsets.ensures in
    joined_refused s t c.args.content.now (omega (arith, many, before-spans s t (size_of s)))

pub joined_items-requires-clause-total : goal.joined_items-requires-clause-total
joined_items-requires-clause-total g c =
    let s = c.args.starts.now in
    let t = c.args.stops.now in
    let o = rw (c.in-Some.is, c.len-n.ensures.len) at c.in_ok-offsets.ensures in
    o.0 ∙ before-spans s t (size_of s)

pub joined_items-requires-clause-small : goal.joined_items-requires-clause-small
joined_items-requires-clause-small g c =
    let o = rw (c.in-Some.is, c.len-n.ensures.len) at c.in_ok-offsets.ensures in
    omega (arith, o.0, o.1)

pub returns-clause-answer : goal.returns-clause-answer
returns-clause-answer g c =
    let s = c.args.starts.now in
    let t = c.args.stops.now in
    let o = rw (c.in-Some.is, c.len-n.ensures.len) at c.in_ok-offsets.ensures in
    joined_given s t c.args.content.now c.in_ok-items.items
    (omega (arith, o.1, before-spans s t (size_of s))) c.in_ok-items.ensures.reached

pub returns-clause-offsets : goal.returns-clause-offsets
returns-clause-offsets g c =
    let s = c.args.starts.now in
    let t = c.args.stops.now in
    let o = rw (c.in-Some.is, c.len-n.ensures.len) at c.in_ok-offsets.ensures in
    o.2 ∙ offsets_by-is s t ∙ offsets_lane-is s t c.args.content.now

pub returns-clause-lists : goal.returns-clause-lists
returns-clause-lists g c =
    let s = c.args.starts.now in
    let t = c.args.stops.now in
    let o = rw (c.in-Some.is, c.len-n.ensures.len) at c.in_ok-offsets.ensures in
    are_joined s t c.args.content.now c.in-Some.offsets.lane c.in_ok-items.items c.requires.spans
    c.requires.small
    (o.2 ∙ offsets_by-is s t) c.in_ok-items.ensures.reached c.len-2.ensures.valid
