use Rattle.std.proofs.Common.{◌<◌, ◌≤◌, sym, arith, ◌∙◌}
use Rattle.std.specs.Prelude.{true, Some, None}
use Rattle.awk_types.specs.ItemLimit.{item_limit}
use Rattle.awk_lanes.specs.Counted.{before}
use Rattle.awk_lanes.specs.Places.{size_of}
use Rattle.awk_lanes.proofs.CountedLanes.{before-equal}
use Rattle.awk_list_ends.specs.Total.{IsEvenTotal}
use Rattle.awk_padding.proofs.PadGiven.{padded_spoilt, padded_fine}
use Rattle.awk_padding.proofs.padding.clipped_lists.Goals as goal

pub padded_items-requires-clause-total : goal.padded_items-requires-clause-total
padded_items-requires-clause-total g c =
    let size = c.args.padded.now.padding.size in
    let l = c.args.padded.now.lists.now in
    let t : IsEvenTotal (size_of l.starts) size (Some c.in-Some.total) =
    rw (c.in-Some.is, c.len.ensures.len) at c.even_total.ensures in
    rw c.requires.clip (t.0 ∙ sym (before-equal size (size_of l.starts)))

pub padded_items-requires-clause-limit : goal.padded_items-requires-clause-limit
padded_items-requires-clause-limit g c =
    let size = c.args.padded.now.padding.size in
    let l = c.args.padded.now.lists.now in
    let t : IsEvenTotal (size_of l.starts) size (Some c.in-Some.total) =
    rw (c.in-Some.is, c.len.ensures.len) at c.even_total.ensures in
    t.1

pub returns-in_ok-items-in-Some : goal.returns-in_ok-items-in-Some
returns-in_ok-items-in-Some g c =
    let size = c.args.padded.now.padding.size in
    let l = c.args.padded.now.lists.now in
    let t : IsEvenTotal (size_of l.starts) size (Some c.in-Some.total) =
    rw (c.in-Some.is, c.len.ensures.len) at c.even_total.ensures in
    let few : before (λ k. size) (size_of l.starts) ≤ item_limit =
    omega (arith, t.0, t.1, before-equal size (size_of l.starts)) in (
      padded_fine size true l.class l.starts l.stops l.content c.content.ensures.lists few,
      tt,
      rw c.requires.clip at c.in_ok-items-in-Some.ensures,
    )

pub returns-in-None : goal.returns-in-None
returns-in-None g c =
    let size = c.args.padded.now.padding.size in
    let l = c.args.padded.now.lists.now in
    let t : IsEvenTotal (size_of l.starts) size None =
    rw (c.in-None.is, c.len.ensures.len) at c.even_total.ensures in
    let many : item_limit < before (λ k. size) (size_of l.starts) =
    omega (arith, t, before-equal size (size_of l.starts)) in
    padded_spoilt size true l.class l.starts l.stops l.content c.content.ensures.lists many
