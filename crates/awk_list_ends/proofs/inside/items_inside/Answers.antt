use Rattle.std.proofs.Common.{◌≡◌, ◌≤◌, ◌∙◌, arith, ap, subst}
use Rattle.awk_lanes.specs.Counted.{before, offsets_by}
use Rattle.awk_lanes.specs.Places.{size_of}
use Rattle.awk_layout.specs.Valid.{len}
use Rattle.awk_columns.specs.Lists.{Listed, span_length}
use Rattle.awk_list_ends.specs.Inside.{IsTotalOf}
use Rattle.awk_list_ends.proofs.InsideLaws.{ascending, inside_by_offsets, size_offsets}
use Rattle.awk_list_ends.proofs.inside.items_inside.Goals as goal

pub items_reached-requires-clause-within : goal.items_reached-requires-clause-within
items_reached-requires-clause-within g c =
    let s = c.args.inner.now.starts in
    let m = span_length s c.args.inner.now.stops in
    let f : (c.in-Some.offsets.total ≡ before m (size_of s))
    × (before m (size_of s) ≤ 9223372036854775807)
    × (c.in-Some.offsets.lane ≡ offsets_by m (size_of s)) =
    rw (c.in-Some.is, c.in_ok-bounds.ensures, c.len.ensures.len) at c.in_ok-offsets.ensures in
    let e = size_offsets m (size_of s) c.in_ok-places-in-Some.places
    (c.in_ok-places-in-Some.ensures ∙ f.2) in
    let y = ap (λ (l : Listed). len l.content) c.in_ok-outer.ensures in
    omega (arith, e, y, c.requires.within)

pub items_reached-requires-clause-ascending : goal.items_reached-requires-clause-ascending
items_reached-requires-clause-ascending g c =
    let s = c.args.inner.now.starts in
    let m = span_length s c.args.inner.now.stops in
    let f : (c.in-Some.offsets.total ≡ before m (size_of s))
    × (before m (size_of s) ≤ 9223372036854775807)
    × (c.in-Some.offsets.lane ≡ offsets_by m (size_of s)) =
    rw (c.in-Some.is, c.in_ok-bounds.ensures, c.len.ensures.len) at c.in_ok-offsets.ensures in
    ascending m (size_of s) c.in_ok-places-in-Some.places
    (c.in_ok-places-in-Some.ensures ∙ f.2)

pub returns-in_ok-places-in-Some : goal.returns-in_ok-places-in-Some
returns-in_ok-places-in-Some g c =
    let l = c.args.lists.now in
    let s = c.args.inner.now.starts in
    let m = span_length s c.args.inner.now.stops in
    let f : (c.in-Some.offsets.total ≡ before m (size_of s))
    × (before m (size_of s) ≤ 9223372036854775807)
    × (c.in-Some.offsets.lane ≡ offsets_by m (size_of s)) =
    rw (c.in-Some.is, c.in_ok-bounds.ensures, c.len.ensures.len) at c.in_ok-offsets.ensures in
    let e = c.in_ok-places-in-Some.ensures ∙ f.2 in (
      f.0,
      subst (λ n. IsTotalOf n c.items_reached.result)
          (inside_by_offsets m (size_of s) (len l.content) c.in_ok-places-in-Some.places
          l.starts l.stops e c.requires.within c.content.ensures.lists.spans)
          (rw c.in_ok-outer.ensures at c.items_reached.ensures),
    )
