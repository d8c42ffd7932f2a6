use Rattle.std.proofs.Common.{ap, ap₂, ◌∙◌}
use Rattle.std.specs.Prelude.{pos, cond}
use Rattle.std.specs.Option.{is_some}
use Rattle.awk_parts.specs.Lanes.{mask_byte, place_or_zero, some_place}
use Rattle.awk_nullable.specs.Extremes.{extreme_place}
use Rattle.awk_nullable.specs.Numbers.{leaf_number, numbers_from}
use Rattle.awk_nullable_lists.proofs.MarkLaws.{place_mark}
use Rattle.awk_nullable_lists.proofs.lists.ListPlacesMarkedNumbers.number.Goals as goal

pub returns-clause-number : goal.returns-clause-number
returns-clause-number g c =
    let x = c.args.self.now.lists.now.leaves.now in
    let way = leaf_number (g.P.Places.at x.places.now) (g.C.Cells.lane x.cells.now) in
    let s = c.span_of-span.ensures in
    c.number_of_place.ensures.number
    ∙ ap place_or_zero (c.place_of-place.ensures.place
    ∙ ap₂ (extreme_place c.args.self.now.how way) s.start s.length)

pub returns-clause-mark : goal.returns-clause-mark
returns-clause-mark g c =
    let x = c.args.self.now.lists.now.leaves.now in
    let way = leaf_number (g.P.Places.at x.places.now) (g.C.Cells.lane x.cells.now) in
    let s = c.span_of-span.ensures in
    ap (λ b. pos (cond b 1 0)) c.is_some.ensures
    ∙ ap (λ o. pos (cond (is_some o) 1 0)) c.place_of-place.ensures.place
    ∙ place_mark c.args.self.now.how way c.span_of-span.result.start c.span_of-span.result.length
    ∙ ap₂ (λ a n. mask_byte (some_place (numbers_from way a n))) s.start s.length
