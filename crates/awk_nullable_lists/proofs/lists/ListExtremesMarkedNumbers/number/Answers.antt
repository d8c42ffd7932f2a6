use Rattle.std.proofs.Common.{◌≡◌, ap, ap₂, sym, ◌∙◌, subst, rules}
use Rattle.std.specs.Prelude.{FitsSigned}
use Rattle.std.specs.Int.{w128, cast_signed as to_z, cast_unsigned as of_z}
use Rattle.std.proofs.lemmas.Int.{to_z-of_z}
use Rattle.awk_lanes.specs.Column.{Column}
use Rattle.awk_lanes.specs.Places.{at}
use Rattle.awk_numbers.specs.Folds.{extreme_of}
use Rattle.awk_nullable.specs.Numbers.{leaf_number, numbers_from}
use Rattle.awk_nullable.proofs.BestLaws.{extreme_empty}
use Rattle.awk_parts.specs.Elements.{IsElement}
use Rattle.awk_parts.specs.Lanes.{mask_byte, some_place}
use Rattle.awk_nullable_lists.specs.Lists.{or_zero}
use Rattle.awk_nullable_lists.proofs.ElementLaws.{element-at}
use Rattle.awk_nullable_lists.proofs.MarkLaws.{mark_there, mark_nowhere}
use Rattle.awk_nullable_lists.proofs.lists.ListExtremesMarkedNumbers.number.Goals as goal

pub number_in-requires : goal.number_in-requires
number_in-requires g c =
    let lane = c.args.self.now.lane.now in
    let there = c.in-Some.ensures in
    let z = c.in-Some.z in
    let fits : FitsSigned w128 z = search rules in
    let read : to_z w128 (of_z w128 z) ≡ at lane there.0 =
    to_z-of_z w128 z fits ∙ there.3
    ∙ sym (ap (λ (d : Column). at d there.0) c.requires.ready.0) in
    subst (λ k. IsElement k (to_z w128 (of_z w128 z))) (sym c.kind.ensures)
    (subst (IsElement lane.kind) (sym read) (element-at lane c.len.ensures.fits there.0))

pub returns-in-Some-clause-number : goal.returns-in-Some-clause-number
returns-in-Some-clause-number g c =
    let how = c.args.self.now.how in
    let x = c.args.self.now.lists.now.leaves.now in
    let way = leaf_number (g.P.Places.at x.places.now) (g.C.Cells.lane x.cells.now) in
    let s = c.span_of-span.ensures in
    let fits : FitsSigned w128 c.in-Some.z = search rules in
    c.number_in.ensures.number ∙ to_z-of_z w128 c.in-Some.z fits
    ∙ sym (ap or_zero (ap₂ (λ a n. extreme_of how (numbers_from way a n)) (sym s.start)
    (sym s.length) ∙ c.in-Some.ensures.2))

pub returns-in-None-clause-number : goal.returns-in-None-clause-number
returns-in-None-clause-number g c =
    let how = c.args.self.now.how in
    let x = c.args.self.now.lists.now.leaves.now in
    let way = leaf_number (g.P.Places.at x.places.now) (g.C.Cells.lane x.cells.now) in
    let s = c.span_of-span.ensures in
    c.zero_of.ensures.number
    ∙ sym (ap or_zero (ap₂ (λ a n. extreme_of how (numbers_from way a n)) (sym s.start)
    (sym s.length) ∙ ap (extreme_of how) c.in-None.ensures ∙ extreme_empty how))

pub returns-in-Some-clause-mark : goal.returns-in-Some-clause-mark
returns-in-Some-clause-mark g c =
    let x = c.args.self.now.lists.now.leaves.now in
    let way = leaf_number (g.P.Places.at x.places.now) (g.C.Cells.lane x.cells.now) in
    let s = c.span_of-span.ensures in
    mark_there c.args.self.now.how (numbers_from way c.span_of-span.result.start
    c.span_of-span.result.length) c.in-Some.z c.in-Some.ensures.2
    ∙ ap₂ (λ a n. mask_byte (some_place (numbers_from way a n))) s.start s.length

pub returns-in-None-clause-mark : goal.returns-in-None-clause-mark
returns-in-None-clause-mark g c =
    let x = c.args.self.now.lists.now.leaves.now in
    let way = leaf_number (g.P.Places.at x.places.now) (g.C.Cells.lane x.cells.now) in
    let s = c.span_of-span.ensures in
    mark_nowhere (numbers_from way c.span_of-span.result.start c.span_of-span.result.length)
    c.in-None.ensures
    ∙ ap₂ (λ a n. mask_byte (some_place (numbers_from way a n))) s.start s.length
