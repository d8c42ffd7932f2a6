use Rattle.std.proofs.Common.{ap, ap₂, sym, ◌∙◌}
use Rattle.std.proofs.lemmas.Result.{IfOk-weaker}
use Rattle.awk_lanes.specs.Counted.{items_lane}
use Rattle.awk_lanes.specs.Places.{size_of, option_place_at}
use Rattle.awk_lanes.specs.declared.kind.Kind.TheVariants.{I64}
use Rattle.awk_lanes.proofs.PlaceLaws.{option-index}
use Rattle.awk_lanes.proofs.CountedLanes.{before-equal}
use Rattle.awk_merge_operands.specs.Operands.{end_of_row, ends_in_rows}
use Rattle.awk_merge.proofs.RowEndLaws.{row-ends}
use Rattle.awk_merge.proofs.joining_rows.ends_in_rows.Goals as goal

pub index_of-requires : goal.index_of-requires
index_of-requires g c = option-index c.args.rows.now.kind c.requires.rows.kind

pub places_of-requires-clause-ready : goal.places_of-requires-clause-ready
places_of-requires-clause-ready g c =
    rw (c.in_ok-rows.ensures, c.in_ok-ends.ensures)
    (c.requires.fits, c.requires.rows, c.requires.index)

pub places_of-requires-clause-total : goal.places_of-requires-clause-total
places_of-requires-clause-total g c = sym (before-equal c.args.k c.len-n.result)

pub returns : goal.returns
returns g c =
    let rows = c.in_ok-rows.rows in
    let ends = c.in_ok-ends.ends in
    IfOk-weaker c.places_of.result _ _
    (λ r e. e
    ∙ ap (items_lane I64 (λ _. c.args.k)
    (λ i j. end_of_row c.args.index.now (size_of rows) ends j (option_place_at rows i)))
    c.len-n.ensures.len
    ∙ row-ends c.args.index.now c.args.k rows ends
    ∙ ap₂ (λ a b. ends_in_rows c.args.index.now a c.args.k b) c.in_ok-rows.ensures
    c.in_ok-ends.ensures) c.places_of.ensures
