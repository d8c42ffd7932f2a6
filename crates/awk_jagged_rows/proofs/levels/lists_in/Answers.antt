use Rattle.std.proofs.Common.{◌≡◌, ap, ◌∙◌}
use Rattle.awk_lanes.specs.Made.{lane_of}
use Rattle.awk_lanes.specs.Places.{option_place_at}
use Rattle.awk_lanes.specs.declared.kind.Kind.TheVariants.{I64}
use Rattle.awk_jagged_rows.specs.Rows.{end_number}
use Rattle.awk_jagged_rows.proofs.EndLaws.{ends_at, are-lists, lists-in}
use Rattle.awk_jagged_rows.proofs.levels.lists_in.Goals as goal

pub new-requires : goal.new-requires
new-requires g c =
    let starts : c.in_ok-starts.starts ≡ ends_at c.args.places.now c.args.rows.now.starts =
    c.in_ok-starts.ensures.lane
    ∙ ap (λ n. lane_of I64 n
    (λ i. end_number c.args.rows.now.starts (option_place_at c.args.places.now i)))
    c.len-n.ensures.len in
    let stops : c.in_ok-stops.stops ≡ ends_at c.args.places.now c.args.rows.now.stops =
    c.in_ok-stops.ensures.lane
    ∙ ap (λ n. lane_of I64 n
    (λ i. end_number c.args.rows.now.stops (option_place_at c.args.places.now i)))
    c.len-n.ensures.len in
    rw (starts, stops, c.in_ok-copy.ensures)
    (are-lists c.args.places.now c.args.rows.now c.requires.index c.requires.lists
    c.requires.spans c.len.ensures.valid)

pub returns : goal.returns
returns g c =
    let starts : c.in_ok-starts.starts ≡ ends_at c.args.places.now c.args.rows.now.starts =
    c.in_ok-starts.ensures.lane
    ∙ ap (λ n. lane_of I64 n
    (λ i. end_number c.args.rows.now.starts (option_place_at c.args.places.now i)))
    c.len-n.ensures.len in
    let stops : c.in_ok-stops.stops ≡ ends_at c.args.places.now c.args.rows.now.stops =
    c.in_ok-stops.ensures.lane
    ∙ ap (λ n. lane_of I64 n
    (λ i. end_number c.args.rows.now.stops (option_place_at c.args.places.now i)))
    c.len-n.ensures.len in
    lists-in c.args.places.now c.args.rows.now c.requires.index c.requires.lists c.requires.spans
    c.len.ensures.valid c.new.result (rw (starts, stops, c.in_ok-copy.ensures) at c.new.ensures)
