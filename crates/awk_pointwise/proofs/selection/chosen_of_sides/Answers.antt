use Rattle.std.proofs.Common.{ap, ap₂, sym, ◌∙◌}
use Rattle.std.specs.Prelude.{Ok}
use Rattle.std.proofs.lemmas.List.{length-map}
use Rattle.awk_leaves.specs.Values.{chosen_values}
use Rattle.awk_pointwise.specs.Sides.{lane_values, side_values}
use Rattle.awk_pointwise.proofs.SelectLaws.{selection_size, values_ok}
use Rattle.awk_pointwise.proofs.selection.chosen_of_sides.Goals as goal

pub chosen_of_lanes-requires-clause-kinds : goal.chosen_of_lanes-requires-clause-kinds
chosen_of_lanes-requires-clause-kinds g c =
    c.in-Some.ensures.second.kind ∙ sym c.in-Some.ensures.first.kind

pub chosen_of_lanes-requires-clause-first : goal.chosen_of_lanes-requires-clause-first
chosen_of_lanes-requires-clause-first g c =
    c.in-Some.ensures.first.size c.args.n c.requires.first ∙ sym c.requires.size

pub chosen_of_lanes-requires-clause-second : goal.chosen_of_lanes-requires-clause-second
chosen_of_lanes-requires-clause-second g c =
    c.in-Some.ensures.second.size c.args.n c.requires.second ∙ sym c.requires.size

pub returns-in_ok-lane-in-Some-clause-answer : goal.returns-in_ok-lane-in-Some-clause-answer
returns-in_ok-lane-in-Some-clause-answer g c =
    let w = c.args.whole in
    let n = c.args.n in
    values_ok (chosen_values (lane_values w.mask.now) (side_values n w.x.now)
    (side_values n w.y.now))
    ∙ ap (λ vs. Ok vs) (ap₂ (chosen_values (lane_values w.mask.now))
    (c.in-Some.ensures.first.values n) (c.in-Some.ensures.second.values n)
    ∙ sym c.in_ok-lane-in-Some.ensures.values)

pub returns-in_ok-lane-in-Some-clause-kind : goal.returns-in_ok-lane-in-Some-clause-kind
returns-in_ok-lane-in-Some-clause-kind g c =
    c.in_ok-lane-in-Some.ensures.kind ∙ c.in-Some.ensures.first.kind ∙ c.kind_of-kind.ensures

pub lane_by_blocks-requires-clause-size : goal.lane_by_blocks-requires-clause-size
lane_by_blocks-requires-clause-size g c =
    let w = c.args.whole in
    length-map (chosen_values (lane_values w.mask.now) (side_values c.args.n w.x.now)
    (side_values c.args.n w.y.now)) (λ v. Ok v)
    ∙ selection_size c.args.prim c.args.n w.mask.now w.x.now w.y.now c.requires
