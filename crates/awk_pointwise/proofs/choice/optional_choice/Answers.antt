use Rattle.std.proofs.Common.{ap, ap₂, sym, ◌∙◌}
use Rattle.awk_lanes.specs.Made.{lane_of}
use Rattle.awk_lanes.specs.Places.{size_of}
use Rattle.awk_lanes.specs.declared.kind.Kind.TheVariants.{I8}
use Rattle.awk_lanes.proofs.MadeLanes.{size-lane_of}
use Rattle.awk_types.specs.Parts.{number_of}
use Rattle.awk_pointwise.specs.Choice.{chosen_value, null_number}
use Rattle.awk_pointwise.specs.Optional.{masked_values}
use Rattle.awk_pointwise.proofs.ChoiceLaws.{are_within, choice_is}
use Rattle.awk_pointwise.proofs.ChoiceTyped.{choices_fit}
use Rattle.awk_pointwise.proofs.choice.optional_choice.Goals as goal

pub made_lane-requires-clause-ready : goal.made_lane-requires-clause-ready
made_lane-requires-clause-ready g c =
    let s = c.args.choice.now in
    let r = c.requires in
    let fits = choices_fit c.args.n s c.args.prim r.judged r.first r.second r.first_known
    r.second_known in
    record {
      within = are_within c.args.n s r.condition r.first r.second;
      numbers = λ i q. (fits i q).number;
    }

pub returns-clause-items : goal.returns-clause-items
returns-clause-items g c =
    let s = c.args.choice.now in
    let r = c.requires in
    let fits = choices_fit c.args.n s c.args.prim r.judged r.first r.second r.first_known
    r.second_known in
    sym (choice_is c.args.n s c.args.prim r.condition r.first r.second fits
    ∙ ap₂ masked_values (sym c.in_ok-nulls.ensures.lane)
    (sym (c.in_ok-lane.ensures.lane
    ∙ ap (λ k. lane_of k c.args.n (λ i. number_of (chosen_value s i))) c.kind_of.ensures)))

pub returns-clause-size : goal.returns-clause-size
returns-clause-size g c =
    ap size_of c.in_ok-lane.ensures.lane
    ∙ size-lane_of c.kind_of.result c.args.n (λ i. number_of (chosen_value c.args.choice.now i))

pub returns-clause-nulls : goal.returns-clause-nulls
returns-clause-nulls g c =
    ap size_of c.in_ok-nulls.ensures.lane
    ∙ size-lane_of I8 c.args.n (λ i. null_number (chosen_value c.args.choice.now i))

pub returns-clause-mask : goal.returns-clause-mask
returns-clause-mask g c = ap (λ r. r.kind) c.in_ok-nulls.ensures.lane
