use Rattle.std.proofs.Common.{◌≡◌, List, length, arith, ap, sym, subst, ◌∙◌}
use Rattle.std.specs.Prelude.{pos, Result, Ok, Err}
use Rattle.awk_types.specs.Faults.{fault_told}
use Rattle.awk_types.specs.Gives.{Told}
use Rattle.awk_types.specs.Value.{Value}
use Rattle.awk_types.specs.declared.fault.Fault.{Fault}
use Rattle.awk_types.proofs.RefusalLaws.{Gives-Err}
use Rattle.awk_lanes.specs.Column.{Column}
use Rattle.awk_lanes.specs.Places.{size_of}
use Rattle.awk_lanes.specs.declared.kind.Kind.TheVariants.{I8}
use Rattle.awk_lanes.proofs.MadeLanes.{size-lane_of}
use Rattle.awk_leaves.specs.Values.{chosen_values}
use Rattle.awk_pointwise.specs.Choice.{chosen_items}
use Rattle.awk_pointwise.specs.Sides.{lane_values, side_values}
use Rattle.awk_pointwise.proofs.BlockLaws.{length-lane}
use Rattle.awk_pointwise.proofs.SelectLaws.{selection_size, values_ok, shown_whole}
use Rattle.awk_pointwise.proofs.selection.whole_choice.Goals as goal

pub returns-in_err-lane-clause-answer : goal.returns-in_err-lane-clause-answer
returns-in_err-lane-clause-answer g c =
    let w = c.args.whole in
    let vs = chosen_values (lane_values w.mask.now) (side_values c.args.n w.x.now)
    (side_values c.args.n w.y.now) in
    let e = c.in_err-lane.field-0.0 in
    let failed : c.from_residual.result ≡ Err e = grind arith in
    Gives-Err chosen_items fault_told c.from_residual.result e (Ok vs) failed
    (subst (Told (fault_told e)) (values_ok vs) c.in_err-lane.ensures.answer)

pub returns-clause-answer : goal.returns-clause-answer
returns-clause-answer g c =
    let w = c.args.whole in
    let n = c.args.n in
    let vs : List Value = chosen_values (lane_values w.mask.now) (side_values n w.x.now)
    (side_values n w.y.now) in
    let lane = c.in_ok-lane.lane in
    let said : ◌≡◌ {A = Result (List Value) Fault} (Ok vs) (Ok (lane_values lane)) =
    sym (values_ok vs) ∙ c.in_ok-lane.ensures.answer in
    let same : vs ≡ lane_values lane = cc in
    ap (λ vs. Ok vs) (shown_whole n vs c.in_ok-nulls.nulls lane
    (selection_size c.args.prim n w.mask.now w.x.now w.y.now c.requires)
    (ap (λ (r : Column). r.items) c.in_ok-nulls.ensures.lane) same)

pub returns-clause-size : goal.returns-clause-size
returns-clause-size g c =
    let w = c.args.whole in
    let n = c.args.n in
    let vs : List Value = chosen_values (lane_values w.mask.now) (side_values n w.x.now)
    (side_values n w.y.now) in
    let lane = c.in_ok-lane.lane in
    let said : ◌≡◌ {A = Result (List Value) Fault} (Ok vs) (Ok (lane_values lane)) =
    sym (values_ok vs) ∙ c.in_ok-lane.ensures.answer in
    let same : vs ≡ lane_values lane = cc in
    sym (length-lane lane) ∙ ap length (sym same)
    ∙ selection_size c.args.prim n w.mask.now w.x.now w.y.now c.requires

pub returns-clause-nulls : goal.returns-clause-nulls
returns-clause-nulls g c =
    ap size_of c.in_ok-nulls.ensures.lane ∙ size-lane_of I8 c.args.n (λ i. pos 0)

pub returns-clause-mask : goal.returns-clause-mask
returns-clause-mask g c = ap (λ (r : Column). r.kind) c.in_ok-nulls.ensures.lane
