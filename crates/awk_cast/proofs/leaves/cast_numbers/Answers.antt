use Rattle.std.proofs.Common.{◌≡◌, ◌∙◌, ◌<◌, ◌^◌, refl, subst, sym}
use Rattle.std.specs.Prelude.{Ok}
use Rattle.awk_types.specs.Faults.{fault_told}
use Rattle.awk_types.specs.Gives.{Told}
use Rattle.awk_layout.specs.Laws.{len-fits}
use Rattle.awk_pointwise.specs.Sides.{lane_values}
use Rattle.awk_cast.specs.Casting.{IsAnswer, IsTold, told_of}
use Rattle.awk_cast.proofs.LeafLaws.{all_leaves, lane_long, lane_size, leaves_said, numbers_cast}
use Rattle.awk_cast.proofs.LeafLaws.{numbers_told}
use Rattle.awk_cast.proofs.leaves.cast_numbers.Goals as goal

pub unary_leaves-requires : goal.unary_leaves-requires
unary_leaves-requires g c =
    lane_long c.args.x.now c.in_ok-lane.lane c.in_ok-lane.ensures ∙ sym c.len-n.ensures.len

pub numpy-requires : goal.numpy-requires
numpy-requires g c =
    let said : leaves_said c.args.to (lane_values c.in_ok-lane.lane)
    ≡ Ok (lane_values c.in-Ok.cast) =
    sym (all_leaves c.args.to (lane_values c.in_ok-lane.lane)) ∙ c.in-Ok.ensures.answer in
    subst (λ n. n < 2 ^ 63)
    (sym (lane_size c.args.to c.args.x.now c.in_ok-lane.lane c.in-Ok.cast
    c.in_ok-lane.ensures said))
    (len-fits c.args.x.now c.len-n.ensures.valid)

pub returns-in-Ok : goal.returns-in-Ok
returns-in-Ok g c =
    let x = c.args.x.now in
    let said : leaves_said c.args.to (lane_values c.in_ok-lane.lane)
    ≡ Ok (lane_values c.in-Ok.cast) =
    sym (all_leaves c.args.to (lane_values c.in_ok-lane.lane)) ∙ c.in-Ok.ensures.answer in
    subst (λ y. IsAnswer c.args.to x (Ok y)) (sym c.numpy.ensures.node)
    (numbers_cast c.args.to x c.in_ok-lane.lane c.in-Ok.cast c.in_ok-lane.ensures said
    (c.in-Ok.ensures.kind c.args.to refl))

pub returns-in-Err : goal.returns-in-Err
returns-in-Err g c =
    subst (IsTold (told_of c.args.to c.args.x.now)) (sym c.leaf_fault.ensures)
    (numbers_told c.args.to c.args.x.now c.in_ok-lane.lane c.in-Err.fault c.in_ok-lane.ensures
    (subst (Told (fault_told c.in-Err.fault))
    (all_leaves c.args.to (lane_values c.in_ok-lane.lane)) c.in-Err.ensures.answer))
