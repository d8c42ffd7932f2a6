use Rattle.std.proofs.Common.{◌≡◌}
use Rattle.std.proofs.lemmas.Result.{IfOk-weaker}
use Rattle.awk_layout.specs.Kinds.{primitive_of}
use Rattle.awk_numbers.specs.Folds.{lane_numbers}
use Rattle.awk_leaves.specs.declared.leaf_type.LeafType.TheVariants.{Of}
use Rattle.awk_pointwise.specs.Numbers.{AreNumbersOf, word_numbers}
use Rattle.awk_pointwise.specs.Sides.{lane_values}
use Rattle.awk_pointwise.proofs.SideLaws.{lane_seen}
use Rattle.awk_pointwise.proofs.see.see_lane.Goals as goal

pub returns : goal.returns
returns g c =
    let lane = c.args.lane.now in
    IfOk-weaker c.words_of.result (λ w. word_numbers w ≡ lane_numbers lane)
    (AreNumbersOf (Of (primitive_of lane.kind)) (lane_values lane))
    (λ w e. lane_seen lane w c.len.ensures.fits e) c.words_of.ensures
