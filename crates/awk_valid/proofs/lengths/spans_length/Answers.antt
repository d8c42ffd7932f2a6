-- One more list raises the length to its stop.
use Rattle.std.proofs.Common.{get_or, pos, refl, ℕ, FitsSigned, w64, rules}
use Rattle.std.proofs.lemmas.Int.{to_z-of_z}
use Rattle.awk_base.proofs.Numbers.{ord_max-nat}
use Rattle.awk_valid.specs.Needs.{reach}
use Rattle.awk_valid.proofs.LengthLaws.{greatest_below-more}
use Rattle.awk_valid.proofs.lengths.spans_length.Goals as goal

pub loop-place-init : goal.loop-place-init
loop-place-init c = refl

pub loop-place-preserved : goal.loop-place-preserved
loop-place-preserved c =
    let more =
    greatest_below-more
    (λ (i : ℕ). reach (get_or c.args.starts.now i (pos 0)) (get_or c.args.stops.now i (pos 0)))
    c.loop-place.place in
    let start : FitsSigned w64 (get_or c.args.starts.now c.loop-place.place (pos 0)) =
    search rules in
    let stop : FitsSigned w64 (get_or c.args.stops.now c.loop-place.place (pos 0)) = search rules in
    let h = rw (to_z-of_z w64 _ start, to_z-of_z w64 _ stop) at c.reach.ensures in
    let m = ord_max-nat c.loop-place.most c.reach.result in
    cc
