use Rattle.std.proofs.Common.{◌<◌, ap, sym, subst, ◌∙◌, rules}
use Rattle.std.specs.Int.{w128}
use Rattle.std.specs.Prelude.{FitsSigned, Some}
use Rattle.std.proofs.lemmas.Int.{to_z-of_z}
use Rattle.awk_pointwise.proofs.ChoiceLaws.{indexed_some}
use Rattle.awk_pointwise.proofs.optional.indexed_number.Goals as goal

pub returns-then-k-len : goal.returns-then-k-len
returns-then-k-len g c =
    let fits : FitsSigned w128 c.lane_number.result = search rules in
    ap (λ z. Some z) (to_z-of_z w128 c.lane_number.result fits ∙ c.lane_number.ensures)
    ∙ indexed_some c.args.index.now c.args.lane.now c.args.i c.in-Some.k c.requires.kind
    (sym c.option_place_in.ensures.value ∙ c.in-Some.is)
    (subst (λ n. c.in-Some.k < n) c.len.ensures.len c.if-k-len.true)
