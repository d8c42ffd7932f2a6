use Rattle.std.proofs.Common.{ap₂, sym, ◌∙◌, ◌∷◌, ◌++◌, [], ◌<◌, length, arith, rules}
use Rattle.std.specs.Prelude.{pos}
use Rattle.std.specs.Int.{w128}
use Rattle.std.proofs.lemmas.Int.{to_z-of_z}
use Rattle.std.proofs.lemmas.List.{take_more}
use Rattle.std.proofs.lemmas.Option.{get_or_from_slice_get}
use Rattle.awk_hist.proofs.edges.edge_list.Goals as goal

pub loop-i-preserved : goal.loop-i-preserved
loop-i-preserved c =
    let es = c.args.edges.now in
    let here = get_or_from_slice_get es c.loop-i.i c.get.result.now (pos 0) c.get.ensures in
    let whole = to_z-of_z w128 c.get.result.now (search rules) in
    let within : c.loop-i.i < length es = omega (arith, c.loop-i-test.true, c.len-i-end.ensures) in
    record {
      made = c.in_ok-push.ensures.items
          ∙ ap₂ (λ xs x. xs ++ x ∷ []) c.loop-i.invariant.made (whole ∙ sym here)
          ∙ sym (take_more es c.loop-i.i (pos 0) within);
    }
