use Rattle.std.proofs.Common.{◌∙◌, ◌++◌, ◌∷◌, [], Some, ap, arith, sym}
use Rattle.std.proofs.lemmas.List.FromFn.{map-range_with_len_more}
use Rattle.awk_merge_sides.proofs.LiftLaws.{made_sources}
use Rattle.awk_merge_sides.proofs.sources.own_sources.Goals as goal

pub loop-j-preserved : goal.loop-j-preserved
loop-j-preserved c =
    c.in_ok-push.ensures.items ∙ ap (λ xs. xs ++ Some c.loop-j.j ∷ []) c.loop-j.invariant
    ∙ sym (map-range_with_len_more (λ j. Some j) 0 c.loop-j.j c.loop-j.j (omega arith))

pub returns : goal.returns
returns c =
    made_sources (λ j. Some j) c.args.n c.loop-j.j c.loop-j.sources.items
    (omega (arith, c.loop-j-test.false, c.loop-j.auto.j-end)) c.loop-j.invariant
