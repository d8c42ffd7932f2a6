use Rattle.std.proofs.Common.{◌∙◌, ◌++◌, ◌∷◌, [], None, ap, arith, sym}
use Rattle.std.proofs.lemmas.List.FromFn.{map-range_with_len_more}
use Rattle.awk_merge_sides.proofs.LiftLaws.{made_sources}
use Rattle.awk_merge_sides.proofs.sources.no_sources.Goals as goal

pub loop-j-preserved : goal.loop-j-preserved
loop-j-preserved c =
    c.in_ok-push.ensures.items ∙ ap (λ xs. xs ++ None ∷ []) c.loop-j.invariant
    ∙ sym (map-range_with_len_more (λ j. None) 0 c.loop-j._j c.loop-j._j (omega arith))

pub returns : goal.returns
returns c =
    made_sources (λ j. None) c.args.n c.loop-j._j c.loop-j.sources.items
    (omega (arith, c.loop-j-test.false, c.loop-j.auto._j-end)) c.loop-j.invariant
