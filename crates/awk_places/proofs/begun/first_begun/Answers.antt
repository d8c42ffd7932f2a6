use Rattle.std.proofs.Common.{◌≡◌, ◌+◌, ◌++◌, [], ◌∷◌, ap₂, sym, ◌∙◌, arith, subst}
use Rattle.std.specs.List.{AllByRecursion}
use Rattle.std.proofs.lemmas.List.FromFn.{map-range_with_len_more}
use Rattle.awk_places.specs.Begun.{first_begun, Fits}
use Rattle.awk_places.proofs.FlatLaws.{all-append}
use Rattle.awk_places.proofs.begun.first_begun.Goals as goal

pub loop-i-preserved : goal.loop-i-preserved
loop-i-preserved g c =
    let i = c.loop-i.i in
    let z : 0 + i ≡ i = omega arith in
    record {
      items = c.in_ok-push.ensures.items
          ∙ ap₂ (λ bs x. bs ++ x ∷ []) c.loop-i.invariant.items c.begun_at.ensures.begun
          ∙ sym (map-range_with_len_more (first_begun c.args.firsts.now c.args.ends.now) 0 i i z);
      fits = subst (AllByRecursion Fits) (sym c.in_ok-push.ensures.items)
          (all-append Fits c.loop-i.made.items (c.begun_at.result ∷ []) c.loop-i.invariant.fits
          (c.begun_at.ensures.fits, tt));
    }
