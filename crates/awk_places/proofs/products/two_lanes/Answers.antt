-- Both slots by their runs.
use Rattle.std.proofs.Common.{◌≡◌, ℕ, List, ◌++◌, ◌∷◌, [], get_or, refl, ap, ap₂, ◌∙◌, subst, arith}
use Rattle.std.proofs.lemmas.Option.{get_or_from_slice_get}
use Rattle.awk_lanes.specs.Column.{Column, no_places}
use Rattle.awk_places.specs.Products.{AreCounts, AreSpansOf, once_lane}
use Rattle.awk_places.proofs.ProductLaws.{counts_made, by_runs, pair-by_runs}
use Rattle.awk_places.proofs.products.two_lanes.Goals as goal

-- the spans of a slot, as they are read
spans_at : (n j : ℕ) (fs ls : List Column) (f l : Column)
    → AreSpansOf n (get_or fs j no_places) (get_or ls j no_places) → get_or fs j no_places ≡ f
    → get_or ls j no_places ≡ l → AreSpansOf n f l
spans_at n j fs ls f l h p q =
    subst (λ f. AreSpansOf n f l) p (subst (AreSpansOf n (get_or fs j no_places)) q h)

pub slot_lane-requires : goal.slot_lane-requires
slot_lane-requires g c =
    let fs = c.args.firsts.now in
    let ls = c.args.lengths.now in
    let p = get_or_from_slice_get fs 0 c.get-first.result.now no_places c.get-first.ensures in
    let q = get_or_from_slice_get ls 0 c.get-outer.result.now no_places c.get-outer.ensures in
    let r = get_or_from_slice_get ls 1 c.get-inner.result.now no_places c.get-inner.ensures in
    record {
      slot = record {
        spans = spans_at c.args.n 0 fs ls _ _ (c.requires.spans 0 (omega (arith, c.requires.two)))
            p q;
        before = counts_made c.args.n c.in_ok-once.once c.in_ok-once.once (λ i. 1)
            c.in_ok-once.ensures refl;
        after = subst (AreCounts c.args.n) r
            (c.requires.spans 1 (omega (arith, c.requires.two))).lengths;
      };
    }

pub slot_lane-requires-2 : goal.slot_lane-requires-2
slot_lane-requires-2 g c =
    let fs = c.args.firsts.now in
    let ls = c.args.lengths.now in
    let p = get_or_from_slice_get fs 1 c.get-second.result.now no_places c.get-second.ensures in
    let q = get_or_from_slice_get ls 0 c.get-outer.result.now no_places c.get-outer.ensures in
    let r = get_or_from_slice_get ls 1 c.get-inner.result.now no_places c.get-inner.ensures in
    record {
      slot = record {
        spans = spans_at c.args.n 1 fs ls _ _ (c.requires.spans 1 (omega (arith, c.requires.two)))
            p r;
        before = subst (AreCounts c.args.n) q
            (c.requires.spans 0 (omega (arith, c.requires.two))).lengths;
        after = counts_made c.args.n c.in_ok-once.once c.in_ok-once.once (λ i. 1)
            c.in_ok-once.ensures refl;
      };
    }

pub returns : goal.returns
returns g c =
    let n = c.args.n in
    let fs = c.args.firsts.now in
    let ls = c.args.lengths.now in
    let f = c.get-first.result.now in
    let s = c.get-second.result.now in
    let l = c.get-outer.result.now in
    let m = c.get-inner.result.now in
    let left : c.in_ok-left.left ≡ by_runs n f l (once_lane n) m =
    c.in_ok-left.ensures ∙ ap (λ o. by_runs n f l o m) c.in_ok-once.ensures in
    let right : c.in_ok-right.right ≡ by_runs n s m l (once_lane n) =
    c.in_ok-right.ensures ∙ ap (by_runs n s m l) c.in_ok-once.ensures in
    c.in_ok-push-2.ensures.ok
    ∙ ap (λ xs. xs ++ c.in_ok-right.right ∷ [])
    (c.in_ok-push.ensures.ok
    ∙ ap (λ xs. xs ++ c.in_ok-left.left ∷ []) c.new-lanes.ensures)
    ∙ ap₂ (λ x y. x ∷ y ∷ []) left right
    ∙ pair-by_runs n fs ls f s l m c.requires.two
    (get_or_from_slice_get fs 0 f no_places c.get-first.ensures)
    (get_or_from_slice_get fs 1 s no_places c.get-second.ensures)
    (get_or_from_slice_get ls 0 l no_places c.get-outer.ensures)
    (get_or_from_slice_get ls 1 m no_places c.get-inner.ensures)
