use Rattle.std.proofs.Common.{◌≡◌, ◌<◌, refl, sym, ap, ◌∙◌, subst, arith, length, get_or}
use Rattle.std.proofs.lemmas.Option.{get_or_from_slice_get}
use Rattle.awk_lanes.specs.Column.{no_places}
use Rattle.awk_lanes.specs.Places.{place_at}
use Rattle.awk_places.specs.Products.{AreCounts, AreSpansOf, product_count, share}
use Rattle.awk_places.specs.Products.{product_lane, shares_lane}
use Rattle.awk_places.proofs.ProductLaws.{counts_made, rests_first, rests_next, slot-by_shares}
use Rattle.awk_places.proofs.ProductLaws.{lanes_more}
use Rattle.awk_places.proofs.products.shared_lanes.Goals as goal

pub loop-j-init : goal.loop-j-init
loop-j-init g c = record {
  counts = counts_made c.args.n c.in_ok-counts.counts c.copy-rests.result
      (product_count c.args.lengths.now) c.in_ok-counts.ensures c.copy-rests.ensures;
  rests = rests_first c.args.n c.args.lengths.now c.copy-rests.result
      (c.copy-rests.ensures ∙ c.in_ok-counts.ensures);
  lanes = c.new-lanes.ensures;
}

pub shares_lane-requires-clause-counts : goal.shares_lane-requires-clause-counts
shares_lane-requires-clause-counts g c =
    counts_made c.args.n c.in_ok-counts.counts c.in_ok-counts.counts
    (product_count c.args.lengths.now) c.in_ok-counts.ensures refl

pub shares_lane-requires-in-loop-j-clause-parts : goal.shares_lane-requires-in-loop-j-clause-parts
shares_lane-requires-in-loop-j-clause-parts g c =
    let p : c.loop-j.j < length c.args.lengths.now =
    omega (arith, c.loop-j-test.true, c.len-j-end.ensures) in
    subst (AreCounts c.args.n)
    (get_or_from_slice_get c.args.lengths.now c.loop-j.j c.get.result.now no_places c.get.ensures)
    (c.requires.spans c.loop-j.j p).lengths

pub slot_lane-requires : goal.slot_lane-requires
slot_lane-requires g c =
    let n = c.args.n in
    let fs = c.args.firsts.now in
    let ls = c.args.lengths.now in
    let j = c.loop-j.j in
    let r = c.loop-j.rests in
    let p : j < length ls = omega (arith, c.loop-j-test.true, c.len-j-end.ensures) in
    let s : AreSpansOf n c.get-in-loop-j.result.now c.get-in-loop-j-2.result.now =
    subst (λ f. AreSpansOf n f c.get-in-loop-j-2.result.now)
    (get_or_from_slice_get fs j c.get-in-loop-j.result.now no_places c.get-in-loop-j.ensures)
    (subst (AreSpansOf n (get_or fs j no_places))
    (get_or_from_slice_get ls j c.get-in-loop-j-2.result.now no_places c.get-in-loop-j-2.ensures)
    (c.requires.spans j p)) in
    record {
      slot = record {
        spans = s;
        before = counts_made n c.in_ok-before.before c.in_ok-before.before
            (λ i. share (place_at c.in_ok-counts.counts i) (place_at r i))
            c.in_ok-before.ensures refl;
        after = counts_made n c.in_ok-after.after c.in_ok-after.after
            (λ i. share (place_at r i) (place_at c.get.result.now i)) c.in_ok-after.ensures refl;
      };
    }

pub loop-j-preserved : goal.loop-j-preserved
loop-j-preserved g c =
    let n = c.args.n in
    let fs = c.args.firsts.now in
    let ls = c.args.lengths.now in
    let j = c.loop-j.j in
    let r = c.loop-j.rests in
    let p : j < length ls = omega (arith, c.loop-j-test.true, c.len-j-end.ensures) in
    let f : get_or fs j no_places ≡ c.get-in-loop-j.result.now =
    get_or_from_slice_get fs j c.get-in-loop-j.result.now no_places c.get-in-loop-j.ensures in
    let l : get_or ls j no_places ≡ c.get.result.now =
    get_or_from_slice_get ls j c.get.result.now no_places c.get.ensures in
    let m : get_or ls j no_places ≡ c.get-in-loop-j-2.result.now =
    get_or_from_slice_get ls j c.get-in-loop-j-2.result.now no_places c.get-in-loop-j-2.ensures in
    let x : c.in_ok-slot_lane.field-0 ≡ product_lane n (get_or fs j no_places) ls j =
    c.in_ok-slot_lane.ensures
    ∙ slot-by_shares n ls j c.get-in-loop-j.result.now c.get-in-loop-j-2.result.now
    c.in_ok-before.before c.in_ok-after.after c.in_ok-counts.counts r p c.loop-j.invariant.rests
    c.in_ok-counts.ensures (sym m) c.in_ok-before.ensures
    (c.in_ok-after.ensures ∙ ap (shares_lane n r) (sym l ∙ m))
    ∙ ap (λ f. product_lane n f ls j) (sym f) in
    record {
      counts = counts_made n c.in_ok-after.after c.in_ok-after.after
          (λ i. share (place_at r i) (place_at c.get.result.now i)) c.in_ok-after.ensures refl;
      rests = rests_next n ls j r c.in_ok-after.after p c.loop-j.invariant.rests
          (c.in_ok-after.ensures ∙ ap (shares_lane n r) (sym l));
      lanes = lanes_more n fs ls j c.loop-j.lanes c.push.new.self c.in_ok-slot_lane.field-0
          c.loop-j.invariant.lanes x c.in_ok-push.ensures.ok;
    }
