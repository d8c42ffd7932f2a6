use Rattle.std.proofs.Common.{◌++◌, ap, ◌∙◌}
use Rattle.awk_places.specs.Begun.{pair_firsts, pair_seconds, first_places, second_places}
use Rattle.awk_places.proofs.RunLaws.{rows_put}
use Rattle.awk_places.proofs.pairs.both_lanes.Goals as goal

pub loop-i-preserved : goal.loop-i-preserved
loop-i-preserved g c =
    let rep = c.args.replacement in
    let s = c.args.firsts.now in
    let e = c.args.ends.now in
    record {
      first = rows_put (first_places rep s e) c.loop-i.i c.loop-i.first c.put_firsts.new.made
          c.loop-i.invariant.first
          (c.in_ok-put_firsts.ensures
          ∙ ap (λ b. c.loop-i.first ++ pair_firsts rep b) c.begun_at-begun.ensures.begun);
      second = rows_put (second_places rep s e) c.loop-i.i c.loop-i.second
          c.put_seconds.new.made c.loop-i.invariant.second
          (c.in_ok-put_seconds.ensures
          ∙ ap (λ b. c.loop-i.second ++ pair_seconds rep b) c.begun_at-begun.ensures.begun);
    }
