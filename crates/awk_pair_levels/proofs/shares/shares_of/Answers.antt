use Rattle.std.proofs.Common.{subst, arith}
use Rattle.awk_layout.specs.Typing.{array_type}
use Rattle.awk_pair_sides.specs.Levels.{role}
use Rattle.awk_pair_levels.specs.Shares.{IsShare, AreShares}
use Rattle.awk_pair_sides.proofs.PlaceLaws.{long_get}
use Rattle.awk_pair_levels.proofs.ShareLaws.{share_push, share_all}
use Rattle.awk_pair_levels.proofs.shares.shares_of.Goals as goal

pub loop-i-preserved : goal.loop-i-preserved
loop-i-preserved g c =
    let l = long_get c.args.n c.args.xs.now c.loop-i.i c.get-x.result.now c.get-x.ensures
    c.loop-i.invariant.long in
    record {
      long = l.1;
      made = share_push c.args.n c.args.keep c.stretches-some.result c.args.xs.now
          c.loop-i.shares.items c.push.new.self.items c.loop-i.i c.get-x.result.now
          c.in_ok-share.share c.is_stretched-stretch.result c.get-x.ensures
          c.in_ok-push.ensures.items c.is_stretched-stretch.ensures c.loop-i.invariant.made
          (subst (λ n. IsShare n (role c.is_stretched-stretch.result
          (array_type c.get-x.result.now))
          c.get-x.result.now c.in_ok-share.share) l.0 c.in_ok-share.ensures);
    }

pub returns : goal.returns
returns g c =
    subst (λ s. AreShares c.args.n c.args.keep s c.args.xs.now c.loop-i.shares.items)
    c.stretches-some.ensures
    (share_all c.args.n c.args.keep c.stretches-some.result c.args.xs.now c.loop-i.shares.items
    c.loop-i.i (omega (arith, c.loop-i-test.false, c.len-i-end.ensures)) c.loop-i.invariant.made)
