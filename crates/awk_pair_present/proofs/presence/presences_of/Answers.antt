use Rattle.std.proofs.Common.{subst, arith}
use Rattle.awk_pair_present.specs.Presence.{IsPresence}
use Rattle.awk_pair_present.proofs.PresenceLaws.{presence_push, presence_all}
use Rattle.awk_pair_sides.proofs.PlaceLaws.{long_get}
use Rattle.awk_pair_present.proofs.presence.presences_of.Goals as goal

pub loop-i-preserved : goal.loop-i-preserved
loop-i-preserved g c =
    let l = long_get c.args.n c.args.xs.now c.loop-i.i c.get.result.now c.get.ensures
    c.loop-i.invariant.long in
    record {
      long = l.1;
      made = presence_push c.args.n c.args.xs.now c.loop-i.presences.items c.push.new.self.items
          c.loop-i.i c.get.result.now c.in_ok-presence.presence c.get.ensures
          c.in_ok-push.ensures.items c.loop-i.invariant.made
          (subst (λ n. IsPresence n c.get.result.now c.in_ok-presence.presence) l.0
          c.in_ok-presence.ensures);
    }

pub returns : goal.returns
returns g c =
    presence_all c.args.n c.args.xs.now c.loop-i.presences.items c.loop-i.i
    (omega (arith, c.loop-i-test.false, c.len-i-end.ensures)) c.loop-i.invariant.made
