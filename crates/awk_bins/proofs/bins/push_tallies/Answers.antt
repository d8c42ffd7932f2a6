use Rattle.std.proofs.Common.{◌∙◌, ap, arith, length}
use Rattle.std.proofs.lemmas.Grind.{common_steps}
use Rattle.awk_lanes.specs.Numbers.{int_of}
use Rattle.awk_bins.proofs.CountLaws.{tally_pushed}
use Rattle.awk_bins.proofs.bins.push_tallies.Goals as goal

pub push-requires-clause-room : goal.push-requires-clause-room
push-requires-clause-room c =
    grind (
      arith,
      common_steps,
      ap length c.loop-i.invariant.items,
      c.loop-i.invariant.room,
      c.requires.room,
      c.loop-i-test.true,
    )

pub loop-i-preserved : goal.loop-i-preserved
loop-i-preserved c = record {
  kind = ap (λ m. m.kind) c.push.ensures ∙ c.loop-i.invariant.kind;
  room = ap (λ m. m.room) c.push.ensures ∙ c.loop-i.invariant.room;
  items = tally_pushed c.args.tallies.now c.loop-i.i c.args.maker.now.items
      c.loop-i.maker.items c.push.new.self.items (int_of c.number.result) c.loop-i-test.true
      c.loop-i.invariant.items (ap (λ m. m.items) c.push.ensures) c.number.ensures.number;
}
