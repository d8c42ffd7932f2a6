use Rattle.std.proofs.Common.{arith}
use Rattle.awk_sorting.proofs.CellLaws.{key_pushed}
use Rattle.awk_sorting.proofs.keys.push_keys.Goals as goal

pub loop-i-preserved : goal.loop-i-preserved
loop-i-preserved g c =
    let r = c.args.ranks.now in
    record {
      keys =
          key_pushed r.up r.reach.least r.reach.last (g.R.Row.lane r.row.now)
          (g.R.Row.index r.row.now) g.K.Number.number c.args.start c.loop-i.i
          c.args.keys.now.items c.loop-i.keys.items c.push_reserved.new.self.items c.of.result
          c.height_at-height.result (omega arith) c.loop-i.invariant.keys
          c.push_reserved.ensures.items c.of.ensures c.height_at-height.ensures.height;
      room =
          omega (
            arith,
            c.loop-i.invariant.room,
            c.push_reserved.ensures.len,
            c.push_reserved.ensures.capacity,
          );
    }

pub of-requires-clause-height : goal.of-requires-clause-height
of-requires-clause-height g c =
    omega (arith, c.requires.room, c.height_at-height.ensures.bound)
