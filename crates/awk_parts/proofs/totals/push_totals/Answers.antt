use Rattle.std.proofs.Common.{◌∙◌, sym, subst, arith}
use Rattle.awk_lanes.specs.Numbers.{int_of, IsOf}
use Rattle.awk_lanes.proofs.MadeLanes.{made_size}
use Rattle.awk_parts.proofs.FitLaws.{AreFirst-more}
use Rattle.awk_parts.proofs.totals.push_totals.Goals as goal

pub put-requires : goal.put-requires
put-requires g c =
    let f = g.S.Totals.at c.args.source.now in
    let made = c.loop-i.invariant.made in
    record {
      room = omega (
        arith,
        made_size f c.loop-i.i (g.M.NumberMaker.making c.loop-i.maker).items made.items,
        made.room,
        c.requires.room,
        c.loop-i-test.true,
      );
      kind =
          subst (λ k. IsOf k c.in-Some.number) (sym c.loop-i.invariant.kind) c.in-Some.ensures.2;
    }

pub loop-i-preserved : goal.loop-i-preserved
loop-i-preserved g c =
    let f = g.S.Totals.at c.args.source.now in
    let making = g.M.NumberMaker.making in
    record {
      kind = c.put.ensures.kind ∙ c.loop-i.invariant.kind;
      made = AreFirst-more c.args.prim f (making c.args.maker.now).room c.loop-i.i
          (int_of c.in-Some.number) (making c.loop-i.maker) (making c.put.new.self)
          c.put.ensures.number c.in-Some.ensures.0 c.in-Some.ensures.1
          c.loop-i.invariant.made;
    }
