use Rattle.std.proofs.Common.{◌+◌, ◌<◌, arith, ap, ◌∙◌}
use Rattle.awk_lanes.specs.Numbers.{int_of}
use Rattle.awk_lanes.specs.declared.kind.Kind.TheVariants.{I64}
use Rattle.awk_layout.specs.Valid.{len}
use Rattle.awk_select.specs.Kept.{kept}
use Rattle.awk_select.proofs.PickedPlaces.{made-put, made-room, made-whole}
use Rattle.awk_select.proofs.masks.mask_lane.Goals as goal

pub push_if-requires-clause-room : goal.push_if-requires-clause-room
push_if-requires-clause-room g c =
    let i : c.loop-i.i < len c.args.m.now = omega
    (arith, c.loop-i-test.true, c.len-i-end.ensures.len) in
    made-room c.args.m.now c.args.n c.loop-i.i c.loop-i.made c.requires.count i c.loop-i.invariant

pub loop-i-preserved : goal.loop-i-preserved
loop-i-preserved g c =
    let i : c.loop-i.i < len c.args.m.now = omega
    (arith, c.loop-i-test.true, c.len-i-end.ensures.len) in
    made-put c.args.m.now (c.args.n + 1) c.loop-i.i
    (kept c.mark_at-mark.result.keep (int_of c.mark_at-mark.result.number)) c.loop-i.made
    c.push_if.new.self i c.mark_at-mark.ensures.numbers c.push_if.ensures c.loop-i.invariant

pub returns : goal.returns
returns g c = record {
  lane = c.finish.ensures ∙ ap (λ zs. record { kind = I64; items = zs })
      (made-whole c.args.m.now (c.args.n + 1) c.loop-i.i c.loop-i.made
      (omega (arith, c.loop-i-test.false, c.loop-i.auto, c.len-i-end.ensures.len))
      c.loop-i.invariant);
}
