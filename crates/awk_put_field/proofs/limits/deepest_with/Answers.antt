use Rattle.std.proofs.Common.{◌≡◌, ◌-◌, ◌<◌, ◌^◌, ◌∙◌, min, ap, sym, arith, length}
use Rattle.awk_types.specs.DataType.{depths, greatest}
use Rattle.awk_types.specs.View.{fields_of, types_of}
use Rattle.awk_put_field.specs.Places.{put_at}
use Rattle.awk_put_field.proofs.LimitLaws.{deepest_first, deepest_next, deepest_last}
use Rattle.awk_put_field.proofs.LimitLaws.{length-depths, put-depths}
use Rattle.awk_put_field.proofs.limits.deepest_with.Goals as goal

pub loop-i-init : goal.loop-i-init
loop-i-init c =
    let ds = depths (types_of (fields_of c.args.fields.now)) in
    deepest_first c.field_place-place.result c.args.new ds c.ranges.new.fits

pub loop-i-preserved : goal.loop-i-preserved
loop-i-preserved c =
    let fs = fields_of c.args.fields.now in
    let within : c.loop-i.i < length (depths (types_of fs)) =
    omega (arith, c.loop-i-test.true, c.len-i-end.ensures, length-depths fs) in
    deepest_next c.field_place-place.result c.args.new c.loop-i.i c.loop-i.deepest
    c.max-deepest.result c.depth_beside.result (depths (types_of fs)) within
    c.depth_beside.ensures c.max-deepest.ensures c.loop-i.invariant

pub returns : goal.returns
returns c =
    let fs = fields_of c.args.fields.now in
    let ds = depths (types_of fs) in
    let end : c.loop-i.i ≡ length ds =
    omega (
      arith,
      c.loop-i-test.false,
      c.loop-i.auto.i-end,
      c.len-i-end.ensures,
      length-depths fs,
    ) in
    deepest_last c.field_place-place.result c.args.new c.loop-i.i c.loop-i.deepest ds end
    c.loop-i.invariant
    ∙ ap (λ ys. min (greatest ys) (2 ^ 64 - 1))
    (ap (λ k. put_at k c.args.new ds) c.field_place-place.ensures
    ∙ sym (put-depths c.args.name.now fs c.args.new))
