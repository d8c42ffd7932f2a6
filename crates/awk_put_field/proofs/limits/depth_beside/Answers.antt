use Rattle.std.proofs.Common.{◌≡◌, ◌-◌, ◌^◌, ◌==◌, ◌∙◌, false, min, ap, sym, arith}
use Rattle.std.specs.Prelude.{if◌then◌else◌, get_or}
use Rattle.awk_types.specs.DataType.{depth as depth_of, depths}
use Rattle.awk_types.specs.View.{fields_of, types_of, field_of}
use Rattle.awk_types.proofs.Views.{field_of-out}
use Rattle.awk_put_field.proofs.LimitLaws.{depths-at}
use Rattle.awk_put_field.proofs.limits.depth_beside.Goals as goal

pub returns : goal.returns
returns c =
    let f = c.get.result.now in
    let fs = fields_of c.args.fields.now in
    let ds = depths (types_of fs) in
    let other : (c.args.i == c.args.place) ≡ false = grind (arith, c.if-i-place.false) in
    c.depth.ensures
    ∙ ap (λ d. min d (2 ^ 64 - 1)) (sym (depths-at fs c.args.i (field_of f) c.get.ensures.item
    ∙ ap (λ x. depth_of x.typ) (field_of-out f)))
    ∙ ap (λ b. if b then 0 else min (get_or ds c.args.i 0) (2 ^ 64 - 1)) (sym other)
