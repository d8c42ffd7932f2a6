use Rattle.std.proofs.Common.{◌≡◌, ◌+◌, suc, false, ap, ◌∙◌, arith}
use Rattle.std.specs.Prelude.{◌||◌}
use Rattle.std.proofs.Math.Bool.{or-false}
use Rattle.awk_types.specs.DataType.{depth as depth_of, depths, greatest, var}
use Rattle.awk_types.specs.View.{typ_of, fields_of, names_of, types_of}
use Rattle.awk_types.proofs.Views.{typ_of-Rec}
use Rattle.awk_put_field.specs.Depths.{depth_over as depth_joined, one_if as one_where}
use Rattle.awk_put_field.specs.Field.{put}
use Rattle.awk_put_field.proofs.DepthLaws.{greatest-put}
use Rattle.awk_put_field.proofs.limits.+depth_over_lists.Goals as goal

pub returns-in-Rec : goal.returns-in-Rec
returns-in-Rec t c =
    let n = c.args.name.now in
    let u = var (typ_of c.args.u.now) in
    let fs = fields_of c.in-Rec.fields in
    let ds = depths (types_of fs) in
    let e : depth_joined n c.args.optional (typ_of c.args.t.now) u
    ≡ one_where c.args.optional + suc (greatest (put n (names_of fs) (depth_of u) ds)) =
    ap (λ w. depth_joined n c.args.optional w u)
    (ap typ_of c.in-Rec.is ∙ typ_of-Rec c.in-Rec.fields) in
    let o : one_where (c.args.optional || false) ≡ one_where c.args.optional =
    ap one_where (or-false c.args.optional) in
    omega (
      arith,
      e,
      o,
      c.one_if.ensures,
      c.depth.ensures,
      c.saturating_add-new.ensures,
      c.deepest_with.ensures,
      greatest-put n (names_of fs) c.saturating_add-new.result ds,
      greatest-put n (names_of fs) (depth_of u) ds,
      c.saturating_add-fields.ensures,
      c.saturating_add.ensures,
    )
