use Rattle.std.proofs.Common.{◌≡◌, ◌∷◌, ◌++◌, [], ◌∙◌, ap, sym, subst, arith}
use Rattle.std.specs.Prelude.{None}
use Rattle.awk_types.specs.Limit.{limit}
use Rattle.awk_layout.specs.Layout.{Layout}
use Rattle.awk_layout.specs.Typing.{array_type}
use Rattle.awk_layout.specs.Valid.{IsValid}
use Rattle.awk_open.proofs.OpenedKinds.{within_at}
use Rattle.awk_spread.proofs.SpreadUnions.{append_more}
use Rattle.awk_open.proofs.SettledUnions.{valid_more}
use Rattle.awk_open.proofs.unions.arrays_within.Goals as goal

pub of_node-requires : goal.of_node-requires
of_node-requires c =
    subst (λ (x : Layout). limit (array_type x) ≡ None) (sym c.in_ok-copy.ensures)
    (within_at c.args.xs.now c.loop-i.i c.get.result.now c.get.ensures c.requires.limits)

pub loop-i-preserved : goal.loop-i-preserved
loop-i-preserved c =
    let same : c.in_ok-array.array ≡ c.get.result.now = c.in_ok-array.ensures ∙
    c.in_ok-copy.ensures in
    record {
      within = omega arith;
      arrays =
          c.in_ok-push.ensures.ok ∙ ap (λ (x : Layout). c.loop-i.arrays ++ x ∷ []) same ∙
          append_more [] c.args.xs.now c.loop-i.arrays c.loop-i.i c.get.result.now c.get.ensures
          c.loop-i.invariant.arrays;
      valid =
          valid_more c.args.xs.now c.loop-i.i c.get.result.now c.get.ensures
          (subst IsValid same c.len-in-loop-i.ensures.valid) c.loop-i.invariant.valid;
    }
