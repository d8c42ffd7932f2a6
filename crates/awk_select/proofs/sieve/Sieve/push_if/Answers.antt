use Rattle.std.proofs.Common.{arith, ap}
use Rattle.std.proofs.lemmas.List.{length-append}
use Rattle.awk_lanes.specs.Numbers.{int_of}
use Rattle.awk_lanes.specs.declared.kind.Kind.TheVariants.{I64}
use Rattle.awk_lanes.proofs.RowLaws.{in_range}
use Rattle.std.specs.Prelude.{length}
use Rattle.awk_select.specs.Kept.{kept}
use Rattle.awk_select.proofs.SieveLaws.{groups_put}
use Rattle.awk_select.proofs.sieve.Sieve.push_if.Goals as goal

pub invariant_of-self : goal.invariant_of-self
invariant_of-self c = (
  omega (
    arith,
    c.put_if.ensures.len,
    c.self.invariant.0,
    ap length c.put_if.ensures.items,
    length-append c.self.inside.groups.items (kept c.args.keep c.group_of.result),
  ),
  groups_put c.args.keep c.self.inside.groups.items c.put_if.new.groups.items c.group_of.result
      (int_of c.args.x) (in_range I64 c.args.x c.requires.kind) c.group_of.ensures
      c.put_if.ensures.items c.self.invariant.1,
)
