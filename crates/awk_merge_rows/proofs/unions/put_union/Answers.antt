use Rattle.std.proofs.Common.{subst, sym, ◌∙◌}
use Rattle.awk_unify.specs.View.{lift_of}
use Rattle.awk_merge_sides.specs.Groups.{groups_of}
use Rattle.awk_merge_sides.specs.Sides.{side_of}
use Rattle.awk_merge_rows.specs.Tagged.{IsReady}
use Rattle.awk_merge_rows.proofs.UnionSides.{union-side, union-targets}
use Rattle.awk_merge_rows.proofs.unions.put_union.Goals as goal

pub put_items-requires-clause-targeted : goal.put_items-requires-clause-targeted
put_items-requires-clause-targeted g c =
    let made = c.in_ok-targets.ensures in
    union-targets (lift_of c.args.side.now.lift) c.args.side.now.column c.args.tags.now
    c.args.index.now c.args.contents.now (groups_of c.args.groups.now)
    c.put_alternatives.new.groups.groups.items c.deref.result.now c.requires.opens
    c.requires.few made.groups made.counted (c.deref.ensures.value ∙ made.targets)

pub put_items-requires-clause-ready : goal.put_items-requires-clause-ready
put_items-requires-clause-ready g c =
    subst (λ n. IsReady n c.args.made.now) (sym c.requires.opens.size) c.requires.ready

pub returns : goal.returns
returns g c =
    let made = c.in_ok-targets.ensures in
    union-side (side_of c.args.side.now) c.args.tags.now c.args.index.now c.args.contents.now
    c.args.groups.now c.put_alternatives.new.groups c.args.made.now c.put_items.new.made
    c.deref.result.now c.requires.opens c.len.ensures.items made.groups made.counted
    (c.deref.ensures.value ∙ made.targets) c.put_items.ensures.tags c.put_items.ensures.index
