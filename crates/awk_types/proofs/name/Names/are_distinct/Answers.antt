use Rattle.std.proofs.Common.{◌≡◌, true, false, not, cond, nat_cmp, is_eq, take, Some, sym, ap, ◌∙◌}
use Rattle.std.specs.Cmp.Lexicographic.{slice_cmp}
use Rattle.std.proofs.Math.Bool.{not-not}
use Rattle.awk_types.specs.Names.{is_among, are_distinct}
use Rattle.awk_base.proofs.Lists.{take-get}
use Rattle.awk_types.proofs.DistinctLaws.{distinct-more, repeated, seen-more}
use Rattle.awk_types.proofs.name.Names.are_distinct.Goals as goal

pub returns-then-not-branch : goal.returns-then-not-branch
returns-then-not-branch c =
    let had : is_among c.as_str.result.now (take c.loop-i.i c.args.self.now) ≡ true =
    sym (c.loop-i.invariant.seen c.as_str.result) ∙ sym (not-not _) ∙ ap not
    (sym c.in_ok-insert.ensures.added ∙ c.if-not-branch.true) in
    repeated c.args.self.now c.loop-i.i c.as_str.result.now
    (c.get.ensures ∙ ap Some (sym c.as_str.ensures)) had

pub loop-i-preserved : goal.loop-i-preserved
loop-i-preserved c =
    let names = c.args.self.now in
    let i = c.loop-i.i in
    let name = c.as_str.result in
    let at = take-get names i name.now (c.get.ensures ∙ ap Some (sym c.as_str.ensures)) in
    let had : is_among name.now (take i names) ≡ false = sym (c.loop-i.invariant.seen name) ∙ sym
    (not-not _) ∙ ap not (sym c.in_ok-insert.ensures.added ∙ c.if-not-branch.false) in
    record {
      distinct =
          ap are_distinct at ∙ distinct-more (take i names) name.now c.loop-i.invariant.distinct
          had;
      seen = λ q.
          c.in_ok-insert.ensures.updates.0 q
          ∙ ap (cond (is_eq (slice_cmp nat_cmp name.now q.now)) true) (c.loop-i.invariant.seen q)
          ∙ seen-more name.now q.now (take i names)
          ∙ sym (ap (is_among q.now) at);
    }
