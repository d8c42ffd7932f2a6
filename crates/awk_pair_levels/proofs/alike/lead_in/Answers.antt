use Rattle.std.proofs.Common.{arith, refl, ap, length, true, ◌∙◌}
use Rattle.std.specs.Prelude.{Some}
use Rattle.std.proofs.lemmas.Option.{slice_get_read}
use Rattle.awk_pair_levels.specs.Shares.{is_lists}
use Rattle.awk_pair_sides.proofs.TestLaws.{any_next}
use Rattle.awk_pair_levels.proofs.alike.lead_in.Goals as goal

pub returns-in-Lists : goal.returns-in-Lists
returns-in-Lists c =
    slice_get_read c.args.shares.now (length c.args.shares.now) c.loop-i.i
    c.index-shares-i.result refl (omega arith) c.index-shares-i.is
    ∙ ap (λ p. Some p) c.in-Lists.is

pub loop-i-preserved : goal.loop-i-preserved
loop-i-preserved c =
    any_next is_lists c.args.shares.now c.loop-i.i c.index-shares-i.result true
    (slice_get_read c.args.shares.now (length c.args.shares.now) c.loop-i.i
    c.index-shares-i.result refl (omega arith) c.index-shares-i.is)
    (ap is_lists c.in-Items.is) c.loop-i.invariant
