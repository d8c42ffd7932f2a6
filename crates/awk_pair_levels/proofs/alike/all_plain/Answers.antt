use Rattle.std.proofs.Common.{◌∙◌, arith, refl, sym, length}
use Rattle.std.proofs.lemmas.Option.{slice_get_read}
use Rattle.awk_pair_levels.specs.Shares.{is_plain}
use Rattle.awk_pair_sides.proofs.TestLaws.{all_next, all_not, all_end}
use Rattle.awk_pair_levels.proofs.alike.all_plain.Goals as goal

pub returns-then-not-is_plain : goal.returns-then-not-is_plain
returns-then-not-is_plain c =
    all_not is_plain c.args.shares.now c.loop-i.i c.index-shares-i.result _
    (slice_get_read c.args.shares.now (length c.args.shares.now) c.loop-i.i
    c.index-shares-i.result refl (omega arith) c.index-shares-i.is)
    (sym c.is_plain.ensures ∙ c.if-not-is_plain.true) c.loop-i.invariant

pub loop-i-preserved : goal.loop-i-preserved
loop-i-preserved c =
    all_next is_plain c.args.shares.now c.loop-i.i c.index-shares-i.result _
    (slice_get_read c.args.shares.now (length c.args.shares.now) c.loop-i.i
    c.index-shares-i.result refl (omega arith) c.index-shares-i.is)
    (sym c.is_plain.ensures ∙ c.if-not-is_plain.false) c.loop-i.invariant

pub returns : goal.returns
returns c =
    all_end is_plain c.args.shares.now c.loop-i.i _ (omega (arith, c.loop-i-test.false))
    c.loop-i.invariant
