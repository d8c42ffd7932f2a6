use Rattle.std.proofs.Common.{◌∙◌, arith, refl, sym, length}
use Rattle.std.proofs.lemmas.Option.{slice_get_read}
use Rattle.awk_lanes.specs.Places.{size_of}
use Rattle.awk_columns.specs.Lists.{length_of}
use Rattle.awk_pair_levels.specs.Shares.{is_alike}
use Rattle.awk_pair_levels.proofs.EvenLaws.{as_long_get}
use Rattle.awk_pair_levels.proofs.InRowLaws.{of_get, lead_own}
use Rattle.awk_pair_sides.proofs.TestLaws.{all_next, all_not, all_end}
use Rattle.awk_pair_levels.proofs.alike.are_alike.Goals as goal

pub get-requires : goal.get-requires
get-requires g c = omega (arith, c.requires.same, c.loop-i-test.true)

pub is_alike-requires-clause-lead : goal.is_alike-requires-clause-lead
is_alike-requires-clause-lead g c =
    lead_own c.args.shares.now c.args.lead.now.place c.loop-i.i c.args.lead.now.lists.now
    c.index-shares-i.result c.requires.lead
    (slice_get_read c.args.shares.now (length c.args.shares.now) c.loop-i.i
    c.index-shares-i.result refl (omega arith) c.index-shares-i.is)

pub is_alike-requires-clause-long : goal.is_alike-requires-clause-long
is_alike-requires-clause-long g c =
    (as_long_get (size_of c.args.lead.now.lists.now.starts) c.args.shares.now c.loop-i.i
    c.index-shares-i.result
    (slice_get_read c.args.shares.now (length c.args.shares.now) c.loop-i.i
    c.index-shares-i.result refl (omega arith) c.index-shares-i.is)
    c.loop-i.invariant.long).0

pub is_alike-requires-clause-of : goal.is_alike-requires-clause-of
is_alike-requires-clause-of g c =
    of_get c.args.xs.now c.args.shares.now c.loop-i.i c.get.result.now c.index-shares-i.result
    c.get.ensures
    (slice_get_read c.args.shares.now (length c.args.shares.now) c.loop-i.i
    c.index-shares-i.result refl (omega arith) c.index-shares-i.is)
    c.requires.of

pub returns-then-not-is_alike : goal.returns-then-not-is_alike
returns-then-not-is_alike g c =
    all_not (is_alike (length_of c.args.lead.now.lists.now)
    (size_of c.args.lead.now.lists.now.starts)) c.args.shares.now c.loop-i.i
    c.index-shares-i.result _
    (slice_get_read c.args.shares.now (length c.args.shares.now) c.loop-i.i
    c.index-shares-i.result refl (omega arith) c.index-shares-i.is)
    (sym c.is_alike.ensures ∙ c.if-not-is_alike.true) c.loop-i.invariant.alike

pub loop-i-preserved : goal.loop-i-preserved
loop-i-preserved g c = record {
  long = (as_long_get (size_of c.args.lead.now.lists.now.starts) c.args.shares.now c.loop-i.i
      c.index-shares-i.result
      (slice_get_read c.args.shares.now (length c.args.shares.now) c.loop-i.i
      c.index-shares-i.result refl (omega arith) c.index-shares-i.is)
      c.loop-i.invariant.long).1;
  alike = all_next (is_alike (length_of c.args.lead.now.lists.now)
      (size_of c.args.lead.now.lists.now.starts)) c.args.shares.now c.loop-i.i
      c.index-shares-i.result _
      (slice_get_read c.args.shares.now (length c.args.shares.now) c.loop-i.i
      c.index-shares-i.result refl (omega arith) c.index-shares-i.is)
      (sym c.is_alike.ensures ∙ c.if-not-is_alike.false) c.loop-i.invariant.alike;
}

pub returns : goal.returns
returns g c =
    all_end (is_alike (length_of c.args.lead.now.lists.now)
    (size_of c.args.lead.now.lists.now.starts)) c.args.shares.now c.loop-i.i _
    (omega (arith, c.loop-i-test.false)) c.loop-i.invariant.alike
