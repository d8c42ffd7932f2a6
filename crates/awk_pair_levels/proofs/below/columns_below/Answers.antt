use Rattle.std.proofs.Common.{arith, refl, length}
use Rattle.std.proofs.lemmas.Option.{slice_get_read}
use Rattle.awk_lanes.specs.Places.{size_of}
use Rattle.awk_columns.specs.Lists.{length_of}
use Rattle.awk_pair_levels.proofs.EvenLaws.{as_long_get, even_get}
use Rattle.awk_pair_levels.proofs.InRowLaws.{of_get}
use Rattle.awk_pair_levels.proofs.NextLaws.{next_push, next_all, repeat_get}
use Rattle.awk_pair_levels.proofs.below.columns_below.Goals as goal

pub get-requires : goal.get-requires
get-requires g c = omega (arith, c.requires.same, c.loop-i-test.true)

pub column_below-requires-clause-long : goal.column_below-requires-clause-long
column_below-requires-clause-long g c =
    (as_long_get (size_of c.args.lead.now.starts) c.args.shares.now c.loop-i.i
    c.index-shares-i.result
    (slice_get_read c.args.shares.now (length c.args.shares.now) c.loop-i.i
    c.index-shares-i.result refl (omega arith) c.index-shares-i.is) c.loop-i.invariant.long).0

pub column_below-requires-clause-even : goal.column_below-requires-clause-even
column_below-requires-clause-even g c =
    (even_get (length_of c.args.lead.now) (size_of c.args.lead.now.starts) c.args.shares.now
    c.loop-i.i c.index-shares-i.result
    (slice_get_read c.args.shares.now (length c.args.shares.now) c.loop-i.i
    c.index-shares-i.result refl (omega arith) c.index-shares-i.is) c.loop-i.invariant.even).0

pub column_below-requires-clause-places : goal.column_below-requires-clause-places
column_below-requires-clause-places g c =
    (repeat_get (length_of c.args.lead.now) (size_of c.args.lead.now.starts)
    c.in_ok-places.places c.args.shares.now c.loop-i.i c.index-shares-i.result
    (slice_get_read c.args.shares.now (length c.args.shares.now) c.loop-i.i
    c.index-shares-i.result refl (omega arith) c.index-shares-i.is) c.loop-i.invariant.repeats).0

pub column_below-requires-clause-of : goal.column_below-requires-clause-of
column_below-requires-clause-of g c =
    of_get c.args.xs.now c.args.shares.now c.loop-i.i c.get.result.now c.index-shares-i.result
    c.get.ensures
    (slice_get_read c.args.shares.now (length c.args.shares.now) c.loop-i.i
    c.index-shares-i.result refl (omega arith) c.index-shares-i.is)
    c.requires.of

pub loop-i-preserved : goal.loop-i-preserved
loop-i-preserved g c =
    let m = length_of c.args.lead.now in
    let n = size_of c.args.lead.now.starts in
    let read = slice_get_read c.args.shares.now (length c.args.shares.now) c.loop-i.i
    c.index-shares-i.result refl (omega arith) c.index-shares-i.is in
    record {
      long = (as_long_get n c.args.shares.now c.loop-i.i c.index-shares-i.result read
          c.loop-i.invariant.long).1;
      even = (even_get m n c.args.shares.now c.loop-i.i c.index-shares-i.result read
          c.loop-i.invariant.even).1;
      repeats = (repeat_get m n c.in_ok-places.places c.args.shares.now c.loop-i.i
          c.index-shares-i.result read c.loop-i.invariant.repeats).1;
      made = next_push m n c.args.shares.now c.loop-i.columns c.push.new.self c.loop-i.i
          c.index-shares-i.result c.in_ok-column.column read c.in_ok-push.ensures.ok
          c.loop-i.invariant.made c.in_ok-column.ensures;
    }

pub returns : goal.returns
returns g c =
    next_all (length_of c.args.lead.now) (size_of c.args.lead.now.starts) c.args.shares.now
    c.loop-i.columns c.loop-i.i (omega (arith, c.loop-i-test.false)) c.loop-i.invariant.made
