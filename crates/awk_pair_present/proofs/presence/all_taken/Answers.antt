use Rattle.std.proofs.Common.{arith, refl, length}
use Rattle.std.proofs.lemmas.Option.{slice_get_read}
use Rattle.awk_pair_present.proofs.PresenceLaws.{as_long_get, kept_get, taken_push, taken_end}
use Rattle.awk_pair_present.proofs.presence.all_taken.Goals as goal

pub taken-requires-clause-long : goal.taken-requires-clause-long
taken-requires-clause-long g c =
    (as_long_get c.args.n c.args.presences.now c.loop-j.j c.index-presences-j.result
    (slice_get_read c.args.presences.now (length c.args.presences.now) c.loop-j.j
    c.index-presences-j.result refl (omega arith) c.index-presences-j.is) c.loop-j.invariant.long).0

pub taken-requires-clause-kept : goal.taken-requires-clause-kept
taken-requires-clause-kept g c =
    (kept_get c.args.n c.args.places.now c.args.presences.now c.loop-j.j
    c.index-presences-j.result (slice_get_read c.args.presences.now (length c.args.presences.now)
    c.loop-j.j
    c.index-presences-j.result refl (omega arith) c.index-presences-j.is) c.loop-j.invariant.kept).0

pub loop-j-preserved : goal.loop-j-preserved
loop-j-preserved g c = record {
  long = (as_long_get c.args.n c.args.presences.now c.loop-j.j c.index-presences-j.result
      (slice_get_read c.args.presences.now (length c.args.presences.now) c.loop-j.j
      c.index-presences-j.result refl (omega arith) c.index-presences-j.is)
      c.loop-j.invariant.long).1;
  kept = (kept_get c.args.n c.args.places.now c.args.presences.now c.loop-j.j
      c.index-presences-j.result (slice_get_read c.args.presences.now (length c.args.presences.now)
      c.loop-j.j
      c.index-presences-j.result refl (omega arith) c.index-presences-j.is)
      c.loop-j.invariant.kept).1;
  made = taken_push c.args.places.now c.args.presences.now c.loop-j.arrays c.push.new.self
      c.loop-j.j c.index-presences-j.result c.in_ok-array.array
      (slice_get_read c.args.presences.now (length c.args.presences.now) c.loop-j.j
      c.index-presences-j.result refl (omega arith) c.index-presences-j.is)
      c.in_ok-push.ensures.ok c.loop-j.invariant.made c.in_ok-array.ensures;
}

pub returns : goal.returns
returns g c =
    taken_end c.args.places.now c.args.presences.now c.loop-j.arrays c.loop-j.j
    (omega (arith, c.loop-j-test.false)) c.loop-j.invariant.made
