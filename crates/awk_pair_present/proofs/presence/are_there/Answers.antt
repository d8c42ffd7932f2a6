use Rattle.std.proofs.Common.{◌≡◌, ◌+◌, ◌&&◌, arith, refl, length, drop, sym, subst}
use Rattle.std.specs.List.{list_all}
use Rattle.std.proofs.lemmas.Option.{slice_get_read}
use Rattle.awk_pair_present.specs.Presence.{is_there, are_there}
use Rattle.awk_pair_present.proofs.PresenceLaws.{as_long_get, there_more, there_end}
use Rattle.awk_pair_present.proofs.presence.are_there.Goals as goal

pub is_there-requires-clause-long : goal.is_there-requires-clause-long
is_there-requires-clause-long c =
    (as_long_get c.args.n c.args.presences.now c.loop-j.j c.index-presences-j.result
    (slice_get_read c.args.presences.now (length c.args.presences.now) c.loop-j.j
    c.index-presences-j.result refl (omega arith) c.index-presences-j.is) c.loop-j.invariant.long).0

pub loop-j-preserved : goal.loop-j-preserved
loop-j-preserved c = record {
  long = (as_long_get c.args.n c.args.presences.now c.loop-j.j c.index-presences-j.result
      (slice_get_read c.args.presences.now (length c.args.presences.now) c.loop-j.j
      c.index-presences-j.result refl (omega arith) c.index-presences-j.is)
      c.loop-j.invariant.long).1;
  there = subst (λ b. (b && list_all (is_there c.args.i)
      (drop (c.loop-j.j + 1) c.args.presences.now)) ≡ are_there c.args.presences.now c.args.i)
      (sym c.both-all.ensures)
      (there_more (is_there c.args.i) c.args.presences.now c.loop-j.j c.index-presences-j.result
      c.loop-j.all c.is_there.result _ (slice_get_read c.args.presences.now
      (length c.args.presences.now) c.loop-j.j c.index-presences-j.result refl (omega arith)
      c.index-presences-j.is) c.is_there.ensures c.loop-j.invariant.there);
}

pub returns : goal.returns
returns c =
    there_end (is_there c.args.i) c.args.presences.now c.loop-j.j c.loop-j.all _
    (omega (arith, c.loop-j-test.false)) c.loop-j.invariant.there
