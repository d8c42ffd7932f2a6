use Rattle.std.proofs.Common.{sym, ap, ◌∙◌}
use Rattle.awk_lanes.specs.Places.{size_of}
use Rattle.awk_columns.specs.Lists.{length_of}
use Rattle.awk_pair_levels.proofs.NextLaws.{no_repeats, all_repeats}
use Rattle.awk_pair_sides.proofs.PlaceLaws.{places_of}
use Rattle.awk_pair_levels.proofs.below.repeats_of.Goals as goal

pub returns-then-all_plain : goal.returns-then-all_plain
returns-then-all_plain g c =
    no_repeats (length_of c.args.lead.now) (size_of c.args.lead.now.starts) c.in_ok-none.none
    c.args.shares.now (sym c.all_plain.ensures ∙ c.if-all_plain.true)

pub returns : goal.returns
returns g c =
    all_repeats (length_of c.args.lead.now) (size_of c.args.lead.now.starts)
    c.in_ok-places.places c.args.shares.now
    (c.in_ok-places.ensures ∙ ap (places_of (length_of c.args.lead.now)) c.len-n.ensures.len)
