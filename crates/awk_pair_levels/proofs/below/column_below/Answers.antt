use Rattle.std.proofs.Common.{sym, subst}
use Rattle.awk_lanes.specs.Places.{size_of}
use Rattle.awk_pair_levels.specs.InRow.{IsOf}
use Rattle.awk_columns.specs.Lists.{length_of}
use Rattle.awk_pair_levels.specs.Shares.{IsAsLong, IsEven, IsNext, IsRepeated}
use Rattle.awk_pair_levels.proofs.NextLaws.{even_count, even_next}
use Rattle.awk_pair_levels.proofs.below.column_below.Goals as goal

pub items_below-requires-clause-count : goal.items_below-requires-clause-count
items_below-requires-clause-count g c =
    let l = c.args.level.now.lead.now in
    even_count (length_of l) (size_of l.starts) c.in-Lists.lists c.args.level.now.count
    (subst (IsAsLong (size_of l.starts)) c.in-Lists.is c.requires.long)
    (subst (IsEven (length_of l) (size_of l.starts)) c.in-Lists.is c.requires.even)
    c.requires.count

pub items_below-requires-clause-of : goal.items_below-requires-clause-of
items_below-requires-clause-of g c = subst (IsOf c.args.x.now) c.in-Lists.is c.requires.of

pub repeated-requires-clause-long : goal.repeated-requires-clause-long
repeated-requires-clause-long g c =
    subst (IsAsLong (size_of c.args.level.now.lead.now.starts)) c.in-Items.is c.requires.long

pub repeated-requires-clause-places : goal.repeated-requires-clause-places
repeated-requires-clause-places g c =
    let l = c.args.level.now.lead.now in
    subst (IsRepeated (length_of l) (size_of l.starts) c.args.level.now.places) c.in-Items.is
    c.requires.places

pub returns-in_ok-items-in-Lists : goal.returns-in_ok-items-in-Lists
returns-in_ok-items-in-Lists g c =
    let l = c.args.level.now.lead.now in
    subst (λ p. IsNext (length_of l) (size_of l.starts) p c.in_ok-items-in-Lists.items)
    (sym c.in-Lists.is)
    (even_next (length_of l) (size_of l.starts) c.in-Lists.lists c.in_ok-items-in-Lists.items
    (subst (IsAsLong (size_of l.starts)) c.in-Lists.is c.requires.long)
    (subst (IsEven (length_of l) (size_of l.starts)) c.in-Lists.is c.requires.even)
    c.in_ok-items-in-Lists.ensures)

pub returns-in_ok-items-in-Items : goal.returns-in_ok-items-in-Items
returns-in_ok-items-in-Items g c =
    let l = c.args.level.now.lead.now in
    subst (λ p. IsNext (length_of l) (size_of l.starts) p c.in_ok-items-in-Items.items)
    (sym c.in-Items.is) c.in_ok-items-in-Items.ensures
