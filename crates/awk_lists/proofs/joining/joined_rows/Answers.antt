use Rattle.std.proofs.Common.{ap, ◌∙◌}
use Rattle.awk_columns.specs.declared.lists.Joined.TheVariants.{Lists}
use Rattle.awk_types.specs.Predicates.{is_list_or_unknown}
use Rattle.awk_lists.specs.Listed.{IsListed}
use Rattle.awk_lists.proofs.Flattened.{rows_index, are_given, too_many_joined, few_joined}
use Rattle.awk_lists.proofs.joining.joined_rows.Goals as goal

pub plain_lists-requires : goal.plain_lists-requires
plain_lists-requires g c = ap is_list_or_unknown c.requires.rows.typ ∙ c.requires.lists

pub returns-in-TooMany : goal.returns-in-TooMany
returns-in-TooMany g c =
    too_many_joined c.args.starts.now c.args.stops.now c.args.content.now c.args.rows.now
    c.args.lists.now c.requires.rows (rw c.in-TooMany.is at c.in_ok-plain_lists.ensures)

pub gather_lane-requires : goal.gather_lane-requires
gather_lane-requires g c =
    let h : IsListed c.args.lists.now (Lists c.in-Lists.offsets c.in-Lists.content) =
    rw c.in-Lists.is at c.in_ok-plain_lists.ensures in
    record {
      places = rows_index c.args.starts.now c.args.stops.now c.args.content.now c.args.rows.now
          c.args.lists.now c.in-Lists.offsets c.in-Lists.content c.args.class c.requires.spans
          c.requires.rows h.1;
    }

pub returns-in_ok-copy-in-Lists : goal.returns-in_ok-copy-in-Lists
returns-in_ok-copy-in-Lists g c =
    let h : IsListed c.args.lists.now (Lists c.in-Lists.offsets c.in-Lists.content) =
    rw c.in-Lists.is at c.in_ok-plain_lists.ensures in
    rw (c.in_ok-copy-in-Lists.ensures, c.node.ensures, c.in_ok-offsets-in-Lists.ensures.lane) (
      few_joined c.args.starts.now c.args.stops.now c.args.content.now c.args.rows.now
          c.args.lists.now c.requires.rows h.0,
      are_given c.args.starts.now c.args.stops.now c.args.content.now c.args.rows.now
          c.args.lists.now c.in-Lists.offsets c.in-Lists.content c.args.class c.requires.spans
          c.requires.rows h.1 c.len.ensures.items,
    )
