use Rattle.std.proofs.Common.{◌≡◌, arith, ap, ◌∙◌}
use Rattle.awk_lanes.specs.Counted.{offsets_by}
use Rattle.awk_lanes.specs.Places.{size_of, place_at}
use Rattle.awk_columns.specs.Lists.{length_of}
use Rattle.awk_list_rows.proofs.EndLaws.{ends_kind, ends_size, last_end, last_positive}
use Rattle.awk_list_rows.proofs.offsets.row_offsets.Goals as goal

pub place_in-total-requires-clause-kind : goal.place_in-total-requires-clause-kind
place_in-total-requires-clause-kind g c =
    ends_kind (length_of c.args.lists.now) (size_of c.args.lists.now.starts) c.in-Some.lane
    (rw c.in-Some.is at c.requires)

pub place_in-total-requires-clause-within : goal.place_in-total-requires-clause-within
place_in-total-requires-clause-within g c =
    omega (
      arith,
      c.len-n.ensures.len,
      ends_size (length_of c.args.lists.now) (size_of c.args.lists.now.starts) c.in-Some.lane
          (rw c.in-Some.is at c.requires),
    )

pub place_in-total-requires-clause-positive : goal.place_in-total-requires-clause-positive
place_in-total-requires-clause-positive g c =
    rw c.len-n.ensures.len (last_positive (length_of c.args.lists.now)
    (size_of c.args.lists.now.starts) c.in-Some.lane (rw c.in-Some.is at c.requires))

pub returns-then-total-gt-ITEM_LIMIT : goal.returns-then-total-gt-ITEM_LIMIT
returns-then-total-gt-ITEM_LIMIT g c =
    omega (
      arith,
      c.if-total-gt-ITEM_LIMIT.true,
      c.place_in-total.ensures.value,
      ap (place_at c.in-Some.lane) c.len-n.ensures.len,
      last_end (length_of c.args.lists.now) (size_of c.args.lists.now.starts) c.in-Some.lane
          (rw c.in-Some.is at c.requires),
    )

pub returns : goal.returns
returns g c =
    let e : c.in-Some.lane
    ≡ offsets_by (length_of c.args.lists.now) (size_of c.args.lists.now.starts) =
    rw c.in-Some.is at c.requires in
    let t = c.place_in-total.ensures.value ∙ ap (place_at c.in-Some.lane) c.len-n.ensures.len
    ∙ last_end (length_of c.args.lists.now) (size_of c.args.lists.now.starts) c.in-Some.lane e in
    (t, omega (arith, t, c.if-total-gt-ITEM_LIMIT.false), e)

pub returns-in_default : goal.returns-in_default
returns-in_default g c = rw c.len-n.ensures.len at c.offsets_within.ensures
