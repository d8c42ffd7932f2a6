use Rattle.std.proofs.Common.{◌≡◌, subst, sym, None, Some, arith}
use Rattle.std.specs.Prelude.{IfSome}
use Rattle.awk_types.specs.ItemLimit.{item_limit}
use Rattle.awk_lanes.specs.Column.{Column}
use Rattle.awk_lanes.specs.Counted.{AreOffsetsBy, offsets_by}
use Rattle.awk_lanes.specs.Places.{size_of}
use Rattle.awk_columns.specs.Lists.{Listed, length_of}
use Rattle.awk_pair_levels.specs.Shares.{AreAsLong, AreEven, AreNext}
use Rattle.awk_pair_levels.proofs.NextLaws.{rows_large, rows_given}
use Rattle.awk_pair_levels.proofs.below.rows_by.Goals as goal

pub row_offsets-requires : goal.row_offsets-requires
row_offsets-requires g c =
    subst (λ (l : Listed). IfSome c.args.ends
    (λ (o : Column). o ≡ offsets_by (length_of l) (size_of l.starts)))
    (sym c.in_ok-bounds.ensures) c.requires.ends

pub returns-in-None : goal.returns-in-None
returns-in-None g c =
    let b = c.in_ok-bounds.bounds in
    let e : AreOffsetsBy item_limit (length_of b) (size_of b.starts) None =
    rw c.in-None.is at c.in_ok-row_offsets.ensures in
    let h : AreOffsetsBy item_limit (length_of c.args.lead.now) (size_of c.args.lead.now.starts)
    None =
    subst (λ (l : Listed). AreOffsetsBy item_limit (length_of l) (size_of l.starts) None)
    c.in_ok-bounds.ensures e in
    rows_large c.args.lead.now (size_of c.args.lead.now.starts) c.args.shares.now
    (c.requires.lead, c.requires.even) h

pub columns_below-requires-clause-long : goal.columns_below-requires-clause-long
columns_below-requires-clause-long g c =
    subst (λ (l : Listed). AreAsLong (size_of l.starts) c.args.shares.now)
    (sym c.in_ok-bounds.ensures) c.requires.long

pub columns_below-requires-clause-even : goal.columns_below-requires-clause-even
columns_below-requires-clause-even g c =
    subst (λ (l : Listed). AreEven (length_of l) (size_of l.starts) c.args.shares.now)
    (sym c.in_ok-bounds.ensures) c.requires.even

pub columns_below-requires-clause-count : goal.columns_below-requires-clause-count
columns_below-requires-clause-count g c =
    let b = c.in_ok-bounds.bounds in
    let h : AreOffsetsBy item_limit (length_of b) (size_of b.starts) (Some c.in-Some.offsets) =
    rw c.in-Some.is at c.in_ok-row_offsets.ensures in h.0

pub columns_below-requires-clause-few : goal.columns_below-requires-clause-few
columns_below-requires-clause-few g c =
    let b = c.in_ok-bounds.bounds in
    let h : AreOffsetsBy item_limit (length_of b) (size_of b.starts) (Some c.in-Some.offsets) =
    rw c.in-Some.is at c.in_ok-row_offsets.ensures in omega (arith, h.0, h.1)

pub returns-in_ok-arrays-in-Some : goal.returns-in_ok-arrays-in-Some
returns-in_ok-arrays-in-Some g c =
    let b = c.in_ok-bounds.bounds in
    let e : AreOffsetsBy item_limit (length_of b) (size_of b.starts) (Some c.in-Some.offsets) =
    rw c.in-Some.is at c.in_ok-row_offsets.ensures in
    let h : AreOffsetsBy item_limit (length_of c.args.lead.now) (size_of c.args.lead.now.starts)
    (Some c.in-Some.offsets) =
    subst (λ (l : Listed). AreOffsetsBy item_limit (length_of l) (size_of l.starts)
    (Some c.in-Some.offsets)) c.in_ok-bounds.ensures e in
    let a : AreNext (length_of c.args.lead.now) (size_of c.args.lead.now.starts) c.args.shares.now
    c.in_ok-arrays-in-Some.arrays =
    subst (λ (l : Listed). AreNext (length_of l) (size_of l.starts) c.args.shares.now
    c.in_ok-arrays-in-Some.arrays) c.in_ok-bounds.ensures c.in_ok-arrays-in-Some.ensures in
    rows_given c.args.lead.now (size_of c.args.lead.now.starts) c.args.shares.now
    c.level_class.result c.in-Some.offsets.lane c.in-Some.offsets.total
    c.in_ok-arrays-in-Some.arrays (c.requires.lead, c.requires.even) c.level_class.ensures h.2 h.0
    h.1 a
