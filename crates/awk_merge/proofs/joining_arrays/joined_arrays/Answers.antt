use Rattle.std.proofs.Common.{◌<◌, ◌≤◌, ap, ap₂, sym, length, arith}
use Rattle.awk_types.proofs.RefusalLaws.{refused_or-None}
use Rattle.awk_types.specs.Datum as shown
use Rattle.awk_types.specs.Gives.{refused_or}
use Rattle.awk_types.specs.ItemLimit.{item_limit, too_many}
use Rattle.awk_types.specs.View.{typ_of}
use Rattle.awk_types.proofs.ItemLimits.{over_limit, within_limit}
use Rattle.awk_layout.specs.Typing.{array_datum}
use Rattle.awk_merge_sides.specs.Sides.{sides_of, merged_items}
use Rattle.awk_merge.proofs.joining_arrays.joined_arrays.Goals as goal

pub returns-then-total-gt-ITEM_LIMIT : goal.returns-then-total-gt-ITEM_LIMIT
returns-then-total-gt-ITEM_LIMIT g c =
    let h : item_limit < length (merged_items (sides_of c.args.sides.now)) =
    omega (arith, c.if-total-gt-ITEM_LIMIT.true, c.total.ensures, c.requires.counted.total) in
    ap (λ o. refused_or o (shown.arr (typ_of c.args.typ.now)
    (merged_items (sides_of c.args.sides.now))))
    (over_limit (length (merged_items (sides_of c.args.sides.now))) h)

pub returns : goal.returns
returns g c =
    let h : length (merged_items (sides_of c.args.sides.now)) ≤ item_limit =
    omega (arith, c.if-total-gt-ITEM_LIMIT.false, c.total.ensures, c.requires.counted.total) in
    refused_or-None (too_many (length (merged_items (sides_of c.args.sides.now))))
    (shown.arr (typ_of c.args.typ.now) (merged_items (sides_of c.args.sides.now)))
    (array_datum c.in_ok-x.x) (within_limit (length (merged_items (sides_of c.args.sides.now))) h)
    (ap₂ shown.arr (sym c.in_ok-x.ensures.typ) (sym c.in_ok-x.ensures.items))
