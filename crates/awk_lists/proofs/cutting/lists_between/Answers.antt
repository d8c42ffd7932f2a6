use Rattle.std.proofs.Common.{◌≡◌, ◌<◌, ◌^◌, arith, ap, ◌∙◌}
use Rattle.awk_base.proofs.Results.{if_ok}
use Rattle.awk_layout.specs.Laws.{len-fits}
use Rattle.awk_layout.specs.Layout.{Layout, offset_lists}
use Rattle.awk_layout.specs.Typing.{array_type, array_items, array_datum}
use Rattle.awk_layout.specs.Valid.{len}
use Rattle.awk_lists.specs.Unflatten.{lists_by}
use Rattle.awk_lists.proofs.Cuts.{cut_offsets, lists_cut, counted_whole}
use Rattle.awk_lists.proofs.cutting.lists_between.Goals as goal

pub offsets_by-requires-clause-fits : goal.offsets_by-requires-clause-fits
offsets_by-requires-clause-fits g c =
    omega (
      arith,
      counted_whole (array_items c.args.counts.now) (len c.args.x.now) c.requires.whole,
      len-fits c.args.x.now c.len.ensures.valid,
    )

pub lists_over-requires-clause-length : goal.lists_over-requires-clause-length
lists_over-requires-clause-length g c =
    let fits : len c.args.counts.now < 2 ^ 63 =
    omega (arith, len-fits c.args.counts.now c.len-2.ensures.valid) in
    let whole = counted_whole (array_items c.args.counts.now) (len c.args.x.now) c.requires.whole in
    rw c.in_ok-offsets.ensures (cut_offsets c.args.x.now c.args.counts.now c.args.lane.now
    c.requires.counts fits whole).fits

pub lists_over-requires-clause-valid : goal.lists_over-requires-clause-valid
lists_over-requires-clause-valid g c =
    let fits : len c.args.counts.now < 2 ^ 63 =
    omega (arith, len-fits c.args.counts.now c.len-2.ensures.valid) in
    let whole = counted_whole (array_items c.args.counts.now) (len c.args.x.now) c.requires.whole in
    rw c.in_ok-offsets.ensures (cut_offsets c.args.x.now c.args.counts.now c.args.lane.now
    c.requires.counts fits whole).offsets

pub returns : goal.returns
returns g c =
    let fits : len c.args.counts.now < 2 ^ 63 =
    omega (arith, len-fits c.args.counts.now c.len-2.ensures.valid) in
    if_ok (λ (y : Layout). y ≡ offset_lists c.in_ok-offsets.offsets c.args.x.now)
    (λ (y : Layout). array_datum y ≡ lists_by (array_type c.args.x.now)
    (array_items c.args.x.now) (array_items c.args.counts.now))
    c.lists_over.result
    (λ y e. ap array_datum (e ∙ ap (λ o. offset_lists o c.args.x.now) c.in_ok-offsets.ensures)
    ∙ lists_cut c.args.x.now c.args.counts.now c.args.lane.now c.requires.counts fits
    c.requires.whole)
    c.lists_over.ensures
