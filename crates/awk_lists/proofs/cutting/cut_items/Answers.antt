use Rattle.std.proofs.Common.{arith, ap, sym, ◌∙◌}
use Rattle.std.specs.Prelude.{Ok}
use Rattle.awk_layout.specs.Typing.{array_type, array_items}
use Rattle.awk_layout.proofs.ArrayItems.{length-array_items}
use Rattle.awk_lists.proofs.Cuts.{told_lengths, told_size, told_lists}
use Rattle.awk_lists.proofs.cutting.cut_items.Goals as goal

pub returns-then-not-add_up : goal.returns-then-not-add_up
returns-then-not-add_up g c = record {
  answer = told_lengths (array_type c.args.x.now) (array_items c.args.x.now)
      (array_items c.args.counts.now) c.len.result
      (length-array_items c.args.x.now ∙ sym c.len.ensures.len) (sym c.if-not-add_up.ensures);
}

pub returns-then-len-gt-ITEM_LIMIT : goal.returns-then-len-gt-ITEM_LIMIT
returns-then-len-gt-ITEM_LIMIT g c = record {
  answer = told_size (array_type c.args.x.now) (array_items c.args.x.now)
      (array_items c.args.counts.now) c.len.result c.len-2.result
      (length-array_items c.args.x.now ∙ sym c.len.ensures.len)
      (length-array_items c.args.counts.now ∙ sym c.len-2.ensures.len)
      (sym c.if-not-add_up.ensures) (omega (arith, c.if-len-gt-ITEM_LIMIT.true));
}

pub returns : goal.returns
returns g c = record {
  answer = told_lists (array_type c.args.x.now) (array_items c.args.x.now)
      (array_items c.args.counts.now) c.len.result c.len-2.result
      (length-array_items c.args.x.now ∙ sym c.len.ensures.len)
      (length-array_items c.args.counts.now ∙ sym c.len-2.ensures.len)
      (sym c.if-not-add_up.ensures) (omega (arith, c.if-len-gt-ITEM_LIMIT.false))
      ∙ ap Ok (sym c.in_ok-lists_between.ensures);
}
