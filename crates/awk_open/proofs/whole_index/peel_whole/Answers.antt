use Rattle.std.proofs.lemmas.Result.{IfOk-weaker}
use Rattle.awk_open.proofs.FirstIndexes.{indexed_index, indexed_peeled, optional_index}
use Rattle.awk_open.proofs.FirstIndexes.{optional_peeled, masked_index, masked_peeled}
use Rattle.awk_open.proofs.whole_index.peel_whole.Goals as goal

pub peel_index-requires-clause-index : goal.peel_index-requires-clause-index
peel_index-requires-clause-index g c =
    indexed_index c.in-Indexed.index.now c.args.x.now c.in-Indexed.content.now
    c.in-Indexed.ensures.class c.class.ensures.valid

pub returns-in-Indexed : goal.returns-in-Indexed
returns-in-Indexed g c = record {
  peeled = IfOk-weaker c.peel_index.result _ _
      (λ r h. indexed_peeled c.in-Indexed.index.now r.index c.args.x.now c.in-Indexed.content.now
      r.content c.in-Indexed.ensures.class c.class.ensures.valid h) c.peel_index.ensures.peeled;
}

pub peel_index-requires-in-IndexedOption-clause-index
    : goal.peel_index-requires-in-IndexedOption-clause-index
peel_index-requires-in-IndexedOption-clause-index g c =
    optional_index c.in-IndexedOption.index.now c.args.x.now c.in-IndexedOption.content.now
    c.in-IndexedOption.ensures.class c.class.ensures.valid

pub returns-in-IndexedOption : goal.returns-in-IndexedOption
returns-in-IndexedOption g c = record {
  peeled = IfOk-weaker c.peel_index-in-IndexedOption.result _ _
      (λ r h. optional_peeled c.in-IndexedOption.index.now r.index c.args.x.now
      c.in-IndexedOption.content.now r.content c.in-IndexedOption.ensures.class h)
      c.peel_index-in-IndexedOption.ensures.peeled;
}

pub peel_mask-requires-clause-index : goal.peel_mask-requires-clause-index
peel_mask-requires-clause-index g c =
    masked_index c.in-ByteMasked.mask.now c.in-ByteMasked.valid_when c.args.x.now
    c.in-ByteMasked.content.now c.in-ByteMasked.ensures.class c.class.ensures.valid

pub returns-in-ByteMasked : goal.returns-in-ByteMasked
returns-in-ByteMasked g c = record {
  peeled = IfOk-weaker c.peel_mask.result _ _
      (λ r h. masked_peeled c.in-ByteMasked.mask.now c.in-ByteMasked.valid_when r.index
      c.args.x.now c.in-ByteMasked.content.now r.content c.in-ByteMasked.ensures.class h)
      c.peel_mask.ensures.peeled;
}
