-- One more tag raises the length of its alternative.
use Rattle.std.proofs.Common.{◌≡◌, ℕ, length, get_or, pos, w64, FitsSigned, nat_cmp, arith, rules}
use Rattle.std.proofs.Common.{sym, ap}
use Rattle.std.specs.Ordering.{ord_max}
use lib.IntN.{nat_abs}
use Rattle.std.proofs.lemmas.Int.{to_z-of_z}
use Rattle.std.proofs.lemmas.List.{length-set}
use Rattle.std.proofs.lemmas.List.FromFn.{fill_by_all}
use Rattle.awk_valid.specs.Needs.{behind, tag_length}
use Rattle.awk_valid.proofs.LengthLaws.{tag_length-more}
use Rattle.awk_valid.proofs.lengths.tag_lengths.Goals as goal

pub loop-place-preserved : goal.loop-place-preserved
loop-place-preserved c =
    let place = c.loop-place.place in
    let tag : FitsSigned w64 (get_or c.args.tags.now place (pos 0)) = search rules in
    let index : FitsSigned w64 (get_or c.args.index.now place (pos 0)) = search rules in
    let behind_index = rw (to_z-of_z w64 _ index) at c.behind.ensures in
    let raised : c.max.result
    ≡ ord_max nat_cmp c.index.result.now (behind (get_or c.args.index.now place (pos 0))) =
    cc in
    record {
      each = rw length-set c.loop-place.invariant.each;
      needed = λ k l.
          tag_length-more c.loop-place.lengths.items c.args.tags.now c.args.index.now
          c.args.alternatives place _ c.index.result.now c.max.result k
          c.loop-place.invariant.each
          (c.requires.judged place c.loop-place-test.true) (c.loop-place.invariant.needed k l)
          (ap nat_abs (to_z-of_z w64 _ tag)) c.index.ensures
          raised;
    }

pub returns : goal.returns
returns c =
    let end : c.loop-place.place ≡ length c.args.tags.now = omega arith in
    fill_by_all
    (tag_length (length c.args.tags.now) (λ (i : ℕ). get_or c.args.tags.now i (pos 0))
    (λ (i : ℕ). get_or c.args.index.now i (pos 0))) c.loop-place.lengths.items
    c.args.alternatives 0
    c.loop-place.invariant.each (rw (sym end) c.loop-place.invariant.needed)
