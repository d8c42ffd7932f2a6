use Rattle.std.proofs.Common.{◌≡◌, ◌∙◌, sym, subst, arith, map, length, refl, false}
use Rattle.awk_pair_operands.specs.First.{all_data, AreFirstRows}
use Rattle.awk_pair.specs.Outcomes.{reach_of}
use Rattle.awk_pair_operands.specs.Pairs.{reach, datum_side}
use Rattle.awk_pair_sides.specs.Sides.{equally_long}
use Rattle.awk_frames.specs.View.{shape_of}
use Rattle.awk_pair.proofs.PairLaws.{AtHand, at_hand, said_unequal, said_large_first, said_large}
use Rattle.awk_pair.proofs.PairLaws.{said_pairs, paired_of, wrong_type, uneven, uneven_arrays}
use Rattle.awk_frames.specs.Framed.{IsFrame}
use Rattle.awk_pair_operands.specs.Answer.{shared_ends}
use Rattle.awk_pair_operands.proofs.TypedLaws.{pairs_typed, pairs_frame}
use Rattle.awk_pair.proofs.pairing.paired.Goals as goal

pub returns-then-count-gt-ITEM_LIMIT-clause-answer :
    goal.returns-then-count-gt-ITEM_LIMIT-clause-answer
returns-then-count-gt-ITEM_LIMIT-clause-answer g c =
    let f : AreFirstRows (all_data c.args.xs.now) c.in-Rows.single c.in-Rows.count
    c.in-Rows.arrays = rw c.in-Rows.is at c.in_ok-first_rows.ensures in
    let h : AtHand c.args.depth (all_data c.args.xs.now)
    (reach c.args.depth) c.levels_below-d.result c.in-Rows.count c.in-Rows.arrays =
    at_hand c.args.depth (all_data c.args.xs.now)
    (reach c.args.depth) c.in-Rows.single c.levels_below-d.result c.in-Rows.count c.in-Rows.arrays
    refl c.levels_below-d.ensures (sym c.has_wrong_end.ensures ∙ c.if-has_wrong_end.false) f in
    said_large_first c.args.keep c.args.depth (all_data c.args.xs.now)
    (reach c.args.depth) c.levels_below-d.result c.in-Rows.count c.in-Rows.arrays h
    (sym c.in_ok-any_unequal_row-in-Rows.ensures
    ∙ c.if-branch.false) (omega (arith, c.if-count-gt-ITEM_LIMIT.true))

pub returns-in-TooMany-clause-answer : goal.returns-in-TooMany-clause-answer
returns-in-TooMany-clause-answer g c =
    let f : AreFirstRows (all_data c.args.xs.now) c.in-Rows.single c.in-Rows.count
    c.in-Rows.arrays = rw c.in-Rows.is at c.in_ok-first_rows.ensures in
    let h : AtHand c.args.depth (all_data c.args.xs.now)
    (reach_of c.is_to_leaves-to_leaves.result) c.levels_below-d.result c.in-Rows.count
    c.in-Rows.arrays =
    at_hand c.args.depth (all_data c.args.xs.now)
    (reach_of c.is_to_leaves-to_leaves.result) c.in-Rows.single c.levels_below-d.result
    c.in-Rows.count c.in-Rows.arrays
    c.is_to_leaves-to_leaves.ensures c.levels_below-d.ensures (sym c.has_wrong_end.ensures
    ∙ c.if-has_wrong_end.false) f in
    said_large c.args.keep c.args.depth (all_data c.args.xs.now)
    (reach_of c.is_to_leaves-to_leaves.result) c.levels_below-d.result c.in-Rows.count
    c.in-Rows.arrays h
    (omega (arith, c.if-count-gt-ITEM_LIMIT.false))
    (rw c.in-TooMany.is at c.in_ok-pair_rows-in-Rows.ensures)

pub returns-clause-answer : goal.returns-clause-answer
returns-clause-answer g c =
    let f : AreFirstRows (all_data c.args.xs.now) c.in-Rows.single c.in-Rows.count
    c.in-Rows.arrays = rw c.in-Rows.is at c.in_ok-first_rows.ensures in
    let h : AtHand c.args.depth (all_data c.args.xs.now)
    (reach_of c.is_to_leaves-to_leaves.result) c.levels_below-d.result c.in-Rows.count
    c.in-Rows.arrays =
    at_hand c.args.depth (all_data c.args.xs.now)
    (reach_of c.is_to_leaves-to_leaves.result) c.in-Rows.single c.levels_below-d.result
    c.in-Rows.count c.in-Rows.arrays
    c.is_to_leaves-to_leaves.ensures c.levels_below-d.ensures (sym c.has_wrong_end.ensures
    ∙ c.if-has_wrong_end.false) f in
    said_pairs c.args.keep c.args.depth (all_data c.args.xs.now)
    (reach_of c.is_to_leaves-to_leaves.result) c.levels_below-d.result c.in-Rows.count
    c.in-Rows.arrays (shape_of c.in-Pairs.shape) c.in-Pairs.leaves c.in-Rows.single h
    (omega (arith, c.if-count-gt-ITEM_LIMIT.false)) f.is_single
    (rw c.in-Pairs.is at c.in_ok-pair_rows-in-Rows.ensures)

pub returns-clause-shape : goal.returns-clause-shape
returns-clause-shape g c =
    let f : AreFirstRows (all_data c.args.xs.now) c.in-Rows.single c.in-Rows.count
    c.in-Rows.arrays = rw c.in-Rows.is at c.in_ok-first_rows.ensures in
    let h : AtHand c.args.depth (all_data c.args.xs.now)
    (reach_of c.is_to_leaves-to_leaves.result) c.levels_below-d.result c.in-Rows.count
    c.in-Rows.arrays =
    at_hand c.args.depth (all_data c.args.xs.now)
    (reach_of c.is_to_leaves-to_leaves.result) c.in-Rows.single c.levels_below-d.result
    c.in-Rows.count c.in-Rows.arrays
    c.is_to_leaves-to_leaves.ensures c.levels_below-d.ensures (sym c.has_wrong_end.ensures
    ∙ c.if-has_wrong_end.false) f in
    let p = paired_of c.args.keep c.args.depth (all_data c.args.xs.now)
    (reach_of c.is_to_leaves-to_leaves.result) c.levels_below-d.result c.in-Rows.count
    c.in-Rows.arrays (shape_of c.in-Pairs.shape) c.in-Pairs.leaves h
    (rw c.in-Pairs.is at c.in_ok-pair_rows-in-Rows.ensures) in
    p.paired.shape

pub returns-clause-leaves : goal.returns-clause-leaves
returns-clause-leaves g c =
    let f : AreFirstRows (all_data c.args.xs.now) c.in-Rows.single c.in-Rows.count
    c.in-Rows.arrays = rw c.in-Rows.is at c.in_ok-first_rows.ensures in
    let h : AtHand c.args.depth (all_data c.args.xs.now)
    (reach_of c.is_to_leaves-to_leaves.result) c.levels_below-d.result c.in-Rows.count
    c.in-Rows.arrays =
    at_hand c.args.depth (all_data c.args.xs.now)
    (reach_of c.is_to_leaves-to_leaves.result) c.in-Rows.single c.levels_below-d.result
    c.in-Rows.count c.in-Rows.arrays
    c.is_to_leaves-to_leaves.ensures c.levels_below-d.ensures (sym c.has_wrong_end.ensures
    ∙ c.if-has_wrong_end.false) f in
    let p = paired_of c.args.keep c.args.depth (all_data c.args.xs.now)
    (reach_of c.is_to_leaves-to_leaves.result) c.levels_below-d.result c.in-Rows.count
    c.in-Rows.arrays (shape_of c.in-Pairs.shape) c.in-Pairs.leaves h
    (rw c.in-Pairs.is at c.in_ok-pair_rows-in-Rows.ensures) in
    p.paired.leaves

pub returns-clause-types : goal.returns-clause-types
returns-clause-types g c =
    let f : AreFirstRows (all_data c.args.xs.now) c.in-Rows.single c.in-Rows.count
    c.in-Rows.arrays = rw c.in-Rows.is at c.in_ok-first_rows.ensures in
    let h : AtHand c.args.depth (all_data c.args.xs.now)
    (reach_of c.is_to_leaves-to_leaves.result) c.levels_below-d.result c.in-Rows.count
    c.in-Rows.arrays =
    at_hand c.args.depth (all_data c.args.xs.now)
    (reach_of c.is_to_leaves-to_leaves.result) c.in-Rows.single c.levels_below-d.result
    c.in-Rows.count c.in-Rows.arrays
    c.is_to_leaves-to_leaves.ensures c.levels_below-d.ensures (sym c.has_wrong_end.ensures
    ∙ c.if-has_wrong_end.false) f in
    let p = paired_of c.args.keep c.args.depth (all_data c.args.xs.now)
    (reach_of c.is_to_leaves-to_leaves.result) c.levels_below-d.result c.in-Rows.count
    c.in-Rows.arrays (shape_of c.in-Pairs.shape) c.in-Pairs.leaves h
    (rw c.in-Pairs.is at c.in_ok-pair_rows-in-Rows.ensures) in
    p.paired.types

pub returns-clause-typed : goal.returns-clause-typed
returns-clause-typed g c =
    pairs_typed c.args.keep c.args.depth (all_data c.args.xs.now) c.in-Rows.single
    c.in_ok-columns.ensures.typed (returns-clause-answer g c)

pub returns-clause-frame : goal.returns-clause-frame
returns-clause-frame g c =
    subst (λ s. IsFrame s (length (shared_ends c.args.keep c.args.depth (all_data c.args.xs.now))))
    (sym (returns-clause-shape g c))
    (pairs_frame c.args.keep c.args.depth (all_data c.args.xs.now) c.in-Rows.single
    c.in_ok-columns.ensures.typed (returns-clause-answer g c))

pub returns-then-has_wrong_end-clause-answer : goal.returns-then-has_wrong_end-clause-answer
returns-then-has_wrong_end-clause-answer g c =
    wrong_type c.args.keep c.args.depth (all_data c.args.xs.now)
    (sym c.has_wrong_end.ensures ∙ c.if-has_wrong_end.true)

pub returns-in-Unequal-clause-answer : goal.returns-in-Unequal-clause-answer
returns-in-Unequal-clause-answer g c =
    let e : equally_long (map datum_side (all_data c.args.xs.now)) ≡ false =
    rw c.in-Unequal.is at c.in_ok-first_rows.ensures in
    uneven c.args.keep c.args.depth (all_data c.args.xs.now)
    (sym c.has_wrong_end.ensures ∙ c.if-has_wrong_end.false)
    (uneven_arrays c.args.keep c.args.depth (all_data c.args.xs.now) e)

pub returns-then-branch-clause-answer : goal.returns-then-branch-clause-answer
returns-then-branch-clause-answer g c =
    let f : AreFirstRows (all_data c.args.xs.now) c.in-Rows.single c.in-Rows.count
    c.in-Rows.arrays = rw c.in-Rows.is at c.in_ok-first_rows.ensures in
    let h : AtHand c.args.depth (all_data c.args.xs.now) (reach c.args.depth)
    c.levels_below-d.result c.in-Rows.count c.in-Rows.arrays =
    at_hand c.args.depth (all_data c.args.xs.now) (reach c.args.depth) c.in-Rows.single
    c.levels_below-d.result c.in-Rows.count c.in-Rows.arrays
    refl c.levels_below-d.ensures (sym c.has_wrong_end.ensures ∙ c.if-has_wrong_end.false) f in
    said_unequal c.args.keep c.args.depth (all_data c.args.xs.now) (reach c.args.depth)
    c.levels_below-d.result c.in-Rows.count c.in-Rows.arrays h
    (sym c.in_ok-any_unequal_row-in-Rows.ensures ∙ c.if-branch.true)

pub returns-in-Unequal-2-clause-answer : goal.returns-in-Unequal-2-clause-answer
returns-in-Unequal-2-clause-answer g c =
    let f : AreFirstRows (all_data c.args.xs.now) c.in-Rows.single c.in-Rows.count
    c.in-Rows.arrays = rw c.in-Rows.is at c.in_ok-first_rows.ensures in
    let h : AtHand c.args.depth (all_data c.args.xs.now)
    (reach_of c.is_to_leaves-to_leaves.result) c.levels_below-d.result c.in-Rows.count
    c.in-Rows.arrays =
    at_hand c.args.depth (all_data c.args.xs.now) (reach_of c.is_to_leaves-to_leaves.result)
    c.in-Rows.single c.levels_below-d.result c.in-Rows.count c.in-Rows.arrays
    c.is_to_leaves-to_leaves.ensures c.levels_below-d.ensures
    (sym c.has_wrong_end.ensures ∙ c.if-has_wrong_end.false) f in
    said_unequal c.args.keep c.args.depth (all_data c.args.xs.now)
    (reach_of c.is_to_leaves-to_leaves.result) c.levels_below-d.result c.in-Rows.count
    c.in-Rows.arrays h (rw c.in-Unequal-2.is at c.in_ok-pair_rows-in-Rows.ensures)
