use Rattle.std.proofs.Common.{◌∙◌, sym, subst, map}
use Rattle.std.proofs.lemmas.Bool.{and_parts}
use Rattle.awk_layout.specs.Typing.{array_type}
use Rattle.awk_pair.specs.Outcomes.{reach_of, ArePairs}
use Rattle.awk_pair_sides.specs.Rows.{rows_at}
use Rattle.awk_pair_levels.specs.Inner.{AreInner}
use Rattle.awk_pair_present.specs.Present.{ArePresent}
use Rattle.awk_pair_operands.specs.Paired.{takes_nulls}
use Rattle.awk_pair_sides.specs.Levels.{some_option}
use Rattle.awk_frames.specs.Shape.{leaves, items, missing}
use Rattle.awk_frames.specs.View.{shape_of}
use Rattle.awk_pair.proofs.EndLaws.{end_pairs}
use Rattle.awk_pair.proofs.OutcomeLaws.{nulls_pairs, nulls_too_many, nulls_unequal, lists_unequal}
use Rattle.awk_pair.proofs.OutcomeLaws.{lists_unequal_below, lists_pairs, lists_too_many}
use Rattle.awk_pair.proofs.OutcomeLaws.{lists_large}
use Rattle.awk_frames.proofs.Views.{shape_of-Leaf, shape_of-Items, shape_of-Missing}
use Rattle.awk_pair.proofs.RecursionLaws.{bare_end, rows_few, large_of}
use Rattle.awk_pair.proofs.rows.+rows.Goals as goal

pub pair_bare-returns : goal.pair_bare-returns
pair_bare-returns g t c =
    subst (λ s. ArePairs c.args.rule.keep (reach_of c.args.rule.to_leaves) c.args.d
    (map array_type c.args.xs.now) (rows_at c.args.xs.now c.args.n) s c.in_ok-leaves.leaves)
    (sym (shape_of-Leaf c.args.n))
    (subst (λ ys. ArePairs c.args.rule.keep (reach_of c.args.rule.to_leaves) c.args.d
    (map array_type c.args.xs.now) (rows_at c.args.xs.now c.args.n) (leaves c.args.n) ys)
    (sym c.in_ok-leaves.ensures)
    (end_pairs c.args.rule.keep (reach_of c.args.rule.to_leaves) c.args.d c.args.n c.args.xs.now
    (sym c.goes_on.ensures ∙ c.if-goes_on.false)
    (bare_end (reach_of c.args.rule.to_leaves) c.args.d
    (map array_type c.args.xs.now) c.requires.bare)
    c.requires.long))

pub pair_lists-returns-in-Unequal : goal.pair_lists-returns-in-Unequal
pair_lists-returns-in-Unequal g t c =
    lists_unequal c.args.rule.keep c.args.d (map array_type c.args.xs.now)
    (rows_at c.args.xs.now c.args.n) c.requires.bare c.requires.lists
    (rw c.in-Unequal.is at c.in_ok-rows_below.ensures)

pub pair_lists-returns-in-TooMany : goal.pair_lists-returns-in-TooMany
pair_lists-returns-in-TooMany g t c =
    lists_large c.args.rule.keep (reach_of c.args.rule.to_leaves) c.args.d
    (map array_type c.args.xs.now) (rows_at c.args.xs.now c.args.n) c.requires.bare c.requires.lists
    (sym c.in_ok-any_unequal-in-TooMany.ensures ∙ c.if-branch.false)
    (large_of c.args.rule.keep c.args.n c.args.xs.now
    (rw c.in-TooMany.is at c.in_ok-rows_below.ensures))

pub pair_lists-returns-in-Unequal-2 : goal.pair_lists-returns-in-Unequal-2
pair_lists-returns-in-Unequal-2 g t c =
    let h : AreInner c.args.rule.keep c.args.n c.args.xs.now c.in-Rows.class c.in-Rows.offsets
    c.in-Rows.count c.in-Rows.arrays = rw c.in-Rows.is at c.in_ok-rows_below.ensures in
    lists_unequal_below c.args.rule.keep c.args.d (map array_type c.args.xs.now)
    (map array_type c.in-Rows.arrays) (rows_at c.args.xs.now c.args.n)
    (rows_at c.in-Rows.arrays c.in-Rows.count) c.requires.bare c.requires.lists
    h.types h.rows
    (rw c.in-Unequal-2.is at c.in_ok-pair_rows-in-Rows.ensures)

pub pair_lists-returns-in-TooMany-2 : goal.pair_lists-returns-in-TooMany-2
pair_lists-returns-in-TooMany-2 g t c =
    let h : AreInner c.args.rule.keep c.args.n c.args.xs.now c.in-Rows.class c.in-Rows.offsets
    c.in-Rows.count c.in-Rows.arrays = rw c.in-Rows.is at c.in_ok-rows_below.ensures in
    lists_too_many c.args.rule.keep (reach_of c.args.rule.to_leaves) c.args.d
    (map array_type c.args.xs.now) (map array_type c.in-Rows.arrays)
    (rows_at c.args.xs.now c.args.n)
    (rows_at c.in-Rows.arrays c.in-Rows.count) c.requires.bare c.requires.lists
    h.even h.types h.rows (rows_few c.in-Rows.arrays c.in-Rows.count h.few)
    (rw c.in-TooMany-2.is at c.in_ok-pair_rows-in-Rows.ensures)

pub pair_lists-returns : goal.pair_lists-returns
pair_lists-returns g t c =
    let h : AreInner c.args.rule.keep c.args.n c.args.xs.now c.in-Rows.class c.in-Rows.offsets
    c.in-Rows.count c.in-Rows.arrays = rw c.in-Rows.is at c.in_ok-rows_below.ensures in
    subst (λ s. ArePairs c.args.rule.keep (reach_of c.args.rule.to_leaves) c.args.d
    (map array_type c.args.xs.now) (rows_at c.args.xs.now c.args.n) s c.in-Pairs.leaves)
    (sym (shape_of-Items c.in-Rows.offsets c.in-Rows.class c.in_ok-below-in-Pairs.below))
    (subst (λ f. ArePairs c.args.rule.keep (reach_of c.args.rule.to_leaves) c.args.d
    (map array_type c.args.xs.now) (rows_at c.args.xs.now c.args.n)
    (items c.in-Rows.offsets c.in-Rows.class (shape_of f)) c.in-Pairs.leaves)
    (sym c.in_ok-below-in-Pairs.ensures.ok)
    (lists_pairs c.args.rule.keep (reach_of c.args.rule.to_leaves) c.args.d
    (map array_type c.args.xs.now) (map array_type c.in-Rows.arrays)
    (rows_at c.args.xs.now c.args.n) (rows_at c.in-Rows.arrays c.in-Rows.count)
    c.in-Rows.offsets c.in-Rows.class (shape_of c.in-Pairs.shape) c.in-Pairs.leaves
    c.requires.bare c.requires.lists h.even h.types h.rows
    (rows_few c.in-Rows.arrays c.in-Rows.count h.few) h.offsets h.class
    (rw c.in-Pairs.is at c.in_ok-pair_rows-in-Rows.ensures)))

pub pair_present-returns-in-Unequal : goal.pair_present-returns-in-Unequal
pair_present-returns-in-Unequal g t c =
    let h : ArePresent c.args.n c.args.xs.now c.in_ok-index.field-0.index
    c.in_ok-index.field-0.count c.in_ok-index.field-0.arrays = c.in_ok-index.ensures in
    let n = and_parts (takes_nulls (reach_of c.args.rule.to_leaves) c.args.d
    (map array_type c.args.xs.now))
    (some_option (map array_type c.args.xs.now)) c.requires.nulls in
    nulls_unequal c.args.rule.keep c.args.d (map array_type c.args.xs.now)
    (map array_type c.in_ok-index.field-0.arrays) (rows_at c.args.xs.now c.args.n)
    (rows_at c.in_ok-index.field-0.arrays c.in_ok-index.field-0.count)
    n.1 h.types h.bare h.rows
    (rw c.in-Unequal.is at c.in_ok-pair_bare.ensures)

pub pair_present-returns-in-TooMany : goal.pair_present-returns-in-TooMany
pair_present-returns-in-TooMany g t c =
    let h : ArePresent c.args.n c.args.xs.now c.in_ok-index.field-0.index
    c.in_ok-index.field-0.count c.in_ok-index.field-0.arrays = c.in_ok-index.ensures in
    let n = and_parts (takes_nulls (reach_of c.args.rule.to_leaves) c.args.d
    (map array_type c.args.xs.now))
    (some_option (map array_type c.args.xs.now)) c.requires.nulls in
    nulls_too_many c.args.rule.keep (reach_of c.args.rule.to_leaves) c.args.d
    (map array_type c.args.xs.now) (map array_type c.in_ok-index.field-0.arrays)
    (rows_at c.args.xs.now c.args.n)
    (rows_at c.in_ok-index.field-0.arrays c.in_ok-index.field-0.count)
    n.0 n.1 h.types h.bare h.rows
    (rw c.in-TooMany.is at c.in_ok-pair_bare.ensures)

pub pair_present-returns : goal.pair_present-returns
pair_present-returns g t c =
    let h : ArePresent c.args.n c.args.xs.now c.in_ok-index.field-0.index
    c.in_ok-index.field-0.count c.in_ok-index.field-0.arrays = c.in_ok-index.ensures in
    let n = and_parts (takes_nulls (reach_of c.args.rule.to_leaves) c.args.d
    (map array_type c.args.xs.now))
    (some_option (map array_type c.args.xs.now)) c.requires.nulls in
    subst (λ s. ArePairs c.args.rule.keep (reach_of c.args.rule.to_leaves) c.args.d
    (map array_type c.args.xs.now) (rows_at c.args.xs.now c.args.n) s c.in-Pairs.leaves)
    (sym (shape_of-Missing c.in_ok-index.field-0.index c.in_ok-below-in-Pairs.below))
    (subst (λ f. ArePairs c.args.rule.keep (reach_of c.args.rule.to_leaves) c.args.d
    (map array_type c.args.xs.now) (rows_at c.args.xs.now c.args.n)
    (missing c.in_ok-index.field-0.index (shape_of f)) c.in-Pairs.leaves)
    (sym c.in_ok-below-in-Pairs.ensures.ok)
    (nulls_pairs c.args.rule.keep (reach_of c.args.rule.to_leaves) c.args.d
    (map array_type c.args.xs.now) (map array_type c.in_ok-index.field-0.arrays)
    (rows_at c.args.xs.now c.args.n)
    (rows_at c.in_ok-index.field-0.arrays c.in_ok-index.field-0.count)
    c.in_ok-index.field-0.index (shape_of c.in-Pairs.shape) c.in-Pairs.leaves
    n.0 n.1 h.types h.bare h.rows h.index
    (rw c.in-Pairs.is at c.in_ok-pair_bare.ensures)))
