use Rattle.std.proofs.Common.{◌≡◌, ◌-◌, ◌<◌, ◌≤◌, ◌∙◌, ap, sym, subst, refl, map, length, arith}
use Rattle.std.proofs.Common.{false}
use Rattle.std.specs.List.{list_any, flat_map, range_with_len}
use Rattle.awk_types.specs.Predicates.{is_list}
use Rattle.awk_layout.specs.Typing.{array_type}
use Rattle.awk_types.specs.ItemLimit.{item_limit}
use Rattle.awk_pair_sides.specs.Levels.{stretches}
use Rattle.awk_pair_sides.specs.Sides.{differ, inner_rows}
use Rattle.awk_pair_sides.specs.Rows.{rows_at}
use Rattle.awk_pair_levels.specs.Inner.{AreInner}
use Rattle.awk_pair_levels.specs.Shares.{share_types, share_rows, length_at, is_lists, AreAsLong}
use Rattle.awk_pair_levels.specs.Shares.{AreEven}
use Rattle.awk_pair_levels.proofs.ItemLaws.{items_long}
use Rattle.awk_pair_sides.proofs.LevelTypes.{presents-bare, some_listed}
use Rattle.awk_pair_levels.proofs.SharedRows.{shares_long, shares_lists, even_shares}
use Rattle.awk_pair_levels.proofs.SharedRows.{types_alone, rows_alone}
use Rattle.awk_pair_operands.specs.Paired.{any_uneven}
use Rattle.awk_pair.proofs.OutcomeLaws.{lists_unequal}
use Rattle.awk_pair.proofs.UnequalLaws.{no_level, goes_same, some_levels, some_opens, nulls_same}
use Rattle.awk_pair.proofs.UnequalLaws.{lists_same}
use Rattle.awk_pair.proofs.UnequalLaws.{row_uneven, rows_uneven, rows-of-all, rows-of-row, row_is}
use Rattle.awk_pair.proofs.UnequalLaws.{item_uneven, some_place, none_next, none_all}
use Rattle.awk_pair.proofs.unequal.+unequal.Goals as goal

pub any_unequal-returns-then-not-goes_on : goal.any_unequal-returns-then-not-goes_on
any_unequal-returns-then-not-goes_on g t c =
    no_level c.args.keep c.args.d (map array_type c.args.xs.now) (rows_at c.args.xs.now c.args.n)
    (sym c.goes_on.ensures ∙ c.if-not-goes_on.true)

pub unequal_lists-returns-in-Unequal : goal.unequal_lists-returns-in-Unequal
unequal_lists-returns-in-Unequal g t c =
    sym (lists_unequal c.args.keep c.args.d (map array_type c.args.xs.now)
    (rows_at c.args.xs.now c.args.n) c.requires.bare c.requires.lists
    (rw c.in-Unequal.is at c.in_ok-rows_below.ensures))

-- ---- rows of which some may have nulls

pub any_unequal-unequal_lists-requires : goal.any_unequal-unequal_lists-requires
any_unequal-unequal_lists-requires g t c κs within =
    let few : c.in_ok-rows.rows.count ≤ item_limit =
    omega (arith, c.in_ok-rows.ensures.few, c.requires.few) in
    let lists = goes_same c.args.d (map array_type c.args.xs.now)
    (map array_type c.in_ok-rows.rows.arrays) c.in_ok-rows.ensures.types
    c.in_ok-rows.ensures.bare (sym c.goes_on.ensures ∙ c.if-not-goes_on.false) in (
      omega (arith, c.decreases),
      (within, (c.in_ok-rows.ensures.long, (few, (c.in_ok-rows.ensures.bare, lists)))),
    )

pub any_unequal-unequal_lists-requires-2 : goal.any_unequal-unequal_lists-requires-2
any_unequal-unequal_lists-requires-2 g t c κs within =
    let bare = sym c.some_option.ensures ∙ c.if-some_option.false in
    let lists = sym c.goes_on.ensures ∙ c.if-not-goes_on.false in (
      omega (arith, c.decreases),
      (within, (c.requires.long, (c.requires.few, (bare, lists)))),
    )

pub any_unequal-returns-then-some_option : goal.any_unequal-returns-then-some_option
any_unequal-returns-then-some_option g t c =
    nulls_same c.args.keep c.args.d (map array_type c.args.xs.now)
    (map array_type c.in_ok-rows.rows.arrays) (rows_at c.args.xs.now c.args.n)
    (rows_at c.in_ok-rows.rows.arrays c.in_ok-rows.rows.count) c.in_ok-among.among
    (sym c.some_option.ensures ∙ c.if-some_option.true) c.in_ok-rows.ensures.types
    c.in_ok-rows.ensures.bare c.in_ok-rows.ensures.rows c.in_ok-among.ensures

-- ---- rows of lists

pub unequal_lists-returns-in_ok-below-in-Rows : goal.unequal_lists-returns-in_ok-below-in-Rows
unequal_lists-returns-in_ok-below-in-Rows g t c =
    let h : AreInner c.args.keep c.args.n c.args.xs.now c.in-Rows.class c.in-Rows.offsets
    c.in-Rows.count c.in-Rows.arrays = rw c.in-Rows.is at c.in_ok-rows_below.ensures in
    lists_same c.args.keep c.args.d (map array_type c.args.xs.now)
    (map array_type c.in-Rows.arrays) (rows_at c.args.xs.now c.args.n)
    (rows_at c.in-Rows.arrays c.in-Rows.count) c.in_ok-below-in-Rows.below c.requires.bare
    c.requires.lists h.even h.types h.rows c.in_ok-below-in-Rows.ensures

pub unequal_lists-any_unequal-requires : goal.unequal_lists-any_unequal-requires
unequal_lists-any_unequal-requires g t c κs within =
    let h : AreInner c.args.keep c.args.n c.args.xs.now c.in-Rows.class c.in-Rows.offsets
    c.in-Rows.count c.in-Rows.arrays = rw c.in-Rows.is at c.in_ok-rows_below.ensures in
    let p = some_levels c.args.d (map array_type c.args.xs.now) c.requires.lists in
    (omega (arith, c.decreases, p), (within, (h.long, h.few)))

pub unequal_lists-unequal_shares-requires : goal.unequal_lists-unequal_shares-requires
unequal_lists-unequal_shares-requires g t c κs within =
    let s = c.in_ok-shares-in-TooMany.ensures in
    let ps = c.in_ok-shares-in-TooMany.shares.items in
    let h : (list_any (differ c.args.keep (map array_type c.args.xs.now))
    (rows_at c.args.xs.now c.args.n) ≡ false)
    × (item_limit < length (flat_map (inner_rows c.args.keep (map array_type c.args.xs.now))
    (rows_at c.args.xs.now c.args.n))) =
    rw c.in-TooMany.is at c.in_ok-rows_below.ensures in
    let long = subst (AreAsLong c.args.n) (sym c.deref.ensures.value)
    (shares_long c.args.n c.args.keep (stretches (map array_type c.args.xs.now))
    c.args.xs.now ps s) in
    let even = subst (λ qs. AreEven (length_at qs) c.args.n qs) (sym c.deref.ensures.value)
    (even_shares c.args.keep c.args.n c.args.xs.now ps (c.requires.bare, s) h.0) in
    let lists = ap (list_any is_lists) c.deref.ensures.value
    ∙ shares_lists c.args.n c.args.keep (stretches (map array_type c.args.xs.now))
    c.args.xs.now ps s
    ∙ some_listed c.args.keep (stretches (map array_type c.args.xs.now))
    (map array_type c.args.xs.now) refl
    (ap (list_any is_list)
    (sym (presents-bare (map array_type c.args.xs.now) c.requires.bare))
    ∙ some_opens c.args.d (map array_type c.args.xs.now) c.requires.lists) in
    let levels = some_levels c.args.d (map array_type c.args.xs.now) c.requires.lists in
    (omega (arith, c.decreases), (within, (long, (even, (lists, levels)))))

pub unequal_lists-returns-in_ok-unequal-in-TooMany :
    goal.unequal_lists-returns-in_ok-unequal-in-TooMany
unequal_lists-returns-in_ok-unequal-in-TooMany g t c =
    let h : (list_any (differ c.args.keep (map array_type c.args.xs.now))
    (rows_at c.args.xs.now c.args.n) ≡ false)
    × (item_limit < length (flat_map (inner_rows c.args.keep (map array_type c.args.xs.now))
    (rows_at c.args.xs.now c.args.n))) =
    rw c.in-TooMany.is at c.in_ok-rows_below.ensures in
    let even = even_shares c.args.keep c.args.n c.args.xs.now c.in_ok-shares-in-TooMany.shares.items
    (c.requires.bare, c.in_ok-shares-in-TooMany.ensures) h.0 in
    lists_same c.args.keep c.args.d (map array_type c.args.xs.now)
    (share_types c.in_ok-shares-in-TooMany.shares.items) (rows_at c.args.xs.now c.args.n)
    (flat_map (share_rows c.in_ok-shares-in-TooMany.shares.items) (range_with_len 0 c.args.n))
    c.in_ok-unequal-in-TooMany.unequal c.requires.bare c.requires.lists h.0
    (types_alone c.args.keep c.args.n c.args.xs.now c.in_ok-shares-in-TooMany.shares.items
    (c.requires.bare, c.in_ok-shares-in-TooMany.ensures))
    (rows_alone c.args.keep c.args.n c.args.xs.now c.in_ok-shares-in-TooMany.shares.items
    (c.requires.bare, c.in_ok-shares-in-TooMany.ensures) even)
    (c.in_ok-unequal-in-TooMany.ensures
    ∙ ap (λ ps. any_uneven c.args.keep (c.args.d - 1) (share_types ps)
    (flat_map (share_rows ps) (range_with_len 0 c.args.n))) c.deref.ensures.value)

-- ---- rows that are made alone

pub unequal_shares-returns-then-not-goes_below : goal.unequal_shares-returns-then-not-goes_below
unequal_shares-returns-then-not-goes_below g t c =
    no_level c.args.keep (c.args.d - 1) (share_types c.args.shares.now)
    (flat_map (share_rows c.args.shares.now) (range_with_len 0 c.args.n))
    (sym c.goes_below.ensures ∙ c.if-not-goes_below.true)

pub unequal_shares-unequal_row-requires : goal.unequal_shares-unequal_row-requires
unequal_shares-unequal_row-requires g t c κs within =
    let row = row_is c.args.n c.loop-i.i c.args.shares.now c.requires.long c.requires.even
    (omega (arith, c.loop-i-test.true)) in
    (omega (arith, c.decreases), (within, (row, (c.requires.lists, c.requires.levels))))

pub unequal_shares-returns-then-unequal : goal.unequal_shares-returns-then-unequal
unequal_shares-returns-then-unequal g t c =
    some_place (rows_uneven c.args.keep (c.args.d - 1) c.args.shares.now) c.args.n c.loop-i.i _
    refl (omega (arith, c.loop-i-test.true)) (sym c.in_ok-unequal.ensures ∙ c.if-unequal.true)
    ∙ sym (rows-of-all c.args.keep (c.args.d - 1) c.args.n c.args.shares.now)

pub unequal_shares-loop-i-preserved : goal.unequal_shares-loop-i-preserved
unequal_shares-loop-i-preserved g t c =
    none_next (rows_uneven c.args.keep (c.args.d - 1) c.args.shares.now) c.loop-i.i
    (sym c.in_ok-unequal.ensures ∙ c.if-unequal.false) c.loop-i.invariant

pub unequal_shares-returns : goal.unequal_shares-returns
unequal_shares-returns g t c =
    none_all (rows_uneven c.args.keep (c.args.d - 1) c.args.shares.now) c.args.n
    (λ k l. c.loop-i.invariant k (omega (arith, l, c.loop-i-test.false)))
    ∙ sym (rows-of-all c.args.keep (c.args.d - 1) c.args.n c.args.shares.now)

-- ---- those below one row

pub unequal_row-length_at-length-requires : goal.unequal_row-length_at-length-requires
unequal_row-length_at-length-requires g t c = record {
  within = c.requires.row.within c.lead_of-lead.result.now c.lead_of-lead.ensures;
}

pub unequal_row-row_below-requires : goal.unequal_row-row_below-requires
unequal_row-row_below-requires g t c =
    let s = c.length_at-length.ensures.length
    ∙ c.requires.row.same c.lead_of-lead.result.now c.lead_of-lead.ensures in
    record { inside = c.requires.row.inside c.loop-k.k (omega (arith, c.loop-k-test.true, s)) }

pub unequal_row-any_unequal-requires : goal.unequal_row-any_unequal-requires
unequal_row-any_unequal-requires g t c κs within =
    let long = items_long c.args.i c.loop-k.k c.args.shares.now c.in_ok-row.row
    c.in_ok-row.ensures in
    (omega (arith, c.decreases, c.requires.levels), (within, (long, omega arith)))

pub unequal_row-returns-then-unequal : goal.unequal_row-returns-then-unequal
unequal_row-returns-then-unequal g t c =
    let s = c.length_at-length.ensures.length
    ∙ c.requires.row.same c.lead_of-lead.result.now c.lead_of-lead.ensures in
    some_place (row_uneven c.args.keep (c.args.d - 1) c.args.shares.now c.args.i)
    (length_at c.args.shares.now c.args.i) c.loop-k.k _ refl
    (omega (arith, c.loop-k-test.true, s))
    (item_uneven c.args.keep (c.args.d - 1) c.args.shares.now c.args.i c.loop-k.k c.in_ok-row.row
    c.in_ok-unequal.unequal c.in_ok-row.ensures c.in_ok-unequal.ensures ∙ c.if-unequal.true)
    ∙ sym (rows-of-row c.args.keep (c.args.d - 1) c.args.shares.now c.args.i)

pub unequal_row-loop-k-preserved : goal.unequal_row-loop-k-preserved
unequal_row-loop-k-preserved g t c =
    none_next (row_uneven c.args.keep (c.args.d - 1) c.args.shares.now c.args.i) c.loop-k.k
    (item_uneven c.args.keep (c.args.d - 1) c.args.shares.now c.args.i c.loop-k.k c.in_ok-row.row
    c.in_ok-unequal.unequal c.in_ok-row.ensures c.in_ok-unequal.ensures ∙ c.if-unequal.false)
    c.loop-k.invariant

pub unequal_row-returns : goal.unequal_row-returns
unequal_row-returns g t c =
    let s = c.length_at-length.ensures.length
    ∙ c.requires.row.same c.lead_of-lead.result.now c.lead_of-lead.ensures in
    none_all (row_uneven c.args.keep (c.args.d - 1) c.args.shares.now c.args.i)
    (length_at c.args.shares.now c.args.i)
    (λ j l. c.loop-k.invariant j (omega (arith, l, c.loop-k-test.false, s)))
    ∙ sym (rows-of-row c.args.keep (c.args.d - 1) c.args.shares.now c.args.i)
