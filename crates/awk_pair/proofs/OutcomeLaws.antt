-- What pairing comes to at a level, from what it comes to below.
use Rattle.std.proofs.Common.{◌≡◌, ℕ, ◌-◌, ◌<◌, ◌≤◌, Bool, true, false, ◌||◌}
use Rattle.std.proofs.Common.{refl, ap, sym, subst, ◌∙◌}
use Rattle.std.specs.Prelude.{List, map, filter, length, Option, Some, None}
use Rattle.std.specs.List.{list_any, flat_map, range_with_len}
use Rattle.std.proofs.lemmas.List.{length-map}
use Rattle.awk_base.proofs.Lists.{map-by}
use Rattle.awk_types.specs.DataType.{DataType}
use Rattle.awk_types.specs.Gives.{◌or◌}
use Rattle.awk_types.specs.ItemLimit.{item_limit, too_many}
use Rattle.awk_types.specs.Simple.{present}
use Rattle.awk_types.specs.Value.{Value}
use Rattle.awk_types.specs.declared.fault.Fault.{Fault}
use Rattle.awk_types.specs.declared.fault.Fault.TheVariants.{Size}
use Rattle.awk_types.proofs.ItemLimits.{over_limit, within_limit}
use Rattle.awk_lanes.specs.Column.{Column}
use Rattle.awk_lanes.specs.declared.kind.Kind.TheVariants.{I64}
use Rattle.awk_layout.specs.Layout.{Layout}
use Rattle.awk_columns.specs.Columns.{joined_items, is_present, offsets}
use Rattle.awk_columns.specs.ListClass.{Class, list_type}
use Rattle.awk_columns.specs.Parts.{AreParts}
use Rattle.awk_pair_operands.proofs.LevelLaws.{type-nulls, values-nulls, unevens-nulls, ends-nulls}
use Rattle.awk_pair_operands.proofs.LevelLaws.{value-present, type-lists, values-lists}
use Rattle.awk_pair_operands.proofs.LevelLaws.{unevens-lists, ends-lists}
use Rattle.awk_pair_operands.proofs.RowLaws.{or_null, index-rows, present-rows, joined-rows}
use Rattle.awk_pair_operands.proofs.RowLaws.{offsets-rows}
use Rattle.awk_pair.specs.Outcomes.{ArePairs, AreTooMany}
use Rattle.awk_pair_operands.specs.Paired.{Reach, paired_type, paired_value, takes_nulls}
use Rattle.awk_pair_operands.specs.Paired.{values_of_rows, any_uneven}
use Rattle.awk_frames.specs.Sizes.{levels_refused}
use Rattle.awk_frames.specs.Shape.{Shape, items, missing, shape, ends, offsets_column}
use Rattle.awk_pair_sides.specs.Levels.{level_class, item_types, some_option, goes_on}
use Rattle.awk_pair_sides.specs.Rows.{flags_index, lengths_offsets}
use Rattle.awk_pair_sides.proofs.RangeLaws.{length-range}
use Rattle.awk_pair_sides.specs.Sides.{is_whole, side_at, level_sides, common_length, inner_rows}
use Rattle.awk_pair_sides.specs.Sides.{inner_length, differ}

module _ (keep : Bool) where
  -- ---- nulls

  abbrev index_of_rows : List (List Value) → Column
  index_of_rows rows = record { kind = I64; items = flags_index 0 (map is_whole rows) }

  nulls_even : (d : ℕ) (ts : List DataType) (rows : List (List Value)) (b : Bool)
      → some_option ts ≡ true → some_option (map present ts) ≡ false
      → any_uneven keep d (map present ts) (filter is_whole rows) ≡ b
      → any_uneven keep d ts rows ≡ b
  nulls_even d ts rows b o n e = unevens-nulls keep d ts rows o n ∙ e

  nulls_levels : (r : Reach) (d : ℕ) (ts : List DataType) (rows : List (List Value))
      (f : Option Fault) → takes_nulls r d ts ≡ true → some_option ts ≡ true
      → some_option (map present ts) ≡ false
      → levels_refused (paired_type keep r d (map present ts))
      (values_of_rows keep r d (map present ts) (filter is_whole rows)) ≡ f
      → levels_refused (paired_type keep r d ts) (values_of_rows keep r d ts rows) ≡ f
  nulls_levels r d ts rows f h o n e =
      rw (type-nulls keep r d ts h o n, values-nulls keep r d ts rows h o n)
      (ap (levels_refused (paired_type keep r d (map present ts)))
      (present-rows (paired_value keep r d (map present ts))
      (value-present keep r d (map present ts) n) rows) ∙ e)

  nulls_shape : (r : Reach) (d : ℕ) (ts : List DataType) (rows : List (List Value))
      → takes_nulls r d ts ≡ true → some_option ts ≡ true → some_option (map present ts) ≡ false
      → shape (paired_type keep r d ts) (values_of_rows keep r d ts rows)
      ≡ missing (index_of_rows rows)
      (shape (paired_type keep r d (map present ts))
      (values_of_rows keep r d (map present ts) (filter is_whole rows)))
  nulls_shape r d ts rows h o n =
      rw (type-nulls keep r d ts h o n, values-nulls keep r d ts rows h o n)
      (ap (λ zs. missing (record { kind = I64; items = zs })
      (shape (paired_type keep r d (map present ts))
      (filter is_present (map (or_null (paired_value keep r d (map present ts))) rows))))
      (index-rows (paired_value keep r d (map present ts))
      (value-present keep r d (map present ts) n) 0 rows)
      ∙ ap (λ ws. missing (index_of_rows rows) (shape (paired_type keep r d (map present ts)) ws))
      (present-rows (paired_value keep r d (map present ts))
      (value-present keep r d (map present ts) n) rows))

  nulls_ends : (r : Reach) (d : ℕ) (ts : List DataType) (rows : List (List Value))
      → takes_nulls r d ts ≡ true → some_option ts ≡ true → some_option (map present ts) ≡ false
      → ends (paired_type keep r d ts) (values_of_rows keep r d ts rows)
      ≡ ends (paired_type keep r d (map present ts))
      (values_of_rows keep r d (map present ts) (filter is_whole rows))
  nulls_ends r d ts rows h o n =
      rw (type-nulls keep r d ts h o n, values-nulls keep r d ts rows h o n)
      (ap (ends (paired_type keep r d (map present ts)))
      (present-rows (paired_value keep r d (map present ts))
      (value-present keep r d (map present ts) n) rows))

  nulls_paired : (r : Reach) (d : ℕ) (ts : List DataType) (rows : List (List Value)) (s : Shape)
      (ys : List Layout) → takes_nulls r d ts ≡ true → some_option ts ≡ true
      → some_option (map present ts) ≡ false
      → ArePairs keep r d (map present ts) (filter is_whole rows) s ys
      → ArePairs keep r d ts rows (missing (index_of_rows rows) s) ys
  nulls_paired r d ts rows s ys h o n p = record {
    even = nulls_even d ts rows false o n p.even;
    few = nulls_levels r d ts rows None h o n p.few;
    paired = record {
      shape = ap (missing (index_of_rows rows)) p.paired.shape
          ∙ sym (nulls_shape r d ts rows h o n);
      leaves = subst (λ vs. AreParts 0 vs ys) (sym (nulls_ends r d ts rows h o n)) p.paired.leaves;
      types = p.paired.types ∙ sym (ends-nulls keep r d ts h n);
    };
  }

  -- rows with nulls are paired to an index over what those without are
  pub nulls_pairs : (r : Reach) (d : ℕ) (ts us : List DataType) (rows kept : List (List Value))
      (j : Column) (s : Shape) (ys : List Layout) → takes_nulls r d ts ≡ true
      → some_option ts ≡ true → us ≡ map present ts → some_option us ≡ false
      → kept ≡ filter is_whole rows → j ≡ index_of_rows rows → ArePairs keep r d us kept s ys
      → ArePairs keep r d ts rows (missing j s) ys
  nulls_pairs r d ts us rows kept j s ys h o u n k i p =
      subst (λ c. ArePairs keep r d ts rows (missing c s) ys) (sym i)
      (nulls_paired r d ts rows s ys h o (subst (λ vs. some_option vs ≡ false) u n)
      (subst (λ vs. ArePairs keep r d vs (filter is_whole rows) s ys) u
      (subst (λ ks. ArePairs keep r d us ks s ys) k p)))

  nulls_large : (r : Reach) (d : ℕ) (ts : List DataType) (rows : List (List Value))
      → takes_nulls r d ts ≡ true → some_option ts ≡ true → some_option (map present ts) ≡ false
      → AreTooMany keep r d (map present ts) (filter is_whole rows) → AreTooMany keep r d ts rows
  nulls_large r d ts rows h o n p = record {
    even = nulls_even d ts rows false o n p.even;
    large = nulls_levels r d ts rows (Some Size) h o n p.large;
  }

  pub nulls_too_many : (r : Reach) (d : ℕ) (ts us : List DataType) (rows kept : List (List Value))
      → takes_nulls r d ts ≡ true → some_option ts ≡ true → us ≡ map present ts
      → some_option us ≡ false → kept ≡ filter is_whole rows → AreTooMany keep r d us kept
      → AreTooMany keep r d ts rows
  nulls_too_many r d ts us rows kept h o u n k p =
      nulls_large r d ts rows h o (subst (λ vs. some_option vs ≡ false) u n)
      (subst (λ vs. AreTooMany keep r d vs (filter is_whole rows)) u
      (subst (λ ks. AreTooMany keep r d us ks) k p))

  pub nulls_unequal : (d : ℕ) (ts us : List DataType) (rows kept : List (List Value))
      → some_option ts ≡ true → us ≡ map present ts → some_option us ≡ false
      → kept ≡ filter is_whole rows → any_uneven keep d us kept ≡ true
      → any_uneven keep d ts rows ≡ true
  nulls_unequal d ts us rows kept o u n k e =
      nulls_even d ts rows true o (subst (λ vs. some_option vs ≡ false) u n)
      (subst (λ vs. any_uneven keep d vs (filter is_whole rows)
      ≡ true) u (subst (λ ks. any_uneven keep d us ks ≡ true) k e))

  -- ---- lists

  abbrev below_rows : List DataType → List (List Value) → List (List Value)
  below_rows us rows = flat_map (inner_rows keep us) rows

  or-true : (b : Bool) → b || true ≡ true
  or-true true = refl
  or-true false = refl

  levels-lists : (c : Class) (t : DataType) (vs : List Value)
      → levels_refused (list_type c t) vs
      ≡ too_many (length (joined_items vs)) or levels_refused t (joined_items vs)
  levels-lists None t vs = refl
  levels-lists (Some n) t vs = refl

  shape-lists : (c : Class) (t : DataType) (vs : List Value)
      → shape (list_type c t) vs ≡ items (offsets_column vs) c (shape t (joined_items vs))
  shape-lists None t vs = refl
  shape-lists (Some n) t vs = refl

  ends-of-lists : (c : Class) (t : DataType) (vs : List Value)
      → ends (list_type c t) vs ≡ ends t (joined_items vs)
  ends-of-lists None t vs = refl
  ends-of-lists (Some n) t vs = refl

  pub lists_unequal : (d : ℕ) (us : List DataType) (rows : List (List Value))
      → some_option us ≡ false → goes_on d us ≡ true → list_any (differ keep us) rows ≡ true
      → any_uneven keep d us rows ≡ true
  lists_unequal d us rows n g e = unevens-lists keep d us rows n g ∙ (rw e refl)

  pub lists_unequal_below : (d : ℕ) (us vs : List DataType) (rows below : List (List Value))
      → some_option us ≡ false → goes_on d us ≡ true → vs ≡ item_types us
      → below ≡ below_rows us rows → any_uneven keep (d - 1) vs below ≡ true
      → any_uneven keep d us rows ≡ true
  lists_unequal_below d us vs rows below n g t k e =
      let f : any_uneven keep (d - 1) (item_types us) (below_rows us rows)
      ≡ true = subst (λ ws. any_uneven keep (d - 1) ws (below_rows us rows)
      ≡ true) t (subst (λ ks. any_uneven keep (d - 1) vs ks ≡ true) k e) in
      unevens-lists keep d us rows n g ∙ (rw f (or-true (list_any (differ keep us) rows)))

  pub lists_even : (d : ℕ) (us : List DataType) (rows : List (List Value)) → some_option us ≡ false
      → goes_on d us ≡ true → list_any (differ keep us) rows ≡ false
      → any_uneven keep (d - 1) (item_types us) (below_rows us rows) ≡ false
      → any_uneven keep d us rows ≡ false
  lists_even d us rows n g e f = unevens-lists keep d us rows n g ∙ (rw (e, f) refl)

  lists_values : (r : Reach) (d : ℕ) (us : List DataType) (rows : List (List Value))
      → some_option us ≡ false → goes_on d us ≡ true
      → joined_items (values_of_rows keep r d us rows)
      ≡ values_of_rows keep r (d - 1) (item_types us) (below_rows us rows)
  lists_values r d us rows n g =
      ap joined_items (values-lists keep r d us rows n g)
      ∙ joined-rows (paired_value keep r (d - 1) (item_types us)) (inner_rows keep us) rows

  lists_refused : (r : Reach) (d : ℕ) (us : List DataType) (rows : List (List Value))
      → some_option us ≡ false → goes_on d us ≡ true
      → levels_refused (paired_type keep r d us) (values_of_rows keep r d us rows)
      ≡ too_many (length (below_rows us rows)) or levels_refused
      (paired_type keep r (d - 1) (item_types us))
      (values_of_rows keep r (d - 1) (item_types us) (below_rows us rows))
  lists_refused r d us rows n g =
      ap (λ t. levels_refused t (values_of_rows keep r d us rows)) (type-lists keep r d us n g)
      ∙ levels-lists (level_class keep us) (paired_type keep r (d - 1) (item_types us))
      (values_of_rows keep r d us rows)
      ∙ ap (λ vs. too_many (length vs) or levels_refused
      (paired_type keep r (d - 1) (item_types us)) vs) (lists_values r d us rows n g)
      ∙ ap (λ k. too_many k or levels_refused (paired_type keep r (d - 1) (item_types us))
      (values_of_rows keep r (d - 1) (item_types us) (below_rows us rows)))
      (length-map (below_rows us rows) (paired_value keep r (d - 1) (item_types us)))

  abbrev offsets_of_rows : List DataType → List (List Value) → Column
  offsets_of_rows us rows = record {
    kind = I64;
    items = lengths_offsets 0
        (map (inner_length keep us) rows);
  }

  lists_shape : (r : Reach) (d : ℕ) (us : List DataType) (rows : List (List Value))
      → some_option us ≡ false → goes_on d us ≡ true
      → shape (paired_type keep r d us) (values_of_rows keep r d us rows)
      ≡ items (record {
        kind = I64;
        items = lengths_offsets 0
            (map (λ vs. length (inner_rows keep us vs)) rows);
      }) (level_class keep us)
      (shape (paired_type keep r (d - 1) (item_types us))
      (values_of_rows keep r (d - 1) (item_types us) (below_rows us rows)))
  lists_shape r d us rows n g =
      ap (λ t. shape t (values_of_rows keep r d us rows)) (type-lists keep r d us n g)
      ∙ shape-lists (level_class keep us) (paired_type keep r (d - 1) (item_types us))
      (values_of_rows keep r d us rows)
      ∙ ap (λ vs. items (offsets_column (values_of_rows keep r d us rows)) (level_class keep us)
      (shape (paired_type keep r (d - 1) (item_types us)) vs)) (lists_values r d us rows n g)
      ∙ ap (λ zs. items (record { kind = I64; items = zs }) (level_class keep us)
      (shape (paired_type keep r (d - 1) (item_types us))
      (values_of_rows keep r (d - 1) (item_types us) (below_rows us rows))))
      (ap (offsets 0) (values-lists keep r d us rows n g)
      ∙ offsets-rows (paired_value keep r (d - 1) (item_types us)) (inner_rows keep us) 0 rows)

  lists_ends : (r : Reach) (d : ℕ) (us : List DataType) (rows : List (List Value))
      → some_option us ≡ false → goes_on d us ≡ true
      → ends (paired_type keep r d us) (values_of_rows keep r d us rows)
      ≡ ends (paired_type keep r (d - 1) (item_types us))
      (values_of_rows keep r (d - 1) (item_types us) (below_rows us rows))
  lists_ends r d us rows n g =
      ap (λ t. ends t (values_of_rows keep r d us rows)) (type-lists keep r d us n g)
      ∙ ends-of-lists (level_class keep us) (paired_type keep r (d - 1) (item_types us))
      (values_of_rows keep r d us rows)
      ∙ ap (ends (paired_type keep r (d - 1) (item_types us))) (lists_values r d us rows n g)

  pub inner-length : (us : List DataType) (vs : List Value)
      → length (inner_rows keep us vs) ≡ inner_length keep us vs
  inner-length us vs = length-map (range_with_len 0 (common_length (level_sides keep us vs)))
      (λ k. map (side_at k) (level_sides keep us vs))
      ∙ length-range 0 (common_length (level_sides keep us vs))

  offsets-inner : (us : List DataType) (rows : List (List Value))
      → record {
        kind = I64;
        items = lengths_offsets 0
            (map (λ vs. length (inner_rows keep us vs)) rows);
      } ≡ offsets_of_rows us rows
  offsets-inner us rows = ap (λ ns. record { kind = I64; items = lengths_offsets 0 ns })
      (map-by (λ vs. length (inner_rows keep us vs)) (inner_length keep us) (inner-length us) rows)

  lists_paired : (r : Reach) (d : ℕ) (us : List DataType) (rows : List (List Value)) (s : Shape)
      (ys : List Layout) → some_option us ≡ false → goes_on d us ≡ true
      → list_any (differ keep us) rows ≡ false → length (below_rows us rows) ≤ item_limit
      → ArePairs keep r (d - 1) (item_types us) (below_rows us rows) s ys
      → ArePairs keep r d us rows (items (offsets_of_rows us rows) (level_class keep us) s) ys
  lists_paired r d us rows s ys n g f l p = record {
    even = lists_even d us rows n g f p.even;
    few = lists_refused r d us rows n g ∙ (rw (within_limit (length (below_rows us rows)) l) p.few);
    paired = record {
      shape = ap (items (offsets_of_rows us rows) (level_class keep us)) p.paired.shape
          ∙ ap (λ o. items o (level_class keep us)
          (shape (paired_type keep r (d - 1) (item_types us))
          (values_of_rows keep r (d - 1) (item_types us) (below_rows us rows))))
          (sym (offsets-inner us rows))
          ∙ sym (lists_shape r d us rows n g);
      leaves = subst (λ vs. AreParts 0 vs ys) (sym (lists_ends r d us rows n g)) p.paired.leaves;
      types = p.paired.types ∙ sym (ends-lists keep r d us g);
    };
  }

  -- rows of lists are paired to offsets over what the rows below are
  pub lists_pairs : (r : Reach) (d : ℕ) (us vs : List DataType) (rows below : List (List Value))
      (o : Column) (c : Class) (s : Shape) (ys : List Layout) → some_option us ≡ false
      → goes_on d us ≡ true → list_any (differ keep us) rows ≡ false → vs ≡ item_types us
      → below ≡ below_rows us rows → length below ≤ item_limit → o ≡ offsets_of_rows us rows
      → c ≡ level_class keep us → ArePairs keep r (d - 1) vs below s ys
      → ArePairs keep r d us rows (items o c s) ys
  lists_pairs r d us vs rows below o c s ys n g f t k l i e p =
      subst (λ z. ArePairs keep r d us rows (items z c s) ys) (sym i)
      (subst (λ z. ArePairs keep r d us rows (items (offsets_of_rows us rows) z s) ys) (sym e)
      (lists_paired r d us rows s ys n g f (subst (λ ks. length ks ≤ item_limit) k l)
      (subst (λ ws. ArePairs keep r (d - 1) ws (below_rows us rows) s ys) t
      (subst (λ ks. ArePairs keep r (d - 1) vs ks s ys) k p))))

  lists_large_below : (r : Reach) (d : ℕ) (us : List DataType) (rows : List (List Value))
      → some_option us ≡ false → goes_on d us ≡ true → list_any (differ keep us) rows ≡ false
      → length (below_rows us rows) ≤ item_limit
      → AreTooMany keep r (d - 1) (item_types us) (below_rows us rows) → AreTooMany keep r d us rows
  lists_large_below r d us rows n g f l p = record {
    even = lists_even d us rows n g f p.even;
    large = lists_refused r d us rows n g
        ∙ (rw (within_limit (length (below_rows us rows)) l) p.large);
  }

  pub lists_too_many : (r : Reach) (d : ℕ) (us vs : List DataType) (rows below : List (List Value))
      → some_option us ≡ false → goes_on d us ≡ true → list_any (differ keep us) rows ≡ false
      → vs ≡ item_types us → below ≡ below_rows us rows → length below ≤ item_limit
      → AreTooMany keep r (d - 1) vs below → AreTooMany keep r d us rows
  lists_too_many r d us vs rows below n g f t k l p =
      lists_large_below r d us rows n g f (subst (λ ks. length ks ≤ item_limit) k l)
      (subst (λ ws. AreTooMany keep r (d - 1) ws (below_rows us rows)) t
      (subst (λ ks. AreTooMany keep r (d - 1) vs ks) k p))

  -- where a level itself has too many items
  pub lists_large : (r : Reach) (d : ℕ) (us : List DataType) (rows : List (List Value))
      → some_option us ≡ false → goes_on d us ≡ true → any_uneven keep d us rows ≡ false
      → item_limit < length (below_rows us rows) → AreTooMany keep r d us rows
  lists_large r d us rows n g e l = record {
    even = e;
    large = lists_refused r d us rows n g ∙ (rw (over_limit (length (below_rows us rows)) l) refl);
  }
