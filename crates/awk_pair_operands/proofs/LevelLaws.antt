-- The definitions of pairing, a level at a time.
use Rattle.std.proofs.Common.{◌≡◌, ℕ, zero, suc, ◌-◌, Bool, true, false, not, ◌||◌, refl}
use Rattle.std.proofs.Common.{ap, arith, sym, ◌∙◌}
use Rattle.std.specs.Prelude.{List, map, filter, if◌then◌else◌, nat_lt}
use Rattle.std.specs.List.{list_any, flat_map}
use Rattle.awk_base.proofs.Lists.{map-by}
use Rattle.awk_types.specs.DataType.{DataType}
use Rattle.awk_types.specs.Simple.{option_if}
use Rattle.awk_types.specs.DataType.{opt}
use Rattle.awk_types.specs.Simple.{present}
use Rattle.awk_types.specs.Value.{Value, null, list, values_from}
use Rattle.awk_columns.specs.ListClass.{list_type}
use Rattle.awk_columns.specs.Columns.{is_present}
use Rattle.awk_pair_operands.proofs.RowLaws.{or_null, list_by, any-kept, any-below, any-by}
use Rattle.awk_pair_sides.proofs.LevelTypes.{presents-bare}
use Rattle.awk_pair_operands.specs.Paired.{Reach, to_leaves, to_depth, end_type, end_types}
use Rattle.awk_pair_operands.specs.Paired.{paired_type}
use Rattle.awk_pair_operands.specs.Paired.{types_at_ends, is_wrong, is_wrong_end, end_value}
use Rattle.awk_pair_operands.specs.Paired.{paired_value}
use Rattle.awk_pair_operands.specs.Paired.{is_uneven, is_to_leaves, takes_nulls, values_of_rows}
use Rattle.awk_pair_operands.specs.Paired.{any_uneven}
use Rattle.awk_pair_sides.specs.Levels.{opens, some_option, item_types, level_class, goes_on}
use Rattle.awk_pair_sides.specs.Sides.{misses, level_sides, rows_of, equally_long, is_whole}
use Rattle.awk_pair_sides.specs.Sides.{inner_rows, differ}

module _ (keep : Bool) where
  goes-suc : (d : ℕ) (ts : List DataType) → goes_on (suc d) ts ≡ opens ts
  goes-suc d ts = let e : nat_lt 0 (suc d) ≡ true = grind arith in rw e refl

  pub paired_value-level : (r : Reach) (d : ℕ) (ts : List DataType) (vs : List Value)
      → paired_value keep r d ts vs
      ≡ (if goes_on d ts then
      (if misses ts vs then null else list
      (values_from (map (paired_value keep r (d - 1) (item_types ts))
      (rows_of (level_sides keep ts vs))))) else end_value r ts vs)
  paired_value-level r zero ts vs = refl
  paired_value-level r (suc d) ts vs = let g : suc d - 1
      ≡ d = omega arith in rw (goes-suc d ts, g) refl

  pub paired_type-level : (r : Reach) (d : ℕ) (ts : List DataType)
      → paired_type keep r d ts
      ≡ (if goes_on d ts then option_if (some_option ts)
      (list_type (level_class keep ts) (paired_type keep r (d - 1) (item_types ts))) else end_type
      r ts)
  paired_type-level r zero ts = refl
  paired_type-level r (suc d) ts = let g : suc d - 1 ≡ d = omega arith in rw (goes-suc d ts, g) refl

  pub types_at_ends-level : (r : Reach) (d : ℕ) (ts : List DataType)
      → types_at_ends r d ts
      ≡ (if goes_on d ts then types_at_ends r (d - 1) (item_types ts) else end_types r ts)
  types_at_ends-level r zero ts = refl
  types_at_ends-level r (suc d) ts = let g : suc d - 1
      ≡ d = omega arith in rw (goes-suc d ts, g) refl

  pub is_wrong-level : (r : Reach) (d : ℕ) (ts : List DataType)
      → is_wrong r d ts ≡ (if goes_on d ts then is_wrong r (d - 1)
      (item_types ts) else is_wrong_end r ts)
  is_wrong-level r zero ts = refl
  is_wrong-level r (suc d) ts = let g : suc d - 1 ≡ d = omega arith in rw (goes-suc d ts, g) refl

  pub is_uneven-level : (d : ℕ) (ts : List DataType) (vs : List Value)
      → is_uneven keep d ts vs
      ≡ (if goes_on d ts then
      (if misses ts vs then false else not (equally_long (level_sides keep ts vs)) || list_any
      (is_uneven keep (d - 1) (item_types ts)) (rows_of (level_sides keep ts vs))) else false)
  is_uneven-level zero ts vs = refl
  is_uneven-level (suc d) ts vs = let g : suc d - 1 ≡ d = omega arith in rw (goes-suc d ts, g) refl

  -- ---- lists of a level without nulls

  pub type-lists : (r : Reach) (d : ℕ) (us : List DataType) → some_option us ≡ false
      → goes_on d us ≡ true
      → paired_type keep r d us
      ≡ list_type (level_class keep us) (paired_type keep r (d - 1) (item_types us))
  type-lists r d us e g = paired_type-level r d us ∙ (rw (g, e) refl)

  value-lists : (r : Reach) (d : ℕ) (us : List DataType) → some_option us ≡ false
      → goes_on d us ≡ true → (vs : List Value)
      → paired_value keep r d us vs
      ≡ list_by (paired_value keep r (d - 1) (item_types us)) (inner_rows keep us) vs
  value-lists r d us e g vs = paired_value-level r d us vs ∙ (rw (g, e) refl)

  pub values-lists : (r : Reach) (d : ℕ) (us : List DataType) (rows : List (List Value))
      → some_option us ≡ false → goes_on d us ≡ true
      → values_of_rows keep r d us rows
      ≡ map (list_by (paired_value keep r (d - 1) (item_types us)) (inner_rows keep us)) rows
  values-lists r d us rows e g = map-by (paired_value keep r d us)
      (list_by (paired_value keep r (d - 1) (item_types us)) (inner_rows keep us))
      (value-lists r d us e g) rows

  uneven-lists : (d : ℕ) (us : List DataType) → some_option us ≡ false → goes_on d us ≡ true
      → (vs : List Value) → is_uneven keep d us vs
      ≡ not (equally_long (level_sides keep us vs)) || list_any
      (is_uneven keep (d - 1) (item_types us)) (inner_rows keep us vs)
  uneven-lists d us e g vs = is_uneven-level d us vs ∙ (rw (g, e) refl)

  pub unevens-lists : (d : ℕ) (us : List DataType) (rows : List (List Value))
      → some_option us ≡ false → goes_on d us ≡ true
      → any_uneven keep d us rows
      ≡ list_any (differ keep us) rows || any_uneven keep (d - 1) (item_types us)
      (flat_map (inner_rows keep us) rows)
  unevens-lists d us rows e g =
      any-by (is_uneven keep d us) (λ vs. differ keep us vs || list_any
      (is_uneven keep (d - 1) (item_types us)) (inner_rows keep us vs)) (uneven-lists d us e g) rows
      ∙ any-below (differ keep us) (is_uneven keep (d - 1) (item_types us))
      (inner_rows keep us) rows

  pub ends-lists : (r : Reach) (d : ℕ) (us : List DataType) → goes_on d us ≡ true
      → types_at_ends r d us ≡ types_at_ends r (d - 1) (item_types us)
  ends-lists r d us g = types_at_ends-level r d us ∙ (rw g refl)

  -- ---- nulls of a level, taken out of the rows

  goes-present : (d : ℕ) (ts : List DataType) → map present (map present ts) ≡ map present ts
      → goes_on d (map present ts) ≡ goes_on d ts
  goes-present d ts e = rw e refl

  takes : (r : Reach) (d : ℕ) (ts : List DataType) (b : Bool) → goes_on d ts ≡ b
      → takes_nulls r d ts ≡ true → is_to_leaves r || b ≡ true
  takes r d ts b e h = rw (← e) h

  type-nulls-by : (r : Reach) (d : ℕ) (ts : List DataType) (b : Bool) → is_to_leaves r || b ≡ true
      → some_option ts ≡ true → some_option (map present ts) ≡ false
      → map present (map present ts) ≡ map present ts
      → (if b then option_if (some_option ts)
      (list_type (level_class keep ts) (paired_type keep r (d - 1) (item_types ts))) else end_type
      r ts)
      ≡ opt (if b then option_if (some_option (map present ts))
      (list_type (level_class keep (map present ts))
      (paired_type keep r (d - 1) (item_types (map present ts)))) else end_type r (map present ts))
  type-nulls-by r d ts true h o n e = rw (e, o, n) refl
  type-nulls-by to_leaves d ts false h o n e = rw (e, o, n) refl
  type-nulls-by to_depth d ts false h o n e = cc

  pub type-nulls : (r : Reach) (d : ℕ) (ts : List DataType) → takes_nulls r d ts ≡ true
      → some_option ts ≡ true → some_option (map present ts) ≡ false
      → paired_type keep r d ts ≡ opt (paired_type keep r d (map present ts))
  type-nulls r d ts h o n =
      let e : map present (map present ts) ≡ map present ts = presents-bare (map present ts) n in
      paired_type-level r d ts
      ∙ type-nulls-by r d ts (goes_on d ts) h o n e
      ∙ ap opt (sym (paired_type-level r d (map present ts)
      ∙ ap (λ b. if b then option_if (some_option (map present ts))
      (list_type (level_class keep (map present ts))
      (paired_type keep r (d - 1) (item_types (map present ts)))) else end_type r (map present ts))
      (goes-present d ts e)))

  value-nulls-by : (r : Reach) (d : ℕ) (ts : List DataType) (vs : List Value) (b w : Bool)
      → is_to_leaves r || b ≡ true → is_whole vs ≡ w → some_option ts ≡ true
      → some_option (map present ts) ≡ false → map present (map present ts) ≡ map present ts
      → (if b then (if misses ts vs then null else list
      (values_from (map (paired_value keep r (d - 1) (item_types ts))
      (rows_of (level_sides keep ts vs))))) else end_value r ts vs)
      ≡ (if not w then null else (if b then
      (if misses (map present ts) vs then null else list
      (values_from (map (paired_value keep r (d - 1) (item_types (map present ts)))
      (rows_of (level_sides keep (map present ts) vs))))) else end_value r (map present ts) vs))
  value-nulls-by r d ts vs true true h k o n e = rw (k, e, o, n) refl
  value-nulls-by r d ts vs true false h k o n e = rw (k, o) refl
  value-nulls-by to_leaves d ts vs false true h k o n e = rw (k, o, n) refl
  value-nulls-by to_leaves d ts vs false false h k o n e = rw (k, o) refl
  value-nulls-by to_depth d ts vs false w h k o n e = cc

  value-nulls : (r : Reach) (d : ℕ) (ts : List DataType) → takes_nulls r d ts ≡ true
      → some_option ts ≡ true → some_option (map present ts) ≡ false → (vs : List Value)
      → paired_value keep r d ts vs ≡ or_null (paired_value keep r d (map present ts)) vs
  value-nulls r d ts h o n vs =
      let e : map present (map present ts) ≡ map present ts = presents-bare (map present ts) n in
      paired_value-level r d ts vs
      ∙ value-nulls-by r d ts vs (goes_on d ts) (is_whole vs) h refl o n e
      ∙ ap (λ w. if not (is_whole vs) then null else w)
      (sym (paired_value-level r d (map present ts) vs
      ∙ ap (λ b. if b then (if misses (map present ts) vs then null else list
      (values_from (map (paired_value keep r (d - 1) (item_types (map present ts)))
      (rows_of (level_sides keep (map present ts) vs))))) else end_value r (map present ts) vs)
      (goes-present d ts e)))

  pub values-nulls : (r : Reach) (d : ℕ) (ts : List DataType) (rows : List (List Value))
      → takes_nulls r d ts ≡ true → some_option ts ≡ true → some_option (map present ts) ≡ false
      → values_of_rows keep r d ts rows
      ≡ map (or_null (paired_value keep r d (map present ts))) rows
  values-nulls r d ts rows h o n = map-by (paired_value keep r d ts)
      (or_null (paired_value keep r d (map present ts))) (value-nulls r d ts h o n) rows

  uneven-nulls-by : (d : ℕ) (ts : List DataType) (vs : List Value) (b w : Bool) → is_whole vs ≡ w
      → some_option ts ≡ true → some_option (map present ts) ≡ false
      → map present (map present ts) ≡ map present ts
      → (if b then (if misses ts vs then false else not
      (equally_long (level_sides keep ts vs)) || list_any (is_uneven keep (d - 1) (item_types ts))
      (rows_of (level_sides keep ts vs))) else false)
      ≡ (if not w then false else (if b then
      (if misses (map present ts) vs then false else not
      (equally_long (level_sides keep (map present ts) vs)) || list_any
      (is_uneven keep (d - 1) (item_types (map present ts)))
      (rows_of (level_sides keep (map present ts) vs))) else false))
  uneven-nulls-by d ts vs true true k o n e = rw (k, e, o, n) refl
  uneven-nulls-by d ts vs true false k o n e = rw (k, o) refl
  uneven-nulls-by d ts vs false true k o n e = refl
  uneven-nulls-by d ts vs false false k o n e = refl

  uneven-nulls : (d : ℕ) (ts : List DataType) → some_option ts ≡ true
      → some_option (map present ts) ≡ false → (vs : List Value)
      → is_uneven keep d ts vs
      ≡ (if not (is_whole vs) then false else is_uneven keep d (map present ts) vs)
  uneven-nulls d ts o n vs =
      let e : map present (map present ts) ≡ map present ts = presents-bare (map present ts) n in
      is_uneven-level d ts vs
      ∙ uneven-nulls-by d ts vs (goes_on d ts) (is_whole vs) refl o n e
      ∙ ap (λ w. if not (is_whole vs) then false else w)
      (sym (is_uneven-level d (map present ts) vs
      ∙ ap (λ b. if b then (if misses (map present ts) vs then false else not
      (equally_long (level_sides keep (map present ts) vs)) || list_any
      (is_uneven keep (d - 1) (item_types (map present ts)))
      (rows_of (level_sides keep (map present ts) vs))) else false) (goes-present d ts e)))

  pub unevens-nulls : (d : ℕ) (ts : List DataType) (rows : List (List Value))
      → some_option ts ≡ true → some_option (map present ts) ≡ false
      → any_uneven keep d ts rows ≡ any_uneven keep d (map present ts) (filter is_whole rows)
  unevens-nulls d ts rows o n =
      any-by (is_uneven keep d ts) (λ vs. if not (is_whole vs) then false else is_uneven keep d
      (map present ts) vs) (uneven-nulls d ts o n) rows
      ∙ any-kept (is_uneven keep d (map present ts)) rows

  ends-nulls-by : (r : Reach) (d : ℕ) (ts : List DataType) (b : Bool) → is_to_leaves r || b ≡ true
      → map present (map present ts) ≡ map present ts
      → (if b then types_at_ends r (d - 1) (item_types ts) else end_types r ts)
      ≡ (if b then types_at_ends r (d - 1) (item_types (map present ts)) else end_types r
      (map present ts))
  ends-nulls-by r d ts true h e = rw e refl
  ends-nulls-by to_leaves d ts false h e = rw e refl
  ends-nulls-by to_depth d ts false h e = cc

  pub ends-nulls : (r : Reach) (d : ℕ) (ts : List DataType) → takes_nulls r d ts ≡ true
      → some_option (map present ts) ≡ false
      → types_at_ends r d ts ≡ types_at_ends r d (map present ts)
  ends-nulls r d ts h n =
      let e : map present (map present ts) ≡ map present ts = presents-bare (map present ts) n in
      types_at_ends-level r d ts
      ∙ ends-nulls-by r d ts (goes_on d ts) h e
      ∙ sym (types_at_ends-level r d (map present ts)
      ∙ ap (λ b. if b then types_at_ends r (d - 1) (item_types (map present ts)) else end_types r
      (map present ts)) (goes-present d ts e))

  -- what is paired of operands without options is there
  end-present : (r : Reach) (us : List DataType) (vs : List Value) → some_option us ≡ false
      → is_present (end_value r us vs) ≡ true
  end-present to_leaves us vs n = rw n refl
  end-present to_depth us vs n = refl

  level-present : (b : Bool) (r : Reach) (us : List DataType) (vs : List Value) (ws : List Value)
      → some_option us ≡ false
      → is_present (if b then
      (if misses us vs then null else list (values_from ws)) else end_value r us vs) ≡ true
  level-present true r us vs ws n = rw n refl
  level-present false r us vs ws n = end-present r us vs n

  pub value-present : (r : Reach) (d : ℕ) (us : List DataType) → some_option us ≡ false
      → (vs : List Value) → is_present (paired_value keep r d us vs) ≡ true
  value-present r d us n vs = ap is_present (paired_value-level r d us vs)
      ∙ level-present (goes_on d us) r us vs
      (map (paired_value keep r (d - 1) (item_types us)) (rows_of (level_sides keep us vs))) n
