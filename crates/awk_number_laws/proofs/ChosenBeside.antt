-- A choice between an operand and itself is the operand as it is paired with the condition.
use Rattle.std.specs.Prelude.{◌≡◌, ℕ, ◌-◌, Bool, true, false, not, ◌||◌, List, [], ◌∷◌, map, length}
use Rattle.std.specs.Prelude.{Some, None, Ok, Err, Result, refl, if◌then◌else◌}
use Rattle.std.specs.List.{AllByRecursion, list_any, range_with_len}
use Rattle.std.proofs.Common.{ap, ap₂, sym, ◌∙◌}
use Rattle.awk_types.specs.DataType.{DataType, leaf, tup, types_from}
use Rattle.awk_types.specs.Datum.{Datum, datum_type}
use Rattle.awk_types.specs.Faults.{limit_refused}
use Rattle.awk_types.specs.Gives.{refused_or, ◌or◌}
use Rattle.awk_types.specs.ItemLimit.{too_many}
use Rattle.awk_types.specs.Parts.{number_of}
use Rattle.awk_types.specs.Predicates.{is_null}
use Rattle.awk_types.specs.Simple.{option_if}
use Rattle.awk_types.specs.Value.{Value, null}
use Rattle.awk_types.specs.declared.fault.Fault.{Fault}
use Rattle.awk_types.specs.declared.fault.Fault.TheVariants.{WrongType, Lengths}
use Rattle.awk_types.specs.declared.primitive.Primitive.{Primitive}
use Rattle.awk_columns.specs.Columns.{part_at}
use Rattle.awk_frames.specs.Framed.{over, over_type}
use Rattle.awk_frames.specs.Sizes.{sizes_refused}
use Rattle.awk_layout.specs.Filler.{datum}
use Rattle.awk_leaves.specs.Table.{choice_judged}
use Rattle.awk_leaves.specs.Values.{is_nonzero}
use Rattle.awk_ends.specs.Operands.{in_primitive, leaf_in}
use Rattle.awk_pair_operands.specs.Paired.{to_depth, types_at_ends, paired_type, paired_value}
use Rattle.awk_pair_operands.specs.Paired.{is_uneven}
use Rattle.awk_pair_operands.specs.Pairs.{are_uneven, below, datum_from, datum_side, first_rows}
use Rattle.awk_pair_operands.specs.Pairs.{has_wrong_end, is_array, leaf_types, pair_refused}
use Rattle.awk_pair_operands.specs.Pairs.{pair_type, pair_values, single_value, some_array}
use Rattle.awk_pair_sides.specs.Levels.{some_option}
use Rattle.awk_pair_sides.specs.Sides.{common_length, rows_of, side_at}
use Rattle.awk_pair_operands.proofs.TypeLaws.{never-wrong}
use Rattle.awk_choose.specs.Choice.{are_leaves, choose_of, chosen_in, far, result_type}
use Rattle.awk_law_chains.proofs.Chains.{Chain, chain_type, at_ends, IsAt, closing, length-each}
use Rattle.awk_law_chains.proofs.Chains.{over-chain, over_type-chain, sizes-chain, sizes-mapped}
use Rattle.awk_law_chains.proofs.ChainEnds.{twice-each}
use Rattle.awk_number_laws.specs.Leaves.{beside, paired_beside, part_beside}
use Rattle.awk_number_laws.proofs.LeafArrays.{shared, shared_type}
use Rattle.awk_number_laws.proofs.LeafChoices.{choose, twice, values_twice}
use Rattle.awk_number_laws.proofs.LeafTurned.{Anything, every}
use Rattle.awk_number_laws.proofs.TurnedLevels.{any_same}
use Rattle.awk_number_laws.proofs.DoubledLevels.{any_twice, pair_types, shared_twice, never_closing}
use Rattle.awk_number_laws.proofs.DoubledLevels.{all_leaves, leaves_twice, ends_twice, doubled}
use Rattle.awk_number_laws.proofs.DoubledLevels.{pair_at, triple_at, equal_twice, length_twice}
use Rattle.awk_number_laws.proofs.DoubledLevels.{uneven_twice, rows_doubled, value_twice, deep_at}

-- ---- data

chosen_same : (b : Bool) (x : Value) → (if b then x else x) ≡ x
chosen_same true x = refl
chosen_same false x = refl

choose_doubled : (v : Value) → choose (doubled v) ≡ part_beside v
choose_doubled v =
    ap (λ x. if is_null (part_at 0 v) then null else x)
    (chosen_same (is_nonzero (number_of (part_at 0 v))) (part_at 1 v))

module _ (c x : Datum) where
  abbrev ds : List Datum
  ds = c ∷ x ∷ []

  abbrev ds_twice : List Datum
  ds_twice = c ∷ x ∷ x ∷ []

  abbrev s : DataType
  s = datum_type c

  abbrev t : DataType
  t = datum_type x

  abbrev n : ℕ
  n = below far ds

  abbrev K : Chain
  K = shared false to_depth n (pair_types s t)

  abbrev vals : List Value
  vals = pair_values false far ds

  arrays_same : some_array ds_twice ≡ some_array ds
  arrays_same = any_twice (is_array c) (is_array x)

  below_same : below far ds_twice ≡ n
  below_same = ap (λ (b : Bool). if b then 64 - 1 else 64) arrays_same

  abbrev rows_when : Bool → List (List Value)
  rows_when b = if b then rows_of (datum_side c ∷ datum_side x ∷ [])
      else (single_value c ∷ single_value x ∷ []) ∷ []

  abbrev twice_when : Bool → List (List Value)
  twice_when b = if b then rows_of (datum_side c ∷ datum_side x ∷ datum_side x ∷ [])
      else values_twice (single_value c) (single_value x) ∷ []

  leaves_same : are_leaves ds_twice ≡ are_leaves ds
  leaves_same =
      ap (λ m. all_leaves (types_at_ends to_depth m (twice s t))) below_same ∙ leaves_twice n s t

  -- types

  type_is : pair_type false far ds
      ≡ chain_type K (tup (types_from (types_at_ends to_depth n (pair_types s t))))
  type_is = shared_type to_depth n (pair_types s t)

  twice_type_is : pair_type false far ds_twice
      ≡ chain_type K (tup (types_from (types_at_ends to_depth n (twice s t))))
  twice_type_is =
      ap (λ m. paired_type false to_depth m (twice s t)) below_same
      ∙ shared_type to_depth n (twice s t)
      ∙ ap (λ k. chain_type k (tup (types_from (types_at_ends to_depth n (twice s t)))))
      (shared_twice n s t)

  over_is : (u w : DataType) → u ≡ chain_type K (tup (types_from (types_at_ends to_depth n
      (pair_types s t)))) → over_type u w ≡ chain_type K w
  over_is u w e =
      ap (λ y. over_type y w) e
      ∙ over_type-chain K (tup (types_from (types_at_ends to_depth n (pair_types s t)))) w tt
      (λ q. let never : closing K ≡ false = never_closing n (pair_types s t) in cc)

  over_twice : (w : DataType) → over_type (pair_type false far ds_twice) w ≡ chain_type K w
  over_twice w =
      ap (λ y. over_type y w) twice_type_is
      ∙ over_type-chain K (tup (types_from (types_at_ends to_depth n (twice s t)))) w tt
      (λ q. let never : closing K ≡ false = never_closing n (pair_types s t) in cc)

  option_same : some_option (leaf_types far ds_twice) ≡ some_option (leaf_types far ds)
  option_same =
      ap (λ m. some_option (types_at_ends to_depth m (twice s t))) below_same ∙ ends_twice n s t

  result_same : (p : Primitive) → result_type p ds_twice ≡ result_type p ds
  result_same p =
      ap (λ o. over_type (pair_type false far ds_twice) (option_if o (leaf p))) option_same
      ∙ over_twice (option_if (some_option (leaf_types far ds)) (leaf p))
      ∙ sym (over_is (pair_type false far ds)
      (option_if (some_option (leaf_types far ds)) (leaf p)) type_is)

  -- values

  values_when : (b : Bool) → map (paired_value false to_depth n (twice s t)) (twice_when b)
      ≡ map (at_ends K doubled) (map (paired_value false to_depth n (pair_types s t)) (rows_when b))
  values_when true =
      rows_doubled (paired_value false to_depth n (twice s t))
      (paired_value false to_depth n (pair_types s t)) (at_ends K doubled) (datum_side c)
      (datum_side x) (λ v w. value_twice n s t v w)
  values_when false = ap (λ v. v ∷ []) (value_twice n s t (single_value c) (single_value x))

  values_same : pair_values false far ds_twice ≡ map (at_ends K doubled) vals
  values_same =
      ap₂ (λ m b. map (paired_value false to_depth m (twice s t)) (twice_when b)) below_same
      arrays_same
      ∙ values_when (some_array ds)

  values_at : AllByRecursion (IsAt K Anything) vals
  values_at =
      every K (paired_value false to_depth n (pair_types s t)) (first_rows ds)
      (λ vs. deep_at n (pair_types s t) vs)

  over_each : (u : DataType) (us : List DataType) (f : Value → Value) (vs : List Value)
      → u ≡ chain_type K (tup (types_from us)) → map (over u f) vs ≡ map (at_ends K f) vs
  over_each u us f [] e = refl
  over_each u us f (v ∷ vs) e =
      ap₂ (λ y ys. y ∷ ys)
      (ap (λ w. over w f v) e ∙ over-chain K (tup (types_from us)) f v tt)
      (over_each u us f vs e)

  chosen_values : map (over (pair_type false far ds_twice) choose) (pair_values false far ds_twice)
      ≡ map (over (pair_type false far ds) part_beside) vals
  chosen_values =
      over_each (pair_type false far ds_twice) (types_at_ends to_depth n (twice s t)) choose
      (pair_values false far ds_twice) twice_type_is
      ∙ ap (map (at_ends K choose)) values_same
      ∙ twice-each Anything doubled (λ v h. refl) choose part_beside (λ v h. choose_doubled v) K
      vals values_at
      ∙ sym (over_each (pair_type false far ds) (types_at_ends to_depth n (pair_types s t))
      part_beside vals type_is)

  -- faults

  uneven_when : (b : Bool) → list_any (is_uneven false n (twice s t)) (twice_when b)
      ≡ list_any (is_uneven false n (pair_types s t)) (rows_when b)
  uneven_when true =
      ap (λ m. list_any (is_uneven false n (twice s t))
      (map (triple_at (datum_side c) (datum_side x)) (range_with_len 0 m)))
      (length_twice (datum_side c) (datum_side x))
      ∙ any_same (is_uneven false n (twice s t)) (is_uneven false n (pair_types s t))
      (triple_at (datum_side c) (datum_side x)) (pair_at (datum_side c) (datum_side x))
      (range_with_len 0 (common_length (datum_side c ∷ datum_side x ∷ [])))
      (λ k. uneven_twice n s t (side_at k (datum_side c)) (side_at k (datum_side x)))
  uneven_when false =
      ap (λ b. b || false) (uneven_twice n s t (single_value c) (single_value x))

  uneven_same : are_uneven false far ds_twice ≡ are_uneven false far ds
  uneven_same =
      ap₂ (λ a b. not a || b) (equal_twice (datum_side c) (datum_side x))
      (ap₂ (λ m b. list_any (is_uneven false m (twice s t)) (twice_when b)) below_same arrays_same
      ∙ uneven_when (some_array ds))

  sizes_same : sizes_refused (pair_type false far ds_twice) (pair_values false far ds_twice)
      ≡ sizes_refused (pair_type false far ds) vals
  sizes_same =
      ap₂ sizes_refused twice_type_is values_same
      ∙ ap₂ (λ m o. too_many m or o) (length-each (at_ends K doubled) vals)
      (sizes-chain K (tup (types_from (types_at_ends to_depth n (twice s t))))
      (map (at_ends K doubled) vals) tt
      ∙ sizes-mapped K doubled vals)
      ∙ sym (ap (λ u. sizes_refused u vals) type_is
      ∙ ap (λ o. too_many (length vals) or o)
      (sizes-chain K (tup (types_from (types_at_ends to_depth n (pair_types s t)))) vals tt))

  wrong_same : has_wrong_end far ds_twice ≡ has_wrong_end far ds
  wrong_same =
      never-wrong (below far ds_twice) (twice s t) ∙ sym (never-wrong n (pair_types s t))

  refused_same : pair_refused false far ds_twice ≡ pair_refused false far ds
  refused_same =
      ap₂ (λ w o. (if w then Some WrongType else None) or o) wrong_same
      (ap₂ (λ u o. (if u then Some Lengths else None) or o) uneven_same sizes_same)

  -- the choice

  chosen_beside : (p : Primitive)
      → chosen_in (datum x) (datum x) ds_twice p ≡ paired_beside ds p
  chosen_beside p =
      ap₂ (λ o d. refused_or o d)
      (ap₂ (λ u o. limit_refused u or o) (result_same p) refused_same)
      (ap₂ (λ b u. datum_from b u (map (over (pair_type false far ds_twice) choose)
      (pair_values false far ds_twice))) arrays_same (result_same p)
      ∙ ap (datum_from (some_array ds) (result_type p ds)) chosen_values)

  each_primitive : (j : Result Primitive Fault)
      → in_primitive j (chosen_in (datum x) (datum x) ds_twice)
      ≡ in_primitive j (paired_beside ds)
  each_primitive (Ok p) = chosen_beside p
  each_primitive (Err f) = refl

  pub choice_beside : choose_of c (datum x) (datum x) ≡ beside c x
  choice_beside =
      ap₂ (λ b r. if not b then Err WrongType else r) leaves_same
      (each_primitive (choice_judged (leaf_in s) (leaf_in t) (leaf_in t)))
