-- The laws of tuples.
use Rattle.std.proofs.Common.{◌≡◌, ℕ, ◌<◌, refl, ap, sym, ◌∙◌, arith, true≢false}
use Rattle.std.proofs.Common.{List, [], ◌∷◌, map, length, get_or}
use Rattle.std.specs.Prelude.{pos, Bool, true, false, Option, Some, None, Ok, option_map}
use Rattle.std.specs.Prelude.{if◌then◌else◌}
use Rattle.std.specs.List.{list_all}
use Rattle.std.proofs.lemmas.List.FromFn.{get_or-map-range_with_len, length-map-range_with_len}
use Rattle.std.proofs.lemmas.Simd.{map-map}
use Rattle.awk_types.specs.DataType.{DataType}
use Rattle.awk_types.specs.Datum.{Datum, arr}
use Rattle.awk_types.specs.Faults.{limit_fault}
use Rattle.awk_types.specs.Gives.{◌or◌}
use Rattle.awk_types.specs.Limit.{limit}
use Rattle.awk_types.specs.Value.{Value, null, list, values_from}
use Rattle.awk_types.proofs.RefusalLaws.{refused_or-Ok}
use Rattle.awk_types.proofs.Trees.{value_list-from}
use Rattle.awk_columns.specs.Columns.{is_present, list_items}
use Rattle.awk_places.specs.Places.{place_count}
use Rattle.awk_merge_operands.specs.Concatenate.{operand_items, row_count, row_of}
use Rattle.awk_merge_operands.specs.declared.operands.Axis.TheVariants.{Arrays, Rows}
use Rattle.awk_cartesian.specs.Cartesian.{cartesian_of, product_by, product_fault}
use Rattle.awk_products.specs.Tuples.{tuples_of}
use Rattle.awk_cartesian.specs.Cartesian.{product_type, item_types, row_tuples, rows_tuples}
use Rattle.awk_cartesian.proofs.CountLaws.{length-tuples}
use Rattle.awk_laws.specs.Tuples.{TupleLaws}
use Rattle.awk_laws.proofs.AxisCounts.{nested_count, nested_pick, nested_repeated}
use Rattle.awk_laws.proofs.AxisTuples.{nested_tuples}
use Rattle.awk_laws.proofs.ChoiceLaws.{binomial-factorial}
use Rattle.awk_laws.proofs.ChoiceLaws.{all_choices, each_choice, choices_in_order}
use Rattle.awk_laws.proofs.ChoiceLaws.{not_before_itself}
use Rattle.awk_laws.proofs.TuplePicks.{count_is, count_repeated_is, pick_is}

-- ---- products

lengths-of : (ds : List Datum) → map length (map operand_items ds)
    ≡ map (λ d. length (operand_items d)) ds
lengths-of [] = refl
lengths-of (d ∷ ds) = ap (λ ns. length (operand_items d) ∷ ns) (lengths-of ds)

products_are : (places : Bool) (ds : List Datum) (t : DataType) (vs : List Value)
    → cartesian_of (pos 0) places ds ≡ Ok (arr t vs)
    → length vs ≡ place_count (map (λ d. length (operand_items d)) ds)
products_are places ds t vs e = go (item_types Arrays ds) e
  where
    go : (o : Option (List DataType)) → product_by Arrays places ds o ≡ Ok (arr t vs)
        → length vs ≡ place_count (map (λ d. length (operand_items d)) ds)
    go None f = absurd (cc)
    go (Some ts) f =
        let u = product_type Arrays places ds ts in
        let vss = map operand_items ds in
        let k = refused_or-Ok (option_map limit_fault (limit u) or product_fault Arrays places vss)
        (arr u (tuples_of places vss)) (arr t vs) f in
        let same : tuples_of places vss ≡ vs = items_same u t (tuples_of places vss) vs k.1 in
        ap length (sym same) ∙ length-tuples places vss ∙ ap place_count (lengths-of ds)
      where
        items_same : (u t : DataType) (us vs : List Value) → arr u us ≡ arr t vs → us ≡ vs
        items_same u t us vs e = cc

-- ---- row by row

row_length : (places : Bool) (ws : List Value) (v : Value) → row_tuples places ws ≡ v
    → is_present v ≡ true
    → length (list_items v) ≡ place_count (map (λ w. length (list_items w)) ws)
row_length places ws v e p = go (list_all is_present ws) e
  where
    go : (b : Bool)
        → (if b then list (values_from (tuples_of places (map list_items ws))) else null) ≡ v
        → length (list_items v) ≡ place_count (map (λ w. length (list_items w)) ws)
    go true f =
        ap (λ x. length (list_items x)) (sym f)
        ∙ ap length (value_list-from (tuples_of places (map list_items ws)))
        ∙ length-tuples places (map list_items ws)
        ∙ ap place_count (map-map length list_items ws)
    go false f = absurd (true≢false (sym (ap is_present f ∙ p)))

rows_are : (places : Bool) (ds : List Datum) (t : DataType) (vs : List Value)
    → cartesian_of (pos 1) places ds ≡ Ok (arr t vs)
    → vs ≡ rows_tuples places (map operand_items ds)
rows_are places ds t vs e = go (item_types Rows ds) e
  where
    go : (o : Option (List DataType)) → product_by Rows places ds o ≡ Ok (arr t vs)
        → vs ≡ rows_tuples places (map operand_items ds)
    go None f = absurd (cc)
    go (Some ts) f =
        let u = product_type Rows places ds ts in
        let vss = map operand_items ds in
        let k = refused_or-Ok (option_map limit_fault (limit u) or product_fault Rows places vss)
        (arr u (rows_tuples places vss)) (arr t vs) f in
        items_same u t (rows_tuples places vss) vs k.1
      where
        items_same : (u t : DataType) (us vs : List Value) → arr u us ≡ arr t vs → vs ≡ us
        items_same u t us vs e = cc

products_of_rows_are : (places : Bool) (ds : List Datum) (t : DataType) (vs : List Value)
    → cartesian_of (pos 1) places ds ≡ Ok (arr t vs) → (i : ℕ) → i < length vs
    → is_present (get_or vs i null) ≡ true → length (list_items (get_or vs i null))
    ≡ place_count (map (λ v. length (list_items v)) (row_of (map operand_items ds) i))
products_of_rows_are places ds t vs e i l p =
    let vss = map operand_items ds in
    let f = λ (j : ℕ). row_tuples places (row_of vss j) in
    let n = row_count vss in
    let is = rows_are places ds t vs e in
    let m : i < n = omega (arith, l, ap length is, length-map-range_with_len f 0 n) in
    row_length places (row_of vss i) (get_or vs i null)
    (sym (ap (λ ws. get_or ws i null) is
    ∙ get_or-map-range_with_len f 0 n i i null m (omega arith))) p

pub tuples_law : TupleLaws
tuples_law = record {
  count = count_is;
  count_repeated = count_repeated_is;
  factorials = binomial-factorial;
  choices = all_choices;
  each = each_choice;
  in_order = choices_in_order;
  not_before_itself = not_before_itself;
  pick = pick_is;
  nested = nested_tuples;
  nested_count = nested_count;
  nested_repeated = nested_repeated;
  nested_pick = nested_pick;
  product = length-tuples;
  products = products_are;
  products_of_rows = products_of_rows_are;
}
