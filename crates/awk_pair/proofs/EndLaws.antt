-- The ends of a pairing: the operands' columns as they stand.
use Rattle.std.proofs.Common.{◌≡◌, ℕ, suc, ◌+◌, Bool, false, ◌&&◌, refl, ap, arith, sym, subst, ◌∙◌}
use Rattle.std.specs.Prelude.{List, [], ◌∷◌, map, length, get_or}
use Rattle.std.specs.List.{list_any, range_with_len}
use Rattle.awk_types.specs.DataType.{DataType, tup, types_from}
use Rattle.awk_types.specs.Value.{Value, null, row, values_from}
use Rattle.awk_layout.specs.Layout.{Layout}
use Rattle.awk_layout.specs.Valid.{len}
use Rattle.awk_layout.specs.Item.{item}
use Rattle.awk_types.specs.Simple.{simple_value}
use Rattle.awk_layout.specs.Typing.{layout_type, array_type, array_items}
use Rattle.std.proofs.lemmas.Simd.{map-map}
use Rattle.std.proofs.lemmas.List.{length-map}
use Rattle.awk_base.proofs.Lists.{map-by}
use Rattle.awk_types.proofs.Trees.{value_list-from}
use Rattle.awk_columns.specs.Columns.{part_at}
use Rattle.awk_columns.specs.Parts.{AreParts}
use Rattle.awk_open.specs.Opened.{AreLong}
use Rattle.awk_gather.specs.Arrays.{array_item}
use Rattle.awk_pair_operands.proofs.LevelLaws.{paired_value-level, paired_type-level}
use Rattle.awk_pair_operands.proofs.LevelLaws.{types_at_ends-level, is_uneven-level}
use Rattle.awk_pair_operands.proofs.RowLaws.{any-by}
use Rattle.awk_pair.specs.Outcomes.{ArePairs}
use Rattle.awk_pair_operands.specs.Paired.{Reach, to_leaves, to_depth, end_type, end_types}
use Rattle.awk_pair_operands.specs.Paired.{paired_type, types_at_ends, end_value, is_uneven}
use Rattle.awk_pair_operands.specs.Paired.{paired_value, is_to_leaves, values_of_rows, any_uneven}
use Rattle.awk_frames.specs.Sizes.{levels_refused}
use Rattle.awk_frames.specs.Shape.{leaves, shape, ends}
use Rattle.awk_pair_sides.proofs.LevelTypes.{presents-bare}
use Rattle.awk_pair_sides.proofs.RangeLaws.{length-range}
use Rattle.awk_pair_sides.specs.Levels.{some_option, goes_on}
use Rattle.awk_pair_sides.specs.Rows.{row_at, rows_at}

module _ (keep : Bool) where
  -- a row of a row's items
  abbrev as_row : List Value → Value
  as_row vs = row (values_from vs)

  -- whether operands may be optional at the end
  abbrev IsEnd : Reach → ℕ → List DataType → Type 0
  IsEnd r d ts = (goes_on d ts ≡ false) × (is_to_leaves r && some_option ts ≡ false)

  end-bare : (r : Reach) (ts : List DataType) → is_to_leaves r && some_option ts ≡ false
      → end_types r ts ≡ ts
  end-bare to_leaves ts e = presents-bare ts e
  end-bare to_depth ts e = refl

  end-typed : (r : Reach) (ts : List DataType) → is_to_leaves r && some_option ts ≡ false
      → end_type r ts ≡ tup (types_from ts)
  end-typed to_leaves ts e = rw (e, presents-bare ts e) refl
  end-typed to_depth ts e = refl

  end-valued : (r : Reach) (ts : List DataType) (vs : List Value)
      → is_to_leaves r && some_option ts ≡ false → end_value r ts vs ≡ as_row vs
  end-valued to_leaves ts vs e = rw e refl
  end-valued to_depth ts vs e = refl

  pub end_type-is : (r : Reach) (d : ℕ) (ts : List DataType) → IsEnd r d ts
      → paired_type keep r d ts ≡ tup (types_from ts)
  end_type-is r d ts h = paired_type-level keep r d ts ∙ (rw h.0 (end-typed r ts h.1))

  value-is : (r : Reach) (d : ℕ) (ts : List DataType) → IsEnd r d ts → (vs : List Value)
      → paired_value keep r d ts vs ≡ as_row vs
  value-is r d ts h vs = paired_value-level keep r d ts vs ∙ (rw h.0 (end-valued r ts vs h.1))

  pub end_values-are : (r : Reach) (d : ℕ) (ts : List DataType) (rows : List (List Value))
      → IsEnd r d ts → values_of_rows keep r d ts rows ≡ map as_row rows
  end_values-are r d ts rows h = map-by (paired_value keep r d ts) as_row (value-is r d ts h) rows

  pub end_types-are : (r : Reach) (d : ℕ) (ts : List DataType) → IsEnd r d ts
      → types_at_ends r d ts ≡ ts
  end_types-are r d ts h = types_at_ends-level keep r d ts ∙ (rw h.0 (end-bare r ts h.1))

  even-is : (d : ℕ) (ts : List DataType) → goes_on d ts ≡ false → (vs : List Value)
      → is_uneven keep d ts vs ≡ false
  even-is d ts g vs = is_uneven-level keep d ts vs ∙ (rw g refl)

  none-of : (rows : List (List Value)) → list_any (λ vs. false) rows ≡ false
  none-of [] = refl
  none-of (vs ∷ rows) = none-of rows

  pub end_even : (d : ℕ) (ts : List DataType) (rows : List (List Value)) → goes_on d ts ≡ false
      → any_uneven keep d ts rows ≡ false
  end_even d ts rows g = any-by (is_uneven keep d ts) (λ vs. false) (even-is d ts g) rows
      ∙ none-of rows

  -- ---- columns of rows

  -- the rows have the items of these arrays from place k on
  abbrev HasFrom : ℕ → List Layout → List Layout → Type 0
  HasFrom k xs ys = (i j : ℕ) → get_or (row_at xs i) (k + j) null ≡ get_or (row_at ys i) j null

  part-of-row : (k : ℕ) (vs : List Value) → part_at k (as_row vs) ≡ get_or vs k null
  part-of-row k vs = ap (λ ws. get_or ws k null) (value_list-from vs)

  map-map-row : (k : ℕ) (f : ℕ → List Value) (is : List ℕ)
      → map (part_at k) (map as_row (map f is)) ≡ map (λ i. get_or (f i) k null) is
  map-map-row k f [] = refl
  map-map-row k f (i ∷ is) = ap (λ v. v ∷ map (part_at k) (map as_row (map f is)))
      (part-of-row k (f i)) ∙ ap (λ vs. get_or (f i) k null ∷ vs) (map-map-row k f is)

  map-nat : (f g : ℕ → Value) → ((i : ℕ) → f i ≡ g i) → (is : List ℕ) → map f is ≡ map g is
  map-nat f g e [] = refl
  map-nat f g e (i ∷ is) = ap (λ v. v ∷ map f is) (e i) ∙ ap (λ vs. g i ∷ vs) (map-nat f g e is)

  array_items-is : (x : Layout) → array_items x ≡ map (array_item x) (range_with_len 0 (len x))
  array_items-is x = map-map (simple_value (layout_type x)) (item x) (range_with_len 0 (len x))

  parts_from : (k n : ℕ) (xs ys : List Layout) → HasFrom k xs ys → AreLong n ys
      → AreParts k (map as_row (rows_at xs n)) ys
  parts_from k n xs [] h l = tt
  parts_from k n xs (y ∷ ys) h l = (
    array_items-is y ∙ ap (λ m. map (array_item y) (range_with_len 0 m)) l.0
        ∙ sym (map-map-row k (row_at xs) (range_with_len 0 n)
        ∙ map-nat (λ i. get_or (row_at xs i) k null) (array_item y) (λ i. at-zero i)
        (range_with_len 0 n)),
    parts_from (suc k) n xs ys (λ i j. rest i j) l.1,
  )
    where
      at-zero : (i : ℕ) → get_or (row_at xs i) k null ≡ array_item y i
      at-zero i = let e : k + 0 ≡ k = omega arith in subst (λ m. get_or (row_at xs i) m null
          ≡ array_item y i) e (h i 0)

      rest : (i j : ℕ) → get_or (row_at xs i) (suc k + j) null ≡ get_or (row_at ys i) j null
      rest i j = let e : k + suc j ≡ suc k + j = omega arith in subst
          (λ m. get_or (row_at xs i) m null ≡ get_or (row_at ys i) j null) e (h i (suc j))

  pub columns_parts : (n : ℕ) (xs : List Layout) → AreLong n xs
      → AreParts 0 (map as_row (rows_at xs n)) xs
  columns_parts n xs l = parts_from 0 n xs xs (λ i j. let e : 0 + j
      ≡ j = omega arith in ap (λ m. get_or (row_at xs i) m null) e) l

  count-rows : (n : ℕ) (xs : List Layout) → length (map as_row (rows_at xs n)) ≡ n
  count-rows n xs = length-map (rows_at xs n) as_row ∙ length-map (range_with_len 0 n) (row_at xs)
      ∙ length-range 0 n

  -- at the ends the operands' columns are what is paired
  pub end_pairs : (r : Reach) (d n : ℕ) (xs : List Layout) → goes_on d (map array_type xs) ≡ false
      → is_to_leaves r && some_option (map array_type xs) ≡ false → AreLong n xs
      → ArePairs keep r d (map array_type xs) (rows_at xs n) (leaves n) xs
  end_pairs r d n xs g e l = record {
    even = end_even d (map array_type xs) (rows_at xs n) g;
    few = ap (λ t. levels_refused t (values_of_rows keep r d (map array_type xs) (rows_at xs n)))
        (end_type-is r d (map array_type xs) (g, e));
    paired = record {
      shape = ap leaves (sym (count-rows n xs)) ∙ sym (
          ap (λ t. shape t (values_of_rows keep r d (map array_type xs) (rows_at xs n)))
          (end_type-is r d (map array_type xs) (g, e))
          ∙ ap (λ vs. leaves (length vs))
          (end_values-are r d (map array_type xs) (rows_at xs n) (g, e)));
      leaves = subst (λ vs. AreParts 0 vs xs) (sym (
          ap (λ t. ends t (values_of_rows keep r d (map array_type xs) (rows_at xs n)))
          (end_type-is r d (map array_type xs) (g, e))
          ∙ end_values-are r d (map array_type xs) (rows_at xs n) (g, e)))
          (columns_parts n xs l);
      types = sym (end_types-are r d (map array_type xs) (g, e));
    };
  }
