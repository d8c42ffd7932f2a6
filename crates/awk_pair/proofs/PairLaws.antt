-- What a pairing answers, from what its rows come to.
use Rattle.std.proofs.Common.{◌≡◌, ℕ, ◌≤◌, ◌<◌, Bool, true, false, not, refl, ap, sym, subst, ◌∙◌}
use Rattle.std.specs.Prelude.{List, map, length, Option, Some, None, Ok, Err}
use Rattle.std.proofs.lemmas.List.{length-map}
use Rattle.awk_types.specs.DataType.{DataType}
use Rattle.awk_types.specs.Datum.{Datum}
use Rattle.awk_types.specs.Gives.{◌or◌, refused_or}
use Rattle.awk_types.specs.ItemLimit.{item_limit, too_many}
use Rattle.awk_types.specs.Value.{Value}
use Rattle.awk_types.specs.declared.fault.Fault.TheVariants.{WrongType, Lengths, Size}
use Rattle.awk_types.proofs.ItemLimits.{over_limit, within_limit}
use Rattle.awk_layout.specs.Layout.{Layout}
use Rattle.awk_layout.specs.Typing.{array_type}
use Rattle.awk_pair.proofs.RecursionLaws.{length-rows_at}
use Rattle.awk_pair_operands.specs.Answer.{single_or_fault}
use Rattle.awk_pair_operands.specs.First.{AreFirstRows}
use Rattle.awk_pair.specs.Outcomes.{ArePairs, AreTooMany}
use Rattle.awk_pair_operands.specs.Paired.{Reach, any_uneven, paired_value}
use Rattle.awk_pair_operands.specs.Pairs.{reach, below, typs, first_rows, some_array, datum_side}
use Rattle.awk_pair_operands.specs.Pairs.{pair_type, pair_values, are_uneven, lengths_refused}
use Rattle.awk_pair_operands.specs.Pairs.{pair_refused, has_wrong_end}
use Rattle.awk_frames.specs.Sizes.{levels_refused, sizes_refused}
use Rattle.awk_frames.specs.Shape.{Shape}
use Rattle.awk_pair_sides.specs.Rows.{rows_at}
use Rattle.awk_pair_sides.specs.Sides.{equally_long}

-- what is at hand after the tests of types: the data, how far, the first rows
pub record AtHand (d : Option ℕ) (ds : List Datum) (r : Reach) (k : ℕ) (n : ℕ)
    (ys : List Layout) : Type 0 where
  pub reach_is : r ≡ reach d
  pub levels_are : k ≡ below d ds
  pub right : has_wrong_end d ds ≡ false
  pub even : equally_long (map datum_side ds) ≡ true
  pub types : map array_type ys ≡ typs ds
  pub rows : rows_at ys n ≡ first_rows ds

pub at_hand : (d : Option ℕ) (ds : List Datum) (r : Reach) (single : Bool) (k n : ℕ)
    (ys : List Layout) → r ≡ reach d → k ≡ below d ds → has_wrong_end d ds ≡ false
    → AreFirstRows ds single n ys → AtHand d ds r k n ys
at_hand d ds r single k n ys e l w f = record {
  reach_is = e;
  levels_are = l;
  right = w;
  even = f.even;
  types = f.types;
  rows = f.rows;
}

module _ (keep : Bool) where
  -- ---- faults

  pub wrong_type : (d : Option ℕ) (ds : List Datum) → has_wrong_end d ds ≡ true
      → single_or_fault keep d ds ≡ Err WrongType
  wrong_type d ds e = rw e refl

  refused : (d : Option ℕ) (ds : List Datum) → has_wrong_end d ds ≡ false
      → pair_refused keep d ds
      ≡ lengths_refused keep d ds or sizes_refused (pair_type keep d ds) (pair_values keep d ds)
  refused d ds e = rw e refl

  pub uneven : (d : Option ℕ) (ds : List Datum) → has_wrong_end d ds ≡ false
      → are_uneven keep d ds ≡ true → single_or_fault keep d ds ≡ Err Lengths
  uneven d ds e u =
      let f : lengths_refused keep d ds or sizes_refused (pair_type keep d ds)
      (pair_values keep d ds) ≡ Some Lengths = rw u refl in
      ap (λ g. refused_or g (not (some_array ds))) (refused d ds e ∙ f)

  pub uneven_arrays : (d : Option ℕ) (ds : List Datum) → equally_long (map datum_side ds) ≡ false
      → are_uneven keep d ds ≡ true
  uneven_arrays d ds e = rw e refl

  pub uneven_below : (d : Option ℕ) (ds : List Datum) (b : Bool)
      → equally_long (map datum_side ds) ≡ true
      → any_uneven keep (below d ds) (typs ds) (first_rows ds) ≡ b → are_uneven keep d ds ≡ b
  uneven_below d ds b e h = rw e h

  pub large : (d : Option ℕ) (ds : List Datum) → has_wrong_end d ds ≡ false
      → are_uneven keep d ds ≡ false
      → sizes_refused (pair_type keep d ds) (pair_values keep d ds) ≡ Some Size
      → single_or_fault keep d ds ≡ Err Size
  large d ds e u s =
      let f : lengths_refused keep d ds or sizes_refused (pair_type keep d ds)
      (pair_values keep d ds) ≡ Some Size = rw u s in
      ap (λ g. refused_or g (not (some_array ds))) (refused d ds e ∙ f)

  pub fine : (d : Option ℕ) (ds : List Datum) (b : Bool) → has_wrong_end d ds ≡ false
      → are_uneven keep d ds ≡ false
      → sizes_refused (pair_type keep d ds) (pair_values keep d ds) ≡ None
      → b ≡ not (some_array ds) → single_or_fault keep d ds ≡ Ok b
  fine d ds b e u s i =
      let f : lengths_refused keep d ds or sizes_refused (pair_type keep d ds)
      (pair_values keep d ds) ≡ None = rw u s in
      ap (λ g. refused_or g (not (some_array ds))) (refused d ds e ∙ f) ∙ ap (λ c. Ok c) (sym i)

  -- the number of values is that of rows
  values-count : (d : Option ℕ) (ds : List Datum) (n : ℕ) (ys : List Layout)
      → rows_at ys n ≡ first_rows ds → length (pair_values keep d ds) ≡ n
  values-count d ds n ys r =
      length-map (first_rows ds) (paired_value keep (reach d) (below d ds) (typs ds))
      ∙ ap length (sym r) ∙ length-rows_at ys n

  sizes-few : (d : Option ℕ) (ds : List Datum) (n : ℕ) (ys : List Layout)
      → rows_at ys n ≡ first_rows ds → n ≤ item_limit
      → sizes_refused (pair_type keep d ds) (pair_values keep d ds)
      ≡ levels_refused (pair_type keep d ds) (pair_values keep d ds)
  sizes-few d ds n ys r l =
      ap (λ k. too_many k or levels_refused (pair_type keep d ds) (pair_values keep d ds))
      (values-count d ds n ys r)
      ∙ ap (λ f. f or levels_refused (pair_type keep d ds) (pair_values keep d ds))
      (within_limit n l)

  sizes-large : (d : Option ℕ) (ds : List Datum) (n : ℕ) (ys : List Layout)
      → rows_at ys n ≡ first_rows ds → item_limit < n
      → sizes_refused (pair_type keep d ds) (pair_values keep d ds) ≡ Some Size
  sizes-large d ds n ys r l =
      ap (λ k. too_many k or levels_refused (pair_type keep d ds) (pair_values keep d ds))
      (values-count d ds n ys r)
      ∙ ap (λ f. f or levels_refused (pair_type keep d ds) (pair_values keep d ds)) (over_limit n l)

  -- ---- the answers of `pair`

  shown : (d : Option ℕ) (ds : List Datum) (r : Reach) (k n : ℕ) (ys : List Layout) (P : Reach → ℕ
      → List DataType → List (List Value) → Type 0) → AtHand d ds r k n ys
      → P r k (map array_type ys) (rows_at ys n)
      → P (reach d) (below d ds) (typs ds) (first_rows ds)
  shown d ds r k n ys P h p =
      subst (λ q. P (reach d) (below d ds) (typs ds) q) h.rows
      (subst (λ q. P (reach d) (below d ds) q (rows_at ys n)) h.types
      (subst (λ q. P (reach d) q (map array_type ys) (rows_at ys n)) h.levels_are
      (subst (λ q. P q k (map array_type ys) (rows_at ys n)) h.reach_is p)))

  pub said_unequal : (d : Option ℕ) (ds : List Datum) (r : Reach) (k n : ℕ) (ys : List Layout)
      → AtHand d ds r k n ys → any_uneven keep k (map array_type ys) (rows_at ys n) ≡ true
      → single_or_fault keep d ds ≡ Err Lengths
  said_unequal d ds r k n ys h e =
      uneven d ds h.right (uneven_below d ds true h.even
      (shown d ds r k n ys (λ q j ts rows. any_uneven keep j ts rows ≡ true) h e))

  pub said_large_first : (d : Option ℕ) (ds : List Datum) (r : Reach) (k n : ℕ) (ys : List Layout)
      → AtHand d ds r k n ys → any_uneven keep k (map array_type ys) (rows_at ys n) ≡ false
      → item_limit < n → single_or_fault keep d ds ≡ Err Size
  said_large_first d ds r k n ys h e l =
      large d ds h.right (uneven_below d ds false h.even
      (shown d ds r k n ys (λ q j ts rows. any_uneven keep j ts rows ≡ false) h e))
      (sizes-large d ds n ys h.rows l)

  pub said_large : (d : Option ℕ) (ds : List Datum) (r : Reach) (k n : ℕ) (ys : List Layout)
      → AtHand d ds r k n ys → n ≤ item_limit
      → AreTooMany keep r k (map array_type ys) (rows_at ys n)
      → single_or_fault keep d ds ≡ Err Size
  said_large d ds r k n ys h l p =
      let q : AreTooMany keep (reach d) (below d ds) (typs ds) (first_rows ds) =
      shown d ds r k n ys (AreTooMany keep) h p in
      large d ds h.right (uneven_below d ds false h.even q.even) (sizes-few d ds n ys h.rows l
      ∙ q.large)

  pub said_pairs : (d : Option ℕ) (ds : List Datum) (r : Reach) (k n : ℕ) (ys : List Layout)
      (s : Shape) (zs : List Layout) (b : Bool) → AtHand d ds r k n ys → n ≤ item_limit
      → b ≡ not (some_array ds) → ArePairs keep r k (map array_type ys) (rows_at ys n) s zs
      → single_or_fault keep d ds ≡ Ok b
  said_pairs d ds r k n ys s zs b h l i p =
      let q : ArePairs keep (reach d) (below d ds) (typs ds) (first_rows ds) s zs =
      shown d ds r k n ys (λ q j ts rows. ArePairs keep q j ts rows s zs) h p in
      fine d ds b h.right (uneven_below d ds false h.even q.even) (sizes-few d ds n ys h.rows l
      ∙ q.few) i

  pub paired_of : (d : Option ℕ) (ds : List Datum) (r : Reach) (k n : ℕ) (ys : List Layout)
      (s : Shape) (zs : List Layout) → AtHand d ds r k n ys
      → ArePairs keep r k (map array_type ys) (rows_at ys n) s zs
      → ArePairs keep (reach d) (below d ds) (typs ds) (first_rows ds) s zs
  paired_of d ds r k n ys s zs h p = shown d ds r k n ys
      (λ q j ts rows. ArePairs keep q j ts rows s zs) h p
