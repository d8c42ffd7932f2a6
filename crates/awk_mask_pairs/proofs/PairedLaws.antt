-- An array and a mask over it, as their pairing: what is told of both, and what is made of it.
use Rattle.std.specs.Prelude.{◌≡◌, ℕ, zero, suc, ◌+◌, ◌-◌, refl, Bool, true, false, ◌||◌, not}
use Rattle.std.specs.Prelude.{List, [], ◌∷◌, length, map, Option, Some, None, if◌then◌else◌}
use Rattle.std.specs.List.{AllByRecursion}
use Rattle.std.proofs.Common.{arith, ap, sym, ◌∙◌, subst}
use Rattle.awk_types.specs.DataType.{DataType}
use Rattle.awk_types.specs.Datum.{Datum, arr}
use Rattle.awk_types.specs.Gives.{◌or◌}
use Rattle.awk_types.specs.Has.{Has}
use Rattle.awk_types.specs.Simple.{simple, simple_value}
use Rattle.awk_types.specs.Value.{Value}
use Rattle.awk_types.specs.declared.fault.Fault.{Fault}
use Rattle.awk_types.specs.declared.fault.Fault.TheVariants.{WrongType, Lengths}
use Rattle.awk_frames.specs.Framed.{over, over_type, IsFrame}
use Rattle.awk_frames.specs.Shape.{shape, ends}
use Rattle.awk_frames.specs.Sizes.{sizes_refused}
use Rattle.awk_frames.proofs.FrameLaws.{sized_frame}
use Rattle.awk_pair_operands.specs.Answer.{shared_shape, shared_ends}
use Rattle.awk_pair_operands.specs.Paired.{to_depth, paired_type, paired_value, is_uneven}
use Rattle.awk_pair_operands.specs.Paired.{is_wrong, any_uneven, values_of_rows, types_at_ends}
use Rattle.awk_pair_operands.specs.Pairs.{below, typs, first_rows, datum_side, pair_type}
use Rattle.awk_pair_operands.specs.Pairs.{pair_values, are_uneven, pair_refused}
use Rattle.awk_pair_operands.specs.Pairs.{leaf_types}
use Rattle.awk_pair_sides.specs.Levels.{opens, item_types}
use Rattle.awk_pair_sides.specs.Sides.{equally_long}
use Rattle.awk_mask_pairs.specs.MaskTypes.{mask_levels, levels_refused, under, shared_type}
use Rattle.awk_mask_pairs.specs.MaskTypes.{classed, masked_row, is_innermost, IsMasking}
use Rattle.awk_mask_pairs.specs.MaskValues.{masked_type, masked_value, in_pairs, differs}
use Rattle.awk_mask_pairs.specs.MaskValues.{lists_differ}
use Rattle.awk_mask_pairs.proofs.Rows.{rows_by, rows-two, differ-rows, map-rows, all-rows}
use Rattle.awk_mask_pairs.proofs.Rows.{alike-length, alike-pairs}
use Rattle.awk_mask_pairs.proofs.ValueLaws.{items-by, items-after}
use Rattle.awk_mask_pairs.proofs.MaskingLaws.{uneven-is, masked-is, shared-is, simple-is, type-is}
use Rattle.awk_mask_pairs.proofs.MaskingLaws.{shape-is, ends-are, counted-is, sized-is, at-ends}

-- no end is wrong where a depth is asked for
never-wrong : (d : ℕ) (ts : List DataType) → is_wrong to_depth d ts ≡ false
never-wrong zero ts = refl
never-wrong (suc d) ts = either (opens ts) (is_wrong to_depth d (item_types ts))
    (never-wrong d (item_types ts))
  where
    either : (b c : Bool) → c ≡ false → (if b then c else false) ≡ false
    either true c e = e
    either false c e = refl

abbrev pub lengths_told : Bool → Option Fault
lengths_told b = if b then Some Lengths else None

or-by : (b : Bool) (f g : Option Fault) → (b ≡ false → f ≡ g)
    → lengths_told b or f ≡ lengths_told b or g
or-by true f g h = refl
or-by false f g h = h refl

module _ (keep : Bool) (t u : DataType) (vs ms : List Value) (h : IsMasking (mask_levels u) t u)
    (p : AllByRecursion (Has t) vs) (q : AllByRecursion (Has u) ms) where
  abbrev n : ℕ
  n = mask_levels u

  -- how deep both are paired: the arrays are a level themselves
  abbrev d : Option ℕ
  d = Some (mask_levels u + 1)

  abbrev ds : List Datum
  ds = arr t vs ∷ arr u ms ∷ []

  abbrev S : DataType
  S = shared_type n t u

  abbrev W : List Value
  W = pair_values true d ds

  abbrev made : List Value
  made = in_pairs (masked_value u keep) ms vs

  abbrev differ : Bool
  differ = lists_differ (differs u) ms vs

  abbrev sizes : Option Fault
  sizes = sizes_refused (pair_type true d ds) W

  levels-below : below d ds ≡ n
  levels-below = let e : mask_levels u + 1 - 1 ≡ mask_levels u = omega arith in e

  uneven-data : are_uneven true d ds ≡ differ
  uneven-data =
      ap (λ k. not (equally_long (map datum_side ds)) || any_uneven true k (typs ds)
      (first_rows ds)) levels-below
      ∙ differ-rows (is_uneven true n (t ∷ u ∷ [])) (differs u) (Has t) (Has u)
      (uneven-is n t u h) ms vs p q

  type-data : pair_type true d ds ≡ paired_type true to_depth n (t ∷ u ∷ [])
  type-data = ap (λ k. paired_type true to_depth k (typs ds)) levels-below

  pub leaves-data : leaf_types d ds ≡ under n t ∷ under n u ∷ []
  leaves-data =
      ap (λ k. types_at_ends to_depth k (typs ds)) levels-below ∙ (at-ends n t u h).0

  pub innermost-data : is_innermost (under n u) ≡ true
  innermost-data = (at-ends n t u h).1

  module _ (e : differ ≡ false) where
    even : length ms ≡ length vs
    even = alike-length (differs u) ms vs e

    values-data : W ≡ map (paired_value true to_depth n (t ∷ u ∷ [])) (rows_by ms vs)
    values-data =
        ap (λ k. values_of_rows true to_depth k (typs ds) (first_rows ds)) levels-below
        ∙ ap (map (paired_value true to_depth n (t ∷ u ∷ []))) (rows-two ms vs even)

    made-data : map (over S (masked_row keep (under n u))) W ≡ made
    made-data =
        ap (map (over S (masked_row keep (under n u)))) values-data
        ∙ map-rows (Has t) (Has u) (differs u) (over S (masked_row keep (under n u)))
        (paired_value true to_depth n (t ∷ u ∷ [])) (masked_value u keep)
        (masked-is keep n t u h) ms vs p q (alike-pairs (differs u) ms vs e)

    pub typed-data : AllByRecursion (Has S) W
    typed-data =
        subst (AllByRecursion (Has S)) (sym values-data)
        (all-rows (Has t) (Has u) (Has S) (differs u)
        (paired_value true to_depth n (t ∷ u ∷ [])) (shared-is n t u h) ms vs p q
        (alike-pairs (differs u) ms vs e))

    sizes-data : levels_refused u made ≡ sizes
    sizes-data =
        ap (levels_refused u) (sym made-data)
        ∙ counted-is n t u h (masked_row keep (under n u)) W
        ∙ ap (λ s. sizes_refused s W) (sym type-data)

    -- what stands at the ends, masked, over what both share
    pub items-data : map (over S (λ r. simple_value (masked_type (under n u) (under n t))
        (masked_row keep (under n u) r))) W
        ≡ map (simple_value (masked_type u t)) made
    items-data =
        items-by (over S (λ r. simple_value (masked_type (under n u) (under n t))
        (masked_row keep (under n u) r)))
        (λ w. simple_value (masked_type u t) (over S (masked_row keep (under n u)) w))
        (simple-is n t u h (masked_row keep (under n u))) W
        ∙ sym (items-after (simple_value (masked_type u t))
        (over S (masked_row keep (under n u))) W)
        ∙ ap (map (simple_value (masked_type u t))) made-data

    pub frame-data : sizes ≡ None → IsFrame (shape S W) (length (ends S W))
    frame-data s =
        sized_frame S W typed-data
        (sym (ap (λ r. sizes_refused r W) type-data ∙ sized-is n t u h W) ∙ s)

  -- the faults of both are those of the pairing, in this order
  pub refusal-data : lengths_told differ or levels_refused u made ≡ pair_refused true d ds
  refusal-data =
      or-by differ (levels_refused u made) sizes (λ e. sizes-data e)
      ∙ ap (λ b. lengths_told b or sizes) (sym uneven-data)
      ∙ ap (λ w. (if w then Some WrongType else None)
      or (lengths_told (are_uneven true d ds) or sizes))
      (sym (never-wrong (below d ds) (typs ds)))

  pub even-data : pair_refused true d ds ≡ None → (differ ≡ false) × (sizes ≡ None)
  even-data e = parts differ refl
      (or-by differ sizes sizes (λ f. refl)
      ∙ ap (λ b. lengths_told b or sizes) (sym uneven-data)
      ∙ ap (λ w. (if w then Some WrongType else None)
      or (lengths_told (are_uneven true d ds) or sizes))
      (sym (never-wrong (below d ds) (typs ds))) ∙ e)
    where
      parts : (b : Bool) → differ ≡ b → lengths_told b or sizes ≡ None
          → (b ≡ false) × (sizes ≡ None)
      parts true f g = absurd cc
      parts false f g = (refl, g)

  pub shape-data : classed t (shared_shape true d ds) ≡ shape S W
  shape-data = ap (λ s. classed t (shape s W)) type-data ∙ shape-is n t u h W

  pub ends-data : shared_ends true d ds ≡ ends S W
  ends-data = ap (λ s. ends s W) type-data ∙ ends-are n t u h W

  pub result-type : over_type S (simple (masked_type (under n u) (under n t)))
      ≡ simple (masked_type u t)
  result-type = type-is n t u h
