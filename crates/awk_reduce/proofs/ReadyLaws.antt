-- What is made of lists whose items' numbers are ready: totals and counts.
use Rattle.std.proofs.Common.{◌≡◌, ℕ, ◌<◌, refl, ap, sym, ◌∙◌, subst}
use Rattle.std.specs.Prelude.{◌^◌, ℤ, pos, Bool, true, false, not, if◌then◌else◌, List, Some}
use Rattle.awk_types.specs.DataType.{DataType, leaf}
use Rattle.awk_types.specs.Value.{Value, int, truth}
use Rattle.awk_types.specs.declared.primitive.Primitive.{Primitive}
use Rattle.awk_types.specs.declared.primitive.Primitive.TheVariants as primitive
use Rattle.awk_lanes.specs.Column.{Column}
use Rattle.awk_lanes.specs.Made.{lane_of}
use Rattle.awk_lanes.specs.Numbers.{element}
use Rattle.awk_lanes.specs.declared.kind.Kind.TheVariants as kind
use Rattle.awk_layout.specs.Item.{leaf_value}
use Rattle.awk_layout.specs.Kinds.{kind_of, primitive_of, primitive_of-kind_of}
use Rattle.awk_layout.specs.Layout.{Layout, flat}
use Rattle.awk_layout.specs.Typing.{array_type}
use Rattle.awk_list_functions.specs.Made.{IsColumn}
use Rattle.awk_list_functions.specs.declared.function.Made.TheVariants as made
use Rattle.awk_numbers.specs.Folds.{lane_numbers, folded, tallied, tally_kind}
use Rattle.awk_numbers.specs.declared.folds.Fold.{Fold}
use Rattle.awk_numbers.specs.declared.folds.Fold.TheVariants as fold
use Rattle.awk_numbers.specs.declared.tallies.Tally.{Tally}
use Rattle.awk_numbers.specs.declared.tallies.Tally.TheVariants as tally
use Rattle.awk_primitives.specs.Fits.{fits}
use Rattle.awk_parts.specs.Fits.{AreFitting}
use Rattle.awk_columns.specs.Lists.{Listed}
use Rattle.awk_parts.specs.Spans.{span_count, span_part}
use Rattle.awk_present.specs.Numbers.{leaf_of, numbers}
use Rattle.awk_reduce.specs.Lists.{list_in, AreReady, IsReduced}
use Rattle.awk_reduce.specs.Reduce.{overflows}
use Rattle.awk_reduce.specs.Reducers.{wide, reduced, reduced_type}
use Rattle.awk_reduce.specs.Totals.{fold_reducer, tally_reducer}
use Rattle.awk_reduce.specs.declared.ready.ReadyLists.{ReadyLists}
use Rattle.awk_reduce.proofs.ColumnLaws.{flat_column}

-- ---- by types and values

wide_value : (p : Primitive) (z : ℤ)
    → leaf_value (kind_of (wide p)) (element (kind_of (wide p)) z) ≡ int z
wide_value primitive.Bool z = refl
wide_value primitive.I8 z = refl
wide_value primitive.I16 z = refl
wide_value primitive.I32 z = refl
wide_value primitive.I64 z = refl
wide_value primitive.U8 z = refl
wide_value primitive.U16 z = refl
wide_value primitive.U32 z = refl
wide_value primitive.U64 z = refl

fold_overflows : (how : Fold) (t : DataType) (vs : List Value) (b : Bool)
    → fits (wide (leaf_of t)) (folded how (numbers vs)) ≡ b
    → overflows (fold_reducer how) t vs ≡ not b
fold_overflows fold.Sum t vs b e = ap not e
fold_overflows fold.Product t vs b e = ap not e

fold_value : (how : Fold) (t : DataType) (vs : List Value)
    → int (folded how (numbers vs)) ≡ reduced (fold_reducer how) t vs
fold_value fold.Sum t vs = refl
fold_value fold.Product t vs = refl

fold_type : (how : Fold) (t : DataType)
    → leaf (primitive_of (kind_of (wide (leaf_of t)))) ≡ reduced_type (fold_reducer how) t
fold_type fold.Sum t = ap leaf (primitive_of-kind_of (wide (leaf_of t)))
fold_type fold.Product t = ap leaf (primitive_of-kind_of (wide (leaf_of t)))

truth_value : (b : Bool)
    → leaf_value kind.Bool (element kind.Bool (pos (if b then 1 else 0))) ≡ truth b
truth_value true = refl
truth_value false = refl

tally_value : (how : Tally) (t : DataType) (vs : List Value)
    → leaf_value (tally_kind how) (element (tally_kind how) (tallied how (numbers vs)))
    ≡ reduced (tally_reducer how) t vs
tally_value tally.Items t vs = refl
tally_value tally.Nonzero t vs = refl
tally_value tally.Any t vs = truth_value _
tally_value tally.All t vs = truth_value _

tally_type : (how : Tally) (t : DataType)
    → leaf (primitive_of (tally_kind how)) ≡ reduced_type (tally_reducer how) t
tally_type tally.Items t = refl
tally_type tally.Nonzero t = refl
tally_type tally.Any t = refl
tally_type tally.All t = refl

tally_fits : (how : Tally) (t : DataType) (vs : List Value)
    → overflows (tally_reducer how) t vs ≡ false
tally_fits tally.Items t vs = refl
tally_fits tally.Nonzero t vs = refl
tally_fits tally.Any t vs = refl
tally_fits tally.All t vs = refl

-- ---- of lists

-- numbers by lists are those of their items
pub record AreNumbered (l : Listed) (n : ℕ) (zs : ℕ → List ℤ) : Type 0 where
  pub fits : n < 2 ^ 63
  pub parts : (i : ℕ) → i < n → zs i ≡ numbers (list_in l i)

pub ready_numbered : (x : ReadyLists) → AreReady x
    → AreNumbered x.lists.now (span_count x.spans.now)
    (span_part (lane_numbers x.lane.now) x.spans.now)
ready_numbered x r = record { fits = r.fits; parts = r.parts }

module _ (l : Listed) (n : ℕ) (zs : ℕ → List ℤ) (r : AreNumbered l n zs) where
  abbrev t : DataType
  t = array_type l.content

  abbrev vs : ℕ → List Value
  vs i = list_in l i

  -- what is folded is what the numbers of a list's items come to
  fold_same : (how : Fold) (i : ℕ) → i < n → folded how (zs i) ≡ folded how (numbers (vs i))
  fold_same how i l = ap (folded how) (r.parts i l)

  pub folds_spoilt : (how : Fold) (i : ℕ) → i < n
      → fits (wide (leaf_of t)) (folded how (zs i)) ≡ false
      → overflows (fold_reducer how) t (vs i) ≡ true
  folds_spoilt how i l e =
      fold_overflows how t (vs i) false
      (ap (fits (wide (leaf_of t))) (sym (fold_same how i l)) ∙ e)

  pub folds_made : (how : Fold) (q : Primitive) (c : Column) (y : Layout) → q ≡ wide (leaf_of t)
      → AreFitting q (λ i. folded how (zs i)) n (Some c) → y ≡ flat c
      → IsReduced (fold_reducer how) t vs n (made.Singles y)
  folds_made how q c y qe f ye =
      let g : ℕ → ℤ = λ i. folded how (zs i) in
      let fit : AreFitting (wide (leaf_of t)) g n (Some c) =
      subst (λ q. AreFitting q g n (Some c)) qe f in (
        λ i l.
            fold_overflows how t (vs i) true
            (ap (fits (wide (leaf_of t))) (sym (fold_same how i l)) ∙ fit.0 i l),
        subst (λ u. IsColumn u (λ i. reduced (fold_reducer how) t (vs i)) n y) (fold_type how t)
            (subst (IsColumn (leaf (primitive_of (kind_of (wide (leaf_of t)))))
            (λ i. reduced (fold_reducer how) t (vs i)) n)
            (sym (ye ∙ ap flat fit.1))
            (flat_column (kind_of (wide (leaf_of t))) n g
            (λ i. reduced (fold_reducer how) t (vs i)) r.fits
            (λ i l.
            wide_value (leaf_of t) (g i) ∙ ap (λ z. int z) (fold_same how i l)
            ∙ fold_value how t (vs i)))),
      )

  pub tallies_made : (how : Tally) (c : Column) (y : Layout)
      → c ≡ lane_of (tally_kind how) n (λ i. tallied how (zs i)) → y ≡ flat c
      → IsReduced (tally_reducer how) t vs n (made.Singles y)
  tallies_made how c y ce ye = (
    λ i l. tally_fits how t (vs i),
    subst (λ u. IsColumn u (λ i. reduced (tally_reducer how) t (vs i)) n y) (tally_type how t)
        (subst (IsColumn (leaf (primitive_of (tally_kind how)))
        (λ i. reduced (tally_reducer how) t (vs i)) n)
        (sym (ye ∙ ap flat ce))
        (flat_column (tally_kind how) n (λ i. tallied how (zs i))
        (λ i. reduced (tally_reducer how) t (vs i)) r.fits
        (λ i l.
        ap (λ ws. leaf_value (tally_kind how) (element (tally_kind how) (tallied how ws)))
        (r.parts i l)
        ∙ tally_value how t (vs i)))),
  )
