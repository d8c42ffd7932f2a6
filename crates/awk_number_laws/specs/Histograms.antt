-- Laws of histograms: what is counted, and histograms of parts added up.
use Rattle.std.specs.Prelude.{◌≡◌, ℤ, ◌+ℤ◌, true, List, [], ◌∷◌, ◌++◌, map, length, Ok}
use Rattle.std.specs.List.{flat_map, fold}
use Rattle.awk_types.specs.DataType.{DataType}
use Rattle.awk_types.specs.Datum.{Datum, arr, one}
use Rattle.awk_types.specs.Value.{Value, int, list, row, null, Values, value}
use Rattle.awk_types.specs.Value.{values_from}
use Rattle.awk_columns.specs.Columns.{present_values}
use Rattle.awk_bins.specs.Edges.{are_edges}
use Rattle.awk_hist.specs.Bins.{bins, bins_type}
use Rattle.awk_hist.specs.Hist.{hist_of, leaves_of}
use Rattle.awk_hist.specs.HistEach.{hist_each_of}
use Rattle.awk_hist.specs.Totals.{row_total, counts_total}
use Rattle.awk_pair_operands.specs.Typed.{IsTyped}
use Rattle.awk_law_chains.specs.Innermost.{innermost_lists, leaves_in}

-- counts added, place by place
abbrev mutual
  pub added : Value → Value → Value
  added (int a) (int b) = int (a +ℤ b)
  added (list us) (list vs) = list (values_from (all_added us vs))
  added (row us) (row vs) = row (values_from (all_added us vs))
  added u v = null

  pub all_added : Values → Values → List Value
  all_added (value u us) (value v vs) = added u v ∷ all_added us vs
  all_added us vs = []

-- the histograms of two arrays, which add up to one
pub record AddUpTo (es : List ℤ) (t : DataType) (us vs : List Value) (made : Datum) : Type 0 where
  pub first_row : Value
  pub second_row : Value
  pub first : hist_of es (arr t us) ≡ Ok (one bins_type first_row)
  pub second : hist_of es (arr t vs) ≡ Ok (one bins_type second_row)
  pub sum : made ≡ one bins_type (added first_row second_row)

pub record HistogramLaws : Type 0 where
  -- the counts, under, over and nulls of a list are as many as its items
  pub total : (es : List ℤ) (vs : List Value) → are_edges es ≡ true
      → row_total (bins es vs) ≡ length vs
  -- those of all leaves of a datum are as many as its leaves and its null lists
  pub leaves : (es : List ℤ) (d made : Datum) → are_edges es ≡ true → hist_of es d ≡ Ok made
      → counts_total made ≡ length (leaves_of d)
  -- the histogram of two lists joined is the sum of theirs
  pub joined : (es : List ℤ) (us vs : List Value)
      → bins es (us ++ vs) ≡ added (bins es us) (bins es vs)
  -- and so of any number of lists, counted from the histogram of none
  pub parts : (es : List ℤ) (ls : List (List Value))
      → bins es (flat_map (λ l. l) ls) ≡ fold added (bins es []) (map (bins es) ls)
  -- the histogram of all leaves of two arrays joined is the sum of theirs, which there are
  pub arrays : (es : List ℤ) (t : DataType) (us vs : List Value) (made : Datum)
      → hist_of es (arr t (us ++ vs)) ≡ Ok made → AddUpTo es t us vs made
  -- of any nesting: what is given for each innermost list is, in order, the histogram of that list
  pub each : (es : List ℤ) (d made : Datum) → IsTyped d → hist_each_of es d ≡ Ok made
      → present_values (leaves_in made) ≡ map (bins es) (innermost_lists d)
