-- All counts of a histogram are as many as there are values.
use Rattle.std.proofs.Common.{◌≡◌, ℕ, List, length, map, map-id, ap, sym, ◌∙◌, arith}
use Rattle.std.specs.Prelude.{ℤ, true, false, Option, Some, None, Result, Ok, Err, IfOk}
use Rattle.std.specs.List.{sum}
use Rattle.std.proofs.lemmas.List.{length-map}
use Rattle.std.proofs.lemmas.Simd.{map-map}
use Rattle.awk_base.proofs.Sums.{sum-four}
use Rattle.awk_types.specs.Datum as shown
use Rattle.awk_types.specs.Faults.{fault_told}
use Rattle.awk_types.specs.Gives.{Gives, refused_or}
use Rattle.awk_types.specs.Parts.{number_of}
use Rattle.awk_types.specs.Value.{Value, values_from, value_list}
use Rattle.awk_types.specs.declared.fault.Fault.{Fault}
use Rattle.awk_types.proofs.Trees.{value_list-from}
use Rattle.awk_layout.specs.Datum.{datum_of}
use Rattle.awk_layout.specs.Shown.{count_of}
use Rattle.awk_layout.specs.declared.datum.Datum.{Datum}
use Rattle.awk_columns.specs.Columns.{present_values}
use Rattle.awk_present.specs.Numbers.{numbers}
use Rattle.awk_bins.specs.Bins.{interval_counts, count_under, count_over}
use Rattle.awk_bins.specs.Edges.{are_edges}
use Rattle.awk_bins.proofs.SumLaws.{all_counted}
use Rattle.awk_hist.specs.Bins.{bins, bins_type, count_nulls, count_value}
use Rattle.awk_hist.specs.Hist.{leaves_of, hist_of, hist_refused}
use Rattle.awk_hist.specs.Totals.{counts_total, row_total, CountsAll}
use Rattle.awk_hist.proofs.InnermostLaws.{present_few}

pub list-total : (ns : List ℕ)
    → sum (map count_of (value_list (values_from (map count_value ns)))) ≡ sum ns
list-total ns =
    ap (λ vs. sum (map count_of vs)) (value_list-from (map count_value ns))
    ∙ ap sum (map-map count_of count_value ns ∙ map-id ns)

pub bins-total : (es : List ℤ) (vs : List Value) → are_edges es ≡ true
    → row_total (bins es vs) ≡ length vs
bins-total es vs h =
    let counts = interval_counts es (numbers vs) in
    sum-four (sum (map count_of (value_list (values_from (map count_value counts)))))
    (count_under es (numbers vs)) (count_over es (numbers vs)) (count_nulls vs)
    ∙ omega (
      arith,
      list-total counts,
      all_counted es (numbers vs) h,
      length-map (present_values vs) number_of,
      present_few vs,
    )

module _ (es : List ℤ) (h : are_edges es ≡ true) (d : shown.Datum) where
  told : (o : Option Fault) (made : shown.Datum)
      → refused_or o (shown.one bins_type (bins es (leaves_of d))) ≡ Ok made
      → counts_total made ≡ length (leaves_of d)
  told None made e =
      let same : shown.one bins_type (bins es (leaves_of d)) ≡ made = cc in
      ap counts_total (sym same) ∙ bins-total es (leaves_of d) h
  told (Some why) made e = cc

  pub all_once : (r : Result Datum Fault) → Gives datum_of fault_told r (hist_of es d)
      → IfOk r (λ made. CountsAll false d (datum_of made))
  all_once (Ok made) e = told (hist_refused d) (datum_of made) e
  all_once (Err why) e = tt
