-- A histogram of each innermost list.
use Rattle.std.specs.Prelude.{◌≡◌, ℤ, List, [], ◌∷◌, map, Ok, refl}
use Rattle.std.proofs.Common.{ap, ◌∙◌}
use Rattle.awk_types.specs.Datum.{Datum}
use Rattle.awk_types.specs.Value.{Value}
use Rattle.awk_columns.specs.Columns.{present_values}
use Rattle.awk_hist.specs.Bins.{bins, bins_type, count_nulls}
use Rattle.awk_hist.specs.HistEach.{bins_function, hist_each_of}
use Rattle.awk_hist.proofs.WholeLaws.{simple_bins}
use Rattle.awk_pair_operands.specs.Typed.{IsTyped}
use Rattle.awk_present.specs.Numbers.{numbers}
use Rattle.awk_law_chains.specs.Innermost.{innermost_lists, leaves_in}
use Rattle.awk_number_laws.proofs.ReducedLists.{results_are}

none_null : (es : List ℤ) (ls : List (List Value))
    → present_values (map (bins es) ls) ≡ map (bins es) ls
none_null es [] = refl
none_null es (l ∷ ls) = ap (λ vs. bins es l ∷ vs) (none_null es ls)

pub each_counted : (es : List ℤ) (d made : Datum) → IsTyped d → hist_each_of es d ≡ Ok made
    → present_values (leaves_in made) ≡ map (bins es) (innermost_lists d)
each_counted es d made h e =
    let f = bins_function es in
    results_are (λ t. bins_type) (λ t us. bins es us) f.refusal f.spoil
    (λ t us. simple_bins es (numbers us) (count_nulls us)) (λ t. refl) (λ t vs. refl)
    (λ t us. refl) d made h e
    ∙ none_null es (innermost_lists d)
