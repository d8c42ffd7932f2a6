-- Worked histograms, each checked by computing.
use Rattle.std.specs.Prelude.{◌≡◌, refl, [], ◌∷◌, true, false, pos, negsuc, List, ℤ, map, Ok, Err}
use Rattle.awk_types.specs.DataType.{leaf, var, opt}
use Rattle.awk_types.specs.Datum.{Datum, arr, one}
use Rattle.awk_types.specs.Value.{Value, int, truth, null, list, row, values_from}
use Rattle.awk_types.specs.declared.primitive.Primitive.TheVariants.{Bool, I64}
use Rattle.awk_types.specs.declared.fault.Fault.TheVariants.{Axis, WrongType}
use Rattle.awk_hist.specs.Bins.{bins_type}
use Rattle.awk_hist.specs.HistEach.{histogram}

abbrev list_value : List Value → Value
list_value vs = list (values_from vs)

-- [[1,5,null],[],null,[10,-3]]
abbrev x : Datum
x =
    arr (opt (var (opt (leaf I64))))
    (list_value (int (pos 1) ∷ int (pos 5) ∷ null ∷ []) ∷ list_value [] ∷ null
    ∷ list_value (int (pos 10) ∷ int (negsuc 2) ∷ []) ∷ [])

abbrev ints : List ℤ → List Value
ints zs = map (λ z. int z) zs

abbrev row_value : List Value → Value
row_value vs = row (values_from vs)

whole : histogram (pos 0 ∷ pos 5 ∷ pos 10 ∷ []) false x
    ≡ Ok (one bins_type
    (row_value (list_value (ints (pos 1 ∷ pos 1 ∷ [])) ∷ ints (pos 1 ∷ pos 1 ∷ pos 2 ∷ []))))
whole = refl

of_truths : histogram (pos 0 ∷ pos 1 ∷ []) false (arr (leaf Bool) (truth true ∷ [])) ≡ Err WrongType
of_truths = refl

of_single : histogram (pos 0 ∷ pos 1 ∷ []) false (one (leaf I64) (int (pos 5))) ≡ Err Axis
of_single = refl

of_single_truth : histogram (pos 0 ∷ pos 1 ∷ []) false (one (leaf Bool) (truth true)) ≡ Err Axis
of_single_truth = refl

of_single_null : histogram (pos 0 ∷ pos 1 ∷ []) false (one (opt (var (leaf I64))) null)
    ≡ Ok (one bins_type
    (row_value (list_value (ints (pos 0 ∷ [])) ∷ ints (pos 0 ∷ pos 0 ∷ pos 1 ∷ []))))
of_single_null = refl

-- counts, under, over, nulls
abbrev bins_value : List ℤ → ℤ → ℤ → ℤ → Value
bins_value counts under over nulls =
    row_value (list_value (ints counts) ∷ int under ∷ int over ∷ int nulls ∷ [])

each_list : histogram (pos 0 ∷ pos 5 ∷ pos 10 ∷ []) true x
    ≡ Ok (arr (opt bins_type)
    (bins_value (pos 1 ∷ pos 1 ∷ []) (pos 0) (pos 0) (pos 1)
    ∷ bins_value (pos 0 ∷ pos 0 ∷ []) (pos 0) (pos 0) (pos 0)
    ∷ null
    ∷ bins_value (pos 0 ∷ pos 0 ∷ []) (pos 1) (pos 1) (pos 0) ∷ []))
each_list = refl
