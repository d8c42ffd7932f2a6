-- Worked examples of the laws of histograms, each checked by computing.
use Rattle.std.specs.Prelude.{◌≡◌, refl, ℤ, pos, negsuc, List, [], ◌∷◌, map}
use Rattle.awk_types.specs.Value.{Value, int, null, list, row, values_from}
use Rattle.awk_hist.specs.Bins.{bins}
use Rattle.awk_hist.specs.Totals.{row_total}
use Rattle.awk_number_laws.specs.Histograms.{added}

abbrev ints : List ℤ → List Value
ints zs = map (λ z. int z) zs

-- counts, under, over, nulls
abbrev histogram : ℤ → ℤ → ℤ → ℤ → ℤ → Value
histogram a b under over nulls =
    row (values_from (list (values_from (ints (a ∷ b ∷ []))) ∷ ints (under ∷ over ∷ nulls ∷ [])))

abbrev edges : List ℤ
edges = pos 0 ∷ pos 5 ∷ pos 10 ∷ []

-- [1,7,null]
first : bins edges (int (pos 1) ∷ int (pos 7) ∷ null ∷ [])
    ≡ histogram (pos 1) (pos 1) (pos 0) (pos 0) (pos 1)
first = refl

-- [-3,10,2]
second : bins edges (ints (negsuc 2 ∷ pos 10 ∷ pos 2 ∷ []))
    ≡ histogram (pos 1) (pos 0) (pos 1) (pos 1) (pos 0)
second = refl

joined : bins edges (int (pos 1) ∷ int (pos 7) ∷ null ∷ ints (negsuc 2 ∷ pos 10 ∷ pos 2 ∷ []))
    ≡ histogram (pos 2) (pos 1) (pos 1) (pos 1) (pos 1)
joined = refl

sum : added (histogram (pos 1) (pos 1) (pos 0) (pos 0) (pos 1))
    (histogram (pos 1) (pos 0) (pos 1) (pos 1) (pos 0))
    ≡ histogram (pos 2) (pos 1) (pos 1) (pos 1) (pos 1)
sum = refl

all_six : row_total (histogram (pos 2) (pos 1) (pos 1) (pos 1) (pos 1)) ≡ 6
all_six = refl
