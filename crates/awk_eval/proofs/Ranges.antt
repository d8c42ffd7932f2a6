-- Ranges of step 1 of an array.
use Rattle.std.proofs.Common.{◌≡◌, ℕ, ◌-◌, List, length, take, drop, max, ap, sym, ◌∙◌, arith}
use Rattle.std.specs.List.{slice_range}
use Rattle.awk_expr.specs.declared.fixed.FixedArg.{FixedArg}
use Rattle.awk_eval.specs.Ranges.{bound_or, range_items}

-- a second bound below the first takes as many items as the first: none
pub slice_range-max : {A : Type 0} (xs : List A) (from to : ℕ)
    → slice_range xs from (max to from) ≡ slice_range xs from to
slice_range-max xs from to =
    let same : max to from - from ≡ to - from = omega arith in
    ap (λ n. take n (drop from xs)) same

-- the items from one bound below another, where there are n of them
pub range_items-of : {A : Type 0} (xs : List A) (n from to : ℕ) (lo hi : FixedArg)
    → length xs ≡ n → from ≡ bound_or n 0 lo → to ≡ max (bound_or n n hi) from
    → slice_range xs from to ≡ range_items lo hi xs
range_items-of xs n from to lo hi counted first last =
    ap (slice_range xs from) last ∙ slice_range-max xs from (bound_or n n hi)
    ∙ ap (λ f. slice_range xs f (bound_or n n hi)) first
    ∙ ap (λ n. slice_range xs (bound_or n 0 lo) (bound_or n n hi)) (sym counted)
