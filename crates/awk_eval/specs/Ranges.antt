-- Ranges of step 1.
use Rattle.std.specs.Prelude.{ℕ, List, length}
use Rattle.std.specs.List.{slice_range}
use Rattle.awk_expr.specs.declared.fixed.FixedArg.{FixedArg}
use Rattle.awk_select.specs.Places.{bound_up}
use Rattle.awk_arguments.specs.Fixed.{bound_in}

-- a bound over n items, or what stands for one that is not given
abbrev pub bound_or : ℕ → ℕ → FixedArg → ℕ
bound_or n other bound = bound_up n other (bound_in bound)

-- the items from one bound below another: from the first, or up to the last, where none is given
abbrev pub range_items : {A : Type 0} → FixedArg → FixedArg → List A → List A
range_items lo hi xs =
    slice_range xs (bound_or (length xs) 0 lo) (bound_or (length xs) (length xs) hi)
