-- The arguments of a call that are no expressions, by what an operation takes.
use Rattle.std.specs.Prelude.{ℕ, zero, suc, ℤ, pos, Bool, true, false, List, [], ◌∷◌, Option, Some}
use Rattle.std.specs.Prelude.{None, option_map, if◌then◌else◌}
use Rattle.awk_types.specs.DataType.{Name}
use Rattle.awk_expr.specs.Arguments.{not_zero, some_count}
use Rattle.awk_expr.specs.declared.fixed.FixedArg.{FixedArg}
use Rattle.awk_expr.specs.declared.fixed.FixedArg.TheVariants.{Place, Count, Truth, Text, Texts}
use Rattle.awk_expr.specs.declared.fixed.FixedArg.TheVariants.{Wholes}

-- whether a step is 1
abbrev pub is_one : FixedArg → Bool
is_one (Place (pos (suc zero))) = true
is_one _ = false

-- the bounds of a range of step 1
abbrev pub bounds_in : List FixedArg → Option (FixedArg × FixedArg)
bounds_in (lo ∷ hi ∷ []) = Some (lo, hi)
bounds_in (lo ∷ hi ∷ step ∷ []) = if is_one step then Some (lo, hi) else None
bounds_in _ = None

-- a bound, where it is given
abbrev pub bound_in : FixedArg → Option ℤ
bound_in (Place z) = Some z
bound_in _ = None

-- a range with a step
pub record Stepped : Type 0 where
  pub lo : Option ℤ
  pub hi : Option ℤ
  pub step : ℤ

abbrev pub stepped_by : FixedArg → FixedArg → ℤ → Stepped
stepped_by lo hi step = record { lo = bound_in lo; hi = bound_in hi; step = step }

-- the bounds and the step of a range, where it has a step that is not 0
abbrev pub stepped_in : List FixedArg → Option Stepped
stepped_in (lo ∷ hi ∷ Place step ∷ []) = option_map (stepped_by lo hi) (not_zero step)
stepped_in _ = None

-- the only argument, where it is a place
abbrev pub place_in : List FixedArg → Option ℤ
place_in (Place z ∷ []) = Some z
place_in _ = None

-- the only argument, where it is a name
abbrev pub text_in : List FixedArg → Option Name
text_in (Text n ∷ []) = Some n
text_in _ = None

-- the only argument, where it is names
abbrev pub texts_in : List FixedArg → Option (List Name)
texts_in (Texts ns ∷ []) = Some ns
texts_in _ = None

-- the only argument, where it is a truth value
abbrev pub truth_in : List FixedArg → Option Bool
truth_in (Truth b ∷ []) = Some b
truth_in _ = None

-- how many items lists are padded to, at which axis, and whether they are cut
abbrev pub padding_in : List FixedArg → Option (ℕ × ℤ × Bool)
padding_in (Count n ∷ Place axis ∷ Truth clip ∷ []) = Some (n, axis, clip)
padding_in _ = None

-- how many places a tuple has, whether they may repeat, and at which axis lists are taken
abbrev pub tuples_in : List FixedArg → Option (ℕ × Bool × ℤ)
tuples_in (Count n ∷ Truth replacement ∷ Place axis ∷ []) = Some (n, replacement, axis)
tuples_in _ = None

-- a depth of at least 1
abbrev pub depth_of : FixedArg → Option ℕ
depth_of (Count d) = some_count d
depth_of _ = None

-- the only argument, where it is such a depth
abbrev pub depth_in : List FixedArg → Option ℕ
depth_in (depth ∷ []) = depth_of depth
depth_in _ = None

-- such a depth, and names
abbrev pub named_in : List FixedArg → Option (ℕ × List Name)
named_in (depth ∷ Texts ns ∷ []) = option_map (λ d. (d, ns)) (depth_of depth)
named_in _ = None

-- the only argument, where it is edges
abbrev pub edges_in : List FixedArg → Option (List ℤ)
edges_in (Wholes zs ∷ []) = Some zs
edges_in _ = None
