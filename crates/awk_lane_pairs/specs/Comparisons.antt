-- Truth values of comparisons of the numbers of two lanes, which lie in groups of bytes.
use Rattle.std.specs.Prelude.{◌≡◌, ℕ, ℤ, pos, Bool, cond, int_lt, List, [], get_or}
use Rattle.std.specs.Int.{from_bool}
use Rattle.std.specs.Ordering.{int_eq}
use Rattle.awk_lanes.specs.Column.{Column}
use Rattle.awk_lanes.specs.Numbers.{number}
use Rattle.awk_lanes.specs.Words.{column, integers}
use Rattle.awk_lanes.specs.declared.kind.Kind.{Kind}
use Rattle.awk_lanes.specs.declared.kind.Kind.TheVariants.{Bool as Truths}
use Rattle.awk_kernels.specs.Kernels.{compared}
use Rattle.awk_kernels.specs.declared.operation.Compare.{Compare}
use Rattle.awk_lane_pairs.specs.declared.comparison.Flags.{Flags}

-- what is said of two numbers
abbrev pub flag : Flags → ℤ → ℤ → Bool
flag f x y = cond (int_lt x y) f.less (cond (int_eq x y) f.equal f.greater)

-- 1 where so is said of the numbers at place i, else 0
abbrev pub truth_at : Flags → Kind → List (List ℕ) → List (List ℕ) → ℕ → ℤ
truth_at f k a b i =
    pos (from_bool (flag f (number k (get_or a i [])) (number k (get_or b i []))))

-- the same beside one number
abbrev pub truth_beside : Flags → Kind → List (List ℕ) → ℤ → ℕ → ℤ
truth_beside f k a y i = pos (from_bool (flag f (number k (get_or a i [])) y))

-- a lane has the truth values of a comparison
abbrev pub IsCompared : Compare → List ℤ → List ℤ → Column → Type 0
IsCompared how xs ys c = ◌≡◌ {A = Column} c (column Truths (integers (compared how xs ys)))
