-- Which kinds hold the counts of an option's index.
use Rattle.std.proofs.Common.{◌≡◌, ℕ, ◌<◌, ◌≤◌, ◌^◌, arith, sym, subst, FitsSigned, w32}
use Rattle.std.specs.Prelude.{Option, Some, None}
use Rattle.awk_lanes.specs.declared.kind.Kind.{Kind}
use Rattle.awk_lanes.specs.declared.kind.Kind.TheVariants.{I32, I64}
use Rattle.awk_lanes.specs.declared.kind.Num.{Num}
use Rattle.awk_lanes.specs.declared.kind.Num.TheVariants.{Int, Nat, Truth}
use Rattle.awk_lanes.specs.Numbers.{int_of, IsOf}
use Rattle.awk_counts.specs.Counted.{count_or_null}
use Rattle.awk_counts.specs.Narrow.{HoldsCounts}

narrow_fits : (n : ℕ) (o : Option ℕ) → n < 2147483648 → FitsSigned w32 (count_or_null n o)
narrow_fits n None h = let f : 0 < 2 ^ 31 = omega arith in record { sfits = f }
narrow_fits n (Some k) h = let f : n < 2 ^ 31 = h in record { sfits = f }

-- a count, or -1, is of each kind that holds counts
pub count_held : (k : Kind) (n : ℕ) (o : Option ℕ) (x : Num) → HoldsCounts n k → IsOf I64 x
    → int_of x ≡ count_or_null n o → IsOf k x
count_held I32 n o (Int z) h w e = subst (FitsSigned w32) (sym e) (narrow_fits n o h)
count_held I64 n o (Int z) h w e = w
count_held _ n o (Int z) h w e = absurd h
count_held _ n o (Nat m) h w e = absurd w
count_held _ n o (Truth b) h w e = absurd w

-- and so are fewer counts
pub fewer_held : (k : Kind) (m n : ℕ) → m ≤ n → HoldsCounts n k → HoldsCounts m k
fewer_held I32 m n l h = omega (arith, l, h)
fewer_held I64 m n l h = omega (arith, l, h)
fewer_held _ m n l h = absurd h
