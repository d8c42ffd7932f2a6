-- Whole numbers of JSON texts, and edges: at least two of them that rise.
use Rattle.std.specs.Prelude.{ℕ, ◌^◌, ℤ, pos, negsuc, nat_lt, nat_le, int_lt, Bool, true, ◌&&◌}
use Rattle.std.specs.Prelude.{List, [], ◌∷◌, length, Option, Some, None, option_and_then}
use Rattle.std.specs.Prelude.{if◌then◌else◌}
use Rattle.serde_json.specs.Data.{Data, Num}
use Rattle.serde_json.specs.Find.{as_number, as_integer}

-- whether a number fits u64 or i64
abbrev pub is_whole : ℤ → Bool
is_whole (pos n) = nat_lt n (2 ^ 64)
is_whole (negsuc n) = nat_lt n (2 ^ 63)

abbrev pub if_whole : ℤ → Option ℤ
if_whole z = if is_whole z then Some z else None

-- a whole number that is kept as u64 or i64
abbrev pub whole_in : Num → Option ℤ
whole_in n = option_and_then if_whole (as_integer n)

abbrev pub whole_of : Data → Option ℤ
whole_of d = option_and_then whole_in (as_number d)

-- whether each number is greater than the one before
abbrev pub rise_above : ℤ → List ℤ → Bool
rise_above z [] = true
rise_above z (y ∷ ys) = int_lt z y && rise_above y ys

abbrev pub are_rising : List ℤ → Bool
are_rising [] = true
are_rising (z ∷ zs) = rise_above z zs

abbrev pub are_edges : List ℤ → Bool
are_edges zs = nat_le 2 (length zs) && are_rising zs

abbrev pub if_edges : List ℤ → Option (List ℤ)
if_edges zs = if are_edges zs then Some zs else None
