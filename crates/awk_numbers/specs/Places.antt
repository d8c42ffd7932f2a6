-- Numbers as places, where a negative number is none.
use Rattle.std.specs.Prelude.{ℕ, suc, ◌-◌, ◌==◌, ℤ, pos, int_le, Bool, true, false, List, [], ◌∷◌}
use Rattle.std.specs.Prelude.{map, Option, Some, None, if◌then◌else◌}
use Rattle.std.specs.Option.{option_map}

abbrev pub is_place : ℤ → Bool
is_place z = int_le (pos 0) z

-- where the one stands that so many true ones stand before
abbrev pub nth_true : ℕ → List Bool → Option ℕ
nth_true n [] = None
nth_true n (true ∷ bs) = if n == 0 then Some 0 else option_map suc (nth_true (n - 1) bs)
nth_true n (false ∷ bs) = option_map suc (nth_true n bs)

-- where the place stands that so many places stand before
abbrev pub nth_place : ℕ → List ℤ → Option ℕ
nth_place n zs = nth_true n (map is_place zs)
