-- Values of options: which of them are there, how many they are, and of which type.
use Rattle.std.proofs.Common.{refl, ◌≡◌, arith, ◌≤◌, ap, suc, ℕ}
use Rattle.std.specs.Prelude.{true, List, filter, length, ◌∷◌, []}
use Rattle.std.specs.List.{AllByRecursion}
use Rattle.awk_types.specs.Value.{Value, alt, int, list, null, row, truth}
use Rattle.awk_types.specs.DataType.{DataType, opt}
use Rattle.awk_types.specs.Has.{Has}
use Rattle.awk_columns.specs.Columns.{is_present, option_index}

pub not_null : (v : Value) → (v ≡ null → ⊥) → is_present v ≡ true
not_null null h = absurd (h refl)
not_null (int z) h = refl
not_null (truth b) h = refl
not_null (list vs) h = refl
not_null (row vs) h = refl
not_null (alt k v) h = refl

pub fewer-present : (vs : List Value) → length (filter is_present vs) ≤ length vs
fewer-present [] = omega arith
fewer-present (null ∷ vs) = omega (arith, fewer-present vs)
fewer-present (int z ∷ vs) = omega (arith, fewer-present vs)
fewer-present (truth b ∷ vs) = omega (arith, fewer-present vs)
fewer-present (list ws ∷ vs) = omega (arith, fewer-present vs)
fewer-present (row ws ∷ vs) = omega (arith, fewer-present vs)
fewer-present (alt k w ∷ vs) = omega (arith, fewer-present vs)

-- what is there of an option is of its type
pub present-have : (t : DataType) (vs : List Value) → AllByRecursion (Has (opt t)) vs
    → AllByRecursion (Has t) (filter is_present vs)
present-have t [] h = tt
present-have t (null ∷ vs) h = present-have t vs h.1
present-have t (int z ∷ vs) h = (h.0, present-have t vs h.1)
present-have t (truth b ∷ vs) h = (h.0, present-have t vs h.1)
present-have t (list ws ∷ vs) h = (h.0, present-have t vs h.1)
present-have t (row ws ∷ vs) h = (h.0, present-have t vs h.1)
present-have t (alt k w ∷ vs) h = (h.0, present-have t vs h.1)

pub length-option_index : (n : ℕ) (vs : List Value) → length (option_index n vs) ≡ length vs
length-option_index n [] = refl
length-option_index n (null ∷ vs) = ap suc (length-option_index n vs)
length-option_index n (int z ∷ vs) = ap suc (length-option_index (suc n) vs)
length-option_index n (truth b ∷ vs) = ap suc (length-option_index (suc n) vs)
length-option_index n (list ws ∷ vs) = ap suc (length-option_index (suc n) vs)
length-option_index n (row ws ∷ vs) = ap suc (length-option_index (suc n) vs)
length-option_index n (alt k w ∷ vs) = ap suc (length-option_index (suc n) vs)
