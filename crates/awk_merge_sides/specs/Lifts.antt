-- How the parts of a value are carried where it is.
use Rattle.std.specs.Prelude.{◌≡◌, ◌<◌, ◌==◌, ◌∷◌, ℕ, List, Option, Some, None, get_or, length}
use Rattle.std.specs.Prelude.{option_map, suc, if◌then◌else◌}
use Rattle.awk_unify.specs.Carry.{Carry, keep, in_items, to_parts, to_alternatives, carry_list}
use Rattle.awk_unify.specs.Carry.{tag_at}
use Rattle.awk_unify.specs.Carries.{carry_at}

-- the items of a list
abbrev pub items_carry : Carry → Carry
items_carry (in_items f) = f
items_carry f = keep

-- the place of the first part that goes to a place
abbrev pub source_at : ℕ → List ℕ → List Carry → Option ℕ
source_at j (p ∷ ps) (f ∷ fs) = if p == j then Some 0 else option_map suc (source_at j ps fs)
source_at j ps fs = None

-- the part that goes to a place of a row, if one does
abbrev pub part_source : Carry → ℕ → Option ℕ
part_source (to_parts ps fs) j = source_at j ps (carry_list fs)
part_source f j = Some j

-- for each of n places the part that goes there
pub record AreSources (source : ℕ → Option ℕ) (n : ℕ) (sources : List (Option ℕ)) : Type 0 where
  pub long : length sources ≡ n
  pub at : (j : ℕ) → j < n → get_or sources j None ≡ source j

-- and how it is carried
abbrev pub part_carry : Carry → ℕ → Carry
part_carry (to_parts ps fs) k = carry_at (carry_list fs) k
part_carry f k = keep

-- the tag that an alternative gets
abbrev pub alternative_tag : Carry → ℕ → ℕ
alternative_tag (to_alternatives ts fs) k = tag_at ts k
alternative_tag f k = k

-- how its values are carried
abbrev pub alternative_carry : Carry → ℕ → Carry
alternative_carry (to_alternatives ts fs) k = carry_at (carry_list fs) k
alternative_carry f k = keep
