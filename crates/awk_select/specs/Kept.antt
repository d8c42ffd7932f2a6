-- Numbers that are kept, while a lane of them is made.
use Rattle.std.specs.Prelude.{◌≡◌, ℕ, ℤ, List, [], ◌∷◌, ◌++◌, map, Bool, if◌then◌else◌}
use Rattle.awk_lanes.specs.Groups.{groups_of}
use Rattle.awk_lanes.specs.Making.{Making}
use Rattle.awk_lanes.specs.Numbers.{number}
use Rattle.awk_lanes.specs.Ranges.{AreNumbers}
use Rattle.awk_lanes.specs.Words.{column}
use Rattle.awk_lanes.specs.declared.kind.Kind.TheVariants.{I64}

-- these numbers are put behind those that stand
abbrev pub Puts : List ℤ → Making → Making → Type 0
Puts zs old new = new ≡ record { kind = old.kind; room = old.room; items = old.items ++ zs }

-- what is kept, or none
abbrev pub kept : {X : Type 0} → Bool → X → List X
kept keep x = if keep then x ∷ [] else []

-- the groups of eight bytes are those of numbers
abbrev pub AreGroups : List (List ℕ) → Type 0
AreGroups gs =
    (gs ≡ groups_of (map (number I64) gs)) × AreNumbers (column I64 (map (number I64) gs))
