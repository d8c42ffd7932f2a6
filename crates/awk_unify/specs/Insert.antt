-- Putting a type into alternatives, by the first one that joins with it.
use Rattle.std.specs.Prelude.{◌+◌, List, [], ◌∷◌, ◌++◌, length}
use Rattle.awk_types.specs.DataType.{DataType}
use Rattle.awk_unify.specs.Carries.{all_same}
use Rattle.awk_unify.specs.Carry.{keep}
use Rattle.awk_unify.specs.Unification.{Placed, Unification}

-- behind alternatives that stay as they are
abbrev pub ahead : List DataType → Placed → Placed
ahead ts p =
    record {
      typs = ts ++ p.typs;
      kept = all_same ts ++ p.kept;
      tag = length ts + p.tag;
      put = p.put;
    }

-- a new alternative
abbrev pub last : DataType → Placed
last b = record { typs = b ∷ []; kept = []; tag = 0; put = keep }

-- the first of the alternatives joins
abbrev pub joined_first : Unification → List DataType → Placed
joined_first j ts =
    record { typs = j.typ ∷ ts; kept = j.left ∷ all_same ts; tag = 0; put = j.right }
