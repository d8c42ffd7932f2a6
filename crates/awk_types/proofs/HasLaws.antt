-- Values of their types: rows of as many parts as their types, and tags that are places.
use Rattle.std.specs.Prelude.{List, [], ◌∷◌, length}
use Rattle.std.proofs.Common.{◌≡◌, ℕ, zero, suc, ◌<◌, refl, ap, arith}
use Rattle.awk_types.specs.DataType.{DataType, types_from, DataTypes, no_types, type, type_list}
use Rattle.awk_types.specs.Has.{HasRow, HasAlternative}
use Rattle.awk_types.specs.Value.{Value}

pub row-length : (ts : List DataType) (ws : List Value) → HasRow (types_from ts) ws
    → length ws ≡ length ts
row-length [] [] h = refl
row-length (t ∷ ts) (w ∷ ws) h = ap suc (row-length ts ws h.1)
row-length [] (w ∷ ws) h = absurd h
row-length (t ∷ ts) [] h = absurd h

pub tag_within : (ts : DataTypes) (k : ℕ) (v : Value) → HasAlternative ts k v
    → k < length (type_list ts)
tag_within no_types k v h = absurd h
tag_within (type t ts) zero v h = omega arith
tag_within (type t ts) (suc k) v h = omega (arith, tag_within ts k v h)
