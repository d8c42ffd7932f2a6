-- The place of a name among others.
use Rattle.std.specs.Prelude.{ℕ, suc, List, [], ◌∷◌, if◌then◌else◌}
use Rattle.awk_types.specs.DataType.{Name}
use Rattle.awk_types.specs.Names.{same_name}

-- the first place of a name, or the number of names where it is not there
abbrev pub place_in : List Name → Name → ℕ
place_in [] m = 0
place_in (n ∷ ns) m = if same_name n m then 0 else suc (place_in ns m)
