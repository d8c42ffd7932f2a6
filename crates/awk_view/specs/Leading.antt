-- How many names come before the first that a test does not hold of.
use Rattle.std.specs.Prelude.{ℕ, suc, Bool, List, [], ◌∷◌, if◌then◌else◌}
use Rattle.awk_types.specs.DataType.{Name}

abbrev pub leading : (Name → Bool) → List Name → ℕ
leading p [] = 0
leading p (n ∷ ns) = if p n then suc (leading p ns) else 0
