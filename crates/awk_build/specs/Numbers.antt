-- Lists of whole numbers.
use Rattle.std.specs.Prelude.{◌≡◌, ◌<◌, ℤ, List, [], ◌∷◌, length}
use Rattle.serde_json.specs.Data.{Data, null, boolean, number, string, array, object}
use Rattle.serde_json.specs.Data.{Items, no_items, item}
use Rattle.awk_types.specs.Has.{Holds}
use Rattle.awk_types.specs.declared.primitive.Primitive.TheVariants.{I64}
use Rattle.awk_plain.specs.Plain.{number_in}

-- the whole number that a value is
abbrev pub IsNumberOf : Data → ℤ → Type 0
IsNumberOf (number n) z = (number_in n ≡ z) × Holds I64 z
IsNumberOf null z = ⊥
IsNumberOf (boolean b) z = ⊥
IsNumberOf (string s) z = ⊥
IsNumberOf (array ds) z = ⊥
IsNumberOf (object ms) z = ⊥

-- the numbers that the first items are, and the items that are left behind them
abbrev pub AreNumbersOf : Items → List ℤ → Items → Type 0
AreNumbersOf ds [] left = ds ≡ left
AreNumbersOf no_items (z ∷ zs) left = ⊥
AreNumbersOf (item d ds) (z ∷ zs) left = IsNumberOf d z × AreNumbersOf ds zs left

-- there is an item, and all are these whole numbers
pub record HasNumbers (ds : Items) (zs : List ℤ) : Type 0 where
  pub some : 0 < length zs
  pub all : AreNumbersOf ds zs no_items
