-- Contents that hold the parts of values, one after another: the columns of rows, and the
-- alternatives of unions.
use Rattle.std.specs.Prelude.{◌≡◌, ℕ, suc, List, [], ◌∷◌, map}
use Rattle.awk_types.specs.Value.{Value}
use Rattle.awk_layout.specs.Layout.{Layout}
use Rattle.awk_layout.specs.Typing.{array_items}
use Rattle.awk_columns.specs.Columns.{part_at, alternative_values}

-- the columns hold the parts from place k on
abbrev pub AreParts : ℕ → List Value → List Layout → Type 0
AreParts k vs [] = Unit {0}
AreParts k vs (y ∷ ys) = (array_items y ≡ map (part_at k) vs) × AreParts (suc k) vs ys

-- the contents hold the values of the alternatives from place k on
abbrev pub AreAlternatives : ℕ → List Value → List Layout → Type 0
AreAlternatives k vs [] = Unit {0}
AreAlternatives k vs (y ∷ ys) =
    (array_items y ≡ alternative_values k vs) × AreAlternatives (suc k) vs ys
