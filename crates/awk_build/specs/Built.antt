-- What arrays of plain values are.
use Rattle.std.specs.Prelude.{◌≡◌, List, [], ◌∷◌}
use Rattle.serde_json.specs.Data.{Data, Items, no_items, item, Members, no_members, member}
use Rattle.awk_types.specs.DataType.{unknown}
use Rattle.awk_layout.specs.Layout.{Layout}
use Rattle.awk_layout.specs.Typing.{array_type, array_items}
use Rattle.awk_plain.specs.IsPlain.{IsPlain, ArePlain}
use Rattle.awk_plain.specs.Plain.{plain_type, plain_value, items_type, items_values}

-- one value
pub record IsArrayOf (d : Data) (x : Layout) : Type 0 where
  pub plain : IsPlain d
  pub typ : array_type x ≡ plain_type d
  pub items : array_items x ≡ plain_value d ∷ []

-- the items of a list
pub record IsArrayOfItems (ds : Items) (x : Layout) : Type 0 where
  pub plain : ArePlain ds
  pub typ : array_type x ≡ items_type unknown ds
  pub items : array_items x ≡ items_values unknown [] ds

-- an array for each of the first values, and those that are left behind them
abbrev pub AreArraysOf : Items → List Layout → Items → Type 0
AreArraysOf ds [] left = ds ≡ left
AreArraysOf no_items (x ∷ xs) left = ⊥
AreArraysOf (item d ds) (x ∷ xs) left = IsArrayOf d x × AreArraysOf ds xs left

abbrev pub AreFieldsOf : Members → List Layout → Members → Type 0
AreFieldsOf ms [] left = ms ≡ left
AreFieldsOf no_members (x ∷ xs) left = ⊥
AreFieldsOf (member key d ms) (x ∷ xs) left = IsArrayOf d x × AreFieldsOf ms xs left
