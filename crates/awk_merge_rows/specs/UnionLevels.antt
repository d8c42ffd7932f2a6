-- A level of unions that are merged: lanes, and one group of columns an alternative.
use Rattle.std.specs.Prelude.{◌≡◌, ◌<◌, ◌^◌, [], ℕ, List, get_or, length, pos, ◌≤ℤ◌}
use Rattle.std.specs.List.{AllByRecursion}
use Rattle.awk_types.specs.DataType.{DataType, uni, types_from}
use Rattle.awk_types.specs.Has.{Has}
use Rattle.awk_types.specs.Value.{Value, null, alt}
use Rattle.awk_lanes.specs.Places.{size_of, at, place_at}
use Rattle.awk_lanes.specs.declared.kind.Kind.TheVariants.{I8, I64}
use Rattle.awk_merge_sides.specs.Sides.{Side, merged_items}
use Rattle.awk_merge_rows.specs.declared.unions.UnionLevel.{UnionLevel}
use Rattle.awk_merge_sides.specs.Groups.{groups_of, AreCounted, AreGroups}

-- the item of a group at a place
abbrev pub item_in : List (List Side) → ℕ → ℕ → Value
item_in gs k i = get_or (merged_items (get_or gs k [])) i null

pub record IsUnionLevel (ts : List DataType) (ss : List Side) (r : UnionLevel) : Type 0 where
  pub groups : AreGroups ts (groups_of r.groups)
  pub counted : AreCounted r.groups
  pub fits : size_of r.tags < 2 ^ 63
  pub tag_kind : r.tags.kind ≡ I8
  pub index_kind : r.index.kind ≡ I64
  pub same_size : size_of r.tags ≡ size_of r.index
  pub size : length (merged_items ss) ≡ size_of r.tags
  pub tags : (i : ℕ) → i < size_of r.tags
      → (pos 0 ≤ℤ at r.tags i) × (place_at r.tags i < length (groups_of r.groups))
  pub places : (i : ℕ) → i < size_of r.tags → (pos 0 ≤ℤ at r.index i)
      × (place_at r.index i
      < length (merged_items (get_or (groups_of r.groups) (place_at r.tags i) [])))
  pub items : (i : ℕ) → i < size_of r.tags → get_or (merged_items ss) i null
      ≡ alt (place_at r.tags i)
      (item_in (groups_of r.groups) (place_at r.tags i) (place_at r.index i))
  pub typed : AllByRecursion (Has (uni (types_from ts))) (merged_items ss)
