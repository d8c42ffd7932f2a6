-- What is made of lanes when contents are brought in order: the places that are taken, and new
-- lanes.
use Rattle.std.specs.Prelude.{◌≡◌, ℕ, ◌+◌, ◌<◌, ◌≤◌, ◌≤ℤ◌, ◌-◌, ◌^◌, ◌==◌, List, [], ◌∷◌, length}
use Rattle.std.specs.Prelude.{map, get_or, ℤ, pos, negsuc, Option, Some, None, if◌then◌else◌}
use Rattle.std.specs.List.{range_with_len, flat_map}
use Rattle.awk_lanes.specs.declared.kind.Kind.TheVariants.{I8, I64}
use Rattle.awk_lanes.specs.Column.{Column}
use Rattle.awk_lanes.specs.Making.{Making}
use Rattle.awk_lanes.specs.Places.{size_of, at, place_at, option_place_at, IsIndexKind}
use Rattle.awk_lanes.specs.Made.{lane_of}

-- what f gives at the first n places, one after another
abbrev pub first_of : (ℕ → List ℕ) → ℕ → List ℕ
first_of f n = flat_map f (range_with_len 0 n)

-- these places as a lane
abbrev pub places_lane : List ℕ → Column
places_lane ks = record { kind = I64; items = map (λ k. pos k) ks }

-- the numbers at these places, as they lie
abbrev pub numbers_at : Column → List ℕ → Column
numbers_at c ks = record { kind = c.kind; items = map (λ k. get_or c.items k (pos 0)) ks }

-- each of these is a place of n items
abbrev pub AreBelow : ℕ → List ℕ → Type 0
AreBelow n [] = Unit {0}
AreBelow n (k ∷ ks) = (k < n) × AreBelow n ks

-- places of n items that go up one by one from a first one
pub record IsRun (p : Column) (n first : ℕ) : Type 0 where
  pub within : first + size_of p ≤ n
  pub places : (i : ℕ) → i < size_of p → place_at p i ≡ first + i

-- ---- options

abbrev pub present_place : Option ℕ → List ℕ
present_place None = []
present_place (Some k) = k ∷ []

-- the place at place i of an option's index, where it is not null
abbrev pub present_at : Column → ℕ → List ℕ
present_at j i = present_place (option_place_at j i)

abbrev pub count_or_null : ℕ → Option ℕ → ℤ
count_or_null n None = negsuc 0
count_or_null n (Some k) = pos n

-- how many items before are present, or -1 where it is null
abbrev pub counted_at : Column → ℕ → ℤ
counted_at j i = count_or_null (length (first_of (present_at j) i)) (option_place_at j i)

abbrev pub counted_lane : Column → Column
counted_lane j = lane_of I64 (size_of j) (counted_at j)

-- ---- unions

-- tags and places of items, none negative
pub record AreTagged (t j : Column) : Type 0 where
  pub tag_kind : t.kind ≡ I8
  pub index_kind : IsIndexKind j.kind
  pub same_size : size_of t ≡ size_of j
  pub tags : (i : ℕ) → i < size_of t → pos 0 ≤ℤ at t i
  pub places : (i : ℕ) → i < size_of t → (pos 0 ≤ℤ at j i) × (place_at j i < 2 ^ 63)

-- the place of item i, where it is of alternative a
abbrev pub tagged_at : Column → Column → ℕ → ℕ → List ℕ
tagged_at t j a i = if a == place_at t i then place_at j i ∷ [] else []

-- how many items before are of the same alternative
abbrev pub counted_tag : Column → Column → ℕ → ℤ
counted_tag t j i = pos (length (first_of (tagged_at t j (place_at t i)) i))

abbrev pub counted_tags : Column → Column → Column
counted_tags t j = lane_of I64 (size_of t) (counted_tag t j)

-- the places of the items of alternative a
abbrev pub tagged_places : Column → Column → ℕ → List ℕ
tagged_places t j a = first_of (tagged_at t j a) (size_of t)

-- how many items are of each of the first alternatives
abbrev pub tag_counts : Column → Column → ℕ → List ℕ
tag_counts t j many = map (λ a. length (tagged_places t j a)) (range_with_len 0 many)

-- the places of the items of each of the first alternatives
abbrev pub tagged_lanes : Column → Column → ℕ → List Column
tagged_lanes t j many = map (λ a. places_lane (tagged_places t j a)) (range_with_len 0 many)

-- a lane of n places that is begun
abbrev pub begun : ℕ → Making
begun n = record { kind = I64; room = n; items = [] }

-- the lane of places that is made at a place of a list
abbrev pub made_at : List Making → ℕ → Making
made_at ms a = get_or ms a (begun 0)

abbrev pub lane_made : Making → Column
lane_made m = record { kind = I64; items = m.items }

-- ---- lists

-- the places of the items of list i
abbrev pub span_at : Column → Column → ℕ → List ℕ
span_at s t i = range_with_len (place_at s i) (place_at t i - place_at s i)

-- the places of the items of all lists
abbrev pub spans : Column → Column → List ℕ
spans s t = first_of (span_at s t) (size_of s)

-- how many items lists have together, or none where they are more than a limit
abbrev pub IsTotal : ℕ → Column → Column → Option ℕ → Type 0
IsTotal limit s t None = limit < length (spans s t)
IsTotal limit s t (Some n) = (n ≡ length (spans s t)) × (n ≤ limit)

-- where list i begins, if the lists lie one after another from 0 on
abbrev pub offset_at : Column → Column → ℕ → ℤ
offset_at s t i = pos (length (first_of (span_at s t) i))

abbrev pub offsets_lane : Column → Column → Column
offsets_lane s t = lane_of I64 (size_of s + 1) (offset_at s t)

-- the items of all lists lie in a row, from a first one on
pub record IsRow (s t : Column) (n first : ℕ) : Type 0 where
  pub within : first + length (spans s t) ≤ n
  pub places : spans s t ≡ range_with_len first (length (spans s t))
