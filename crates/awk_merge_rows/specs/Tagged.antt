-- The columns of the alternatives of a union put in groups, and items by the tags and places that
-- they get there.
use Rattle.std.specs.Prelude.{◌≡◌, ◌+◌, ◌<◌, ◌≤◌, ◌^◌, ◌++◌, ◌∷◌, [], ℕ, ℤ, pos, ◌≤ℤ◌, List, get_or}
use Rattle.std.specs.Prelude.{length, map, nat_lt, if◌then◌else◌}
use Rattle.std.specs.List.{AllByRecursion, range_with_len}
use Rattle.awk_types.specs.DataType.{DataType, uni, types_from}
use Rattle.awk_types.specs.Has.{Has}
use Rattle.awk_types.specs.Value.{Value, alt}
use Rattle.awk_lanes.specs.Column.{Column}
use Rattle.awk_lanes.specs.Making.{Making}
use Rattle.awk_lanes.specs.Numbers.{nat_of}
use Rattle.awk_lanes.specs.Places.{size_of, at, place_at, IsIndexKind}
use Rattle.awk_lanes.specs.declared.kind.Kind.TheVariants.{I8, I64}
use Rattle.awk_layout.specs.Array.{IsArrayType}
use Rattle.awk_layout.specs.Layout.{Layout}
use Rattle.awk_unify.specs.Carry.{Carry}
use Rattle.awk_merge_sides.specs.Lifts.{alternative_tag, alternative_carry}
use Rattle.awk_merge_sides.specs.Groups.{groups_of, with_side_at, AreGroups, AreCounted}
use Rattle.awk_merge_rows.specs.UnionLevels.{item_in}
use Rattle.awk_merge_sides.specs.Sides.{Side, side_items, merged_items, IsSide}
use Rattle.awk_merge_sides.specs.declared.groups.Groups.{Groups}
use Rattle.awk_merge_rows.specs.declared.unions.Tagged.{Tagged}
use Rattle.awk_merge_rows.specs.declared.unions.Target.{Target}

-- ---- where the items of columns go

-- those of a further column of a group: behind what is there
abbrev pub target_in : ℕ → List (List Side) → Target
target_in tag gs =
    record {
      tag = if nat_lt tag (length gs) then tag else 0;
      base = length (merged_items (get_or gs tag []));
    }

abbrev pub target_at : List Target → ℕ → Target
target_at xs k = get_or xs k (record { tag = 0; base = 0 })

-- the column of the k-th alternative in the group of its tag
abbrev pub with_alternative : Carry → ℕ → Layout → List (List Side) → List (List Side)
with_alternative f k y gs = with_side_at (alternative_tag f k) gs y (alternative_carry f k)

-- those of the alternatives from place k on
abbrev pub with_alternatives : Carry → ℕ → List Layout → List (List Side) → List (List Side)
with_alternatives f k [] gs = gs
with_alternatives f k (y ∷ ys) gs = with_alternatives f (k + 1) ys (with_alternative f k y gs)

abbrev pub targets_of : Carry → ℕ → List Layout → List (List Side) → List Target
targets_of f k [] gs = []
targets_of f k (y ∷ ys) gs =
    target_in (alternative_tag f k) gs ∷ targets_of f (k + 1) ys (with_alternative f k y gs)

-- the tag and the place of an item of a union
abbrev pub item_tag : Column → List Target → ℕ → ℕ
item_tag t xs i = (target_at xs (place_at t i)).tag

abbrev pub item_place : Column → Column → List Target → ℕ → ℕ
item_place t j xs i = (target_at xs (place_at t i)).base + place_at j i

-- these are numbers of a tag and of an index
pub record IsTargeted (t j : Column) (xs : List Target) (i : ℕ) : Type 0 where
  pub tag : pos 0 ≤ℤ at t i
  pub place : pos 0 ≤ℤ at j i
  pub within : place_at t i < length xs
  pub tag_fits : item_tag t xs i < 128
  pub place_fits : item_place t j xs i < 2 ^ 63

pub record AreTargeted (t j : Column) (xs : List Target) : Type 0 where
  pub tag_kind : t.kind ≡ I8
  pub index_kind : IsIndexKind j.kind
  pub same_size : size_of t ≡ size_of j
  pub each : (i : ℕ) → i < size_of t → IsTargeted t j xs i

-- ---- lanes that are made

-- room for n tags and places
pub record IsReady (n : ℕ) (m : Tagged) : Type 0 where
  pub tag_kind : m.tags.kind ≡ I8
  pub index_kind : m.index.kind ≡ I64
  pub tag_room : length m.tags.items + n ≤ m.tags.room
  pub index_room : length m.index.items + n ≤ m.index.room

-- n numbers more
abbrev pub with_numbers : Making → ℕ → (ℕ → ℕ) → Making
with_numbers m n f =
    record {
      kind = m.kind;
      room = m.room;
      items = m.items ++ map (λ i. pos (f i)) (range_with_len 0 n);
    }

-- ---- items by tags and places

-- the value is an item of a group
pub record IsTagged (gs : List (List Side)) (t j : ℤ) (v : Value) : Type 0 where
  pub tag : pos 0 ≤ℤ t
  pub within : nat_of t < length gs
  pub place : pos 0 ≤ℤ j
  pub below : nat_of j < length (merged_items (get_or gs (nat_of t) []))
  pub value : v ≡ alt (nat_of t) (item_in gs (nat_of t) (nat_of j))

abbrev pub AreTagged : List (List Side) → List ℤ → List ℤ → List Value → Type 0
AreTagged gs [] [] [] = Unit {0}
AreTagged gs (t ∷ ts) (j ∷ js) (v ∷ vs) = IsTagged gs t j v × AreTagged gs ts js vs
AreTagged gs ts js vs = ⊥

-- the items so far, of n in all
pub record IsUnionSoFar (ts : List DataType) (n : ℕ) (vs : List Value) (g : Groups) (m : Tagged)
    : Type 0 where
  pub groups : AreGroups ts (groups_of g)
  pub counted : AreCounted g
  pub tag_kind : m.tags.kind ≡ I8
  pub index_kind : m.index.kind ≡ I64
  pub tag_room : m.tags.room ≡ n
  pub index_room : m.index.room ≡ n
  pub tagged : AreTagged (groups_of g) m.tags.items m.index.items vs
  pub typed : AllByRecursion (Has (uni (types_from ts))) vs

-- the items so far, and behind them those of a further column
pub record PutsSide (s : Side) (g : Groups) (m : Tagged) (g' : Groups) (m' : Tagged) : Type 0 where
  pub so_far : (ts : List DataType) (n : ℕ) (vs : List Value)
      → IsArrayType (uni (types_from ts)) → IsSide (uni (types_from ts)) s
      → IsUnionSoFar ts n vs g m → IsUnionSoFar ts n (vs ++ side_items s) g' m'
