-- The numbers of a lane by place, and what lanes of offsets, places and tags are.
use Rattle.std.specs.Prelude.{◌≡◌, ◌≢◌, ℕ, ◌+◌, ◌<◌, length, get_or, ℤ, pos, negsuc, ◌≤ℤ◌, ◌<ℤ◌}
use Rattle.std.specs.Prelude.{Option, Some, None}
use Rattle.awk_lanes.specs.declared.kind.Kind.{Kind}
use Rattle.awk_lanes.specs.declared.kind.Kind.TheVariants.{Bool as Truths, I8, I16, I32, I64, U8}
use Rattle.awk_lanes.specs.declared.kind.Kind.TheVariants.{U16, U32, U64}
use Rattle.awk_lanes.specs.Column.{Column}
use Rattle.awk_lanes.specs.Numbers.{element, nat_of}

-- how many numbers a lane has
abbrev pub size_of : Column → ℕ
size_of c = length c.items

-- the number at a place
abbrev pub at : Column → ℕ → ℤ
at c i = element c.kind (get_or c.items i (pos 0))

-- that number as a place
abbrev pub place_at : Column → ℕ → ℕ
place_at c i = nat_of (at c i)

-- a number as a place, or none where it is negative
abbrev pub option_place : ℤ → Option ℕ
option_place (pos n) = Some n
option_place (negsuc _) = None

-- the number at a place as a place, or none
abbrev pub option_place_at : Column → ℕ → Option ℕ
option_place_at c i = option_place (at c i)

-- a kind of offsets, starts, stops and indexes
abbrev pub IsIndexKind : Kind → Type 0
IsIndexKind I32 = Unit {0}
IsIndexKind U32 = Unit {0}
IsIndexKind I64 = Unit {0}
IsIndexKind Truths = ⊥
IsIndexKind I8 = ⊥
IsIndexKind I16 = ⊥
IsIndexKind U8 = ⊥
IsIndexKind U16 = ⊥
IsIndexKind U64 = ⊥

-- a kind of the index of an option, which can be negative
abbrev pub IsOptionKind : Kind → Type 0
IsOptionKind I32 = Unit {0}
IsOptionKind I64 = Unit {0}
IsOptionKind Truths = ⊥
IsOptionKind I8 = ⊥
IsOptionKind I16 = ⊥
IsOptionKind U8 = ⊥
IsOptionKind U16 = ⊥
IsOptionKind U32 = ⊥
IsOptionKind U64 = ⊥

-- a and b are equal, or they are in order within a list of n items
abbrev pub IsSpan : ℕ → ℤ → ℤ → Type 0
IsSpan n a b = a ≢ b → (pos 0 ≤ℤ a) × (a ≤ℤ b) × (b ≤ℤ pos n)

-- each offset and the next are a span of a list of n items
pub record IsOffsets (o : Column) (n : ℕ) : Type 0 where
  pub kind : IsIndexKind o.kind
  pub some : 0 < size_of o
  pub ordered : (i : ℕ) → i + 1 < size_of o → IsSpan n (at o i) (at o (i + 1))

-- each start and its stop are a span of a list of n items
pub record AreSpans (s t : Column) (n : ℕ) : Type 0 where
  pub start_kind : IsIndexKind s.kind
  pub stop_kind : IsIndexKind t.kind
  pub same_size : size_of s ≡ size_of t
  pub ordered : (i : ℕ) → i < size_of s → IsSpan n (at s i) (at t i)

-- each number is negative, or a place of a list of n items
pub record IsOptionalIndex (c : Column) (n : ℕ) : Type 0 where
  pub kind : IsOptionKind c.kind
  pub below : (i : ℕ) → i < size_of c → at c i <ℤ pos n

-- each number is a place of a list of n items
pub record IsIndex (c : Column) (n : ℕ) : Type 0 where
  pub kind : IsIndexKind c.kind
  pub places : (i : ℕ) → i < size_of c → (pos 0 ≤ℤ at c i) × (place_at c i < n)

-- i where there is a place, else -1
abbrev pub index_or_null : ℕ → Option ℕ → ℤ
index_or_null i None = negsuc 0
index_or_null i (Some k) = pos i
