-- Rows in pairs by lanes: the lists that they are, their ends, and which are present.
use Rattle.std.specs.Prelude.{◌≡◌, ℕ, ◌+◌, ◌<◌, ◌^◌, ℤ, pos, negsuc, Bool, Option, Some, None}
use Rattle.std.specs.Prelude.{if◌then◌else◌, IfSome, List, []}
use Rattle.awk_types.specs.Value.{Value}
use Rattle.awk_lanes.specs.Column.{Column}
use Rattle.awk_lanes.specs.Places.{size_of, place_at, option_place_at, IsIndexKind, IsOptionKind}
use Rattle.awk_layout.specs.Valid.{len}
use Rattle.awk_columns.specs.Lists.{Listed, items_at, length_of}
use Rattle.awk_jagged_rows.specs.Sides.{ListsBy}
use Rattle.awk_jagged_rows.specs.RowLists.{list_place, HasPlace}
use Rattle.awk_jagged_rows.specs.declared.row_lists.RowLists.{RowLists}

-- the list at each place
abbrev pub lists_by : Listed → ListsBy
lists_by l i = items_at l.starts l.stops l.content i

-- where item k of list i lies
abbrev pub place_by : Listed → ℕ → ℕ → ℕ
place_by l i k = place_at l.starts i + k

-- ---- the lists of rows

-- one of two places, or -1 where not both are there
abbrev pub pair_number : Bool → Option ℕ → Option ℕ → ℤ
pair_number second (Some p) (Some q) = pos (if second then q else p)
pair_number second p q = negsuc 0

-- the list of the row that is item k of list i
abbrev pub pair_at : Bool → Listed → Listed → RowLists → RowLists → ℕ → ℕ → ℤ
pair_at second xs ws x w i k =
    pair_number second (list_place x.index (place_by xs i k)) (list_place w.index (place_by ws i k))

-- the first so many rows are there, as small places
abbrev pub ArePlaced : ℕ → RowLists → Type 0
ArePlaced n r =
    (i : ℕ) → i < n → HasPlace r.index i × IfSome (list_place r.index i) (λ k. k < 2 ^ 63)

-- lists are as long in pairs
abbrev pub AreAlike : Listed → Listed → Type 0
AreAlike xs ws = (i : ℕ) → i < size_of ws.starts → length_of xs i ≡ length_of ws i

pub record AreReady (xs ws : Listed) (x w : RowLists) : Type 0 where
  pub pairs : size_of xs.starts ≡ size_of ws.starts
  pub alike : AreAlike xs ws
  pub first : ArePlaced (len xs.content) x
  pub second : ArePlaced (len ws.content) w

-- ---- their ends

-- an end of a list, and 0 of none
abbrev pub end_number : Column → Option ℕ → ℤ
end_number c None = pos 0
end_number c (Some k) = pos (place_at c k)

-- an index of rows
abbrev pub IsSmallIndex : Column → Type 0
IsSmallIndex j = IsOptionKind j.kind × (size_of j < 2 ^ 63)

-- an index of lists whose ends are these
pub record HasEnds (j c : Column) : Type 0 where
  pub kind : IsOptionKind j.kind
  pub ends : IsIndexKind c.kind
  pub below : (i : ℕ) → i < size_of j → IfSome (option_place_at j i) (λ k. k < size_of c)

-- ---- which are present

-- ---- lists at places

-- lists among these are at places
abbrev pub AreIn : Column → RowLists → Type 0
AreIn j r =
    (i : ℕ) → i < size_of j → IfSome (option_place_at j i) (λ k. k < size_of r.starts)

-- the items of a list at a place, and none of none
abbrev pub items_or_none : RowLists → Option ℕ → List Value
items_or_none r None = []
items_or_none r (Some k) = items_at r.starts r.stops r.content k

-- these lists are those at places
pub record AreListsIn (j : Column) (r : RowLists) (l : Listed) : Type 0 where
  pub size : size_of l.starts ≡ size_of j
  pub content : l.content ≡ r.content
  pub lists : (i : ℕ) → i < size_of j → lists_by l i ≡ items_or_none r (option_place_at j i)
