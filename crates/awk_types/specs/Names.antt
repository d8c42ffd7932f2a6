-- Names of fields, and which lists of names have no name twice.
use Rattle.std.specs.Prelude.{◌≡◌, ℕ, suc, ◌&&◌, not, Bool, true, false, List, [], ◌∷◌}
use Rattle.std.specs.Prelude.{if◌then◌else◌}
use Rattle.std.specs.List.{list_any}
use Rattle.std.specs.Str.{bytes_eq}
use Rattle.std.specs.Cmp.Lexicographic.{pointwise}
use Rattle.awk_types.specs.DataType.{Name}

abbrev pub same_name : Name → Name → Bool
same_name = bytes_eq

abbrev pub same_names : List Name → List Name → Bool
same_names = pointwise same_name

-- whether a name is one of these
abbrev pub is_among : Name → List Name → Bool
is_among n ns = list_any (λ m. same_name m n) ns

-- no name stands twice
abbrev pub AreDistinct : List Name → Type 0
AreDistinct [] = Unit {0}
AreDistinct (n ∷ ns) = (is_among n ns ≡ false) × AreDistinct ns

-- whether no name comes twice
abbrev pub are_distinct : List Name → Bool
are_distinct [] = true
are_distinct (n ∷ ns) = not (is_among n ns) && are_distinct ns

-- the place of a name, or the number of names where it is not there
abbrev pub place_of : Name → List Name → ℕ
place_of n [] = 0
place_of n (m ∷ ms) = if same_name m n then 0 else suc (place_of n ms)
