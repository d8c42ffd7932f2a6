-- The raw bytes behind a load line, parted by its keys.
use Rattle.std.specs.Prelude.{◌≡◌, ℕ, ◌-◌, nat_lt, List, [], ◌∷◌, take, drop, Option, Some, None}
use Rattle.std.specs.Prelude.{if◌then◌else◌, codes, refl}
use Rattle.awk_types.specs.DataType.{Name}
use Rattle.awk_store.specs.Buffers.{ByKey}
use Rattle.awk_query.specs.declared.reading.RawPart.{RawPart}

-- the first key of which not all bytes are there, where so many are
abbrev pub cut_key : List RawPart → ℕ → Option Name
cut_key [] have = None
cut_key (p ∷ ps) have = if nat_lt have p.count then Some p.key else cut_key ps (have - p.count)

-- the bytes of each key
abbrev pub parted : List RawPart → List ℕ → ByKey
parted [] raw = []
parted (p ∷ ps) raw = (p.key, take p.count raw) ∷ parted ps (drop p.count raw)

-- ---- worked examples: two bytes of `a`, and three of `b`

abbrev two_keys : List RawPart
two_keys = record { key = codes "a"; count = 2 } ∷ record { key = codes "b"; count = 3 } ∷ []

cut_second : cut_key two_keys 4 ≡ Some (codes "b")
cut_second = refl

cut_first : cut_key two_keys 1 ≡ Some (codes "a")
cut_first = refl

not_cut : cut_key two_keys 5 ≡ None
not_cut = refl

two_parts : parted two_keys (7 ∷ 8 ∷ 9 ∷ 7 ∷ 8 ∷ [])
    ≡ (codes "a", 7 ∷ 8 ∷ []) ∷ (codes "b", 9 ∷ 7 ∷ 8 ∷ []) ∷ []
two_parts = refl
