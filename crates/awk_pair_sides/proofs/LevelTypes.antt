-- The types of a level: operands without options, and some list among what they give.
use Rattle.std.proofs.Common.{◌≡◌, ◌==◌, Bool, true, false, not, ◌||◌, refl, ap, ◌∙◌}
use Rattle.std.specs.Prelude.{List, [], ◌∷◌, map, Some, if◌then◌else◌, length}
use Rattle.std.specs.List.{list_any}
use Rattle.std.proofs.lemmas.Bool.{or_parts}
use Rattle.std.proofs.lemmas.List.{length-map}
use Rattle.awk_types.specs.DataType.{DataType, unknown, leaf, var, reg, rec, tup, opt, uni}
use Rattle.awk_types.specs.Parts.{item_of}
use Rattle.awk_types.specs.Predicates.{is_list}
use Rattle.awk_types.specs.Simple.{is_option, present}
use Rattle.awk_types.proofs.SimpleLaws.{present_stays}
use Rattle.awk_pair_sides.specs.Levels.{Role, listed, stretched, repeated, role, roles_by, unless}
use Rattle.awk_pair_sides.specs.Levels.{roles, opens, some_option, is_longer, stretches}
use Rattle.awk_pair_sides.specs.Levels.{item_types}
use Rattle.awk_layout.specs.Layout.{Layout}
use Rattle.awk_layout.specs.Typing.{array_type}
use Rattle.awk_pair_sides.proofs.TestLaws.{any-map}

-- types that are no options are present themselves
pub presents-bare : (ts : List DataType) → some_option ts ≡ false → map present ts ≡ ts
presents-bare [] e = refl
presents-bare (t ∷ ts) e =
    let both : (is_option t ≡ false) × (some_option ts ≡ false) =
    or_parts (is_option t) (some_option ts) e in
    rw (present_stays t both.0) (ap (λ us. t ∷ us) (presents-bare ts both.1))

pub roles-bare : (keep : Bool) (ts : List DataType) → some_option ts ≡ false
    → roles keep ts ≡ roles_by keep (stretches ts) ts
roles-bare keep ts e = ap (λ us. roles_by keep (stretches us) us) (presents-bare ts e)

-- ---- some operand gives lists

abbrev pub is_listed : Role → Bool
is_listed (listed c) = true
is_listed stretched = false
is_listed repeated = false

longer-listed : (s : Bool) (t : DataType) → is_longer t ≡ true → is_listed (role s t) ≡ true
longer-listed s unknown e = refl
longer-listed s (var t) e = refl
longer-listed true (reg n t) e = step (n == 1) e
  where
    step : (b : Bool) → not b ≡ true → is_listed (if b then stretched else listed (Some n)) ≡ true
    step true f = cc
    step false f = refl
longer-listed false (reg n t) e = refl
longer-listed s (leaf p) e = cc
longer-listed s (rec ns ts) e = cc
longer-listed s (tup ts) e = cc
longer-listed s (opt t) e = cc
longer-listed s (uni ts) e = cc

list-listed : (t : DataType) → is_list t ≡ true → is_listed (role false t) ≡ true
list-listed (var t) e = refl
list-listed (reg n t) e = refl
list-listed unknown e = refl
list-listed (leaf p) e = cc
list-listed (rec ns ts) e = cc
list-listed (tup ts) e = cc
list-listed (opt t) e = cc
list-listed (uni ts) e = cc

or-by : (a b c d : Bool) → (a ≡ true → c ≡ true) → (b ≡ true → d ≡ true) → a || b ≡ true
    → c || d ≡ true
or-by true b c d f g e = rw (f refl) refl
or-by false true true d f g e = refl
or-by false true false d f g e = g refl
or-by false false c d f g e = cc

some-longer : (keep s : Bool) (ts : List DataType) → list_any is_longer ts ≡ true
    → list_any is_listed (roles_by keep s ts) ≡ true
some-longer keep s [] e = cc
some-longer keep s (t ∷ ts) e =
    or-by (is_longer t) (list_any is_longer ts) (is_listed (role (unless keep s) t))
    (list_any is_listed (roles_by false s ts)) (longer-listed (unless keep s) t)
    (some-longer false s ts) e

none-stretched : (keep : Bool) → unless keep false ≡ false
none-stretched true = refl
none-stretched false = refl

some-list : (keep : Bool) (ts : List DataType) → list_any is_list ts ≡ true
    → list_any is_listed (roles_by keep false ts) ≡ true
some-list keep [] e = cc
some-list keep (t ∷ ts) e =
    or-by (is_list t) (list_any is_list ts) (is_listed (role (unless keep false) t))
    (list_any is_listed (roles_by false false ts))
    (λ f. ap (λ s. is_listed (role s t)) (none-stretched keep) ∙ list-listed t f)
    (some-list false ts) e

pub some_listed : (keep s : Bool) (ts : List DataType) → stretches ts ≡ s
    → list_any is_list ts ≡ true → list_any is_listed (roles_by keep s ts) ≡ true
some_listed keep true ts e h = some-longer keep true ts e
some_listed keep false ts e h = some-list keep ts h

-- ---- tests of all types

pub some_option_first : (xs : List Layout)
    → list_any (λ x. is_option (array_type x)) xs ≡ some_option (map array_type xs)
some_option_first xs = any-map is_option array_type xs

pub opens_first : (xs : List Layout)
    → list_any (λ x. is_list (present (array_type x))) xs ≡ opens (map array_type xs)
opens_first xs =
    any-map (λ t. is_list (present t)) array_type xs ∙ any-map is_list present (map array_type xs)

pub stretches_first : (xs : List Layout)
    → list_any (λ x. is_longer (array_type x)) xs ≡ stretches (map array_type xs)
stretches_first xs = any-map is_longer array_type xs

-- as many as there were
pub length-item_types : (ts : List DataType) → length (item_types ts) ≡ length ts
length-item_types ts = length-map (map present ts) item_of ∙ length-map ts present
