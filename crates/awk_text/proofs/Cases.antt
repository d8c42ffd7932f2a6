-- What a case of a valid layout has: names for its fields.
use Rattle.std.proofs.Common.{◌≡◌, ℕ, ◌+◌, ◌*◌, ◌<◌, ◌==◌, Bool, true, false, List, ◌++◌}
use Rattle.std.proofs.Common.{◌-◌, map, codes, Option, Some, None, length, if◌then◌else◌, subst}
use Rattle.std.proofs.Common.{ap, sym, ◌∙◌, arith}
use Rattle.std.specs.List.{range_with_len}
use Rattle.std.specs.Ordering.{int_eq}
use Rattle.awk_types.specs.DataType.{Name}
use Rattle.awk_lanes.specs.Numbers.{nat_of}
use Rattle.awk_lanes.specs.Places.{at, option_place_at}
use Rattle.awk_json.specs.Text.{comma_joined}
use Rattle.awk_layout.specs.Layout.{Layout, layouts_from, count, empty, flat, regular}
use Rattle.awk_layout.specs.Layout.{lists, offset_lists, rows, indexed, optional, byte_masked}
use Rattle.awk_layout.specs.Layout.{bit_masked, unmasked, union}
use Rattle.awk_layout.specs.Valid.{len, IsValid, AreNames}
use Rattle.awk_layout.specs.Numbered.{IsNumbered}
use Rattle.awk_layout.specs.Item.{byte_shows, bit_shows}
use Rattle.awk_layout.specs.Contents.{count-layouts_from}
use Rattle.awk_layout.specs.Place.{Case, span, across, missing, through, case_of, through_option}
use Rattle.awk_layout.proofs.LayoutLists.{layout_list-from}
use Rattle.awk_text.specs.LayoutText.{AreNamed, layout_text, row_text, member_text, case_text}
use Rattle.awk_text.proofs.CaseTexts.{layout_text-case}
use Rattle.awk_text.proofs.Places.{texts_from}

-- the text of an item, by what its place was found to be
pub item_text-case : (x : Layout) (i : ℕ) (c : Case) → IsValid x → IsNumbered x → i < len x
    → c ≡ case_of x i → layout_text x i ≡ case_text c
item_text-case x i c v w p e = layout_text-case x i v w p ∙ ap case_text (sym e)

pub item_text-row : (x : Layout) (i : ℕ) (names : Option (List Name)) (xs : List Layout) (k : ℕ)
    → IsValid x → IsNumbered x → i < len x → across names (layouts_from xs) k ≡ case_of x i
    → layout_text x i ≡ row_text names xs k
item_text-row x i names xs k v w p e = item_text-case x i (across names (layouts_from xs) k) v w p e
    ∙ ap (λ ys. row_text names ys k) (layout_list-from xs)

-- a row by the texts of its places
pub row_text-places : (names : Option (List Name)) (xs : List Layout) (i : ℕ)
    → row_text names xs i
    ≡ codes "{"
    ++ (comma_joined (texts_from (member_text names xs i) 0 (length xs)) ++ codes "}")
row_text-places names xs i =
    let all : length xs ≡ length xs - 0 = omega arith in
    ap
    (λ n. codes "{"
    ++ (comma_joined (map (member_text names xs i) (range_with_len 0 n)) ++ codes "}")) all

-- a row has a name for each field
abbrev IsNamed : Case → Type 0
IsNamed (across names xs i) = AreNamed names (count xs)
IsNamed c = Unit {0}

block_named : (y : Layout) (e : Bool) (lo hi : ℕ) → IsNamed (if e then span y 0 0 else span y lo hi)
block_named y true lo hi = tt
block_named y false lo hi = tt

option_named : (y : Layout) (o : Option ℕ) → IsNamed (through_option y o)
option_named y None = tt
option_named y (Some k) = tt

mask_named : (y : Layout) (i : ℕ) (b : Bool) → IsNamed (if b then through y i else missing)
mask_named y i true = tt
mask_named y i false = tt

names_named : (names : Option (List Name)) (n : ℕ) → AreNames names n → AreNamed names n
names_named None n h = tt
names_named (Some names) n h = omega (arith, h.0)

case_named : (x : Layout) (i : ℕ) → IsValid x → IsNamed (case_of x i)
case_named empty i v = tt
case_named (flat c) i v = tt
case_named (regular size n x) i v = block_named x (size == 0) (i * size) (i * size + size)
case_named (lists s t x) i v =
    block_named x (int_eq (at s i) (at t i)) (nat_of (at s i)) (nat_of (at t i))
case_named (offset_lists o x) i v =
    block_named x (int_eq (at o i) (at o (i + 1))) (nat_of (at o i)) (nat_of (at o (i + 1)))
case_named (rows names n xs) i v = names_named names (count xs) v.1
case_named (indexed j x) i v = tt
case_named (optional j x) i v = option_named x (option_place_at j i)
case_named (byte_masked m b x) i v = mask_named x i (byte_shows m b i)
case_named (bit_masked m b x) i v = mask_named x i (bit_shows m b i)
case_named (unmasked n x) i v = tt
case_named (union t j xs) i v = tt

pub row_named : (x : Layout) (i : ℕ) (names : Option (List Name)) (xs : List Layout) (k : ℕ)
    → IsValid x → across names (layouts_from xs) k ≡ case_of x i → AreNamed names (length xs)
row_named x i names xs k v e =
    let named : AreNamed names (count (layouts_from xs)) =
    subst IsNamed (sym e) (case_named x i v) in
    subst (AreNamed names) (count-layouts_from xs) named
