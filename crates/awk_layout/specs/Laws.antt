-- What holds of the items of every valid layout.
use Rattle.std.specs.Prelude.{◌≡◌, ◌≢◌, ℕ, zero, suc, ◌+◌, ◌-◌, ◌*◌, ◌<◌, ◌≤◌, ◌^◌, ◌==◌, refl, ℤ}
use Rattle.std.specs.Prelude.{pos, negsuc, ◌≤ℤ◌, ◌<ℤ◌, Bool, true, false, Option, Some, None}
use Rattle.std.specs.Prelude.{if◌then◌else◌}
use Rattle.std.proofs.Common.{arith, ap, sym}
use Rattle.std.proofs.lemmas.Int.{ints}
use Rattle.std.proofs.lemmas.Nat.{row_fits}
use Rattle.std.proofs.lemmas.Bool.Decides.{Decides-int_eq}
use Rattle.std.specs.Ordering.{int_eq}
use Rattle.awk_types.specs.Value.{list, alt, null}
use Rattle.awk_lanes.specs.Numbers.{nat_of}
use Rattle.awk_lanes.specs.Places.{at, place_at, option_place, option_place_at, IsSpan}
use Rattle.awk_layout.specs.Layout.{Layout, Layouts, count, height, heights, empty, flat, regular}
use Rattle.awk_layout.specs.Layout.{lists, offset_lists, rows, indexed, optional, byte_masked}
use Rattle.awk_layout.specs.Layout.{bit_masked, unmasked, union, no_layouts, layout}
use Rattle.awk_layout.specs.Valid.{len, len_of, IsValid, AllValid, AllReach}
use Rattle.awk_layout.specs.Item.{item, item_of, run, at_option, byte_shows, bit_shows}
use Rattle.awk_layout.specs.Place.{span, missing, through, case_of, value_of, span_between, nth}
use Rattle.awk_layout.specs.Place.{through_option, IsWithin}

-- a valid layout has fewer than 2 ^ 63 items
pub len-fits : (x : Layout) → IsValid x → len x < 2 ^ 63
len-fits empty v = omega arith
len-fits (flat c) v = omega arith
len-fits (regular size n x) v = omega (arith, v.0)
len-fits (lists s t x) v = omega (arith, v.0)
len-fits (offset_lists o x) v = omega (arith, v.0)
len-fits (rows names n xs) v = omega (arith, v.0)
len-fits (indexed j x) v = omega (arith, v.0)
len-fits (optional j x) v = omega (arith, v.0)
len-fits (byte_masked m b x) v = omega (arith, v.0)
len-fits (bit_masked m b x) v = omega (arith, v.0)
len-fits (unmasked n x) v = omega (arith, v.0)
len-fits (union t j xs) v = omega (arith, v.0)

-- ---- an item is the value of its case

item_of-nth : (xs : Layouts) (k i : ℕ) → item_of xs k i ≡ item (nth xs k) i
item_of-nth no_layouts k i = refl
item_of-nth (layout x xs) zero i = refl
item_of-nth (layout x xs) (suc k) i = item_of-nth xs k i

span_value : (x : Layout) (a b : ℤ)
    → list (run (item x) (nat_of a) (nat_of b - nat_of a)) ≡ value_of (span_between x a b)
span_value x a b = grind (arith, Decides-int_eq)

option_value : (x : Layout) (o : Option ℕ) → at_option o (item x) ≡ value_of (through_option x o)
option_value x None = refl
option_value x (Some k) = refl

mask_value : (x : Layout) (i : ℕ) (b : Bool)
    → (if b then item x i else null) ≡ value_of (if b then through x i else missing)
mask_value x i true = refl
mask_value x i false = refl

block_value : (x : Layout) (lo size : ℕ)
    → list (run (item x) lo size)
    ≡ value_of (if size == 0 then span x 0 0 else span x lo (lo + size))
block_value x lo zero = refl
block_value x lo (suc n) =
    let e : lo + suc n - lo ≡ suc n = omega arith in
    let f : (suc n == 0) ≡ false = grind arith in
    rw f (ap (λ (m : ℕ). list (run (item x) lo m)) (sym e))

pub item-case_of : (x : Layout) (i : ℕ) → item x i ≡ value_of (case_of x i)
item-case_of empty i = refl
item-case_of (flat c) i = refl
item-case_of (regular size n x) i = block_value x (i * size) size
item-case_of (lists s t x) i = span_value x (at s i) (at t i)
item-case_of (offset_lists o x) i = span_value x (at o i) (at o (i + 1))
item-case_of (rows names n xs) i = refl
item-case_of (indexed j x) i = refl
item-case_of (optional j x) i = option_value x (option_place_at j i)
item-case_of (byte_masked m v x) i = mask_value x i (byte_shows m v i)
item-case_of (bit_masked m v x) i = mask_value x i (bit_shows m v i)
item-case_of (unmasked n x) i = refl
item-case_of (union t j xs) i =
    ap (alt (place_at t i)) (item_of-nth xs (place_at t i) (place_at j i))

-- ---- a case stays within its layout

span_within : (h : ℕ) (x : Layout) (a b : ℤ) → IsSpan (len x) a b → height x < h → IsValid x
    → IsWithin h (span_between x a b)
span_within h x a b s l v = go (int_eq a b) refl
  where
    apart : int_eq a b ≡ false → a ≢ b
    apart e = grind (arith, Decides-int_eq)

    go : (t : Bool) → int_eq a b ≡ t
        → IsWithin h (if t then span x 0 0 else span x (nat_of a) (nat_of b))
    go true e = (omega arith, omega arith, l, v)
    go false e = let f = s (apart e) in ordered a b f.0 f.1 f.2
      where
        ordered : (a b : ℤ) → pos 0 ≤ℤ a → a ≤ℤ b → b ≤ℤ pos (len x)
            → IsWithin h (span x (nat_of a) (nat_of b))
        ordered (pos m) (pos n) p q r = (omega (arith, ints), omega (arith, ints), l, v)
        ordered (pos m) (negsuc n) p q r = absurd (omega (arith, ints))
        ordered (negsuc m) b p q r = absurd (omega (arith, ints))

option_within : (h : ℕ) (x : Layout) (z : ℤ) → z <ℤ pos (len x) → height x < h → IsValid x
    → IsWithin h (through_option x (option_place z))
option_within h x (pos n) p l v = (omega (arith, ints), l, v)
option_within h x (negsuc n) p l v = tt

mask_within : (h : ℕ) (x : Layout) (i : ℕ) (b : Bool) → i < len x → height x < h → IsValid x
    → IsWithin h (if b then through x i else missing)
mask_within h x i true p l v = (p, l, v)
mask_within h x i false p l v = tt

block_within : (h : ℕ) (x : Layout) (size n i : ℕ) → n * size ≤ len x → i < n → height x < h
    → IsValid x → IsWithin h (if size == 0 then span x 0 0 else span x (i * size) (i * size + size))
block_within h x zero n i r p l v = (omega arith, omega arith, l, v)
block_within h x (suc k) n i r p l v =
    let f : (suc k == 0) ≡ false = grind arith in
    rw f (omega arith, omega (arith, row_fits i (suc k) n (suc k) p (omega arith)), l, v)

-- contents with n items have fewer
pub AllReach-le : (m n : ℕ) (xs : Layouts) → AllReach n xs → m ≤ n → AllReach m xs
AllReach-le m n no_layouts h e = tt
AllReach-le m n (layout x xs) h e = (omega (arith, h.0), AllReach-le m n xs h.1 e)

nth_within : (h : ℕ) (xs : Layouts) (t i : ℕ) → AllValid xs → heights xs < h → t < count xs
    → i < len_of xs t → (i < len (nth xs t)) × (height (nth xs t) < h) × IsValid (nth xs t)
nth_within h no_layouts t i v l p q = absurd (omega arith)
nth_within h (layout x xs) zero i v l p q = (q, omega arith, v.0)
nth_within h (layout x xs) (suc t) i v l p q = nth_within h xs t i v.1 (omega arith) (omega arith) q

pub case_of-within : (x : Layout) (i : ℕ) → IsValid x → i < len x
    → IsWithin (height x) (case_of x i)
case_of-within empty i v p = tt
case_of-within (flat c) i v p = tt
case_of-within (regular size n x) i v p = block_within _ x size n i v.1 p (omega arith) v.2
case_of-within (lists s t x) i v p =
    span_within _ x (at s i) (at t i) (v.1.ordered i p) (omega arith) v.2
case_of-within (offset_lists o x) i v p =
    span_within _ x (at o i) (at o (i + 1)) (v.1.ordered i (omega arith)) (omega arith) v.2
case_of-within (rows names n xs) i v p =
    (AllReach-le (i + 1) n xs v.2 (omega arith), omega arith, v.3)
case_of-within (indexed j x) i v p = ((v.1.places i p).1, omega arith, v.2)
case_of-within (optional j x) i v p = option_within _ x (at j i) (v.1.below i p) (omega arith) v.2
case_of-within (byte_masked m b x) i v p =
    mask_within _ x i (byte_shows m b i) (omega (arith, v.1.reach)) (omega arith) v.2
case_of-within (bit_masked m b x) i v p =
    mask_within _ x i (bit_shows m b i) (omega (arith, v.1)) (omega arith) v.2
case_of-within (unmasked n x) i v p = (omega (arith, v.1), omega arith, v.2)
case_of-within (union t j xs) i v p =
    nth_within _ xs (place_at t i) (place_at j i) v.2 (omega arith) (v.1.tags i p).1
    (v.1.places i p).1
