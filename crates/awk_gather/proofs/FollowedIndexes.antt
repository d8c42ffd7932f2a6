-- Indexes that are followed, by place.
use Rattle.std.proofs.Common.{◌≡◌, ℕ, ◌<◌, ◌≤◌, arith, refl, sym}
use Rattle.std.specs.Prelude.{ℤ, pos, negsuc, ◌≤ℤ◌, ◌<ℤ◌, Bool, true, false, if◌then◌else◌, Option}
use Rattle.std.specs.Prelude.{Some, None}
use Rattle.std.proofs.lemmas.Int.{ints}
use Rattle.awk_types.specs.Value.{Value, null}
use Rattle.awk_lanes.specs.declared.kind.Kind.TheVariants.{I64}
use Rattle.awk_lanes.specs.Column.{Column}
use Rattle.awk_lanes.specs.Numbers.{nat_of}
use Rattle.awk_lanes.specs.Places.{at, size_of, option_place, option_place_at, IsOptionalIndex}
use Rattle.awk_layout.specs.Item.{at_option}
use Rattle.awk_gather.specs.Peeled.{through, followed, if_shown}
use Rattle.awk_lanes.proofs.MadeLanes.{size-lane_of, at-lane_of}

-- a place of an index is below what it indexes
pub place_below : (z : ℤ) (k n : ℕ) → Some k ≡ option_place z → z <ℤ pos n → k < n
place_below (pos m) k n e h = let f : k ≡ m = cc in omega (arith, ints)
place_below (negsuc m) k n e h = cc

pub through-some : (f : ℕ → ℤ) (o : Option ℕ) (k : ℕ) → Some k ≡ o → f k ≡ through f o
through-some f None k e = cc
through-some f (Some m) k e = let g : k ≡ m = cc in rw g refl

pub through-none : (f : ℕ → ℤ) (o : Option ℕ) → None ≡ o → negsuc 0 ≡ through f o
through-none f None e = refl
through-none f (Some m) e = cc

pub size-followed : (f : ℕ → ℤ) (i : Column) → size_of (followed f i) ≡ size_of i
size-followed f i = size-lane_of I64 (size_of i) (λ j. through f (option_place_at i j))

pub at-followed : (f : ℕ → ℤ) (i : Column) (j : ℕ) → j < size_of i
    → at (followed f i) j ≡ through f (option_place_at i j)
at-followed f i j h = at-lane_of I64 (size_of i) (λ j. through f (option_place_at i j)) j h

below_through : (f : ℕ → ℤ) (z : ℤ) (m n : ℕ) → ((k : ℕ) → k < m → f k <ℤ pos n) → z <ℤ pos m
    → through f (option_place z) <ℤ pos n
below_through f (pos k) m n h v = h k (omega (arith, ints))
below_through f (negsuc k) m n h v = omega (arith, ints)

pub index_followed : (f : ℕ → ℤ) (i : Column) (m n : ℕ) → ((k : ℕ) → k < m → f k <ℤ pos n)
    → IsOptionalIndex i m → IsOptionalIndex (followed f i) n
index_followed f i m n h v = record {
  kind = tt;
  below = λ j k.
      let k' : j < size_of i = omega (arith, size-followed f i) in
      rw (at-followed f i j k') (below_through f (at i j) m n h (v.below j k'));
}

-- what is shown through an index, where f tells the place in g of each item of h
pub item_through : (f : ℕ → ℤ) (z : ℤ) (g h : ℕ → Value) (m : ℕ)
    → ((k : ℕ) → k < m → h k ≡ at_option (option_place (f k)) g) → z <ℤ pos m
    → at_option (option_place (through f (option_place z))) g ≡ at_option (option_place z) h
item_through f (pos k) g h m e v = sym (e k (omega (arith, ints)))
item_through f (negsuc k) g h m e v = refl

pub through_pos : (f : ℕ → ℤ) (z : ℤ) (m : ℕ) → z <ℤ pos m → pos 0 ≤ℤ z
    → ((k : ℕ) → k < m → pos 0 ≤ℤ f k) → pos 0 ≤ℤ through f (option_place z)
through_pos f (pos k) m v h e = e k (omega (arith, ints))
through_pos f (negsuc k) m v h e = absurd (omega (arith, ints))

pub item_at_place : (z : ℤ) (f : ℕ → Value) → pos 0 ≤ℤ z
    → at_option (option_place z) f ≡ f (nat_of z)
item_at_place (pos n) f h = refl
item_at_place (negsuc n) f h = absurd (omega (arith, ints))

pub item_if_shown : (b : Bool) (k : ℕ) (f : ℕ → Value)
    → at_option (option_place (if_shown b k)) f ≡ (if b then f k else null)
item_if_shown true k f = refl
item_if_shown false k f = refl

pub below_if_shown : (b : Bool) (k m n : ℕ) → k < m → m ≤ n → if_shown b k <ℤ pos n
below_if_shown true k m n h l = omega (arith, ints)
below_if_shown false k m n h l = omega (arith, ints)

pub ruleset follows = (place_below, through-some, through-none)
