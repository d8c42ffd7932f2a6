-- What an unbroken walk tells of sizes, of places and of lengths.
use Rattle.std.proofs.Common.{◌≡◌, ◌<◌, ◌≤◌, ℕ, zero, suc, ◌+◌, Bool, true, false, ◌||◌, cond, map}
use Rattle.std.proofs.Common.{Some, None, Option, refl, arith, ℤ, pos, negsuc, ◌≤ℤ◌, ◌<ℤ◌}
use Rattle.std.specs.Prelude.{int_lt, int_le, nat_lt}
use Rattle.std.specs.List.{range_with_len}
use Rattle.std.specs.Ordering.{int_eq}
use Rattle.std.proofs.lemmas.Int.{ints}
use Rattle.std.proofs.lemmas.Bool.Decides.{Decides-int_eq, nat_tests}
use Rattle.awk_types.specs.DataType.{greatest}
use Rattle.awk_types.specs.ItemLimit.{item_limit}
use Rattle.awk_lanes.specs.Numbers.{nat_of}
use Rattle.awk_lanes.specs.Places.{IsSpan}
use Rattle.awk_valid.specs.Needs.{greatest_below, reach, behind, behind_at}
use Rattle.awk_valid.specs.Broken.{Refusal, too_many, size_break, place_break, first_broken}
use Rattle.awk_valid.specs.Broken.{rule_break, list_rule, index_rule, tag_rule}
use Rattle.awk_valid.specs.declared.fault.Rule.{Rule}
use Rattle.awk_valid.specs.declared.fault.Rule.TheVariants.{Order, Start, Tag}

pub size_break-none : (n : ℕ) → size_break n ≡ None → n ≤ item_limit
size_break-none n h = by (nat_lt item_limit n) refl h
  where
    by : (b : Bool) → nat_lt item_limit n ≡ b → cond b (Some too_many) None ≡ None → n ≤ item_limit
    by true e h = absurd (cc)
    by false e h = grind (arith, nat_tests)

-- ---- places

place_break-none : (m i : ℕ) (r : Option Rule) (others : Option Refusal)
    → place_break m i r others ≡ None → (r ≡ None) × (others ≡ None)
place_break-none m i None others h = (refl, h)
place_break-none m i (Some rule) others h = absurd (cc)

first_broken-none : (m a n j : ℕ) (rule : ℕ → Option Rule)
    → first_broken m rule (range_with_len a n) ≡ None → j < n → rule (a + j) ≡ None
first_broken-none m a zero j rule h l = absurd (omega arith)
first_broken-none m a (suc n) zero rule h l =
    let e : a + 0 ≡ a = omega arith in rw e (place_break-none m a (rule a) _ h).0
first_broken-none m a (suc n) (suc j) rule h l =
    let e : a + suc j ≡ (a + 1) + j =
    omega arith in
    rw e
    (first_broken-none m (a + 1) n j rule (place_break-none m a (rule a) _ h).1 (omega arith))

-- each place below n keeps its rule
pub rule_break-none : (m n i : ℕ) (rule : ℕ → Option Rule) → rule_break m n rule ≡ None → i < n
    → rule i ≡ None
rule_break-none m n i rule h l =
    let e : 0 + i ≡ i = omega arith in rw e at (first_broken-none m 0 n i rule h l)

greatest_from-at : (f : ℕ → ℕ) (a n j : ℕ) → j < n
    → f (a + j) ≤ greatest (map f (range_with_len a n))
greatest_from-at f a zero j l = absurd (omega arith)
greatest_from-at f a (suc n) zero l = let e : a + 0 ≡ a = omega arith in rw e (omega arith)
greatest_from-at f a (suc n) (suc j) l =
    let e : a + suc j ≡ (a + 1) + j = omega arith in
    let h = greatest_from-at f (a + 1) n j (omega arith) in
    rw e (omega (arith, h))

-- what f gives at a place is not above the greatest
pub greatest_below-at : (f : ℕ → ℕ) (n i : ℕ) → i < n → f i ≤ greatest_below n f
greatest_below-at f n i l = let e : 0 + i ≡ i = omega arith in rw e at (greatest_from-at f 0 n i l)

-- ---- the rules

int_lt-false : (a b : ℤ) → int_lt a b ≡ false → b ≤ℤ a
int_lt-false a b e = grind (arith, ints)

int_le-false : (a b : ℤ) → int_le a b ≡ false → b <ℤ a
int_le-false a b e = grind (arith, ints)

-- a list that keeps its rule is a span of the items that it needs
pub list_rule-none : (n : ℕ) (a b : ℤ) → list_rule a b ≡ None → reach a b ≤ n → IsSpan n a b
list_rule-none n a b h l apart = by (int_eq a b) (int_lt b a) (int_lt a (pos 0)) refl refl refl h l
  where
    within : (a b : ℤ) → pos 0 ≤ℤ a → a ≤ℤ b → nat_of b ≤ n → b ≤ℤ pos n
    within a (pos k) p q r = omega (arith, ints)
    within (pos j) (negsuc k) p q r = absurd (omega (arith, ints))
    within (negsuc j) (negsuc k) p q r = absurd (omega (arith, ints))

    by : (e l s : Bool) → int_eq a b ≡ e → int_lt b a ≡ l → int_lt a (pos 0) ≡ s
        → cond e None (cond l (Some Order) (cond s (Some Start) None)) ≡ None
        → cond e 0 (nat_of b) ≤ n
        → (pos 0 ≤ℤ a) × (a ≤ℤ b) × (b ≤ℤ pos n)
    by true l s e f g h r = absurd (apart ((Decides-int_eq a b).0 e))
    by false true s e f g h r = absurd (cc)
    by false false true e f g h r = absurd (cc)
    by false false false e f g h r =
        let p = int_lt-false a (pos 0) g in
        let q = int_lt-false b a f in
        (p, q, within a b p q r)

-- an index that keeps its rule is a place of the items that it needs
pub index_rule-none : (n : ℕ) (z : ℤ) → index_rule z ≡ None → behind z ≤ n
    → (pos 0 ≤ℤ z) × (nat_of z < n)
index_rule-none n (pos k) h l = (omega (arith, ints), omega arith)
index_rule-none n (negsuc k) h l = absurd (cc)

-- an index that may be negative is below the items that it needs
pub below-behind : (n : ℕ) (z : ℤ) → behind z ≤ n → z <ℤ pos n
below-behind n (pos k) l = omega (arith, ints)
below-behind n (negsuc k) l = omega (arith, ints)

-- a tag that keeps its rule is the place of an alternative
pub tag_rule-none : (count : ℕ) (t z : ℤ) → tag_rule count t z ≡ None
    → (pos 0 ≤ℤ t) × (nat_of t < count) × (index_rule z ≡ None)
tag_rule-none count t z h = by t (int_lt t (pos 0)) (int_le (pos count) t) refl refl h
  where
    within : (t : ℤ) → pos 0 ≤ℤ t → t <ℤ pos count → nat_of t < count
    within (pos k) p q = omega (arith, ints)
    within (negsuc k) p q = absurd (omega (arith, ints))

    by : (t : ℤ) (s l : Bool) → int_lt t (pos 0) ≡ s → int_le (pos count) t ≡ l
        → cond (s || l) (Some Tag) (index_rule z) ≡ None
        → (pos 0 ≤ℤ t) × (nat_of t < count) × (index_rule z ≡ None)
    by t true l e f h = absurd (cc)
    by t false true e f h = absurd (cc)
    by t false false e f h =
        let p = int_lt-false t (pos 0) e in (p, within t p (int_le-false (pos count) t f), h)

-- at its own tag an index needs the items up to it
pub behind_at-own : (t z : ℤ) → pos 0 ≤ℤ t → behind_at (nat_of t) t z ≡ behind z
behind_at-own (pos k) z p = rw ((Decides-int_eq (pos k) (pos k)).1 refl) refl
behind_at-own (negsuc k) z p = absurd (omega (arith, ints))
