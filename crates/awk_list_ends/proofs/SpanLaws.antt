-- Lists by their starts and stops: a list that has items begins and ends at places of the content.
use Rattle.std.specs.Prelude.{◌≡◌, ℕ, ◌-◌, ◌<◌, ◌≤◌, ℤ, ◌≢◌, ◌+◌, refl, pos, negsuc, ◌≤ℤ◌}
use Rattle.std.proofs.Common.{arith, ap}
use Rattle.std.proofs.lemmas.Int.{ints}
use Rattle.awk_lanes.specs.Column.{Column}
use Rattle.awk_lanes.specs.Places.{IsSpan, AreSpans}
use Rattle.awk_layout.specs.Laws.{len-fits}
use Rattle.awk_layout.specs.Layout.{Layout}
use Rattle.awk_layout.specs.Valid.{len}
use Rattle.awk_columns.specs.ListClass.{Class}
use Rattle.awk_columns.specs.Lists.{AreLists}
use Rattle.awk_columns.proofs.JoinedLists.{spans_wider}
use Rattle.awk_lanes.specs.Numbers.{nat_of}

-- lists of an array, within the greatest length
pub lists_within : (class : Class) (s t : Column) (y : Layout) → AreLists class s t y
    → AreSpans s t 9223372036854775807
lists_within class s t y h = spans_wider s t (len y) 9223372036854775807
    (omega (arith, len-fits y h.valid)) h.spans

-- a list with items begins at a place
pub start_there : (m : ℕ) (a b : ℤ) → IsSpan m a b → 0 < nat_of b - nat_of a
    → (a ≡ pos (nat_of a)) × (nat_of a + (nat_of b - nat_of a) ≤ m)
start_there m (pos k) (pos l) h p =
    let d : pos k ≢ pos l = λ e. let f : k ≡ l = ap nat_of e in omega (arith, f, p) in
    (refl, omega (arith, ints, (h d).2, p))
start_there m (negsuc k) (pos l) h p =
    let d : negsuc k ≢ pos l = λ e. cc in
    absurd (omega (arith, ints, (h d).0))
start_there m (pos k) (negsuc l) h p = absurd (omega (arith, p))
start_there m (negsuc k) (negsuc l) h p = absurd (omega (arith, p))

-- a list with items ends at a place
pub stop_there : (m : ℕ) (a b : ℤ) → IsSpan m a b → 0 < nat_of b - nat_of a
    → (pos 0 ≤ℤ b) × (nat_of b ≡ nat_of a + (nat_of b - nat_of a))
stop_there m a (pos l) h p = (omega (arith, ints), omega (arith, p))
stop_there m a (negsuc l) h p = absurd (omega (arith, p))
