-- The places in one slot of tuples, as runs of equal places.
use Rattle.std.specs.Prelude.{ℕ, List}
use Rattle.awk_lanes.specs.Column.{Column}
use Rattle.awk_lanes.specs.Places.{place_at}
use Rattle.awk_places.specs.Products.{AreCounts, AreSpansOf, each_times, times}
use Rattle.awk_places.specs.declared.runs.Slot.{Slot}

-- the lanes of a slot of n lists
pub record IsSlotOf (n : ℕ) (s : Slot) : Type 0 where
  pub spans : AreSpansOf n s.firsts.now s.lengths.now
  pub before : AreCounts n s.before.now
  pub after : AreCounts n s.after.now

-- the places in a slot of the tuples of list i: each as often as the slots after it have tuples,
-- and all that as often as those before it have
abbrev pub row_runs : Column → Column → Column → Column → ℕ → List ℕ
row_runs f l b a i =
    times (place_at b i) (each_times (place_at a i) (place_at f i) (place_at l i))

abbrev pub slot_runs : Slot → ℕ → List ℕ
slot_runs s i = row_runs s.firsts.now s.lengths.now s.before.now s.after.now i
