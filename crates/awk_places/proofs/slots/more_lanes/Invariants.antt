use Rattle.std.specs.Prelude.{◌≡◌, ◌-◌, ◌≤◌, map}
use Rattle.std.specs.List.{range_with_len, AllByRecursion}
use Rattle.awk_places.specs.Begun.{all_begun, Fits}
use Rattle.awk_places.specs.Slots.{slot_lane}
use Rattle.awk_places.proofs.slots.more_lanes.Given as goal

abbrev pub invariant-loop-slot : goal.invariant-loop-slot
invariant-loop-slot g l = record {
  begun : l.begun.items ≡ all_begun l.fn.rising.replacement l.slot
      (l.fn.rising.slots - l.slot) l.fn.firsts l.fn.ends;
  fits : AllByRecursion Fits l.begun.items;
  lanes : l.lanes ≡ map (slot_lane l.fn.rising.replacement l.fn.rising.slots l.fn.firsts
      l.fn.ends) (range_with_len 0 l.slot);
  few : l.slot ≤ l.fn.rising.slots - 2;
}
