use Rattle.std.proofs.Common.{◌≡◌, map, take, length, true}
use Rattle.awk_types.specs.Names.{are_distinct}
use Rattle.awk_name_places.proofs.NamePlaces.of_names.Given as goal

-- the names so far are the keys, and distinct
abbrev pub invariant-loop-i : goal.invariant-loop-i
invariant-loop-i l = record {
  end : l.i-end ≡ length l.names;
  keys : map (λ k. k.now) l.set.keys ≡ take l.i l.names;
  distinct : are_distinct (take l.i l.names) ≡ true;
}
