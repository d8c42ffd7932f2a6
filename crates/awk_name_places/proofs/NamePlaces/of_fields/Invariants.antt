use Rattle.std.proofs.Common.{◌≡◌, map, take, length, true}
use Rattle.awk_types.specs.Names.{are_distinct}
use Rattle.awk_types.specs.View.{names_of, fields_of}
use Rattle.awk_name_places.proofs.NamePlaces.of_fields.Given as goal

-- the names so far are the keys, and distinct
abbrev pub invariant-loop-i : goal.invariant-loop-i
invariant-loop-i l = record {
  end : l.i-end ≡ length (fields_of l.fields);
  keys : map (λ k. k.now) l.names.keys ≡ names_of (take l.i (fields_of l.fields));
  distinct : are_distinct (names_of (take l.i (fields_of l.fields))) ≡ true;
}
