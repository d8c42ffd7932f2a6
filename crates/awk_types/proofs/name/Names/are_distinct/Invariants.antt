use Rattle.std.proofs.Common.{◌≡◌, List, ℕ, true, take, Bor, nat_cmp}
use Rattle.std.specs.Cmp.Lexicographic.{slice_cmp}
use Rattle.std.specs.BTreeSet.{contains}
use Rattle.awk_types.specs.Names.{is_among, are_distinct}
use Rattle.awk_types.proofs.name.Names.are_distinct.Given as goal

-- the names so far are distinct, and are those that the set has
abbrev pub invariant-loop-i : goal.invariant-loop-i
invariant-loop-i l = record {
  distinct : are_distinct (take l.i l.self) ≡ true;
  seen : (q : Bor (List ℕ))
      → contains (λ x y. slice_cmp nat_cmp x.now y.now) l.seen q ≡ is_among q.now
      (take l.i l.self);
}
