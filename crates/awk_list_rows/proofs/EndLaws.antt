-- Offsets of lists one after another, and how long the lists are.
use Rattle.std.proofs.Common.{◌≡◌, ℕ, ◌+◌, ◌<◌, ap, arith, sym, subst, ◌∙◌}
use Rattle.std.specs.Prelude.{pos, ◌≤ℤ◌}
use Rattle.std.proofs.lemmas.Int.{ints}
use Rattle.awk_lanes.specs.Column.{Column}
use Rattle.awk_lanes.specs.Counted.{before, offsets_by}
use Rattle.awk_lanes.specs.Places.{size_of, at, place_at, IsIndexKind}
use Rattle.awk_lanes.specs.declared.kind.Kind.TheVariants.{I64}
use Rattle.awk_lanes.proofs.CountedLanes.{before-next, place-offsets}
use Rattle.awk_lanes.proofs.MadeLanes.{size-lane_of, at-lane_of}

-- lists that begin at the same places are as long
pub same_ends : (m k : ℕ → ℕ) (n : ℕ) → offsets_by m n ≡ offsets_by k n → (i : ℕ) → i < n
    → m i ≡ k i
same_ends m k n e i l =
    let a : before m i ≡ before k i =
    sym (place-offsets m n i (omega (arith, l))) ∙ ap (λ o. place_at o i) e
    ∙ place-offsets k n i (omega (arith, l)) in
    let b : before m (i + 1) ≡ before k (i + 1) =
    sym (place-offsets m n (i + 1) (omega (arith, l))) ∙ ap (λ o. place_at o (i + 1)) e
    ∙ place-offsets k n (i + 1) (omega (arith, l)) in
    omega (arith, a, b, before-next m i, before-next k i)

-- ---- the last of ends

module _ (m : ℕ → ℕ) (n : ℕ) (o : Column) (e : o ≡ offsets_by m n) where
  pub ends_kind : IsIndexKind o.kind
  ends_kind = subst (λ (w : Column). IsIndexKind w.kind) (sym e) tt

  pub ends_size : size_of o ≡ n + 1
  ends_size = ap size_of e ∙ size-lane_of I64 (n + 1) (λ j. pos (before m j))

  pub last_end : place_at o n ≡ before m n
  last_end = ap (λ w. place_at w n) e ∙ place-offsets m n n (omega arith)

  pub last_positive : pos 0 ≤ℤ at o n
  last_positive =
      let a : at o n ≡ pos (before m n) =
      ap (λ w. at w n) e ∙ at-lane_of I64 (n + 1) (λ j. pos (before m j)) n (omega arith) in
      subst (λ z. pos 0 ≤ℤ z) (sym a) (omega (arith, ints))
