-- Places that are all below a length.
use Rattle.std.proofs.Common.{◌<◌, List, arith, get_or, length, suc, zero, ℕ, ◌∷◌, [], ◌+◌}
use Rattle.std.specs.Prelude.{map}
use Rattle.std.specs.List.{range_with_len}
use Rattle.awk_counts.specs.Counted.{AreBelow}

pub below-get : (n : ℕ) (ks : List ℕ) (i : ℕ) → AreBelow n ks → i < length ks → get_or ks i 0 < n
below-get n [] i h l = absurd (omega arith)
below-get n (k ∷ ks) zero h l = h.0
below-get n (k ∷ ks) (suc i) h l = below-get n ks i h.1 (omega arith)

pub same-below : (n i a m : ℕ) → i < n → AreBelow n (map (λ k. i) (range_with_len a m))
same-below n i a zero h = tt
same-below n i a (suc m) h = (h, same-below n i (a + 1) m h)
