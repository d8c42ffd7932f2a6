-- Lists of numbers and their offsets, by what is known of each number and of each length.
use Rattle.std.specs.Prelude.{◌<◌, map, suc, zero, ℕ, ℤ, ◌+◌, pos, ◌≡◌}
use Rattle.std.specs.List.{AllByRecursion, range_with_len}
use Rattle.std.proofs.Common.{arith, ap}
use Rattle.awk_base.proofs.Every.{all-append, all-map}
use Rattle.awk_base.proofs.Ranges.{map-same}
use Rattle.awk_lanes.specs.Counted.{numbers_of_lists, before, offsets_by}
use Rattle.awk_lanes.specs.declared.kind.Kind.TheVariants.{I64}
use Rattle.awk_lanes.proofs.CountedLanes.{before-same}

-- what holds of each number
pub numbers-all : (P : ℤ → Type 0) (m : ℕ → ℕ) (h : ℕ → ℕ → ℤ) (n : ℕ)
    → ((i k : ℕ) → i < n → k < m i → P (h i k)) → AllByRecursion P (numbers_of_lists m h n)
numbers-all P m h zero f = tt
numbers-all P m h (suc n) f =
    all-append P (numbers_of_lists m h n) (map (h n) (range_with_len 0 (m n)))
    (numbers-all P m h n (λ i k l q. f i k (omega (arith, l)) q))
    (all-map P (h n) 0 (m n) (λ k l. f n k (omega arith) (omega (arith, l))))

-- the same lengths are the same offsets
pub offsets-same : (f g : ℕ → ℕ) (n : ℕ) → ((i : ℕ) → i < n → f i ≡ g i)
    → offsets_by f n ≡ offsets_by g n
offsets-same f g n e =
    ap (λ zs. record { kind = I64; items = zs })
    (map-same (λ i. pos (before f i)) (λ i. pos (before g i)) 0 (n + 1) (λ i p q.
    ap (λ k. pos k) (before-same f g i (λ j l. e j (omega (arith, l, q))))))
