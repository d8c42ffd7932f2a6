-- Numbers in two halves, and sums of such, one number more.
use Rattle.std.proofs.Common.{◌≡◌, ℕ, ◌+◌, ◌*◌, ◌%◌, ◌<◌, ◌≤◌, List, [], ◌∷◌, ◌++◌}
use Rattle.std.proofs.Common.{arith, ap, ap₂, sym, ◌∙◌, subst}
use Rattle.std.specs.Prelude.{ℤ, pos, negsuc, ◌+ℤ◌, ◌*ℤ◌, unsigned_abs, FitsSigned}
use Rattle.std.specs.Prelude.{Option, Some, None}
use Rattle.std.specs.Int.{int_shr, cast_unsigned, w64}
use Rattle.std.specs.Option.{unwrap_or}
use Rattle.std.proofs.lemmas.Int.{ints}
use Rattle.std.proofs.lemmas.List.{append-nil}
use Rattle.awk_kernels.specs.Kernels.{total}
use Rattle.awk_nullable.specs.Halves.{IsHalves, IsSum}
use Rattle.awk_nullable.specs.Numbers.{number_list}
use Rattle.awk_nullable.specs.declared.halves.Halves.{Halves}

total-more : (zs : List ℤ) (z : ℤ) → total (zs ++ z ∷ []) ≡ total zs +ℤ z
total-more [] z = omega (arith, ints)
total-more (x ∷ xs) z = omega (arith, ints, total-more xs z)

total-item : (zs : List ℤ) (o : Option ℤ)
    → total (zs ++ number_list o) ≡ total zs +ℤ unwrap_or o (pos 0)
total-item zs None = ap total (append-nil zs) ∙ omega (arith, ints)
total-item zs (Some z) = total-more zs z

halves-more : (h k a b : ℤ)
    → (a +ℤ b) +ℤ (h +ℤ k) *ℤ pos 4294967296
    ≡ (a +ℤ h *ℤ pos 4294967296) +ℤ (b +ℤ k *ℤ pos 4294967296)
halves-more h k a b = omega (arith, ints)

near-more : (h k : ℤ) (n : ℕ) → unsigned_abs h ≤ (n + 1) * 4294967296
    → unsigned_abs k ≤ 4294967296 → unsigned_abs (h +ℤ k) ≤ (n + 1 + 1) * 4294967296
near-more h k n p q = omega (arith, ints)

-- an item more, of which a null counts as 0
pub sum_after : (n : ℕ) (sum next new : Halves) (o : Option ℤ) (zs : List ℤ)
    → new.high ≡ sum.high +ℤ next.high → new.low ≡ sum.low +ℤ next.low
    → IsHalves (unwrap_or o (pos 0)) next → IsSum n sum zs
    → IsSum (n + 1) new (zs ++ number_list o)
sum_after n sum next new o zs e f k h = record {
  exact = ap₂ (λ a b. a +ℤ b *ℤ pos 4294967296) f e
      ∙ halves-more sum.high next.high sum.low next.low
      ∙ ap₂ (λ a b. a +ℤ b) h.exact k.whole
      ∙ sym (total-item zs o);
  high = subst (λ z. unsigned_abs z ≤ (n + 1 + 1) * 4294967296) (sym e)
      (near-more sum.high next.high n h.high k.high);
  low = subst (λ z. unsigned_abs z ≤ (n + 1 + 1) * 4294967296) (sym f)
      (near-more sum.low next.low n h.low k.low);
}

-- a sum of so few numbers has room for one more
pub sum_room : (z : ℤ) (n : ℕ) → n < 1073741824 → unsigned_abs z ≤ (n + 1) * 4294967296
    → unsigned_abs z ≤ 4611686018427387904
sum_room z n l p = omega (arith, l, p)

-- ---- the lowest 32 bits

pub halves_whole : (z : ℤ) → FitsSigned w64 z
    → pos (cast_unsigned w64 z % 4294967296) +ℤ int_shr z 32 *ℤ pos 4294967296 ≡ z
halves_whole (pos n) l = omega (arith, ints, l)
halves_whole (negsuc n) l = omega (arith, ints, l)

-- what is above them is not far from 0
pub high_near : (z : ℤ) → FitsSigned w64 z → unsigned_abs (int_shr z 32) ≤ 4294967296
high_near (pos n) l = omega (arith, ints, l)
high_near (negsuc n) l = omega (arith, ints, l)

pub near_fits : (k : ℤ) → unsigned_abs k ≤ 4294967296 → FitsSigned w64 k
near_fits k l = omega (arith, ints)
