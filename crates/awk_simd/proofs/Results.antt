-- Sums and differences of lanes that do not wrap.
use Rattle.std.proofs.Common.{◌≡◌, ℕ, ◌+◌, ◌-◌, ◌%◌, ◌^◌, ◌<◌, ◌≤◌, false, cond}
use Rattle.std.proofs.Common.{List, length, get_or, replicate, refl, sym, ap, ap₂, ◌∙◌}
use Rattle.std.proofs.Common.{arith, w64}
use Rattle.std.specs.Prelude.{ℤ, pos, negsuc, ◌+ℤ◌, ◌-ℤ◌, int_lt, nat_lt, nat_eq, ◌||◌}
use Rattle.std.specs.Prelude.{FitsSigned, IsTrue, Ok, Err, zero, suc, ◌/◌}
use Rattle.std.specs.Prelude.{bit_and, bit_xor}
use Rattle.std.specs.Int.{cast_unsigned as of_z, cast_signed as to_z}
use Rattle.std.specs.Simd.Lanes.{chunk, zip2}
use Rattle.std.proofs.lemmas.Int.{ints, to_z-of_z}
use Rattle.std.proofs.lemmas.Nat.{and_shr, xor_shr, and_le_l, xor_lt, div_below}
use Rattle.std.proofs.lemmas.Simd.{length-chunk, length-replicate, get_or-replicate}
use Rattle.awk_kernels.specs.declared.operation.Why.TheVariants.{Overflow}
use Rattle.awk_kernels.specs.declared.operation.Arith.TheVariants.{Add, Sub}
use Rattle.awk_kernels.specs.Operations.{leaf, within}
use Rattle.awk_simd.proofs.Masks.{loaded, length-loaded}
use Rattle.awk_simd.proofs.Lanes.{mask, below, no_mark, lane_at, lane_at-nat}
use Rattle.awk_simd.proofs.Lanes.{result_at, length-results}

abbrev pub wrapped_sum : ℕ → ℕ → ℕ
wrapped_sum u v = (u + v) % 2 ^ 64

abbrev pub wrapped_difference : ℕ → ℕ → ℕ
wrapped_difference u v = (u + (2 ^ 64 - v)) % 2 ^ 64

-- where two bits are equal, and a third differs from neither of them or from one, it is equal
equal_bits : (a b c : ℕ) → a < 2 → b < 2 → c < 2 → a ≡ b
    → bit_and (bit_xor a c) (bit_xor b c) ≡ 0 → c ≡ a
equal_bits zero zero zero p q r s e = refl
equal_bits zero zero (suc zero) p q r s e = absurd (omega (arith, e))
equal_bits (suc zero) (suc zero) zero p q r s e = absurd (omega (arith, e))
equal_bits (suc zero) (suc zero) (suc zero) p q r s e = refl
equal_bits zero (suc b) c p q r s e = absurd (omega (arith, s))
equal_bits (suc a) zero c p q r s e = absurd (omega (arith, s))
equal_bits (suc (suc a)) (suc b) c p q r s e = absurd (omega (arith, p))
equal_bits (suc zero) (suc (suc b)) c p q r s e = absurd (omega (arith, q))
equal_bits zero zero (suc (suc c)) p q r s e = absurd (omega (arith, r))
equal_bits (suc zero) (suc zero) (suc (suc c)) p q r s e = absurd (omega (arith, r))

unequal_bits : (a b c : ℕ) → a < 2 → b < 2 → c < 2 → a + b ≡ 1
    → bit_and (bit_xor a b) (bit_xor a c) ≡ 0 → c ≡ a
unequal_bits zero (suc zero) zero p q r s e = refl
unequal_bits zero (suc zero) (suc zero) p q r s e = absurd (omega (arith, e))
unequal_bits (suc zero) zero zero p q r s e = absurd (omega (arith, e))
unequal_bits (suc zero) zero (suc zero) p q r s e = refl
unequal_bits zero zero c p q r s e = absurd (omega (arith, s))
unequal_bits (suc a) (suc b) c p q r s e = absurd (omega (arith, s))
unequal_bits (suc (suc a)) zero c p q r s e = absurd (omega (arith, p))
unequal_bits zero (suc (suc b)) c p q r s e = absurd (omega (arith, q))
unequal_bits zero (suc zero) (suc (suc c)) p q r s e = absurd (omega (arith, r))
unequal_bits (suc zero) zero (suc (suc c)) p q r s e = absurd (omega (arith, r))

-- the sign of a number of 64 bits
abbrev sign : ℕ → ℕ
sign u = u / 2 ^ 63

-- where two numbers' signs differ, those of two others do not
signs_apart : (a b c d : ℕ) → a < 2 ^ 64 → b < 2 ^ 64
    → int_lt (to_z w64 (bit_and (bit_xor a b) (bit_xor c d))) (pos 0) ≡ false
    → bit_and (bit_xor (sign a) (sign b)) (bit_xor (sign c) (sign d)) ≡ 0
signs_apart a b c d p q e =
    let n = bit_and (bit_xor a b) (bit_xor c d) in
    let l : n < 2 ^ 64 = omega (arith, and_le_l (bit_xor a b) (bit_xor c d), xor_lt 64 a b p q) in
    let low : n < 2 ^ 63 = grind (arith, ints) in
    ap₂ bit_and (sym (xor_shr a b 63)) (sym (xor_shr c d 63))
    ∙ sym (and_shr (bit_xor a b) (bit_xor c d) 63)
    ∙ omega (arith, div_below n (2 ^ 63) 1 (omega arith) (omega (arith, low)))

unsigned_below : (x : ℤ) → FitsSigned w64 x → of_z w64 x < 2 ^ 64
unsigned_below x f = grind (arith, ints)

sign_below : (u : ℕ) → u < 2 ^ 64 → sign u < 2
sign_below u p = div_below u (2 ^ 63) 2 (omega arith) (omega (arith, p))

-- a sum whose sign is that of one of the two numbers has not wrapped
sum_fits : (x y : ℤ) → FitsSigned w64 x → FitsSigned w64 y
    → (sign (of_z w64 x) ≡ sign (of_z w64 y)
    → sign (wrapped_sum (of_z w64 x) (of_z w64 y)) ≡ sign (of_z w64 x))
    → to_z w64 (wrapped_sum (of_z w64 x) (of_z w64 y)) ≡ x +ℤ y
sum_fits x y f g e = grind (arith, ints)

-- nor has a difference whose sign is that of the first number, or of numbers of one sign
difference_fits : (x y : ℤ) → FitsSigned w64 x → FitsSigned w64 y
    → (sign (of_z w64 x) + sign (of_z w64 y) ≡ 1
    → sign (wrapped_difference (of_z w64 x) (of_z w64 y)) ≡ sign (of_z w64 x))
    → to_z w64 (wrapped_difference (of_z w64 x) (of_z w64 y)) ≡ x -ℤ y
difference_fits x y f g e = grind (arith, ints)

within_is : (lo hi s z : ℤ) → z ≡ s → int_lt z lo ≡ false → int_lt hi z ≡ false
    → within lo hi s ≡ Ok z
within_is lo hi s z e p q =
    ap (within lo hi) (sym e) ∙ ap (λ b. cond (b || int_lt hi z) (Err Overflow) (Ok z)) p
    ∙ ap (λ b. cond b (Err Overflow) (Ok z)) q

-- no lane is below lo, and none above hi
lane_within : (lo hi : ℤ) (s : List ℕ) (j : ℕ) → FitsSigned w64 lo → FitsSigned w64 hi
    → length s ≡ 8 → j < 8 → mask below s (replicate 8 (of_z w64 lo)) ≡ 0
    → mask below (replicate 8 (of_z w64 hi)) s ≡ 0
    → (int_lt (to_z w64 (get_or s j 0)) lo ≡ false) × (int_lt hi (to_z w64 (get_or s j 0)) ≡ false)
lane_within lo hi s j fl fh e l m n =
    let z = to_z w64 (get_or s j 0) in
    let low = get_or-replicate 8 j (of_z w64 lo) 0 l in
    let high = get_or-replicate 8 j (of_z w64 hi) 0 l in (
      ap (int_lt z) (sym (to_z-of_z w64 lo fl) ∙ ap (to_z w64) (sym low))
          ∙ no_mark below s (replicate 8 (of_z w64 lo)) j e (length-replicate 8 (of_z w64 lo)) l m,
      ap (λ h. int_lt h z) (sym (to_z-of_z w64 hi fh) ∙ ap (to_z w64) (sym high))
          ∙ no_mark below (replicate 8 (of_z w64 hi)) s j (length-replicate 8 (of_z w64 hi)) e l n,
    )

-- nor where every number of 64 bits lies from lo to hi
sum_within : (lo hi : ℤ) (u v : ℕ) → lo ≡ negsuc 9223372036854775807
    → hi ≡ pos 9223372036854775807
    → (int_lt (to_z w64 (wrapped_sum u v)) lo ≡ false)
    × (int_lt hi (to_z w64 (wrapped_sum u v)) ≡ false)
sum_within lo hi u v e f = (grind (arith, ints), grind (arith, ints))

difference_within : (lo hi : ℤ) (u v : ℕ) → lo ≡ negsuc 9223372036854775807
    → hi ≡ pos 9223372036854775807
    → (int_lt (to_z w64 (wrapped_difference u v)) lo ≡ false)
    × (int_lt hi (to_z w64 (wrapped_difference u v)) ≡ false)
difference_within lo hi u v e f = (grind (arith, ints), grind (arith, ints))

module _ (xs ys : List ℤ) (at : ℕ) (rx : at + 8 ≤ length xs) (ry : at + 8 ≤ length ys)
    (lo hi : ℤ) (fl : FitsSigned w64 lo) (fh : FitsSigned w64 hi) (k : ℕ) (p : at ≤ k)
    (q : k < at + 8) (fx : FitsSigned w64 (get_or xs k (pos 0)))
    (fy : FitsSigned w64 (get_or ys k (pos 0))) where
  -- the lane of a result
  block_at : (f : ℕ → ℕ → ℕ) → get_or (zip2 f (loaded at xs) (loaded at ys)) (k - at) 0
      ≡ f (of_z w64 (get_or xs k (pos 0))) (of_z w64 (get_or ys k (pos 0)))
  block_at f =
      result_at f (loaded at xs) (loaded at ys) (k - at) (length-loaded at xs rx)
      (length-loaded at ys ry) (omega arith)
      ∙ ap₂ f (lane_at xs at k rx p q) (lane_at ys at k ry p q)

  long : (f : ℕ → ℕ → ℕ) → length (zip2 f (loaded at xs) (loaded at ys)) ≡ 8
  long f =
      length-results f (loaded at xs) (loaded at ys) (length-loaded at xs rx)
      (length-loaded at ys ry)

  -- the signs that no mark of two vectors is set for
  mark_at : (us vs ws zs : List ℕ) → length us ≡ 8 → length vs ≡ 8 → length ws ≡ 8 → length zs ≡ 8
      → get_or us (k - at) 0 < 2 ^ 64 → get_or vs (k - at) 0 < 2 ^ 64
      → mask below (zip2 bit_and (zip2 bit_xor us vs) (zip2 bit_xor ws zs)) (replicate 8 0) ≡ 0
      → bit_and (bit_xor (sign (get_or us (k - at) 0)) (sign (get_or vs (k - at) 0)))
      (bit_xor (sign (get_or ws (k - at) 0)) (sign (get_or zs (k - at) 0))) ≡ 0
  mark_at us vs ws zs lu lv lw lz bu bv e =
      let j : k - at < 8 = omega arith in
      let m = zip2 bit_xor us vs in
      let n = zip2 bit_xor ws zs in
      let lm = length-results bit_xor us vs lu lv in
      let ln = length-results bit_xor ws zs lw lz in
      let lane = result_at bit_and m n (k - at) lm ln j
      ∙ ap₂ bit_and (result_at bit_xor us vs (k - at) lu lv j)
      (result_at bit_xor ws zs (k - at) lw lz j) in
      signs_apart (get_or us (k - at) 0) (get_or vs (k - at) 0) (get_or ws (k - at) 0)
      (get_or zs (k - at) 0) bu bv
      (ap₂ int_lt (ap (to_z w64) (sym lane))
      (ap (to_z w64) (sym (get_or-replicate 8 (k - at) 0 0 j)))
      ∙ no_mark below (zip2 bit_and m n) (replicate 8 0) (k - at)
      (length-results bit_and m n lm ln) (length-replicate {A = ℕ} 8 0) j e)

  sum_between :
      mask below (zip2 bit_and
      (zip2 bit_xor (loaded at xs) (zip2 wrapped_sum (loaded at xs) (loaded at ys)))
      (zip2 bit_xor (loaded at ys) (zip2 wrapped_sum (loaded at xs) (loaded at ys))))
      (replicate 8 0) ≡ 0
      → (int_lt (to_z w64 (get_or (zip2 wrapped_sum (loaded at xs) (loaded at ys)) (k - at) 0)) lo
      ≡ false)
      × (int_lt hi (to_z w64 (get_or (zip2 wrapped_sum (loaded at xs) (loaded at ys)) (k - at) 0))
      ≡ false)
      → leaf Add lo hi (get_or xs k (pos 0)) (get_or ys k (pos 0))
      ≡ Ok (to_z w64 (get_or (zip2 wrapped_sum (loaded at xs) (loaded at ys)) (k - at) 0))
  sum_between e bounds =
      let x = get_or xs k (pos 0) in
      let y = get_or ys k (pos 0) in
      let s = zip2 wrapped_sum (loaded at xs) (loaded at ys) in
      let z = to_z w64 (get_or s (k - at) 0) in
      let here = ap (to_z w64) (block_at wrapped_sum) in
      let u = of_z w64 x in
      let v = of_z w64 y in
      let w = wrapped_sum u v in
      let bu = unsigned_below x fx in
      let bv = unsigned_below y fy in
      let bw : w < 2 ^ 64 = omega arith in
      let eu = lane_at xs at k rx p q in
      let ev = lane_at ys at k ry p q in
      let ew = block_at wrapped_sum in
      let lx = length-loaded at xs rx in
      let ly = length-loaded at ys ry in
      let m = mark_at (loaded at xs) s (loaded at ys) s lx (long wrapped_sum) ly
      (long wrapped_sum) (rw eu bu) (rw ew bw) e in
      let apart : bit_and (bit_xor (sign u) (sign w)) (bit_xor (sign v) (sign w)) ≡ 0 =
      rw (eu, ev, ew) at m in
      let is = here ∙ sum_fits x y fx fy
      (λ f. equal_bits (sign u) (sign v) (sign w) (sign_below u bu) (sign_below v bv)
      (sign_below w bw) f apart) in
      within_is lo hi (x +ℤ y) z is bounds.0 bounds.1

  pub sum_made :
      mask below (zip2 bit_and
      (zip2 bit_xor (loaded at xs) (zip2 wrapped_sum (loaded at xs) (loaded at ys)))
      (zip2 bit_xor (loaded at ys) (zip2 wrapped_sum (loaded at xs) (loaded at ys))))
      (replicate 8 0) ≡ 0
      → mask below (zip2 wrapped_sum (loaded at xs) (loaded at ys)) (replicate 8 (of_z w64 lo)) ≡ 0
      → mask below (replicate 8 (of_z w64 hi)) (zip2 wrapped_sum (loaded at xs) (loaded at ys)) ≡ 0
      → leaf Add lo hi (get_or xs k (pos 0)) (get_or ys k (pos 0))
      ≡ Ok (to_z w64 (get_or (zip2 wrapped_sum (loaded at xs) (loaded at ys)) (k - at) 0))
  sum_made e m n =
      let s = zip2 wrapped_sum (loaded at xs) (loaded at ys) in
      sum_between e
      (lane_within lo hi s (k - at) fl fh (long wrapped_sum) (omega arith) m n)

  pub sum_made-all :
      mask below (zip2 bit_and
      (zip2 bit_xor (loaded at xs) (zip2 wrapped_sum (loaded at xs) (loaded at ys)))
      (zip2 bit_xor (loaded at ys) (zip2 wrapped_sum (loaded at xs) (loaded at ys))))
      (replicate 8 0) ≡ 0
      → lo ≡ negsuc 9223372036854775807 → hi ≡ pos 9223372036854775807
      → leaf Add lo hi (get_or xs k (pos 0)) (get_or ys k (pos 0))
      ≡ Ok (to_z w64 (get_or (zip2 wrapped_sum (loaded at xs) (loaded at ys)) (k - at) 0))
  sum_made-all e l h =
      let u = of_z w64 (get_or xs k (pos 0)) in
      let v = of_z w64 (get_or ys k (pos 0)) in
      sum_between e (rw (block_at wrapped_sum) (sum_within lo hi u v l h))

  difference_between :
      mask below (zip2 bit_and (zip2 bit_xor (loaded at xs) (loaded at ys))
      (zip2 bit_xor (loaded at xs) (zip2 wrapped_difference (loaded at xs) (loaded at ys))))
      (replicate 8 0) ≡ 0
      → (int_lt (to_z w64 (get_or (zip2 wrapped_difference (loaded at xs) (loaded at ys))
      (k - at) 0)) lo ≡ false)
      × (int_lt hi (to_z w64 (get_or (zip2 wrapped_difference (loaded at xs) (loaded at ys))
      (k - at) 0)) ≡ false)
      → leaf Sub lo hi (get_or xs k (pos 0)) (get_or ys k (pos 0))
      ≡ Ok (to_z w64 (get_or (zip2 wrapped_difference (loaded at xs) (loaded at ys)) (k - at) 0))
  difference_between e bounds =
      let x = get_or xs k (pos 0) in
      let y = get_or ys k (pos 0) in
      let s = zip2 wrapped_difference (loaded at xs) (loaded at ys) in
      let z = to_z w64 (get_or s (k - at) 0) in
      let here = ap (to_z w64) (block_at wrapped_difference) in
      let u = of_z w64 x in
      let v = of_z w64 y in
      let w = wrapped_difference u v in
      let bu = unsigned_below x fx in
      let bv = unsigned_below y fy in
      let bw : w < 2 ^ 64 = omega arith in
      let eu = lane_at xs at k rx p q in
      let ev = lane_at ys at k ry p q in
      let ew = block_at wrapped_difference in
      let lx = length-loaded at xs rx in
      let ly = length-loaded at ys ry in
      let m = mark_at (loaded at xs) (loaded at ys) (loaded at xs) s lx ly lx
      (long wrapped_difference) (rw eu bu) (rw ev bv) e in
      let apart : bit_and (bit_xor (sign u) (sign v)) (bit_xor (sign u) (sign w)) ≡ 0 =
      rw (eu, ev, ew) at m in
      let is = here ∙ difference_fits x y fx fy
      (λ f. unequal_bits (sign u) (sign v) (sign w) (sign_below u bu) (sign_below v bv)
      (sign_below w bw) f apart) in
      within_is lo hi (x -ℤ y) z is bounds.0 bounds.1

  pub difference_made :
      mask below (zip2 bit_and (zip2 bit_xor (loaded at xs) (loaded at ys))
      (zip2 bit_xor (loaded at xs) (zip2 wrapped_difference (loaded at xs) (loaded at ys))))
      (replicate 8 0) ≡ 0
      → mask below (zip2 wrapped_difference (loaded at xs) (loaded at ys))
      (replicate 8 (of_z w64 lo)) ≡ 0
      → mask below (replicate 8 (of_z w64 hi))
      (zip2 wrapped_difference (loaded at xs) (loaded at ys)) ≡ 0
      → leaf Sub lo hi (get_or xs k (pos 0)) (get_or ys k (pos 0))
      ≡ Ok (to_z w64 (get_or (zip2 wrapped_difference (loaded at xs) (loaded at ys)) (k - at) 0))
  difference_made e m n =
      let s = zip2 wrapped_difference (loaded at xs) (loaded at ys) in
      difference_between e
      (lane_within lo hi s (k - at) fl fh (long wrapped_difference) (omega arith) m n)

  pub difference_made-all :
      mask below (zip2 bit_and (zip2 bit_xor (loaded at xs) (loaded at ys))
      (zip2 bit_xor (loaded at xs) (zip2 wrapped_difference (loaded at xs) (loaded at ys))))
      (replicate 8 0) ≡ 0
      → lo ≡ negsuc 9223372036854775807 → hi ≡ pos 9223372036854775807
      → leaf Sub lo hi (get_or xs k (pos 0)) (get_or ys k (pos 0))
      ≡ Ok (to_z w64 (get_or (zip2 wrapped_difference (loaded at xs) (loaded at ys)) (k - at) 0))
  difference_made-all e l h =
      let u = of_z w64 (get_or xs k (pos 0)) in
      let v = of_z w64 (get_or ys k (pos 0)) in
      difference_between e (rw (block_at wrapped_difference) (difference_within lo hi u v l h))

-- the same, of numbers that are not below 0
nat_sum_is : (x y : ℕ) → x < 2 ^ 64 → y < 2 ^ 64 → nat_lt (wrapped_sum x y) x ≡ false
    → pos (wrapped_sum x y) ≡ pos x +ℤ pos y
nat_sum_is x y f g e = grind (arith, ints)

nat_difference_is : (x y : ℕ) → x < 2 ^ 64 → y < 2 ^ 64 → nat_lt x y ≡ false
    → pos (wrapped_difference x y) ≡ pos x -ℤ pos y
nat_difference_is x y f g e = grind (arith, ints)

nat_within_is : (hi s : ℤ) (h z : ℕ) → hi ≡ pos h → pos z ≡ s → nat_lt h z ≡ false
    → within (pos 0) hi s ≡ Ok (pos z)
nat_within_is hi s h z eh e q =
    within_is (pos 0) hi s (pos z) e (grind arith) (ap (λ i. int_lt i (pos z)) eh ∙ q)

module _ (xs ys : List ℕ) (at : ℕ) (rx : at + 8 ≤ length xs) (ry : at + 8 ≤ length ys)
    (hi : ℕ) (k : ℕ) (p : at ≤ k) (q : k < at + 8) (fx : get_or xs k 0 < 2 ^ 64)
    (fy : get_or ys k 0 < 2 ^ 64) where
  nat_block_at : (f : ℕ → ℕ → ℕ) → get_or (zip2 f (chunk at 8 xs) (chunk at 8 ys)) (k - at) 0
      ≡ f (get_or xs k 0) (get_or ys k 0)
  nat_block_at f =
      result_at f (chunk at 8 xs) (chunk at 8 ys) (k - at) (length-chunk at 8 xs rx)
      (length-chunk at 8 ys ry) (omega arith)
      ∙ ap₂ f (lane_at-nat xs at k p q) (lane_at-nat ys at k p q)

  nat_long : (f : ℕ → ℕ → ℕ) → length (zip2 f (chunk at 8 xs) (chunk at 8 ys)) ≡ 8
  nat_long f =
      length-results f (chunk at 8 xs) (chunk at 8 ys) (length-chunk at 8 xs rx)
      (length-chunk at 8 ys ry)

  nat_high : (s : List ℕ) → length s ≡ 8 → mask nat_lt (replicate 8 hi) s ≡ 0
      → nat_lt hi (get_or s (k - at) 0) ≡ false
  nat_high s e n =
      let j : k - at < 8 = omega arith in
      ap (λ h. nat_lt h (get_or s (k - at) 0)) (sym (get_or-replicate 8 (k - at) hi 0 j))
      ∙ no_mark nat_lt (replicate 8 hi) s (k - at) (length-replicate 8 hi) e j n

  pub sum_made-nat : mask nat_lt (zip2 wrapped_sum (chunk at 8 xs) (chunk at 8 ys))
      (chunk at 8 xs) ≡ 0
      → mask nat_lt (replicate 8 hi) (zip2 wrapped_sum (chunk at 8 xs) (chunk at 8 ys)) ≡ 0
      → leaf Add (pos 0) (pos hi) (pos (get_or xs k 0)) (pos (get_or ys k 0))
      ≡ Ok (pos (get_or (zip2 wrapped_sum (chunk at 8 xs) (chunk at 8 ys)) (k - at) 0))
  sum_made-nat m n =
      let x = get_or xs k 0 in
      let y = get_or ys k 0 in
      let s = zip2 wrapped_sum (chunk at 8 xs) (chunk at 8 ys) in
      let here = nat_block_at wrapped_sum in
      let mark = no_mark nat_lt s (chunk at 8 xs) (k - at) (nat_long wrapped_sum)
      (length-chunk at 8 xs rx) (omega arith) m in
      let is = ap pos here
      ∙ nat_sum_is x y fx fy (ap₂ nat_lt (sym here) (sym (lane_at-nat xs at k p q)) ∙ mark) in
      nat_within_is (pos hi) (pos x +ℤ pos y) hi (get_or s (k - at) 0) refl is
      (nat_high s (nat_long wrapped_sum) n)

  pub difference_made-nat : mask nat_lt (chunk at 8 xs) (chunk at 8 ys) ≡ 0
      → mask nat_lt (replicate 8 hi) (zip2 wrapped_difference (chunk at 8 xs) (chunk at 8 ys)) ≡ 0
      → leaf Sub (pos 0) (pos hi) (pos (get_or xs k 0)) (pos (get_or ys k 0))
      ≡ Ok (pos (get_or (zip2 wrapped_difference (chunk at 8 xs) (chunk at 8 ys)) (k - at) 0))
  difference_made-nat m n =
      let x = get_or xs k 0 in
      let y = get_or ys k 0 in
      let s = zip2 wrapped_difference (chunk at 8 xs) (chunk at 8 ys) in
      let mark = no_mark nat_lt (chunk at 8 xs) (chunk at 8 ys) (k - at) (length-chunk at 8 xs rx)
      (length-chunk at 8 ys ry) (omega arith) m in
      let is = ap pos (nat_block_at wrapped_difference)
      ∙ nat_difference_is x y fx fy
      (ap₂ nat_lt (sym (lane_at-nat xs at k p q)) (sym (lane_at-nat ys at k p q)) ∙ mark) in
      nat_within_is (pos hi) (pos x -ℤ pos y) hi (get_or s (k - at) 0) refl is
      (nat_high s (nat_long wrapped_difference) n)

pub zero_mask : (n : ℕ) → IsTrue (nat_eq n 0) → n ≡ 0
zero_mask n h = grind arith
