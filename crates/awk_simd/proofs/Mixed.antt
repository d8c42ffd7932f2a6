-- The flags of a comparison of numbers of either sign with numbers that are not below 0.
use Rattle.std.proofs.Common.{◌≡◌, ℕ, ◌+◌, ◌-◌, ◌<◌, ◌≤◌, true, false, cond, List, map, T, length}
use Rattle.std.proofs.Common.{get_or, replicate, sym, ap, ap₂, subst, ◌∙◌, arith, Fits, w8, w64}
use Rattle.std.specs.Prelude.{ℤ, pos, negsuc, nat_abs, int_lt, nat_lt, nat_eq, FitsSigned}
use Rattle.std.specs.Int.{cast_unsigned as of_z, cast_signed as to_z}
use Rattle.std.specs.Int.Signed.{non_neg}
use Rattle.std.specs.Simd.Lanes.{chunk, put_chunk, Each1}
use Rattle.std.proofs.Math.Facts.{Fits-nat_abs}
use Rattle.std.proofs.lemmas.Int.{to_z-of_z}
use Rattle.std.proofs.lemmas.List.{get_or-map, length-map}
use Rattle.std.proofs.lemmas.Simd.{length-chunk, length-replicate, get_or-replicate}
use Rattle.std.proofs.lemmas.Simd.{Each1-from_get_or, Each1-replicate}
use Rattle.awk_simd.specs.Flags.{flag}
use Rattle.awk_simd.proofs.Masks.{loaded, length-loaded}
use Rattle.awk_simd.proofs.Lanes.{below, lane_at, lane_at-nat}
use Rattle.awk_simd.proofs.Chosen.{picked, length-picked, picked_at, each_chosen, stored_by}
use Rattle.awk_simd.proofs.Flags.{flags, length-flags, flag_at, fits_flag, flags_fit, same_sizes}

-- 0 in place of each lane that is below 0
abbrev pub raised : List ℕ → List ℕ
raised us = picked below us (replicate 8 0) (replicate 8 0) us

abbrev pub size_of : ℕ → ℕ
size_of a = nat_abs (to_z w64 a)

abbrev pub mixed_flags : List ℕ → List ℕ → ℕ → ℕ → ℕ → List ℕ
mixed_flags us vs l e g =
    picked below us (replicate 8 0) (replicate 8 l)
    (flags nat_lt (map size_of (raised us)) vs l e g)

-- a lane that a cast to u64 takes
abbrev pub IsSize : ℕ → Type 0
IsSize a = T (non_neg (to_z w64 a)) × Fits w64 (nat_abs (to_z w64 a))

is_plus : (n : ℕ) → FitsSigned w64 (pos n) → below n 0 ≡ false
is_plus n f = ap (λ i. int_lt i (pos 0)) (to_z-of_z w64 (pos n) f) ∙ grind arith

is_minus : (n : ℕ) → FitsSigned w64 (negsuc n) → below (of_z w64 (negsuc n)) 0 ≡ true
is_minus n f = ap (λ i. int_lt i (pos 0)) (to_z-of_z w64 (negsuc n) f)

raised_fits : (z : ℤ) → FitsSigned w64 z
    → IsSize (cond (below (of_z w64 z) 0) 0 (of_z w64 z))
raised_fits (pos n) f =
    subst (λ b. IsSize (cond b 0 n)) (sym (is_plus n f))
    (subst (λ i. T (non_neg i) × Fits w64 (nat_abs i)) (sym (to_z-of_z w64 (pos n) f))
    (tt, Fits-nat_abs tt f))
raised_fits (negsuc n) f =
    subst (λ b. IsSize (cond b 0 (of_z w64 (negsuc n)))) (sym (is_minus n f))
    (tt, record { fits = omega arith })

flag_is : (z : ℤ) (y l e g : ℕ) → FitsSigned w64 z
    → cond (below (of_z w64 z) 0) l
    (cond (nat_lt (size_of (cond (below (of_z w64 z) 0) 0 (of_z w64 z))) y) l
    (cond (nat_eq (size_of (cond (below (of_z w64 z) 0) 0 (of_z w64 z))) y) e g))
    ≡ flag l e g z (pos y)
flag_is (pos n) y l e g f =
    ap (λ b. cond b l
    (cond (nat_lt (size_of (cond b 0 n)) y) l (cond (nat_eq (size_of (cond b 0 n)) y) e g)))
    (is_plus n f)
    ∙ ap (λ i. cond (nat_lt (nat_abs i) y) l (cond (nat_eq (nat_abs i) y) e g))
    (to_z-of_z w64 (pos n) f)
    ∙ ap (λ b. cond (nat_lt n y) l (cond b e g)) (same_sizes n y)
flag_is (negsuc n) y l e g f =
    let u = of_z w64 (negsuc n) in
    ap (λ b. cond b l
    (cond (nat_lt (size_of (cond b 0 u)) y) l (cond (nat_eq (size_of (cond b 0 u)) y) e g)))
    (is_minus n f)

eight : (p : ℕ) → length {A = ℕ} (replicate 8 p) ≡ 8
eight p = length-replicate {A = ℕ} 8 p

module _ (us : List ℕ) (lu : length us ≡ 8) where
  length-raised : length (raised us) ≡ 8
  length-raised = length-picked below us (replicate 8 0) (replicate 8 0) us lu (eight 0)
      (eight 0) lu

  raised_at : (j : ℕ) → j < 8
      → get_or (raised us) j 0 ≡ cond (below (get_or us j 0) 0) 0 (get_or us j 0)
  raised_at j l =
      picked_at below us (replicate 8 0) (replicate 8 0) us lu (eight 0) (eight 0) lu j l
      ∙ ap (λ z. cond (below (get_or us j 0) z) z (get_or us j 0)) (get_or-replicate 8 j 0 0 l)

-- each lane of a load, with 0 in place of what is below 0
pub sizes_fit : (xs : List ℤ) (at : ℕ) → at + 8 ≤ length xs
    → ((k : ℕ) → k < length xs → FitsSigned w64 (get_or xs k (pos 0)))
    → Each1 IsSize (raised (loaded at xs))
sizes_fit xs at room known = Each1-from_get_or IsSize (raised us) 0 each
  where
    us : List ℕ
    us = loaded at xs

    lu : length us ≡ 8
    lu = length-loaded at xs room

    each : (i : ℕ) → i < length (raised us) → IsSize (get_or (raised us) i 0)
    each i l =
        let m : i < 8 = omega (arith, l, length-raised us lu) in
        let back : at + i - at ≡ i = omega arith in
        let x = get_or xs (at + i) (pos 0) in
        let lane : get_or us i 0 ≡ of_z w64 x =
        ap (λ j. get_or us j 0) (sym back) ∙ lane_at xs at (at + i) room (omega arith)
        (omega arith) in
        subst IsSize (sym (raised_at us lu i m ∙ ap (λ u. cond (below u 0) 0 u) lane))
        (raised_fits x (known (at + i) (omega (arith, room))))

pub flags_stored-mixed : (l e g at : ℕ) (out : List ℕ) (xs : List ℤ) (ys : List ℕ) (k : ℕ)
    → at + 8 ≤ length out → at + 8 ≤ length xs → at + 8 ≤ length ys → at ≤ k → k < at + 8
    → FitsSigned w64 (get_or xs k (pos 0))
    → get_or (put_chunk at out
    (map (λ u. u) (mixed_flags (loaded at xs) (chunk at 8 ys) l e g))) k 0
    ≡ flag l e g (get_or xs k (pos 0)) (pos (get_or ys k 0))
flags_stored-mixed l e g at out xs ys k ro rx ry p q f =
    let us = loaded at xs in
    let vs = chunk at 8 ys in
    let ns = map size_of (raised us) in
    let j = k - at in
    let m : j < 8 = omega arith in
    let y = get_or ys k 0 in
    let lu = length-loaded at xs rx in
    let lv = length-chunk at 8 ys ry in
    let ln = length-map (raised us) size_of ∙ length-raised us lu in
    let lf = length-flags nat_lt ns vs l e g ln lv in
    let lane : get_or ns j 0 ≡ size_of (cond (below (get_or us j 0) 0) 0 (get_or us j 0)) =
    get_or-map size_of (raised us) j 0 0 (omega (arith, length-raised us lu))
    ∙ ap size_of (raised_at us lu j m) in
    stored_by (λ u. u) 0 out (mixed_flags us vs l e g) at k
    (length-picked below us (replicate 8 0) (replicate 8 l) (flags nat_lt ns vs l e g) lu (eight 0)
    (eight l) lf) ro p q
    ∙ picked_at below us (replicate 8 0) (replicate 8 l) (flags nat_lt ns vs l e g) lu (eight 0)
    (eight l) lf j m
    ∙ ap₂ (λ z r. cond (below (get_or us j 0) z) r (get_or (flags nat_lt ns vs l e g) j 0))
    (get_or-replicate 8 j 0 0 m) (get_or-replicate 8 j l 0 m)
    ∙ ap (λ r. cond (below (get_or us j 0) 0) l r)
    (flag_at nat_lt ns vs l e g ln lv j m
    ∙ ap₂ (λ n v. cond (nat_lt n v) l (cond (nat_eq n v) e g)) lane (lane_at-nat ys at k p q))
    ∙ ap (λ u. cond (below u 0) l (cond (nat_lt (size_of (cond (below u 0) 0 u)) y) l
    (cond (nat_eq (size_of (cond (below u 0) 0 u)) y) e g))) (lane_at xs at k rx p q)
    ∙ flag_is (get_or xs k (pos 0)) y l e g f

-- each flag fits a byte
pub mixed_fit : (us vs : List ℕ) (l e g : ℕ) → l ≤ 1 → e ≤ 1 → g ≤ 1
    → Each1 (Fits w8) (mixed_flags us vs l e g)
mixed_fit us vs l e g hl he hg =
    each_chosen (Fits w8) _ (replicate 8 l) _ (Each1-replicate (Fits w8) 8 l (fits_flag l hl))
    (flags_fit nat_lt (map size_of (raised us)) vs l e g hl he hg)
