-- How many bytes the columns of drawn events have.
use Rattle.std.proofs.Common.{◌≡◌, ◌<◌, ◌≤◌, ℕ, zero, suc, ◌+◌, ◌*◌, ◌%◌, List, [], ◌∷◌, length}
use Rattle.std.proofs.Common.{refl, arith, length-append}
use Rattle.std.specs.List.{flat_map}
use Rattle.std.proofs.Math.Nat.{mod-lt}
use Rattle.awk_made.specs.Draws.{draw, after_draws, Muon, muons, events}
use Rattle.awk_made.specs.Session.{number_bytes, offsets_bytes, stops, pt_bytes, charge_bytes}
use Rattle.awk_made.specs.Session.{pts_bytes, charges_bytes}

length-pt : (n s : ℕ) → length (pt_bytes (muons n s)) ≡ 8 * n
length-pt zero s = refl
length-pt (suc n) s = omega (arith, length-pt n (draw (draw s)))

length-charge : (n s : ℕ) → length (charge_bytes (muons n s)) ≡ n
length-charge zero s = refl
length-charge (suc n) s = omega (arith, length-charge n (draw (draw s)))

length-numbers : (ns : List ℕ) → length (flat_map number_bytes ns) ≡ 8 * length ns
length-numbers [] = refl
length-numbers (n ∷ ns) = omega (arith, length-numbers ns)

length-stops : (k : ℕ) (es : List (List Muon)) → length (stops k es) ≡ length es
length-stops k [] = refl
length-stops k (e ∷ es) = omega (arith, length-stops (k + length e) es)

pub length-events : (n s : ℕ) → length (events n s) ≡ n
length-events zero s = refl
length-events (suc n) s = omega (arith, length-events n (after_draws (2 * (draw s % 4)) (draw s)))

pub length-offsets : (n s : ℕ) → length (offsets_bytes (events n s)) ≡ 8 * n + 8
length-offsets n s =
    omega (
      arith,
      length-numbers (stops 0 (events n s)),
      length-stops 0 (events n s),
      length-events
          n s,
    )

-- no event has more than three muons
pub length-pts : (n s : ℕ) → length (pts_bytes (events n s)) ≤ 24 * n
length-pts zero s = omega arith
length-pts (suc n) s =
    let d = draw s in
    let few : d % 4 < 4 = mod-lt d (omega arith) in
    let later = after_draws (2 * (d % 4)) d in
    omega (
      arith,
      few,
      length-append (pt_bytes (muons (d % 4) d)) (pts_bytes (events n later)),
      length-pt (d % 4) d,
      length-pts n later,
    )

pub length-charges : (n s : ℕ) → length (charges_bytes (events n s)) ≤ 3 * n
length-charges zero s = omega arith
length-charges (suc n) s =
    let d = draw s in
    let few : d % 4 < 4 = mod-lt d (omega arith) in
    let later = after_draws (2 * (d % 4)) d in
    omega (
      arith,
      few,
      length-append (charge_bytes (muons (d % 4) d))
          (charges_bytes (events n later)),
      length-charge (d % 4) d,
      length-charges n later,
    )
