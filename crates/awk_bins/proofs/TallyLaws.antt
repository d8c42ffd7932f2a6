-- Tallies of one number more.
use Rattle.std.proofs.Common.{◌≡◌, ℕ, ◌+◌, ◌<◌, ◌≤◌, List, []}
use Rattle.std.proofs.Common.{length, get_or, take, set, replicate}
use Rattle.std.proofs.Common.{refl, ◌∙◌, arith}
use Rattle.std.specs.Prelude.{ℤ, pos, Bool, true, false, cond, ◌==◌}
use Rattle.std.proofs.lemmas.Grind.{common_steps, same_number_lists}
use Rattle.std.proofs.lemmas.List.FromFn.{length-map-range_with_len, get_or-map-range_with_len}
use Rattle.std.proofs.lemmas.List.Sums.{count_by-le-length, count_by_more_yes, count_by_more_no}
use Rattle.awk_bins.specs.Tallies.{edges_up_to, tally, tallies}

pub length-tallies : (es zs : List ℤ) → length (tallies es zs) ≡ length es + 1
length-tallies es zs = length-map-range_with_len (tally es zs) 0 (length es + 1)

pub get_or-tallies : (es zs : List ℤ) (j d : ℕ) → j < length es + 1
    → get_or (tallies es zs) j d ≡ tally es zs j
get_or-tallies es zs j d l =
    get_or-map-range_with_len (tally es zs) 0 (length es + 1) j j d l (omega arith)

pub tally-more : (es zs : List ℤ) (i j : ℕ) → i < length zs
    → tally es (take (i + 1) zs) j
    ≡ tally es (take i zs) j + cond (edges_up_to es (get_or zs i (pos 0)) == j) 1 0
tally-more es zs i j l = by (edges_up_to es (get_or zs i (pos 0)) == j) refl
  where
    by : (b : Bool) → (edges_up_to es (get_or zs i (pos 0)) == j) ≡ b
        → tally es (take (i + 1) zs) j ≡ tally es (take i zs) j + cond b 1 0
    by true t = count_by_more_yes (λ z. edges_up_to es z == j) zs i (pos 0) l t
    by false f =
        count_by_more_no (λ z. edges_up_to es z == j) zs i (pos 0) l f ∙ omega arith

-- one more where the number stands
pub tallies-more : (es zs : List ℤ) (i p : ℕ) → i < length zs
    → p ≡ edges_up_to es (get_or zs i (pos 0))
    → set (tallies es (take i zs)) p (get_or (tallies es (take i zs)) p 0 + 1)
    ≡ tallies es (take (i + 1) zs)
tallies-more es zs i p l e = same_number_lists new (tallies es (take (i + 1) zs)) size each
  where
    old : List ℕ
    old = tallies es (take i zs)

    new : List ℕ
    new = set old p (get_or old p 0 + 1)

    size : length new ≡ length (tallies es (take (i + 1) zs))
    size =
        grind (
          arith,
          common_steps,
          length-tallies es (take i zs),
          length-tallies es (take (i + 1) zs),
        )

    each : (j : ℕ) → j < length new → get_or new j 0 ≡ get_or (tallies es (take (i + 1) zs)) j 0
    each j m =
        let k : j < length es + 1 =
        omega (arith, m, size, length-tallies es (take (i + 1) zs)) in
        let was : get_or old j 0 ≡ tally es (take i zs) j =
        get_or-tallies es (take i zs) j 0 k in
        let is : get_or (tallies es (take (i + 1) zs)) j 0 ≡ tally es (take (i + 1) zs) j =
        get_or-tallies es (take (i + 1) zs) j 0 k in
        let more = tally-more es zs i j l in
        grind (arith, common_steps, was, is, more, e, m)

pub tallies_none : (es : List ℤ) (n : ℕ) → n ≡ length es + 1 → replicate n 0 ≡ tallies es []
tallies_none es n e = same_number_lists (replicate n 0) (tallies es []) size each
  where
    zeros : List ℕ
    zeros = replicate n 0

    size : length zeros ≡ length (tallies es [])
    size = grind (arith, common_steps, e, length-tallies es [])

    each : (j : ℕ) → j < length zeros → get_or zeros j 0 ≡ get_or (tallies es []) j 0
    each j m =
        let k : j < length es + 1 = omega (arith, m, size, length-tallies es []) in
        let none : get_or (tallies es []) j 0 ≡ 0 = get_or-tallies es [] j 0 k in
        grind (arith, common_steps, none, m)

-- no tally is greater than how many numbers there are
pub tallies_few : (es zs : List ℤ) (p : ℕ) → p < length es + 1
    → get_or (tallies es zs) p 0 ≤ length zs
tallies_few es zs p l =
    let most = count_by-le-length (λ z. edges_up_to es z == p) zs in
    omega (arith, most, get_or-tallies es zs p 0 l)
