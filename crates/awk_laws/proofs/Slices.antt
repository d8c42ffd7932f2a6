-- Ranges by step 1 are cuts, and a cut of a cut is a cut.
use Rattle.std.specs.Prelude.{◌≡◌, ℕ, ◌+◌, ◌-◌, ◌<◌, ◌≤◌, min, max, List, length, take, drop}
use Rattle.std.specs.Prelude.{get_or}
use Rattle.std.specs.Prelude.{Option, Some, pos, ℤ, refl}
use Rattle.std.proofs.Common.{arith, ap, ap₂, sym, ◌∙◌}
use Rattle.std.proofs.Common.{length-take, length-drop, get_or-take, get_or-drop}
use Rattle.std.proofs.lemmas.List.{ext_get_or}
use Rattle.awk_types.specs.Value.{Value, null}
use Rattle.awk_select.specs.Picks.{items_at}
use Rattle.awk_select.specs.Places.{bound_up, range_places}
use Rattle.awk_select.proofs.RangePlaces.{cut-range}

-- the items between bounds
pub range-cut : (vs : List Value) (lo hi : Option ℤ)
    → items_at vs (range_places (length vs) lo hi (pos 1))
    ≡ take (bound_up (length vs) (length vs) hi - bound_up (length vs) 0 lo)
    (drop (bound_up (length vs) 0 lo) vs)
range-cut vs lo hi =
    let n = length vs in
    let from = bound_up n 0 lo in
    let to = bound_up n n hi in
    let same : max to from - from ≡ to - from = omega arith in
    sym (cut-range vs n from (max to from) lo hi refl refl refl)
    ∙ ap (λ (k : ℕ). take k (drop from vs)) same

-- between two places
pub range-places : (vs : List Value) (a b : ℕ) → b ≤ length vs
    → items_at vs (range_places (length vs) (Some (pos a)) (Some (pos b)) (pos 1))
    ≡ take (b - a) (drop a vs)
range-places vs a b p = by (min a (length vs)) (min b (length vs)) refl refl
  where
    by : (from to : ℕ) → min a (length vs) ≡ from → min b (length vs) ≡ to
        → items_at vs (range_places (length vs) (Some (pos a)) (Some (pos b)) (pos 1))
        ≡ take (b - a) (drop a vs)
    by from to e f =
        range-cut vs (Some (pos a)) (Some (pos b))
        ∙ ap₂ (λ (k j : ℕ). take (k - j) (drop j vs)) f e
        ∙ ext_get_or null (take (to - from) (drop from vs)) (take (b - a) (drop a vs))
        (omega (
          arith,
          length-take (to - from) (drop from vs),
          length-drop from vs,
          length-take (b - a) (drop a vs),
          length-drop a vs,
        ))
        (λ i l.
        let m : i < to - from = omega (arith, length-take (to - from) (drop from vs)) in
        let k : i < b - a = omega (arith, e, f, p) in
        let s : from ≡ a = omega (arith, e, f, p) in
        get_or-take (to - from) (drop from vs) i null m
        ∙ ap (λ (j : ℕ). get_or (drop j vs) i null) s
        ∙ sym (get_or-take (b - a) (drop a vs) i null k))

-- a cut of a cut
pub cut-cut : (vs : List Value) (a n b m : ℕ) → b + m ≤ n
    → take m (drop b (take n (drop a vs))) ≡ take m (drop (a + b) vs)
cut-cut vs a n b m p =
    ext_get_or null (take m (drop b (take n (drop a vs)))) (take m (drop (a + b) vs))
    (omega (
      arith,
      length-take m (drop b (take n (drop a vs))),
      length-drop b (take n (drop a vs)),
      length-take n (drop a vs),
      length-drop a vs,
      length-take m (drop (a + b) vs),
      length-drop (a + b) vs,
    ))
    (λ i l.
    let j : i < m = omega (arith, length-take m (drop b (take n (drop a vs)))) in
    let k : b + i < n = omega (arith, j, p) in
    let s : a + (b + i) ≡ a + b + i = omega arith in
    get_or-take m (drop b (take n (drop a vs))) i null j
    ∙ get_or-drop b (take n (drop a vs)) i null
    ∙ get_or-take n (drop a vs) (b + i) null k
    ∙ get_or-drop a vs (b + i) null
    ∙ ap (λ (q : ℕ). get_or vs q null) s
    ∙ sym (get_or-take m (drop (a + b) vs) i null j ∙ get_or-drop (a + b) vs i null))
