-- The places of ranges: each is a place of the items, and by step 1 they are those of a cut.
use Rattle.std.proofs.Common.{◌≡◌, ◌≢◌, ℕ, zero, suc, ◌+◌, ◌-◌, ◌*◌, ◌/◌, ◌<◌, ◌≤◌, max, List, map}
use Rattle.std.proofs.Common.{length, get_or, take, drop, slice_range, arith, refl, ap, sym, ◌∙◌}
use Rattle.std.proofs.Common.{subst, mul-le-mul_right, suc-mul, mul-one, div-mul-le_self, div-one}
use Rattle.std.proofs.Common.{length-take, length-drop, get_or-take, get_or-drop}
use Rattle.std.specs.Prelude.{ℤ, pos, negsuc, Option, Some, None}
use Rattle.std.specs.List.{range_with_len}
use Rattle.std.proofs.lemmas.List.{ext_get_or}
use Rattle.std.proofs.lemmas.List.FromFn.{length-map-range_with_len, get_or-map-range_with_len}
use Rattle.std.proofs.lemmas.Simd.{map-map}
use Rattle.awk_types.specs.Value.{Value, null}
use Rattle.awk_lanes.specs.declared.kind.Kind.TheVariants.{I64}
use Rattle.awk_lanes.specs.Column.{Column}
use Rattle.awk_lanes.specs.Places.{IsIndex}
use Rattle.awk_gather.specs.Arrays.{pick}
use Rattle.awk_counts.specs.Counted.{places_lane, AreBelow}
use Rattle.awk_lanes.specs.Made.{lane_of}
use Rattle.awk_columns.proofs.ReachedContents.{places_index}
use Rattle.awk_select.specs.Picks.{items_at}
use Rattle.awk_select.specs.Places.{bound_up, bound_down, multiples_below, places_up, places_down}
use Rattle.awk_select.specs.Places.{range_places}

-- ---- multiples of a step

pub multiple-below : (d s j : ℕ) → 0 < s → j < multiples_below d s → j * s < d
multiple-below d s j p h =
    let top : suc j * s ≤ (d + (s - 1)) / s * s = mul-le-mul_right s (omega arith) in
    omega (arith, top, div-mul-le_self (d + (s - 1)) s, suc-mul j s)

-- ---- lanes

lane-map : (f : ℕ → ℕ) (n : ℕ)
    → places_lane (map f (range_with_len 0 n)) ≡ lane_of I64 n (λ j. pos (f j))
lane-map f n =
    ap (λ zs. record { kind = I64; items = zs }) (map-map (λ k. pos k) f (range_with_len 0 n))

pub lane-up : (lo hi s : ℕ) (p : Column)
    → p ≡ lane_of I64 (multiples_below (hi - lo) s) (λ j. pos (lo + j * s))
    → p ≡ places_lane (places_up lo hi s)
lane-up lo hi s p e = e ∙ sym (lane-map (λ j. lo + j * s) (multiples_below (hi - lo) s))

pub lane-down : (lo hi s : ℕ) (p : Column)
    → p ≡ lane_of I64 (multiples_below (lo - hi) s) (λ j. pos (lo - suc (j * s)))
    → p ≡ places_lane (places_down lo hi s)
lane-down lo hi s p e = e ∙ sym (lane-map (λ j. lo - suc (j * s)) (multiples_below (lo - hi) s))

-- ---- places of n items

below-map : (n : ℕ) (f : ℕ → ℕ) (a m : ℕ) → ((j : ℕ) → j < a + m → f j < n)
    → AreBelow n (map f (range_with_len a m))
below-map n f a zero h = tt
below-map n f a (suc m) h = (h a (omega arith), below-map n f (a + 1) m (λ j l. h j (omega arith)))

pub bound_up-below : (n other : ℕ) (b : Option ℤ) → other ≤ n → bound_up n other b ≤ n
bound_up-below n other None h = h
bound_up-below n other (Some (pos k)) h = omega arith
bound_up-below n other (Some (negsuc k)) h = omega arith

pub bound_down-below : (n other : ℕ) (b : Option ℤ) → other ≤ n → bound_down n other b ≤ n
bound_down-below n other None h = h
bound_down-below n other (Some (pos k)) h = omega arith
bound_down-below n other (Some (negsuc k)) h = omega arith

places_up-below : (n lo hi s : ℕ) → hi ≤ n → 0 < s → AreBelow n (places_up lo hi s)
places_up-below n lo hi s h p =
    below-map n (λ j. lo + j * s) 0 (multiples_below (hi - lo) s)
    (λ j l. omega (arith, multiple-below (hi - lo) s j p (omega arith)))

places_down-below : (n lo hi s : ℕ) → lo ≤ n → 0 < s → AreBelow n (places_down lo hi s)
places_down-below n lo hi s h p =
    below-map n (λ j. lo - suc (j * s)) 0 (multiples_below (lo - hi) s)
    (λ j l. omega (arith, multiple-below (lo - hi) s j p (omega arith)))

range_places-below : (n : ℕ) (lo hi : Option ℤ) (step : ℤ) → step ≢ pos 0
    → AreBelow n (range_places n lo hi step)
range_places-below n lo hi (pos zero) h = absurd (h refl)
range_places-below n lo hi (pos (suc s)) h =
    places_up-below n _ (bound_up n n hi) (suc s) (bound_up-below n n hi (omega arith))
    (omega arith)
range_places-below n lo hi (negsuc k) h =
    places_down-below n (bound_down n n lo) _ (suc k) (bound_down-below n n lo (omega arith))
    (omega arith)

pub range_places-index : (n : ℕ) (lo hi : Option ℤ) (step : ℤ) (p : Column) → step ≢ pos 0
    → p ≡ places_lane (range_places n lo hi step) → IsIndex p n
range_places-index n lo hi step p h e =
    subst (λ c. IsIndex c n) (sym e) (places_index n (range_places n lo hi step)
    (range_places-below n lo hi step h))

-- ---- items

pub pick-places : (vs : List Value) (ks : List ℕ) (p : Column) → p ≡ places_lane ks
    → pick vs p.items ≡ items_at vs ks
pick-places vs ks p e = ap (λ (c : Column). pick vs c.items) e ∙ map-map _ (λ k. pos k) ks

-- by step 1, the items from one bound below another
by_one : (lo hi : ℕ) → places_up lo hi 1 ≡ map (λ j. lo + j * 1) (range_with_len 0 (hi - lo))
by_one lo hi =
    ap (λ n. map (λ j. lo + j * 1) (range_with_len 0 n)) (div-one (hi - lo + 0) ∙ omega arith)

cut-is : (vs : List Value) (lo hi : ℕ) → hi ≤ length vs
    → slice_range vs lo hi ≡ map (λ j. get_or vs (lo + j * 1) null) (range_with_len 0 (hi - lo))
cut-is vs lo hi h =
    let w : length (slice_range vs lo hi) ≡ hi - lo = omega
    (arith, length-take (hi - lo) (drop lo vs), length-drop lo vs) in
    ext_get_or null _ _ (w ∙ sym (length-map-range_with_len (λ j. get_or vs (lo + j * 1) null) 0
    (hi - lo))) (λ i l.
    let l' : i < hi - lo = omega arith in
    let k : lo + i ≡ lo + i * 1 = ap (λ m. lo + m) (sym (mul-one i)) in
    get_or-take (hi - lo) (drop lo vs) i null l'
    ∙ get_or-drop lo vs i null
    ∙ ap (λ k. get_or vs k null) k
    ∙ sym (get_or-map-range_with_len (λ j. get_or vs (lo + j * 1) null) 0 (hi - lo) i i null l'
    (omega arith)))

cut-items : (vs : List Value) (lo hi : ℕ) → hi ≤ length vs
    → slice_range vs lo hi ≡ items_at vs (places_up lo hi 1)
cut-items vs lo hi h =
    cut-is vs lo hi h
    ∙ sym (map-map (λ k. get_or vs k null) (λ j. lo + j * 1) (range_with_len 0 (hi - lo)))
    ∙ ap (items_at vs) (sym (by_one lo hi))

pub cut-range : (vs : List Value) (n from to : ℕ) (lo hi : Option ℤ) → length vs ≡ n
    → from ≡ bound_up n 0 lo → to ≡ max (bound_up n n hi) from
    → slice_range vs from to ≡ items_at vs (range_places n lo hi (pos 1))
cut-range vs n from to lo hi counted first last =
    let same : to - from ≡ bound_up n n hi - from = omega arith in
    ap (λ m. take m (drop from vs)) same
    ∙ cut-items vs from (bound_up n n hi) (omega (arith, bound_up-below n n hi (omega arith)))
    ∙ ap (λ f. items_at vs (places_up f (bound_up n n hi) 1)) first

-- all numbers are made
pub end-is : (f : ℕ → ℤ) (j n m : ℕ) → j ≡ n → n ≡ m
    → map f (range_with_len 0 j) ≡ map f (range_with_len 0 m)
end-is f j n m e h = ap (λ k. map f (range_with_len 0 k)) (e ∙ h)
