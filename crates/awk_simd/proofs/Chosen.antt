-- Lanes that are chosen by the comparison of two vectors.
use Rattle.std.proofs.Common.{◌≡◌, ℕ, ◌+◌, ◌-◌, ◌<◌, ◌≤◌, Bool, true, false, cond, List, [], ◌∷◌}
use Rattle.std.proofs.Common.{map, length, get_or, sym, ap, ◌∙◌, arith, w64}
use Rattle.std.specs.Simd.Lanes.{put_chunk, zip2, sel_l, top, Each1}
use Rattle.std.proofs.lemmas.List.{get_or-map, length-map}
use Rattle.std.proofs.lemmas.Simd.{tops_compared, length-zip2, get_or-zip2, get_or-put_chunk_at}
use Rattle.std.proofs.lemmas.Simd.{length-sel_l, get_or-sel_l}
use Rattle.awk_simd.proofs.Masks.{marked}

-- what holds of each lane of two vectors holds of each that is chosen
pub each_chosen : (P : ℕ → Type 0) (ms : List Bool) (xs ys : List ℕ) → Each1 P xs → Each1 P ys
    → Each1 P (sel_l ms xs ys)
each_chosen P [] xs ys g h = tt
each_chosen P (m ∷ ms) [] ys g h = tt
each_chosen P (m ∷ ms) (x ∷ xs) [] g h = tt
each_chosen P (true ∷ ms) (x ∷ xs) (y ∷ ys) g h = (g.0, each_chosen P ms xs ys g.1 h.1)
each_chosen P (false ∷ ms) (x ∷ xs) (y ∷ ys) g h = (h.0, each_chosen P ms xs ys g.1 h.1)

-- the lanes of xs where the comparison holds, else those of ys
abbrev pub picked : (ℕ → ℕ → Bool) → List ℕ → List ℕ → List ℕ → List ℕ → List ℕ
picked t us vs xs ys = sel_l (map (top 63) (zip2 (marked t) us vs)) xs ys

module _ (t : ℕ → ℕ → Bool) (us vs xs ys : List ℕ) (lu : length us ≡ 8) (lv : length vs ≡ 8)
    (lx : length xs ≡ 8) (ly : length ys ≡ 8) where
  marks : map (top 63) (zip2 (marked t) us vs) ≡ zip2 t us vs
  marks = tops_compared w64 t us vs

  long : length (zip2 t us vs) ≡ 8
  long = length-zip2 t us vs (lu ∙ sym lv) ∙ lu

  pub length-picked : length (picked t us vs xs ys) ≡ 8
  length-picked =
      ap (λ ms. length {A = ℕ} (sel_l ms xs ys)) marks
      ∙ length-sel_l (zip2 t us vs) xs ys (long ∙ sym lx) (long ∙ sym ly) ∙ long

  pub picked_at : (j : ℕ) → j < 8 → get_or (picked t us vs xs ys) j 0
      ≡ cond (t (get_or us j 0) (get_or vs j 0)) (get_or xs j 0) (get_or ys j 0)
  picked_at j l =
      ap (λ ms. get_or {A = ℕ} (sel_l ms xs ys) j 0) marks
      ∙ get_or-sel_l (zip2 t us vs) xs ys j 0 (omega (arith, long)) (omega (arith, lx))
      (omega (arith, ly))
      ∙ ap (λ b. cond b (get_or xs j 0) (get_or ys j 0))
      (get_or-zip2 t us vs j 0 0 false (omega (arith, lu)) (omega (arith, lv)))

-- what a store of eight lanes leaves at a place
pub stored : {C : Type 0} (d : C) (out s : List C) (at k : ℕ) → length s ≡ 8
    → at + 8 ≤ length out → at ≤ k → k < at + 8
    → get_or (put_chunk at out s) k d ≡ get_or s (k - at) d
stored d out s at k e ro p q =
    let back : at + (k - at) ≡ k = omega arith in
    ap (λ m. get_or (put_chunk at out s) m d) (sym back)
    ∙ get_or-put_chunk_at at out s (k - at) d (omega (arith, e)) (omega (arith, e))

-- the same, where each lane is shown as another number
pub stored_by : {C : Type 0} (g : ℕ → C) (d : C) (out : List C) (s : List ℕ) (at k : ℕ)
    → length s ≡ 8 → at + 8 ≤ length out → at ≤ k → k < at + 8
    → get_or (put_chunk at out (map g s)) k d ≡ g (get_or s (k - at) 0)
stored_by g d out s at k e ro p q =
    stored d out (map g s) at k (length-map s g ∙ e) ro p q
    ∙ get_or-map g s (k - at) 0 d (omega (arith, e))
