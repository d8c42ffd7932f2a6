-- Lists of values by place, and facts on each of them.
use Rattle.std.proofs.Common.{◌≡◌, ◌<◌, ℕ, suc, ◌+◌, List, [], ◌∷◌, ◌++◌, length, get_or, map}
use Rattle.std.proofs.Common.{refl, arith, length-append, append_assoc}
use Rattle.std.specs.List.{range_with_len, AllByRecursion}
use Rattle.awk_types.specs.Value.{Value, null}

-- ---- facts on each

pub map-all : (P Q : Value → Type 0) → ((v : Value) → P v → Q v) → (vs : List Value)
    → AllByRecursion P vs → AllByRecursion Q vs
map-all P Q f [] h = tt
map-all P Q f (v ∷ vs) h = (f v h.0, map-all P Q f vs h.1)

-- ---- values by place

-- a function gives the value at each place
abbrev pub Reads : (ℕ → Value) → List Value → Type 0
Reads f vs = (j : ℕ) → j < length vs → f j ≡ get_or vs j null

pub get_or-seam : (pre : List Value) (x : Value) (rest : List Value)
    → get_or (pre ++ x ∷ rest) (length pre) null ≡ x
get_or-seam [] x rest = refl
get_or-seam (y ∷ pre) x rest = get_or-seam pre x rest

pub snoc : (pre : List Value) (x : Value) (rest : List Value)
    → (pre ++ x ∷ []) ++ rest ≡ pre ++ x ∷ rest
snoc pre x rest = append_assoc pre (x ∷ []) rest

pub length-snoc : (pre : List Value) (x : Value) → length (pre ++ x ∷ []) ≡ suc (length pre)
length-snoc pre x = grind (arith, length-append)

pub seam-below : (pre : List Value) (x : Value) (rest : List Value)
    → length pre < length (pre ++ x ∷ rest)
seam-below pre x rest = grind (arith, length-append)

reads-from : (f : ℕ → Value) (a : ℕ) (vs : List Value)
    → ((j : ℕ) → j < length vs → f (a + j) ≡ get_or vs j null)
    → map f (range_with_len a (length vs)) ≡ vs
reads-from f a [] h = refl
reads-from f a (v ∷ vs) h =
    let first : a + 0 ≡ a = omega arith in
    let here : f a ≡ v = rw first at (h 0 (omega arith)) in
    let later = reads-from f (a + 1) vs (λ j l.
    let e : a + suc j ≡ a + 1 + j = omega arith in rw e at (h (suc j) (omega arith))) in
    rw (here, later) refl

-- all at once
pub reads-all : (f : ℕ → Value) (vs : List Value) → Reads f vs
    → map f (range_with_len 0 (length vs)) ≡ vs
reads-all f vs h = reads-from f 0 vs (λ j l. let e : 0 + j ≡ j = omega arith in rw e (h j l))
