-- The fields of a record type in code, one after another.
use Rattle.std.proofs.Common.{◌≡◌, ℕ, zero, suc, ◌+◌, ◌-◌, ◌<◌, ◌==◌, ◌^◌, min, max, Bool}
use Rattle.std.proofs.Common.{true, false, refl, ap, sym, ◌∙◌, arith, drop, slice_get}
use Rattle.std.specs.Prelude.{List, [], ◌∷◌, length, get_or, Some, if◌then◌else◌}
use Rattle.awk_types.specs.DataType.{Name, depth, depths, greatest}
use Rattle.awk_types.specs.Names.{place_of}
use Rattle.awk_types.specs.View.{NamedType, names_of, types_of}
use Rattle.awk_put_field.specs.Field.{put}
use Rattle.awk_put_field.specs.Places.{put_at}
use Rattle.awk_put_field.proofs.PutLaws.{put-at, put-here, put-other}
use Rattle.awk_base.proofs.Lists.{drop-get}

pub depths-at : (fs : List NamedType) (i : ℕ) (f : NamedType) → slice_get fs i ≡ Some f
    → get_or (depths (types_of fs)) i 0 ≡ depth f.typ
depths-at [] i f e = cc
depths-at (g ∷ fs) zero f e = let h : g ≡ f = cc in ap (λ x. depth x.typ) h
depths-at (g ∷ fs) (suc i) f e = depths-at fs i f e

pub length-depths : (fs : List NamedType) → length (depths (types_of fs)) ≡ length fs
length-depths [] = refl
length-depths (f ∷ fs) = ap suc (length-depths fs)

length-names : (fs : List NamedType) → length (names_of fs) ≡ length fs
length-names [] = refl
length-names (f ∷ fs) = ap suc (length-names fs)

pub put-depths : (n : Name) (fs : List NamedType) (d : ℕ)
    → put n (names_of fs) d (depths (types_of fs))
    ≡ put_at (place_of n (names_of fs)) d (depths (types_of fs))
put-depths n fs d =
    put-at n (names_of fs) d (depths (types_of fs))
    (length-names fs ∙ sym (length-depths fs))

-- ---- the greatest of numbers with another one at a place

pub greatest-put_at : (k d : ℕ) (ds : List ℕ)
    → greatest (put_at k d ds) ≡ max d (greatest (put_at k 0 ds))
greatest-put_at k d [] = omega arith
greatest-put_at zero d (x ∷ ds) = omega arith
greatest-put_at (suc k) d (x ∷ ds) = omega (arith, greatest-put_at k d ds)

drop-all : (ds : List ℕ) → greatest (drop (length ds) ds) ≡ 0
drop-all [] = refl
drop-all (x ∷ ds) = drop-all ds

none-left : (k : ℕ) (ds : List ℕ) → greatest (drop (length ds) (put_at k 0 ds)) ≡ 0
none-left k [] = refl
none-left zero (x ∷ ds) = drop-all ds
none-left (suc k) (x ∷ ds) = none-left k ds

get-some : (i : ℕ) (ds : List ℕ) → i < length ds → slice_get ds i ≡ Some (get_or ds i 0)
get-some i [] l = absurd (omega (arith, l))
get-some zero (x ∷ ds) l = refl
get-some (suc i) (x ∷ ds) l = get-some i ds (omega (arith, l))

-- the next of these
next-at : (k i : ℕ) (ds : List ℕ) → i < length ds
    → slice_get (put_at k 0 ds) i ≡ Some (if i == k then 0 else get_or ds i 0)
next-at k i ds l = by (i == k) refl
  where
    by : (b : Bool) → (i == k) ≡ b
        → slice_get (put_at k 0 ds) i ≡ Some (if b then 0 else get_or ds i 0)
    by true e =
        let same : k ≡ i = grind (arith, e) in
        ap (λ j. slice_get (put_at j 0 ds) i) same ∙ put-here i 0 ds l
    by false e = put-other k i 0 ds e l ∙ get-some i ds l

next-greatest : (k i : ℕ) (ds : List ℕ) → i < length ds
    → greatest (drop i (put_at k 0 ds))
    ≡ max (if i == k then 0 else get_or ds i 0) (greatest (drop (i + 1) (put_at k 0 ds)))
next-greatest k i ds l =
    ap greatest (drop-get (put_at k 0 ds) i (if i == k then 0 else get_or ds i 0)
    (next-at k i ds l))

taken-max : (b : Bool) (a y c r g : ℕ) → a < 2 ^ 64 → c ≡ (if b then 0 else min y (2 ^ 64 - 1))
    → g ≡ max (if b then 0 else y) r
    → min (max (max a c) r) (2 ^ 64 - 1) ≡ min (max a g) (2 ^ 64 - 1)
taken-max true a y c r g l e f = omega (arith, l, e, f)
taken-max false a y c r g l e f = omega (arith, l, e, f)

small-max : (b : Bool) (a y c : ℕ) → a < 2 ^ 64 → c ≡ (if b then 0 else min y (2 ^ 64 - 1))
    → max a c < 2 ^ 64
small-max true a y c l e = omega (arith, l, e)
small-max false a y c l e = omega (arith, l, e)

-- a greatest depth so far
abbrev pub IsDeepest : ℕ → ℕ → List ℕ → ℕ → ℕ → Type 0
IsDeepest k d ds i a =
    (a < 2 ^ 64)
    × (min (max a (greatest (drop i (put_at k 0 ds)))) (2 ^ 64 - 1)
    ≡ min (greatest (put_at k d ds)) (2 ^ 64 - 1))

pub deepest_first : (k d : ℕ) (ds : List ℕ) → d < 2 ^ 64 → IsDeepest k d ds 0 d
deepest_first k d ds l = (l, omega (arith, greatest-put_at k d ds))

pub deepest_next : (k d i a b c : ℕ) (ds : List ℕ) → i < length ds
    → c ≡ (if i == k then 0 else min (get_or ds i 0) (2 ^ 64 - 1)) → b ≡ max a c
    → IsDeepest k d ds i a → IsDeepest k d ds (i + 1) b
deepest_next k d i a b c ds l e f h =
    let r = greatest (drop (i + 1) (put_at k 0 ds)) in
    let g = greatest (drop i (put_at k 0 ds)) in (
      omega (arith, small-max (i == k) a (get_or ds i 0) c h.0 e, f),
      ap (λ x. min (max x r) (2 ^ 64 - 1)) f
          ∙ taken-max (i == k) a (get_or ds i 0) c r g h.0 e (next-greatest k i ds l) ∙ h.1,
    )

pub deepest_last : (k d i a : ℕ) (ds : List ℕ) → i ≡ length ds → IsDeepest k d ds i a
    → a ≡ min (greatest (put_at k d ds)) (2 ^ 64 - 1)
deepest_last k d i a ds e h =
    let g : greatest (drop i (put_at k 0 ds)) ≡ 0 =
    ap (λ j. greatest (drop j (put_at k 0 ds))) e ∙ none-left k ds in
    omega (arith, h.0, h.1, g)
