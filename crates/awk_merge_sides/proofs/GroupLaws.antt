-- Columns in groups: one column more, and the columns that the groups become.
use Rattle.std.proofs.Common.{◌≡◌, ◌≢◌, ◌+◌, ◌<◌, ◌≤◌, ◌∷◌, ◌++◌, [], ℕ, suc, zero, List, length}
use Rattle.std.proofs.Common.{map, take, set, get_or, slice_get, Some, replicate, refl, ap, sym}
use Rattle.std.proofs.Common.{subst, ◌∙◌, arith}
use Rattle.std.proofs.lemmas.List.{take_all}
use Rattle.std.specs.List.{AllByRecursion}
use Rattle.awk_base.proofs.Lists.{take-get}
use Rattle.awk_types.specs.DataType.{DataType}
use Rattle.awk_layout.specs.Layout.{Layout}
use Rattle.awk_layout.specs.Typing.{array_type}
use Rattle.awk_layout.specs.Valid.{len}
use Rattle.awk_unify.specs.Carry.{Carry}
use Rattle.awk_merge_sides.proofs.SideLaws.{AreSides-with_side}
use Rattle.awk_merge_sides.specs.Groups.{AreGroups, AreMerged, with_side_at}
use Rattle.awk_merge_sides.specs.Sides.{Side, sides_of, with_side, Carries, AreSides, IsCounted}
use Rattle.awk_merge_sides.specs.Sides.{IsMerged}
use Rattle.awk_merge_sides.specs.declared.sides.Sides.{Sides}

-- ---- one column more in a group

pub length-with_side_at : (j : ℕ) (gs : List (List Side)) (x : Layout) (f : Carry)
    → length (with_side_at j gs x f) ≡ length gs
length-with_side_at j [] x f = refl
length-with_side_at zero (g ∷ gs) x f = refl
length-with_side_at (suc j) (g ∷ gs) x f = ap suc (length-with_side_at j gs x f)

pub get_or-with_side_at : (j : ℕ) (gs : List (List Side)) (x : Layout) (f : Carry) → j < length gs
    → get_or (with_side_at j gs x f) j [] ≡ with_side (get_or gs j []) x f
get_or-with_side_at j [] x f h = absurd (omega (arith, h))
get_or-with_side_at zero (g ∷ gs) x f h = refl
get_or-with_side_at (suc j) (g ∷ gs) x f h = get_or-with_side_at j gs x f (omega (arith, h))

-- the other groups stay
pub get_or-with_side_at-other : (j k : ℕ) (gs : List (List Side)) (x : Layout) (f : Carry) → k ≢ j
    → get_or (with_side_at j gs x f) k [] ≡ get_or gs k []
get_or-with_side_at-other j k [] x f h = refl
get_or-with_side_at-other zero zero (g ∷ gs) x f h = absurd (h refl)
get_or-with_side_at-other zero (suc k) (g ∷ gs) x f h = refl
get_or-with_side_at-other (suc j) zero (g ∷ gs) x f h = refl
get_or-with_side_at-other (suc j) (suc k) (g ∷ gs) x f h =
    get_or-with_side_at-other j k gs x f (λ e. h (ap suc e))

-- beyond the last group it is put nowhere
pub with_side_at-past : (j : ℕ) (gs : List (List Side)) (x : Layout) (f : Carry) → length gs ≤ j
    → with_side_at j gs x f ≡ gs
with_side_at-past j [] x f h = refl
with_side_at-past zero (g ∷ gs) x f h = absurd (omega (arith, h))
with_side_at-past (suc j) (g ∷ gs) x f h =
    ap (λ hs. g ∷ hs) (with_side_at-past j gs x f (omega (arith, h)))

-- as the code writes it
pub with_side_at-set : (ss : List Sides) (j : ℕ) (s new : Sides) (x : Layout) (f : Carry)
    → j < length ss → s ≡ get_or ss j s → sides_of new ≡ with_side (sides_of s) x f
    → map sides_of (set ss j new) ≡ with_side_at j (map sides_of ss) x f
with_side_at-set [] j s new x f h r e = absurd (omega (arith, h))
with_side_at-set (t ∷ ss) zero s new x f h r e =
    ap (λ g. g ∷ map sides_of ss) (e ∙ ap (λ a. with_side (sides_of a) x f) r)
with_side_at-set (t ∷ ss) (suc j) s new x f h r e =
    ap (λ gs. sides_of t ∷ gs) (with_side_at-set ss j s new x f (omega (arith, h)) r e)

-- a group that is written as it was changes none
pub groups-same : (ss : List Sides) (j : ℕ) (s new : Sides) → j < length ss → s ≡ get_or ss j s
    → sides_of new ≡ sides_of s → map sides_of (set ss j new) ≡ map sides_of ss
groups-same [] j s new h r e = absurd (omega (arith, h))
groups-same (t ∷ ss) zero s new h r e = ap (λ g. g ∷ map sides_of ss) (e ∙ ap sides_of r)
groups-same (t ∷ ss) (suc j) s new h r e =
    ap (λ gs. sides_of t ∷ gs) (groups-same ss j s new (omega (arith, h)) r e)

pub counted-set : (ss : List Sides) (j : ℕ) (new : Sides) → AllByRecursion IsCounted ss
    → IsCounted new → AllByRecursion IsCounted (set ss j new)
counted-set [] j new h k = tt
counted-set (s ∷ ss) zero new h k = (k, h.1)
counted-set (s ∷ ss) (suc j) new h k = (h.0, counted-set ss j new h.1 k)

-- ---- groups of columns that become columns of types

pub length-groups : (ts : List DataType) (gs : List (List Side)) → AreGroups ts gs
    → length gs ≡ length ts
length-groups [] [] h = refl
length-groups [] (g ∷ gs) h = absurd h
length-groups (t ∷ ts) [] h = absurd h
length-groups (t ∷ ts) (g ∷ gs) h = ap suc (length-groups ts gs h.1)

pub AreGroups-none : (ts : List DataType) → AreGroups ts (replicate (length ts) [])
AreGroups-none [] = tt
AreGroups-none (t ∷ ts) = (tt, AreGroups-none ts)

pub AreGroups-get : (ts : List DataType) (gs : List (List Side)) (j : ℕ) (t : DataType)
    (g : List Side) → AreGroups ts gs → slice_get ts j ≡ Some t → slice_get gs j ≡ Some g
    → AreSides t g
AreGroups-get [] [] j t g h d e = cc
AreGroups-get [] (k ∷ gs) j t g h d e = absurd h
AreGroups-get (u ∷ ts) [] j t g h d e = absurd h
AreGroups-get (u ∷ ts) (k ∷ gs) zero t g h d e =
    let a : u ≡ t = cc in
    let b : k ≡ g = cc in
    subst (λ u. AreSides u g) a (subst (AreSides u) b h.0)
AreGroups-get (u ∷ ts) (k ∷ gs) (suc j) t g h d e = AreGroups-get ts gs j t g h.1 d e

-- a further column of a group has values of the type at its place, where it has items
pub AreGroups-with_side_at : (ts : List DataType) (gs : List (List Side)) (j : ℕ) (x : Layout)
    (f : Carry) → AreGroups ts gs
    → (0 < len x → (t : DataType) → slice_get ts j ≡ Some t → Carries (array_type x) f t)
    → AreGroups ts (with_side_at j gs x f)
AreGroups-with_side_at [] [] j x f h k = tt
AreGroups-with_side_at [] (g ∷ gs) j x f h k = absurd h
AreGroups-with_side_at (t ∷ ts) [] j x f h k = absurd h
AreGroups-with_side_at (t ∷ ts) (g ∷ gs) zero x f h k =
    (AreSides-with_side t g x f h.0 (λ some. k some t refl), h.1)
AreGroups-with_side_at (t ∷ ts) (g ∷ gs) (suc j) x f h k =
    (h.0, AreGroups-with_side_at ts gs j x f h.1 k)

-- ---- the columns that they become

pub AreMerged-last : (ts : List DataType) (gs : List (List Side)) (ys : List Layout) (t : DataType)
    (g : List Side) (y : Layout) → AreMerged ts gs ys → IsMerged t g y
    → AreMerged (ts ++ t ∷ []) (gs ++ g ∷ []) (ys ++ y ∷ [])
AreMerged-last [] [] [] t g y h m = (m, tt)
AreMerged-last (u ∷ ts) (k ∷ gs) (z ∷ ys) t g y h m =
    (h.0, AreMerged-last ts gs ys t g y h.1 m)
AreMerged-last [] [] (z ∷ ys) t g y h m = absurd h
AreMerged-last [] (k ∷ gs) ys t g y h m = absurd h
AreMerged-last (u ∷ ts) [] ys t g y h m = absurd h
AreMerged-last (u ∷ ts) (k ∷ gs) [] t g y h m = absurd h

-- one group more
pub AreMerged-next : (ts : List DataType) (gs : List (List Side)) (ys : List Layout) (j : ℕ)
    (t : DataType) (g : List Side) (y : Layout) → slice_get ts j ≡ Some t
    → slice_get gs j ≡ Some g → AreMerged (take j ts) (take j gs) ys → IsMerged t g y
    → AreMerged (take (j + 1) ts) (take (j + 1) gs) (ys ++ y ∷ [])
AreMerged-next ts gs ys j t g y d e h m =
    subst (λ us. AreMerged us (take (j + 1) gs) (ys ++ y ∷ [])) (sym (take-get ts j t d))
    (subst (λ hs. AreMerged (take j ts ++ t ∷ []) hs (ys ++ y ∷ [])) (sym (take-get gs j g e))
    (AreMerged-last (take j ts) (take j gs) ys t g y h m))

pub AreMerged-all : (ts : List DataType) (gs : List (List Side)) (ys : List Layout) (j : ℕ)
    → length ts ≤ j → length gs ≤ j → AreMerged (take j ts) (take j gs) ys → AreMerged ts gs ys
AreMerged-all ts gs ys j l k h =
    subst (λ us. AreMerged us gs ys) (take_all j ts l)
    (subst (λ hs. AreMerged (take j ts) hs ys) (take_all j gs k) h)

pub length-merged : (ts : List DataType) (gs : List (List Side)) (ys : List Layout)
    → AreMerged ts gs ys → length ys ≡ length ts
length-merged [] [] [] h = refl
length-merged (t ∷ ts) (g ∷ gs) (y ∷ ys) h = ap suc (length-merged ts gs ys h.1)
length-merged [] [] (y ∷ ys) h = absurd h
length-merged [] (g ∷ gs) ys h = absurd h
length-merged (t ∷ ts) [] ys h = absurd h
length-merged (t ∷ ts) (g ∷ gs) [] h = absurd h
