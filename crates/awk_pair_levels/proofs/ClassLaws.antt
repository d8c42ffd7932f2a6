-- The class that all lists of a level have, one share after another.
use Rattle.std.proofs.Common.{◌≡◌, ◌≢◌, ℕ, ◌+◌, ◌≤◌, ◌==◌, Bool, true, false, refl, ap, arith, sym}
use Rattle.std.proofs.Common.{subst, ◌∙◌, drop}
use Rattle.std.specs.Prelude.{List, [], ◌∷◌, ◌++◌, length, slice_get, Option, Some, None}
use Rattle.std.specs.Prelude.{if◌then◌else◌}
use Rattle.std.specs.List.{list_all, flat_map}
use Rattle.std.proofs.lemmas.List.{drop_all, append-nil}
use Rattle.awk_base.proofs.Lists.{drop-get}
use Rattle.awk_columns.specs.ListClass.{Class}
use Rattle.awk_pair_sides.specs.Levels.{common_class, is_class}
use Rattle.awk_pair_levels.specs.Shares.{share_class}
use Rattle.awk_pair_levels.specs.declared.shares.Share.{Share}

abbrev pub so_far : Option ℕ → List Class
so_far None = []
so_far (Some n) = Some n ∷ []

-- the class of those so far and of those from place i on
abbrev pub class_from : Option ℕ → List Share → ℕ → Class
class_from s ps i = common_class (so_far s ++ flat_map share_class (drop i ps))

same-class : (n : ℕ) (cs : List Class)
    → common_class (Some n ∷ Some n ∷ cs) ≡ common_class (Some n ∷ cs)
same-class n cs = let e : (n == n) ≡ true = grind arith in rw e refl

other-class : (n m : ℕ) (cs : List Class) → n ≢ m → common_class (Some n ∷ Some m ∷ cs) ≡ None
other-class n m cs h = let e : (n == m) ≡ false = grind arith in rw e refl

if-none : (b : Bool) → (if b then (let c : Class = None in c) else None) ≡ None
if-none true = refl
if-none false = refl

no-class : (s : Option ℕ) (cs : List Class) → common_class (so_far s ++ None ∷ cs) ≡ None
no-class None cs = if-none (list_all (is_class None) cs)
no-class (Some n) cs = refl

-- with the class of the next share
step : (ps : List Share) (i : ℕ) (p : Share) (s : Option ℕ) (c : Class) → slice_get ps i ≡ Some p
    → class_from s ps i ≡ c
    → common_class (so_far s ++ (share_class p ++ flat_map share_class (drop (i + 1) ps))) ≡ c
step ps i p s c g h =
    subst (λ qs. common_class (so_far s ++ flat_map share_class qs) ≡ c) (drop-get ps i p g) h

by-class : (ps : List Share) (i : ℕ) (p : Share) (s : Option ℕ) (c : Class) (cs : List Class)
    → slice_get ps i ≡ Some p → share_class p ≡ cs → class_from s ps i ≡ c
    → common_class (so_far s ++ (cs ++ flat_map share_class (drop (i + 1) ps))) ≡ c
by-class ps i p s c cs g e h =
    subst (λ us. common_class (so_far s ++ (us ++ flat_map share_class (drop (i + 1) ps))) ≡ c) e
    (step ps i p s c g h)

pub class_begun : (ps : List Share) (i : ℕ) (p : Share) (n : ℕ) (c : Class)
    → slice_get ps i ≡ Some p → share_class p ≡ Some n ∷ [] → class_from None ps i ≡ c
    → class_from (Some n) ps (i + 1) ≡ c
class_begun ps i p n c g e h = by-class ps i p None c (Some n ∷ []) g e h

pub class_same : (ps : List Share) (i : ℕ) (p : Share) (n m : ℕ) (c : Class)
    → slice_get ps i ≡ Some p → share_class p ≡ Some n ∷ [] → n ≡ m
    → class_from (Some m) ps i ≡ c → class_from (Some m) ps (i + 1) ≡ c
class_same ps i p n m c g e f h =
    sym (same-class m (flat_map share_class (drop (i + 1) ps)))
    ∙ subst (λ k. common_class (Some m ∷ Some k ∷ flat_map share_class (drop (i + 1) ps)) ≡ c) f
    (by-class ps i p (Some m) c (Some n ∷ []) g e h)

pub class_differs : (ps : List Share) (i : ℕ) (p : Share) (n m : ℕ) (c : Class)
    → slice_get ps i ≡ Some p → share_class p ≡ Some n ∷ [] → n ≢ m
    → class_from (Some m) ps i ≡ c → None ≡ c
class_differs ps i p n m c g e f h =
    sym (other-class m n (flat_map share_class (drop (i + 1) ps)) (λ q. f (sym q)))
    ∙ by-class ps i p (Some m) c (Some n ∷ []) g e h

-- a list of any length
pub class_any : (ps : List Share) (i : ℕ) (p : Share) (s : Option ℕ) (c : Class)
    → slice_get ps i ≡ Some p → share_class p ≡ None ∷ [] → class_from s ps i ≡ c → None ≡ c
class_any ps i p s c g e h =
    sym (no-class s (flat_map share_class (drop (i + 1) ps)))
    ∙ by-class ps i p s c (None ∷ []) g e h

-- no list
pub class_not : (ps : List Share) (i : ℕ) (p : Share) (s : Option ℕ) (c : Class)
    → slice_get ps i ≡ Some p → share_class p ≡ [] → class_from s ps i ≡ c
    → class_from s ps (i + 1) ≡ c
class_not ps i p s c g e h = by-class ps i p s c [] g e h

alone : (s : Option ℕ) → common_class (so_far s) ≡ s
alone None = refl
alone (Some n) = refl

pub class_end : (ps : List Share) (i : ℕ) (s : Option ℕ) (c : Class) → length ps ≤ i
    → class_from s ps i ≡ c → s ≡ c
class_end ps i s c l h =
    sym (alone s) ∙ ap common_class (sym (append-nil (so_far s)))
    ∙ subst (λ qs. common_class (so_far s ++ flat_map share_class qs) ≡ c) (drop_all i ps l) h
