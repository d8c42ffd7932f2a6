-- What stands beside a name that was put among others.
use Rattle.std.specs.Prelude.{◌≡◌, suc, Bool, true, false, ◌||◌, List, [], ◌∷◌, length, get_or}
use Rattle.std.specs.Prelude.{refl, if◌then◌else◌}
use Rattle.std.proofs.Common.{arith, ap, ap₂, ◌∙◌}
use Rattle.awk_base.proofs.Truths.{or_first, or_second}
use Rattle.awk_types.specs.DataType.{Name}
use Rattle.awk_types.specs.Names.{same_name, is_among, place_of}
use Rattle.awk_types.proofs.NameLaws.{same_name-refl}
use Rattle.awk_view.specs.Choice.{apart_from}
use Rattle.awk_put_field.specs.Field.{put, named}

-- ---- the name is there

among-or : (n m : Name) (ms zs : List Name) (b : Bool) → same_name m n ≡ b
    → is_among n zs ≡ true → is_among n (if b then n ∷ ms else m ∷ zs) ≡ true
among-or n m ms zs true e h = ap (λ c. c || is_among n ms) (same_name-refl n)
among-or n m ms zs false e h = ap₂ (λ c d. c || d) e h

pub among-named : (n : Name) (ns : List Name) → is_among n (named n ns) ≡ true
among-named n [] = ap (λ c. c || false) (same_name-refl n)
among-named n (m ∷ ms) =
    among-or n m ms (named n ms) (same_name m n) refl (among-named n ms)

-- ---- what was put there

beside-or : {A : Type 0} (n m : Name) (ms zs : List Name) (d x y : A) (ys ws : List A) (b : Bool)
    → same_name m n ≡ b → get_or ws (place_of n zs) d ≡ x
    → get_or (if b then x ∷ ys else y ∷ ws) (place_of n (if b then n ∷ ms else m ∷ zs)) d ≡ x
beside-or n m ms zs d x y ys ws true e h =
    ap (λ (c : Bool). get_or (x ∷ ys) (if c then 0 else suc (place_of n ms)) d) (same_name-refl n)
beside-or n m ms zs d x y ys ws false e h =
    ap (λ (c : Bool). get_or (y ∷ ws) (if c then 0 else suc (place_of n zs)) d) e ∙ h

pub beside-put : {A : Type 0} (n : Name) (ns : List Name) (d x : A) (ys : List A)
    → length ns ≡ length ys → get_or (put n ns x ys) (place_of n (named n ns)) d ≡ x
beside-put n [] d x ys l =
    ap (λ (c : Bool). get_or (x ∷ []) (if c then 0 else suc 0) d) (same_name-refl n)
beside-put n (m ∷ ms) d x [] l = absurd (omega (arith, l))
beside-put n (m ∷ ms) d x (y ∷ ys) l =
    beside-or n m ms (named n ms) d x y ys (put n ms x ys) (same_name m n) refl
    (beside-put n ms d x ys (omega (arith, l)))

-- ---- a new name left out again

apart-or : {A : Type 0} (n m : Name) (ms zs : List Name) (x y : A) (ys ws : List A) (b : Bool)
    → same_name m n ≡ b → b ≡ false → apart_from n zs ws ≡ ys
    → apart_from n (if b then n ∷ ms else m ∷ zs) (if b then x ∷ ys else y ∷ ws) ≡ y ∷ ys
apart-or n m ms zs x y ys ws true e f h = cc
apart-or n m ms zs x y ys ws false e f h =
    ap (λ (c : Bool). if c then apart_from n zs ws else y ∷ apart_from n zs ws) e
    ∙ ap (λ us. y ∷ us) h

pub apart-put : {A : Type 0} (n : Name) (ns : List Name) (x : A) (ys : List A)
    → is_among n ns ≡ false → length ns ≡ length ys
    → apart_from n (named n ns) (put n ns x ys) ≡ ys
apart-put n [] x [] f l =
    ap (λ (c : Bool). if c then apart_from n [] [] else x ∷ apart_from n [] []) (same_name-refl n)
apart-put n [] x (y ∷ ys) f l = absurd (omega (arith, l))
apart-put n (m ∷ ms) x [] f l = absurd (omega (arith, l))
apart-put n (m ∷ ms) x (y ∷ ys) f l =
    apart-or n m ms (named n ms) x y ys (put n ms x ys) (same_name m n) refl
    (or_first (same_name m n) (is_among n ms) f)
    (apart-put n ms x ys (or_second (same_name m n) (is_among n ms) f) (omega (arith, l)))
