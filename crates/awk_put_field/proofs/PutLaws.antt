-- What stands beside names, with one of them more, or with another one in its place.
use Rattle.std.proofs.Common.{◌≡◌, ℕ, zero, suc, ◌==◌, ◌<◌, ◌≤◌, Bool, true, false, refl, ap, sym}
use Rattle.std.proofs.Common.{◌∙◌, ◌+◌, arith, subst, slice_get, take}
use Rattle.std.specs.Prelude.{List, [], ◌∷◌, ◌++◌, map, length, get_or, Some, if◌then◌else◌}
use Rattle.std.proofs.lemmas.List.{take_all}
use Rattle.std.proofs.lemmas.Bool.{or_from, or_parts}
use Rattle.awk_types.specs.DataType.{Name}
use Rattle.awk_types.specs.Names.{same_name, is_among, AreDistinct, place_of}
use Rattle.awk_base.proofs.Lists.{take-get}
use Rattle.awk_types.proofs.NameLaws.{same_name_is, same_name-refl}
use Rattle.awk_layout.specs.Layout.{Layout, empty}
use Rattle.awk_layout.specs.Valid.{len}
use Rattle.awk_open.specs.Opened.{AreLong}
use Rattle.awk_put_field.specs.Field.{put, named}
use Rattle.awk_put_field.specs.Places.{put_at}

-- ---- by the place of the name

at-or : {A : Type 0} (b : Bool) (k : ℕ) (x y : A) (ys zs : List A) → zs ≡ put_at k x ys
    → (if b then x ∷ ys else y ∷ zs) ≡ put_at (if b then 0 else suc k) x (y ∷ ys)
at-or true k x y ys zs e = refl
at-or false k x y ys zs e = ap (λ ws. y ∷ ws) e

pub put-at : {A : Type 0} (n : Name) (ns : List Name) (x : A) (ys : List A)
    → length ns ≡ length ys → put n ns x ys ≡ put_at (place_of n ns) x ys
put-at n [] x [] l = refl
put-at n [] x (y ∷ ys) l = absurd (omega (arith, l))
put-at n (m ∷ ms) x [] l = absurd (omega (arith, l))
put-at n (m ∷ ms) x (y ∷ ys) l =
    at-or (same_name m n) (place_of n ms) x y ys (put n ms x ys)
    (put-at n ms x ys (omega (arith, l)))

within-or : (b : Bool) (k n : ℕ) → k ≤ n → (if b then 0 else suc k) ≤ suc n
within-or true k n h = omega arith
within-or false k n h = omega (arith, h)

pub place-within : (n : Name) (ns : List Name) → place_of n ns ≤ length ns
place-within n [] = omega arith
place-within n (m ∷ ms) =
    within-or (same_name m n) (place_of n ms) (length ms) (place-within n ms)

new-or : (n m : Name) (ms zs : List Name) (b : Bool) (k : ℕ)
    → (k ≡ length ms → zs ≡ ms ++ n ∷ []) → (if b then 0 else suc k) ≡ suc (length ms)
    → (if b then n ∷ ms else m ∷ zs) ≡ m ∷ (ms ++ n ∷ [])
new-or n m ms zs true k f e = absurd (omega (arith, e))
new-or n m ms zs false k f e = ap (λ ws. m ∷ ws) (f (omega (arith, e)))

-- a name that is not there comes last
pub named-new : (n : Name) (ns : List Name) → place_of n ns ≡ length ns
    → named n ns ≡ ns ++ n ∷ []
named-new n [] e = refl
named-new n (m ∷ ms) e =
    new-or n m ms (named n ms) (same_name m n) (place_of n ms) (named-new n ms) e

old-or : (n m : Name) (ms zs : List Name) (b : Bool) (k : ℕ) → same_name m n ≡ b
    → (k < length ms → zs ≡ ms) → (if b then 0 else suc k) < suc (length ms)
    → (if b then n ∷ ms else m ∷ zs) ≡ m ∷ ms
old-or n m ms zs true k s f e = ap (λ w. w ∷ ms) (sym (same_name_is m n s))
old-or n m ms zs false k s f e = ap (λ ws. m ∷ ws) (f (omega (arith, e)))

-- one that is there keeps its place
pub named-old : (n : Name) (ns : List Name) → place_of n ns < length ns → named n ns ≡ ns
named-old n [] e = absurd (omega (arith, e))
named-old n (m ∷ ms) e =
    old-or n m ms (named n ms) (same_name m n) (place_of n ms) refl (named-old n ms) e

-- ---- names that are found one after another

pub place_passed : (n : Name) (ns : List Name) (i : ℕ) (m : Name) (k : ℕ) (rest left : List Name)
    → rest ≡ m ∷ left → same_name m n ≡ false → k ≡ i + place_of n rest
    → k ≡ i + 1 + place_of n left
place_passed n ns i m k rest left e f h =
    let g : place_of n rest ≡ suc (place_of n left) =
    ap (place_of n) e ∙ ap (λ b. if b then 0 else suc (place_of n left)) f in
    omega (arith, g, h)

pub place_found : (n : Name) (i : ℕ) (m : Name) (k : ℕ) (rest left : List Name)
    → rest ≡ m ∷ left → same_name m n ≡ true → k ≡ i + place_of n rest → i ≡ k
place_found n i m k rest left e f h =
    let g : place_of n rest ≡ 0 =
    ap (place_of n) e ∙ ap (λ b. if b then 0 else suc (place_of n left)) f in
    omega (arith, g, h)

-- ---- items by their places

pub put-here : {A : Type 0} (k : ℕ) (x : A) (ys : List A) → k < length ys
    → slice_get (put_at k x ys) k ≡ Some x
put-here k x [] l = absurd (omega (arith, l))
put-here zero x (y ∷ ys) l = refl
put-here (suc k) x (y ∷ ys) l = put-here k x ys (omega (arith, l))

pub put-other : {A : Type 0} (k i : ℕ) (x : A) (ys : List A) → (i == k) ≡ false → i < length ys
    → slice_get (put_at k x ys) i ≡ slice_get ys i
put-other k i x [] e l = absurd (omega (arith, l))
put-other zero zero x (y ∷ ys) e l = cc
put-other zero (suc i) x (y ∷ ys) e l = refl
put-other (suc k) zero x (y ∷ ys) e l = refl
put-other (suc k) (suc i) x (y ∷ ys) e l =
    let f : (i == k) ≡ false = grind (arith, e) in put-other k i x ys f (omega (arith, l))

-- where the place is among the items there are as many, else there is one more
pub put-among : {A : Type 0} (k : ℕ) (x : A) (ys : List A) → k < length ys
    → length (put_at k x ys) ≡ length ys
put-among k x [] l = absurd (omega (arith, l))
put-among zero x (y ∷ ys) l = refl
put-among (suc k) x (y ∷ ys) l = ap suc (put-among k x ys (omega (arith, l)))

pub put-last : {A : Type 0} (k : ℕ) (x : A) (ys : List A) → length ys ≤ k
    → put_at k x ys ≡ ys ++ x ∷ []
put-last k x [] l = refl
put-last zero x (y ∷ ys) l = absurd (omega (arith, l))
put-last (suc k) x (y ∷ ys) l = ap (λ zs. y ∷ zs) (put-last k x ys (omega (arith, l)))

-- ---- what stays

length-or : {A B : Type 0} (b : Bool) (x y : A) (ys zs : List A) (w v : B) (vs ws : List B)
    → length ys ≡ length vs → length zs ≡ length ws
    → length (if b then x ∷ ys else y ∷ zs) ≡ length (if b then w ∷ vs else v ∷ ws)
length-or true x y ys zs w v vs ws e f = ap suc e
length-or false x y ys zs w v vs ws e f = ap suc f

-- as many beside the names as names
pub length-put : {A B : Type 0} (n : Name) (ns : List Name) (x : A) (ys : List A) (w : B)
    (vs : List B) → length ns ≡ length ys → length ns ≡ length vs
    → length (put n ns x ys) ≡ length (put n ns w vs)
length-put n [] x ys w vs e f = refl
length-put n (m ∷ ms) x (y ∷ ys) w (v ∷ vs) e f =
    length-or (same_name m n) x y ys (put n ms x ys) w v vs (put n ms w vs)
    (omega (arith, e, f)) (length-put n ms x ys w vs (omega (arith, e)) (omega (arith, f)))
length-put n (m ∷ ms) x [] w vs e f = absurd (omega (arith, e))
length-put n (m ∷ ms) x (y ∷ ys) w [] e f = absurd (omega (arith, f))

map-or : {A B : Type 0} (g : A → B) (b : Bool) (x y : A) (ys zs : List A) (ws : List B)
    → map g zs ≡ ws
    → map g (if b then x ∷ ys else y ∷ zs) ≡ (if b then g x ∷ map g ys else g y ∷ ws)
map-or g true x y ys zs ws e = refl
map-or g false x y ys zs ws e = ap (λ us. g y ∷ us) e

pub map-put : {A B : Type 0} (g : A → B) (n : Name) (ns : List Name) (x : A) (ys : List A)
    → map g (put n ns x ys) ≡ put n ns (g x) (map g ys)
map-put g n [] x ys = refl
map-put g n (m ∷ ms) x [] = refl
map-put g n (m ∷ ms) x (y ∷ ys) =
    map-or g (same_name m n) x y ys (put n ms x ys) (put n ms (g x) (map g ys))
    (map-put g n ms x ys)

long-or : (k : ℕ) (b : Bool) (x y : Layout) (ys zs : List Layout) → len x ≡ k → len y ≡ k
    → AreLong k ys → AreLong k zs → AreLong k (if b then x ∷ ys else y ∷ zs)
long-or k true x y ys zs e f g h = (e, g)
long-or k false x y ys zs e f g h = (f, h)

pub long_put : (k : ℕ) (n : Name) (ns : List Name) (x : Layout) (ys : List Layout) → len x ≡ k
    → AreLong k ys → AreLong k (put n ns x ys)
long_put k n [] x ys e h = (e, tt)
long_put k n (m ∷ ms) x [] e h = (e, tt)
long_put k n (m ∷ ms) x (y ∷ ys) e h =
    long-or k (same_name m n) x y ys (put n ms x ys) e h.0 h.1 (long_put k n ms x ys e h.1)

-- ---- no name stands twice

flipped : (n m : Name) → same_name m n ≡ false → same_name n m ≡ false
flipped n m e = by (same_name n m) refl
  where
    by : (b : Bool) → same_name n m ≡ b → b ≡ false
    by true f =
        let g : same_name m n ≡ true =
        ap (λ k. same_name m k) (same_name_is n m f) ∙ same_name-refl m in cc
    by false f = refl

among-or : (k n m : Name) (ms zs : List Name) (b : Bool) → same_name n k ≡ false
    → is_among k (m ∷ ms) ≡ false → is_among k zs ≡ false
    → is_among k (if b then n ∷ ms else m ∷ zs) ≡ false
among-or k n m ms zs true e f g =
    or_from (same_name n k) (is_among k ms) e (or_parts (same_name m k) (is_among k ms) f).1
among-or k n m ms zs false e f g =
    or_from (same_name m k) (is_among k zs) (or_parts (same_name m k) (is_among k ms) f).0 g

among-named : (k n : Name) (ns : List Name) → same_name n k ≡ false → is_among k ns ≡ false
    → is_among k (named n ns) ≡ false
among-named k n [] e f = or_from (same_name n k) false e refl
among-named k n (m ∷ ms) e f =
    among-or k n m ms (named n ms) (same_name m n) e f
    (among-named k n ms e (or_parts (same_name m k) (is_among k ms) f).1)

distinct-or : (n m : Name) (ms zs : List Name) (b : Bool) → same_name m n ≡ b
    → AreDistinct (m ∷ ms) → AreDistinct zs → (same_name n m ≡ false → is_among m zs ≡ false)
    → AreDistinct (if b then n ∷ ms else m ∷ zs)
distinct-or n m ms zs true e h g f =
    (ap (λ k. is_among k ms) (sym (same_name_is m n e)) ∙ h.0, h.1)
distinct-or n m ms zs false e h g f = (f (flipped n m e), g)

pub named_distinct : (n : Name) (ns : List Name) → AreDistinct ns → AreDistinct (named n ns)
named_distinct n [] h = (refl, tt)
named_distinct n (m ∷ ms) h =
    distinct-or n m ms (named n ms) (same_name m n) refl h (named_distinct n ms h.1)
    (λ e. among-named m n ms e h.0)

-- ---- columns made one after another

get-some : (i : ℕ) (ys : List Layout) → i < length ys
    → slice_get ys i ≡ Some (get_or ys i empty)
get-some i [] l = absurd (omega (arith, l))
get-some zero (y ∷ ys) l = refl
get-some (suc i) (y ∷ ys) l = get-some i ys (omega (arith, l))

pub put-next : (k i : ℕ) (x y : Layout) (ys : List Layout) → i < length ys
    → y ≡ (if i == k then x else get_or ys i empty) → slice_get (put_at k x ys) i ≡ Some y
put-next k i x y ys l e = by (i == k) refl e
  where
    by : (b : Bool) → (i == k) ≡ b → y ≡ (if b then x else get_or ys i empty)
        → slice_get (put_at k x ys) i ≡ Some y
    by true f g =
        let same : i ≡ k = grind (arith, f) in
        subst (λ j. slice_get (put_at k x ys) j ≡ Some y) (sym same)
        (put-here k x ys (omega (arith, l, same)) ∙ ap (λ z. Some z) (sym g))
    by false f g =
        put-other k i x ys f l ∙ get-some i ys l ∙ ap (λ z. Some z) (sym g)

pub nodes_step : (k i : ℕ) (x y : Layout) (ys made more : List Layout) → i < length ys
    → y ≡ (if i == k then x else get_or ys i empty) → more ≡ made ++ y ∷ []
    → made ≡ take i (put_at k x ys) → more ≡ take (i + 1) (put_at k x ys)
nodes_step k i x y ys made more l e p h =
    p ∙ ap (λ zs. zs ++ y ∷ []) h
    ∙ sym (take-get (put_at k x ys) i y (put-next k i x y ys l e))

pub nodes_all : (k i : ℕ) (x : Layout) (ys made : List Layout) → length ys ≤ i → k < length ys
    → made ≡ take i (put_at k x ys) → made ≡ put_at k x ys
nodes_all k i x ys made l e h =
    h ∙ take_all i (put_at k x ys) (omega (arith, l, put-among k x ys e))

taken-before : (x : Layout) (ys : List Layout) → take (length ys) (ys ++ x ∷ []) ≡ ys
taken-before x [] = refl
taken-before x (y ∷ ys) = ap (λ zs. y ∷ zs) (taken-before x ys)

pub nodes_last : (k i : ℕ) (x : Layout) (ys made more : List Layout) → i ≡ length ys
    → length ys ≤ k → more ≡ made ++ x ∷ [] → made ≡ take i (put_at k x ys)
    → more ≡ put_at k x ys
nodes_last k i x ys made more l e p h =
    p ∙ ap (λ zs. zs ++ x ∷ [])
    (h ∙ ap (λ j. take j (put_at k x ys)) l ∙ ap (take (length ys)) (put-last k x ys e)
    ∙ taken-before x ys)
    ∙ sym (put-last k x ys e)
