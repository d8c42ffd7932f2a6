-- Lists by the item that `get` gives, and what functions give of lists.
use Rattle.std.proofs.Common.{◌≡◌, ℕ, zero, suc, ◌<◌, ◌≤◌, ◌+◌, ◌-◌, ◌*◌, arith}
use Rattle.std.proofs.Common.{List, [], ◌∷◌, ◌++◌, map, take, drop, get_or, slice_get, slice_range}
use Rattle.std.proofs.Common.{Some, length, length-take, length-drop, append_assoc}
use Rattle.std.proofs.Common.{refl, sym, ap, ap₂, ◌∙◌}
use Rattle.std.specs.Prelude.{Bool, true, false, not, cond, position, None, nat_lt}
use Rattle.std.specs.List.{prefix_len}
use Rattle.std.specs.Option.{option_map}
use Rattle.std.specs.Simd.{first_chunks}
use Rattle.std.proofs.lemmas.List.{take_more, drop_more, map-append, length-append}
use Rattle.std.proofs.lemmas.Option.{slice_get-map, slice_get_read, slice_get_within}
use Rattle.std.proofs.lemmas.Option.{get_or_from_slice_get}

-- with the item at the place, one more is taken
pub take-get : {A : Type 0} (xs : List A) (i : ℕ) (x : A) → slice_get xs i ≡ Some x
    → take (i + 1) xs ≡ take i xs ++ x ∷ []
take-get xs i x at =
    take_more xs i x (slice_get_within xs i x at) ∙ ap (λ y. take i xs ++ y ∷ [])
    (get_or_from_slice_get xs i x x at)

-- and one more of what f gives of them
pub map-take-get : {A B : Type 0} (f : A → B) (xs : List A) (i : ℕ) (x : A)
    → slice_get xs i ≡ Some x → map f (take (i + 1) xs) ≡ map f (take i xs) ++ f x ∷ []
map-take-get f xs i x at = ap (map f) (take-get xs i x at) ∙ map-append f (take i xs) (x ∷ [])

-- what is left begins with the item at the place
pub drop-get : {A : Type 0} (xs : List A) (i : ℕ) (x : A) → slice_get xs i ≡ Some x
    → drop i xs ≡ x ∷ drop (i + 1) xs
drop-get xs i x at =
    drop_more xs i x (slice_get_within xs i x at) ∙ ap (λ y. y ∷ drop (i + 1) xs)
    (get_or_from_slice_get xs i x x at)

-- what f shows of an item that is read
pub slice_get_of_map : {A B : Type 0} (f : A → B) (xs : List A) (i : ℕ) (x : A) → i < length xs
    → x ≡ get_or xs i x → slice_get (map f xs) i ≡ Some (f x)
slice_get_of_map f xs i x within read =
    slice_get-map f xs i ∙ ap (option_map f) (slice_get_read xs (length xs) i x refl within read)

-- one more whose part is the next of these
pub map-take_next : {A B : Type 0} (g : A → B) (old new : List A) (x : A) (ys : List B)
    → new ≡ old ++ x ∷ [] → map g old ≡ take (length old) ys
    → slice_get ys (length old) ≡ Some (g x) → map g new ≡ take (length new) ys
map-take_next g old new x ys pushed before at =
    let more : length new ≡ length old + 1 = ap length pushed ∙ length-append old (x ∷ []) in
    ap (map g) pushed ∙ map-append g old (x ∷ []) ∙ ap (λ zs. zs ++ g x ∷ []) before ∙ sym
    (take-get ys (length old) (g x) at) ∙ ap (λ n. take n ys) (sym more)

-- what g shows of those made and f of those left stays where one goes from the second to the first
pub shown-push : {A B C : Type 0} (g : A → C) (f : B → C) (old new : List A) (x : A)
    (left later : List B) (y : B) → new ≡ old ++ x ∷ [] → left ≡ y ∷ later → g x ≡ f y → map g new
    ++ map f later ≡ map g old ++ map f left
shown-push g f old new x left later y pushed rest same =
    ap (λ zs. map g zs ++ map f later) pushed ∙ ap (λ zs. zs ++ map f later)
    (map-append g old (x ∷ [])) ∙ append_assoc (map g old) (g x ∷ []) (map f later)
    ∙ ap (λ z. map g old ++ z ∷ map f later) same ∙ ap (λ zs. map g old ++ map f zs) (sym rest)

-- one element between two lists
pub append_one : {X : Type 0} (xs : List X) (x : X) (ys : List X)
    → (xs ++ x ∷ []) ++ ys ≡ xs ++ x ∷ ys
append_one [] x ys = refl
append_one (z ∷ xs) x ys = ap (λ zs. z ∷ zs) (append_one xs x ys)

-- the same by the number behind the place
pub drop_suc-get : {X : Type 0} (xs : List X) (i : ℕ) (x : X) → slice_get xs i ≡ Some x
    → drop i xs ≡ x ∷ drop (suc i) xs
drop_suc-get [] i x e = cc
drop_suc-get (y ∷ xs) zero x e = let f : y ≡ x = cc in rw f refl
drop_suc-get (y ∷ xs) (suc i) x e = drop_suc-get xs i x e

pub take_suc-get : {X : Type 0} (xs : List X) (i : ℕ) (x : X) → slice_get xs i ≡ Some x
    → take (suc i) xs ≡ take i xs ++ x ∷ []
take_suc-get [] i x e = cc
take_suc-get (y ∷ xs) zero x e = let f : y ≡ x = cc in rw f refl
take_suc-get (y ∷ xs) (suc i) x e = ap (λ zs. y ∷ zs) (take_suc-get xs i x e)

-- functions that agree everywhere
pub map-each : {A B : Type 0} (f g : A → B) (xs : List A) → ((x : A) → f x ≡ g x)
    → map f xs ≡ map g xs
map-each f g [] e = refl
map-each f g (x ∷ xs) e = ap₂ (λ y ys. y ∷ ys) (e x) (map-each f g xs e)

pub map-by : {A B : Type 0} (f g : A → B) → ((x : A) → f x ≡ g x) → (xs : List A)
    → map f xs ≡ map g xs
map-by f g e [] = refl
map-by f g e (x ∷ xs) = ap (λ y. y ∷ map f xs) (e x) ∙ ap (λ ys. g x ∷ ys) (map-by f g e xs)

-- no part between a place and itself
pub part_none : (bytes : List ℕ) (i : ℕ) → slice_range bytes i i ≡ []
part_none bytes i = let none : i - i ≡ 0 = omega arith in rw none refl

-- a group is as long as it says
pub length-chunk : (w n : ℕ) (b : List ℕ) (i : ℕ) → n * w ≤ length b → i < n
    → length (get_or (first_chunks w n b) i []) ≡ w
length-chunk w zero b i h l = absurd (omega (arith, l))
length-chunk w (suc n) b zero h l = omega (arith, length-take w b, fits)
  where
    fits : w ≤ length b
    fits = let e : suc n * w ≡ w + n * w = omega arith in omega (arith, e, h)
length-chunk w (suc n) b (suc i) h l =
    let e : suc n * w ≡ w + n * w = omega arith in
    length-chunk w n (drop w b) i (omega (arith, e, h, length-drop w b)) (omega (arith, l))

-- there are as many groups as are asked for
pub length-chunks : (w n : ℕ) (b : List ℕ) → length (first_chunks w n b) ≡ n
length-chunks w zero b = refl
length-chunks w (suc n) b = ap suc (length-chunks w n (drop w b))

-- the first place where a test passes is 0, or one more than in what follows
pub position-cons : {X : Type 0} (p : X → Bool) (x : X) (xs : List X)
    → position p (x ∷ xs) ≡ cond (p x) (Some 0) (option_map suc (position p xs))
position-cons p x xs = go (p x)
  where
    n : ℕ
    n = prefix_len (λ y. not (p y)) xs

    one : (c : Bool) → cond c (Some (1 + n)) None ≡ option_map suc (cond c (Some n) None)
    one true = let e : 1 + n ≡ suc n = omega arith in ap Some e
    one false = refl

    go : (b : Bool)
        → cond (nat_lt (cond (not b) (1 + n) 0) (suc (length xs)))
        (Some (cond (not b) (1 + n) 0)) None
        ≡ cond b (Some 0) (option_map suc (position p xs))
    go true =
        let t : nat_lt 0 (suc (length xs)) ≡ true = grind arith in
        ap (λ c. cond c (Some 0) None) t
    go false =
        let t : nat_lt (1 + n) (suc (length xs)) ≡ nat_lt n (length xs) = grind arith in
        ap (λ c. cond c (Some (1 + n)) None) t ∙ one (nat_lt n (length xs))
