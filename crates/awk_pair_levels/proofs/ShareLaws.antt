-- What an operand gives to a level, and one operand after another.
use Rattle.std.proofs.Common.{◌≡◌, ℕ, zero, suc, ◌+◌, ◌<◌, ◌≤◌, ◌==◌, Bool, true, false, ◌&&◌}
use Rattle.std.proofs.Common.{refl, ap, arith, sym, subst, ◌∙◌, take}
use Rattle.std.specs.Prelude.{List, [], ◌∷◌, ◌++◌, length, slice_get, Some, None, get_or}
use Rattle.std.proofs.lemmas.List.{take_all, length-take}
use Rattle.std.proofs.lemmas.Option.{slice_get_within}
use Rattle.awk_base.proofs.Lists.{take-get}
use Rattle.awk_types.specs.DataType.{DataType, unknown, leaf, var, reg, rec, tup, opt, uni}
use Rattle.awk_types.specs.Parts.{item_of}
use Rattle.awk_types.specs.Predicates.{is_list_or_unknown}
use Rattle.awk_types.specs.Value.{null}
use Rattle.awk_lanes.specs.Counted.{before}
use Rattle.awk_lanes.specs.Places.{size_of, place_at}
use Rattle.awk_lanes.proofs.CountedLanes.{before-same}
use Rattle.awk_layout.specs.Layout.{Layout}
use Rattle.awk_layout.specs.Typing.{array_type}
use Rattle.awk_layout.specs.Valid.{len}
use Rattle.awk_layout.proofs.Runs.{get-run}
use Rattle.awk_gather.specs.Arrays.{array_item}
use Rattle.awk_columns.specs.Columns.{list_items}
use Rattle.awk_columns.specs.ListClass.{Class}
use Rattle.awk_columns.specs.Lists.{Listed, AreLists, AreOfClass, length_of}
use Rattle.awk_pair_sides.specs.Levels.{Role, listed, stretched, repeated, role, unless, kept_at}
use Rattle.awk_pair_sides.specs.Levels.{is_single}
use Rattle.awk_pair_levels.specs.Shares.{AreListsOf, AreItemsOf, IsShare, AreShares}
use Rattle.awk_pair_levels.specs.Shares.{HasOnes, IsNext}
use Rattle.awk_pair_sides.specs.Sides.{always}
use Rattle.awk_pair_levels.specs.declared.shares.Share.{Share}
use Rattle.awk_pair_levels.specs.declared.shares.Share.TheVariants.{Lists}

-- ---- lists of size 1

pub not_other : (t : DataType) → is_single t ≡ true → is_list_or_unknown t ≡ true
not_other (reg n t) e = refl
not_other unknown e = cc
not_other (leaf p) e = cc
not_other (var t) e = cc
not_other (rec ns ts) e = cc
not_other (tup ts) e = cc
not_other (opt t) e = cc
not_other (uni ts) e = cc

abbrev class-in : Role → Class
class-in (listed c) = c
class-in stretched = None
class-in repeated = None

pub class_single : (t : DataType) (c : Class) → is_single t ≡ true → role false t ≡ listed c
    → c ≡ Some 1
class_single (reg n t) c e h =
    let b : (n == 1) ≡ true = e in
    let f : n ≡ 1 = grind (arith, b) in sym (ap class-in h) ∙ ap (λ k. Some k) f
class_single unknown c e h = cc
class_single (leaf p) c e h = cc
class_single (var t) c e h = cc
class_single (rec ns ts) c e h = cc
class_single (tup ts) c e h = cc
class_single (opt t) c e h = cc
class_single (uni ts) c e h = cc

pub has_ones : (l : Listed) → l.class ≡ Some 1 → AreLists l.class l.starts l.stops l.content
    → HasOnes l
has_ones l e h = ones (subst (λ c. AreOfClass c l.starts l.stops) e h.same_class)
  where
    ones : AreOfClass (Some 1) l.starts l.stops → HasOnes l
    ones g = g

before-ones : (n : ℕ) → before (λ _. 1) n ≡ n
before-ones zero = refl
before-ones (suc n) = omega (arith, before-ones n)

pub ones_count : (l : Listed) → HasOnes l
    → size_of l.starts ≡ before (length_of l) (size_of l.starts)
ones_count l h =
    sym (before-same (length_of l) (λ _. 1) (size_of l.starts) h
    ∙ before-ones (size_of l.starts))

pub single_items_are : (n : ℕ) (x : Layout) (l : Listed) (z : Layout) → AreListsOf n x l
    → HasOnes l → IsNext (λ _. 1) n (Lists l) z → AreItemsOf n stretched x z
single_items_are n x l z h o g = record {
  size = g.size ∙ before-ones n;
  typ = g.typ ∙ h.typ;
  class = refl;
  items = λ i q.
      let r : 0 < length_of l i = omega (arith, o i (omega (arith, h.size, q))) in
      let e : before (λ _. 1) i + 0 ≡ i = omega (arith, before-ones i) in
      ap (λ v. always v)
      (ap (λ v. get_or (list_items v) 0 null) (h.items i q)
      ∙ get-run (array_item l.content) (place_at l.starts i) (length_of l i) 0 r
      ∙ sym (g.items i 0 q (omega arith))
      ∙ ap (array_item z) e);
}

-- ---- what a type gives

pub role_single : (s : Bool) (t : DataType) → s && is_single t ≡ true → role s t ≡ stretched
role_single true (reg n t) e = let f : (n == 1) ≡ true = e in rw f refl
role_single true unknown e = cc
role_single true (leaf p) e = cc
role_single true (var t) e = cc
role_single true (rec ns ts) e = cc
role_single true (tup ts) e = cc
role_single true (opt t) e = cc
role_single true (uni ts) e = cc
role_single false t e = cc

pub role_listed : (s : Bool) (t : DataType) (c : Class) → s && is_single t ≡ false
    → role false t ≡ listed c → role s t ≡ listed c
role_listed true (reg n t) c e h = let f : (n == 1) ≡ false = e in rw f h
role_listed true unknown c e h = h
role_listed true (leaf p) c e h = h
role_listed true (var t) c e h = h
role_listed true (rec ns ts) c e h = h
role_listed true (tup ts) c e h = h
role_listed true (opt t) c e h = h
role_listed true (uni ts) c e h = h
role_listed false t c e h = h

role-other : (s : Bool) (t : DataType) → is_list_or_unknown t ≡ false
    → (role s t ≡ repeated) × (item_of t ≡ t)
role-other s unknown e = cc
role-other s (var t) e = cc
role-other s (reg n t) e = cc
role-other s (leaf p) e = (refl, refl)
role-other s (rec ns ts) e = (refl, refl)
role-other s (tup ts) e = (refl, refl)
role-other s (opt t) e = (refl, refl)
role-other s (uni ts) e = (refl, refl)

pub items_stretched : (s : Bool) (x z : Layout) → s && is_single (array_type x) ≡ true
    → AreItemsOf (len x) stretched x z → AreItemsOf (len x) (role s (array_type x)) x z
items_stretched s x z e h =
    subst (λ r. AreItemsOf (len x) r x z) (sym (role_single s (array_type x) e)) h

pub items_other : (s : Bool) (x z : Layout) → is_list_or_unknown (array_type x) ≡ false → z ≡ x
    → AreItemsOf (len x) (role s (array_type x)) x z
items_other s x z e f =
    subst (λ r. AreItemsOf (len x) r x z) (sym (role-other s (array_type x) e).0) (record {
      size = ap len f;
      typ = ap array_type f ∙ sym (role-other s (array_type x) e).1;
      class = refl;
      items = λ i h. ap (λ y. always (array_item y i)) (sym f);
    })

-- ---- one operand after another

kept-none : (k : ℕ) → kept_at k false ≡ false
kept-none k = refl

kept-first : (keep : Bool) → kept_at 0 keep ≡ keep
kept-first true = refl
kept-first false = refl

kept-later : (k : ℕ) (keep : Bool) → kept_at (suc k) keep ≡ false
kept-later k true = let e : (suc k == 0) ≡ false = grind arith in e
kept-later k false = refl

share-append : (n : ℕ) (keep s : Bool) (xs : List Layout) (ps : List Share) (x : Layout) (p : Share)
    → AreShares n keep s xs ps
    → IsShare n (role (unless (kept_at (length xs) keep) s) (array_type x)) x p
    → AreShares n keep s (xs ++ x ∷ []) (ps ++ p ∷ [])
share-append n keep s [] [] x p h g =
    (subst (λ b. IsShare n (role (unless b s) (array_type x)) x p) (kept-first keep) g, tt)
share-append n keep s (y ∷ xs) (q ∷ ps) x p h g = (
  h.0,
  share-append n false s xs ps x p h.1
      (subst (λ b. IsShare n (role (unless b s) (array_type x)) x p)
      (kept-later (length xs) keep ∙ sym (kept-none (length xs))) g),
)
share-append n keep s [] (q ∷ ps) x p h g = absurd h
share-append n keep s (y ∷ xs) [] x p h g = absurd h

length-taken : {A : Type 0} (xs : List A) (i : ℕ) (x : A) → slice_get xs i ≡ Some x
    → length (take i xs) ≡ i
length-taken xs i x e = omega (arith, length-take i xs, slice_get_within xs i x e)

pub share_push : (n : ℕ) (keep s : Bool) (xs : List Layout) (ps qs : List Share) (i : ℕ)
    (x : Layout) (p : Share) (b : Bool) → slice_get xs i ≡ Some x → qs ≡ ps ++ p ∷ []
    → b ≡ unless (kept_at i keep) s → AreShares n keep s (take i xs) ps
    → IsShare n (role b (array_type x)) x p → AreShares n keep s (take (i + 1) xs) qs
share_push n keep s xs ps qs i x p b e f c h g =
    subst (λ w. AreShares n keep s (take (i + 1) xs) w) (sym f)
    (subst (λ w. AreShares n keep s w (ps ++ p ∷ [])) (sym (take-get xs i x e))
    (share-append n keep s (take i xs) ps x p h
    (subst (λ k. IsShare n (role (unless (kept_at k keep) s) (array_type x)) x p)
    (sym (length-taken xs i x e))
    (subst (λ d. IsShare n (role d (array_type x)) x p) c g))))

pub share_all : (n : ℕ) (keep s : Bool) (xs : List Layout) (ps : List Share) (i : ℕ)
    → length xs ≤ i → AreShares n keep s (take i xs) ps → AreShares n keep s xs ps
share_all n keep s xs ps i l h = subst (λ w. AreShares n keep s w ps) (take_all i xs l) h
