-- Columns put in groups: what is there stays, and where the items of each column lie.
use Rattle.std.proofs.Common.{◌≡◌, ◌+◌, ◌<◌, ◌≤◌, ◌^◌, ◌∷◌, ◌++◌, [], ℕ, suc, zero, List, Bool}
use Rattle.std.proofs.Common.{true, false, length, map, drop, get_or, slice_get, Some, nat_lt}
use Rattle.std.proofs.Common.{if◌then◌else◌, inl, inr, refl, ap, sym, subst, ◌∙◌, arith}
use Rattle.std.proofs.lemmas.Bool.{cases_lt}
use Rattle.std.proofs.lemmas.List.{append_assoc, get_or_past}
use Rattle.std.specs.List.{AllByRecursion}
use Rattle.awk_base.proofs.Lists.{drop-get}
use Rattle.awk_types.specs.DataType.{DataType}
use Rattle.awk_types.specs.Simple.{simple_value}
use Rattle.awk_types.specs.Value.{null}
use Rattle.awk_layout.specs.Item.{item}
use Rattle.awk_layout.specs.Layout.{Layout}
use Rattle.awk_layout.specs.Typing.{layout_type, array_type}
use Rattle.awk_layout.specs.Valid.{len}
use Rattle.awk_unify.specs.Carry.{Carry, carried}
use Rattle.awk_merge_sides.proofs.GroupLaws.{length-with_side_at, get_or-with_side_at}
use Rattle.awk_merge_sides.proofs.GroupLaws.{AreGroups-with_side_at}
use Rattle.awk_merge_sides.proofs.SideLaws.{total-with_side, get_or-before, get_or-added}
use Rattle.awk_merge_rows.specs.UnionLevels.{item_in}
use Rattle.awk_merge_sides.specs.Groups.{with_side_at, AreGroups}
use Rattle.awk_merge_sides.specs.Lifts.{alternative_tag, alternative_carry}
use Rattle.awk_merge_sides.specs.Sides.{Side, sides_of, merged_items, with_side, Carries, IsCounted}
use Rattle.awk_merge_rows.specs.Tagged.{target_in, target_at, targets_of, with_alternative}
use Rattle.awk_merge_rows.specs.Tagged.{with_alternatives}
use Rattle.awk_merge_sides.specs.declared.sides.Sides.{Sides}
use Rattle.awk_merge_rows.specs.declared.unions.Target.{Target}

-- ---- what is there stays

pub record Grows (gs hs : List (List Side)) : Type 0 where
  pub size : length hs ≡ length gs
  pub long : (k : ℕ)
      → length (merged_items (get_or gs k [])) ≤ length (merged_items (get_or hs k []))
  pub items : (k i : ℕ) → i < length (merged_items (get_or gs k []))
      → item_in hs k i ≡ item_in gs k i

pub grows-same : (gs : List (List Side)) → Grows gs gs
grows-same gs = record { size = refl; long = λ k. omega arith; items = λ k i h. refl }

pub grows-then : (gs hs ks : List (List Side)) → Grows gs hs → Grows hs ks → Grows gs ks
grows-then gs hs ks a b = record {
  size = b.size ∙ a.size;
  long = λ k. omega (arith, a.long k, b.long k);
  items = λ k i h. b.items k i (omega (arith, h, a.long k)) ∙ a.items k i h;
}

side-long : (j k : ℕ) (gs : List (List Side)) (x : Layout) (f : Carry)
    → length (merged_items (get_or gs k [])) ≤ length
    (merged_items (get_or (with_side_at j gs x f) k []))
side-long j k [] x f = omega arith
side-long zero zero (g ∷ gs) x f = omega (arith, total-with_side g x f)
side-long zero (suc k) (g ∷ gs) x f = omega arith
side-long (suc j) zero (g ∷ gs) x f = omega arith
side-long (suc j) (suc k) (g ∷ gs) x f = side-long j k gs x f

side-items : (j k i : ℕ) (gs : List (List Side)) (x : Layout) (f : Carry)
    → i < length (merged_items (get_or gs k []))
    → item_in (with_side_at j gs x f) k i ≡ item_in gs k i
side-items j k i [] x f h = refl
side-items zero zero i (g ∷ gs) x f h = get_or-before g x f i h
side-items zero (suc k) i (g ∷ gs) x f h = refl
side-items (suc j) zero i (g ∷ gs) x f h = refl
side-items (suc j) (suc k) i (g ∷ gs) x f h = side-items j k i gs x f h

pub grows-side : (j : ℕ) (gs : List (List Side)) (x : Layout) (f : Carry)
    → Grows gs (with_side_at j gs x f)
grows-side j gs x f = record {
  size = length-with_side_at j gs x f;
  long = λ k. side-long j k gs x f;
  items = λ k i h. side-items j k i gs x f h;
}

pub grows-alternatives : (f : Carry) (k : ℕ) (ys : List Layout) (gs : List (List Side))
    → Grows gs (with_alternatives f k ys gs)
grows-alternatives f k [] gs = grows-same gs
grows-alternatives f k (y ∷ ys) gs =
    grows-then gs (with_alternative f k y gs) (with_alternatives f k (y ∷ ys) gs)
    (grows-side (alternative_tag f k) gs y (alternative_carry f k))
    (grows-alternatives f (k + 1) ys (with_alternative f k y gs))

-- ---- where the items of a column lie

pub record Lies (x : Layout) (f : Carry) (g : ℕ) (gs : List (List Side)) (t : Target) : Type 0 where
  pub small : length gs ≤ 127 → t.tag < 128
  pub past : length gs ≤ g → t.base ≡ 0
  pub tag : g < length gs → t.tag ≡ g
  pub below : g < length gs → t.base + len x ≤ length (merged_items (get_or gs g []))
  pub items : g < length gs → (p : ℕ) → p < len x
      → item_in gs g (t.base + p) ≡ carried f (simple_value (layout_type x) (item x p))

kept-tag : (b : Bool) (tag n : ℕ) → nat_lt tag n ≡ b → tag < n → (if b then tag else 0) ≡ tag
kept-tag true tag n e h = refl
kept-tag false tag n e h = absurd (grind (arith, e, h))

small-tag : (b : Bool) (tag n : ℕ) → nat_lt tag n ≡ b → n ≤ 127 → (if b then tag else 0) < 128
small-tag true tag n e h = grind (arith, e, h)
small-tag false tag n e h = omega arith

pub lies-side : (x : Layout) (f : Carry) (tag : ℕ) (gs : List (List Side))
    → Lies x f tag (with_side_at tag gs x f) (target_in tag gs)
lies-side x f tag gs = record {
  small = λ h. small-tag (nat_lt tag (length gs)) tag (length gs) refl (omega (arith, h, n));
  past = λ h. ap (λ g. length (merged_items g)) (get_or_past gs tag [] (omega (arith, h, n)));
  tag = λ h. kept-tag (nat_lt tag (length gs)) tag (length gs) refl (omega (arith, h, n));
  below = λ h.
      omega (
        arith,
        ap (λ g. length (merged_items g)) (there (omega (arith, h, n))),
        total-with_side (get_or gs tag []) x f,
      );
  items = λ h p l.
      ap (λ g. get_or (merged_items g) (length (merged_items (get_or gs tag [])) + p) null)
      (there (omega (arith, h, n)))
      ∙ get_or-added (get_or gs tag []) x f p l;
}
  where
    n : length (with_side_at tag gs x f) ≡ length gs
    n = length-with_side_at tag gs x f

    there : tag < length gs
        → get_or (with_side_at tag gs x f) tag [] ≡ with_side (get_or gs tag []) x f
    there h = get_or-with_side_at tag gs x f h

pub lies-grown : (x : Layout) (f : Carry) (tag : ℕ) (gs hs : List (List Side)) (t : Target)
    → Lies x f tag gs t → Grows gs hs → Lies x f tag hs t
lies-grown x f tag gs hs t a g = record {
  small = λ h. a.small (omega (arith, h, g.size));
  past = λ h. a.past (omega (arith, h, g.size));
  tag = λ h. a.tag (omega (arith, h, g.size));
  below = λ h. omega (arith, a.below (omega (arith, h, g.size)), g.long tag);
  items = λ h p l.
      let h' : tag < length gs = omega (arith, h, g.size) in
      g.items tag (t.base + p) (omega (arith, l, a.below h')) ∙ a.items h' p l;
}

-- those of each alternative
pub lies-alternatives : (f : Carry) (k : ℕ) (ys : List Layout) (gs : List (List Side)) (a : ℕ)
    (y : Layout) → slice_get ys a ≡ Some y
    → Lies y (alternative_carry f (k + a)) (alternative_tag f (k + a)) (with_alternatives f k ys gs)
    (target_at (targets_of f k ys gs) a)
lies-alternatives f k [] gs a y e = cc
lies-alternatives f k (z ∷ ys) gs zero y e =
    let same : z ≡ y = cc in
    let here : k ≡ k + 0 = omega arith in
    let all = with_alternatives f (k + 1) ys (with_alternative f k z gs) in
    let one = lies-grown z (alternative_carry f k) (alternative_tag f k) (with_alternative f k z gs)
    all (target_in (alternative_tag f k) gs)
    (lies-side z (alternative_carry f k) (alternative_tag f k) gs)
    (grows-alternatives f (k + 1) ys (with_alternative f k z gs)) in
    subst (λ x. Lies x (alternative_carry f (k + 0)) (alternative_tag f (k + 0)) all
    (target_in (alternative_tag f k) gs)) same
    (subst (λ n. Lies z (alternative_carry f n) (alternative_tag f n) all
    (target_in (alternative_tag f k) gs)) here one)
lies-alternatives f k (z ∷ ys) gs (suc a) y e =
    let next : k + 1 + a ≡ k + suc a = omega arith in
    let gs' = with_alternative f k z gs in
    subst (λ n. Lies y (alternative_carry f n) (alternative_tag f n)
    (with_alternatives f (k + 1) ys gs') (target_at (targets_of f (k + 1) ys gs') a)) next
    (lies-alternatives f (k + 1) ys gs' a y e)

pub length-targets_of : (f : Carry) (k : ℕ) (ys : List Layout) (gs : List (List Side))
    → length (targets_of f k ys gs) ≡ length ys
length-targets_of f k [] gs = refl
length-targets_of f k (y ∷ ys) gs =
    ap suc (length-targets_of f (k + 1) ys (with_alternative f k y gs))

-- where no group has too many items, no place is too great
pub fits-lies : (x : Layout) (f : Carry) (tag : ℕ) (gs : List (List Side)) (t : Target)
    → ((k : ℕ) → length (merged_items (get_or gs k [])) < 2 ^ 63) → len x < 2 ^ 63
    → Lies x f tag gs t → t.base + len x < 2 ^ 63
fits-lies x f tag gs t h l a =
    elim (cases_lt tag (length gs)) [
      | inl c ↦ omega (arith, a.below c, h tag)
      | inr c ↦ omega (arith, a.past c, l)
    ]

-- ---- groups

pub groups-fit : (ss : List Sides) → AllByRecursion IsCounted ss → (k : ℕ)
    → length (merged_items (get_or (map sides_of ss) k [])) < 2 ^ 63
groups-fit [] h k = omega arith
groups-fit (s ∷ ss) h zero = omega (arith, h.0.total, h.0.fits)
groups-fit (s ∷ ss) h (suc k) = groups-fit ss h.1 k

pub fits-put : (x : Layout) (f : Carry) (g : ℕ) (gs : List (List Side)) (ss : List Sides)
    (t : Target) → map sides_of ss ≡ with_side_at g gs x f → AllByRecursion IsCounted ss
    → len x < 2 ^ 63 → t ≡ target_in g gs → t.base + len x < 2 ^ 63
fits-put x f g gs ss t e h l d =
    let all : (k : ℕ) → length (merged_items (get_or (with_side_at g gs x f) k [])) < 2 ^ 63
    = λ k. subst (λ hs. length (merged_items (get_or hs k [])) < 2 ^ 63) e (groups-fit ss h k) in
    let fits : (target_in g gs).base + len x < 2 ^ 63
    = fits-lies x f g (with_side_at g gs x f) (target_in g gs) all l (lies-side x f g gs) in
    subst (λ (t : Target). t.base + len x < 2 ^ 63) (sym d) fits

-- each alternative has values of the type of its tag
pub AreGroups-alternatives : (ts : List DataType) (f : Carry) (k : ℕ) (ys : List Layout)
    (gs : List (List Side)) → AreGroups ts gs
    → ((a : ℕ) (y : Layout) (t : DataType) → slice_get ys a ≡ Some y
    → slice_get ts (alternative_tag f (k + a)) ≡ Some t
    → Carries (array_type y) (alternative_carry f (k + a)) t)
    → AreGroups ts (with_alternatives f k ys gs)
AreGroups-alternatives ts f k [] gs h c = h
AreGroups-alternatives ts f k (y ∷ ys) gs h c =
    AreGroups-alternatives ts f (k + 1) ys (with_alternative f k y gs)
    (AreGroups-with_side_at ts gs (alternative_tag f k) y (alternative_carry f k) h
    (λ some t e. subst (λ n. slice_get ts (alternative_tag f n) ≡ Some t
    → Carries (array_type y) (alternative_carry f n) t) first (c 0 y t refl) e))
    (λ a z t d. subst (λ n. slice_get ts (alternative_tag f n) ≡ Some t
    → Carries (array_type z) (alternative_carry f n) t) (next a) (c (suc a) z t d))
  where
    first : k + 0 ≡ k
    first = omega arith

    next : (a : ℕ) → k + suc a ≡ k + 1 + a
    next a = omega arith

-- ---- the loop over alternatives

pub put-next : (f : Carry) (ys : List Layout) (k : ℕ) (y : Layout) (old new : List (List Side))
    → slice_get ys k ≡ Some y → new ≡ with_alternative f k y old
    → with_alternatives f (k + 1) (drop (k + 1) ys) new ≡ with_alternatives f k (drop k ys) old
put-next f ys k y old new e n = rw (n, drop-get ys k y e) refl

pub targets-next : (f : Carry) (ys : List Layout) (k : ℕ) (y : Layout) (old new : List (List Side))
    (xs zs : List Target) (t : Target) → slice_get ys k ≡ Some y → new ≡ with_alternative f k y old
    → t ≡ target_in (alternative_tag f k) old → zs ≡ xs ++ t ∷ []
    → zs ++ targets_of f (k + 1) (drop (k + 1) ys) new ≡ xs ++ targets_of f k (drop k ys) old
targets-next f ys k y old new xs zs t e n i z =
    rw (z, n, i, drop-get ys k y e)
    (append_assoc xs (target_in (alternative_tag f k) old ∷ [])
    (targets_of f (k + 1) (drop (k + 1) ys) (with_alternative f k y old)))
