-- Columns in parts: their items, one part more, and the level of lists over them.
use Rattle.std.specs.Prelude.{◌≡◌, ◌+◌, ◌-◌, ◌*◌, ◌<◌, ◌≤◌, ◌++◌, ◌∷◌, [], ℕ, zero, suc, List}
use Rattle.std.specs.Prelude.{length, map, take, get_or, slice_get, slice_range, Some, refl}
use Rattle.std.proofs.Common.{arith, ap, ap₂, sym, subst, ◌∙◌, append_assoc, drop}
use Rattle.std.proofs.lemmas.List.{map-append, take_all}
use Rattle.awk_types.specs.DataType.{DataType}
use Rattle.awk_types.specs.Value.{Value, null}
use Rattle.awk_layout.specs.Layout.{Layout}
use Rattle.awk_layout.specs.Typing.{array_type, array_items}
use Rattle.awk_layout.specs.Valid.{len}
use Rattle.awk_layout.proofs.ArrayItems.{length-array_items}
use Rattle.awk_unify.specs.Carry.{carried}
use Rattle.awk_merge_sides.specs.Sides.{Side, sides_of, side_items, merged_items, with_side}
use Rattle.awk_merge_sides.specs.Sides.{Carries, IsSide, AreSides, IsCounted}
use Rattle.awk_merge_sides.specs.declared.sides.Sides.{Sides}
use Rattle.awk_merge_sides.proofs.SideLaws.{merged_items-with_side, AreSides-with_side, IsSide-get}
use Rattle.awk_merge_sides.proofs.SideLaws.{merged_items-next}
use Rattle.awk_merge_lists.specs.ListLevels.{IsRegularLevel}
use Rattle.awk_merge_lists.specs.Parted.{IsPartsPut, IsParted}

-- ---- lists in parts

take-none : {X : Type 0} (n : ℕ) → ◌≡◌ {A = List X} (take n []) []
take-none zero = refl
take-none (suc n) = refl

take-more : {X : Type 0} (xs : List X) (a d : ℕ) → take a xs ++ take d (drop a xs) ≡ take (a + d) xs
take-more xs zero d = let e : 0 + d ≡ d = omega arith in rw e refl
take-more [] (suc a) d =
    let e : suc a + d ≡ suc (a + d) = omega arith in rw (e, take-none d) refl
take-more (x ∷ xs) (suc a) d =
    let e : suc a + d ≡ suc (a + d) = omega arith in rw e (ap (λ ys. x ∷ ys) (take-more xs a d))

take-range : (vs : List Value) (a b : ℕ) → a ≤ b → take a vs ++ slice_range vs a b ≡ take b vs
take-range vs a b h =
    let e : a + (b - a) ≡ b = omega (arith, h) in
    take-more vs a (b - a) ∙ ap (λ n. take n vs) e

-- ---- one column in parts

-- the parts so far hold the items before a place
pub record ArePartsPut (s : Side) (before made : List Side) (a : ℕ) : Type 0 where
  pub sides : (t : DataType) → IsSide t s → AreSides t before → AreSides t made
  pub items : merged_items made
      ≡ merged_items before ++ map (carried s.carry) (take a (array_items s.column))

pub parts-more : (s : Side) (before made after : List Side) (r : Layout) (a b : ℕ) → a ≤ b
    → array_items r ≡ slice_range (array_items s.column) a b
    → array_type r ≡ array_type s.column → after ≡ with_side made r s.carry
    → ArePartsPut s before made a → ArePartsPut s before after b
parts-more s before made after r a b l items typ e h = record {
  sides = λ t k j. rw e (AreSides-with_side t made r s.carry (h.sides t k j)
      (λ some. subst (λ u. Carries u s.carry t) (sym typ) k.values));
  items =
      let f = carried s.carry in
      let vs = array_items s.column in
      ap merged_items e ∙ merged_items-with_side made r s.carry
      ∙ ap₂ (λ xs ys. xs ++ ys) h.items (ap (map f) items)
      ∙ append_assoc (merged_items before) (map f (take a vs)) (map f (slice_range vs a b))
      ∙ ap (λ ys. merged_items before ++ ys) (sym (map-append f (take a vs) (slice_range vs a b)))
      ∙ ap (λ ys. merged_items before ++ map f ys) (take-range vs a b l);
}

pub parts-all : (s : Side) (before made : List Side) (a n : ℕ) → n ≡ len s.column → n ≤ a
    → ArePartsPut s before made a → IsPartsPut s before made
parts-all s before made a n e l h = record {
  sides = h.sides;
  items = h.items ∙ ap (λ vs. merged_items before ++ map (carried s.carry) vs)
      (take_all a (array_items s.column) (omega (arith, l, e, length-array_items s.column)));
}

-- ---- all columns

pub record AreParted (ss : List Side) (i : ℕ) (r : Sides) : Type 0 where
  pub sides : (t : DataType) → AreSides t ss → AreSides t (sides_of r)
  pub items : merged_items (sides_of r) ≡ merged_items (take i ss)
  pub counted : IsCounted r

pub parted-next : (ss : List Side) (i : ℕ) (s : Side) (before now : Sides) → slice_get ss i ≡ Some s
    → IsPartsPut s (sides_of before) (sides_of now) → IsCounted now → AreParted ss i before
    → AreParted ss (i + 1) now
parted-next ss i s before now e p k h = record {
  sides = λ t j. p.sides t (IsSide-get t ss i s e j) (h.sides t j);
  items = p.items ∙ ap (λ vs. vs ++ side_items s) h.items ∙ sym (merged_items-next ss i s e);
  counted = k;
}

-- ---- the level of their lists

-- it is that of the columns
pub level-parted : (n : ℕ) (u : DataType) (ss : List Side) (parts r : Sides) → IsParted ss parts
    → IsRegularLevel n u (sides_of parts) r → IsRegularLevel n u ss r
level-parted n u ss parts r p h = record {
  sides = h.sides;
  counted = h.counted;
  size = h.size ∙ ap (λ vs. length vs * n) p.items;
  items = λ i l. sym (ap (λ vs. get_or vs i null) p.items)
      ∙ h.items i (subst (λ vs. i < length vs) (sym p.items) l);
}
