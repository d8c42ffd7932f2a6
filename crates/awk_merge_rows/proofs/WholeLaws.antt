-- Columns in which nothing is null, and the option over what is merged of them.
use Rattle.std.proofs.Common.{◌≡◌, ℕ, ◌+◌, List, [], ◌∷◌, ◌++◌, false, map, take, length, Option}
use Rattle.std.proofs.Common.{Some, None, refl, ap, ap₂, sym, subst, ◌∙◌}
use Rattle.std.specs.Prelude.{slice_get, IfSome}
use Rattle.std.specs.List.{range_with_len}
use Rattle.awk_base.proofs.Lists.{take-get}
use Rattle.awk_base.proofs.Ranges.{map-same}
use Rattle.awk_types.specs.DataType.{DataType, opt}
use Rattle.awk_types.specs.Limit.{limit}
use Rattle.awk_types.specs.Simple.{is_option, present, option_of}
use Rattle.awk_types.proofs.SimpleLaws.{present_stays}
use Rattle.awk_types.proofs.PartLimits.{within_opt}
use Rattle.awk_lanes.specs.Column.{Column}
use Rattle.awk_layout.specs.Layout.{Layout, optional, unmasked}
use Rattle.awk_layout.specs.Typing.{array_type, array_items}
use Rattle.awk_layout.specs.Valid.{len}
use Rattle.awk_layout.proofs.ArrayItems.{length-array_items}
use Rattle.awk_gather.specs.Arrays.{array_item, pick}
use Rattle.awk_gather.proofs.GatheredArrays.{picked_items}
use Rattle.awk_gather.proofs.OptionItems.{item-optional, item-unmasked}
use Rattle.awk_columns.proofs.ArrayLaws.{array_items-at}
use Rattle.awk_unify.specs.Carry.{Carry, carried}
use Rattle.awk_merge_sides.specs.Sides.{Side, sides_of, merged_items, with_side, Carries, IsSide}
use Rattle.awk_merge_sides.specs.Sides.{IsCounted, IsMerged}
use Rattle.awk_merge_sides.specs.declared.sides.Sides.{Sides}
use Rattle.awk_merge_rows.specs.OptionLevels.{IsOptionLevel}
use Rattle.awk_merge_rows.specs.PresentLevels.{IsWhole, IsWholeLevel, IsPresentLevel, IsIndexOf}
use Rattle.awk_merge_rows.specs.PresentLevels.{values_at, option_over}
use Rattle.awk_merge_rows.specs.declared.options.OptionLevel.{OptionLevel}
use Rattle.awk_merge_rows.specs.declared.whole.PresentLevel.{PresentLevel}
use Rattle.awk_merge_rows.proofs.OptionLaws.{all-left, all-last}
use Rattle.awk_merge_sides.proofs.CarryLaws.{Carries-opt, Carries-present}
use Rattle.awk_merge_sides.proofs.SideLaws.{merged_items-side, merged_items-with_side}
use Rattle.awk_merge_sides.proofs.SideLaws.{AreSides-with_side}

-- ---- one column

-- a type is within the limits where its option is
pub content_limit : (t : DataType) → limit (option_of t) ≡ None → limit t ≡ None
content_limit (opt t) h = h
content_limit t h = within_opt t h

-- a column of what is never null
pub whole_self : (x : Layout) → is_option (array_type x) ≡ false → IsWhole x x
whole_self x o = record {
  typ = sym (present_stays (array_type x) o);
  whole = o;
  items = refl;
}

pub items-unmasked : (n : ℕ) (y : Layout) → len y ≡ n
    → array_items (unmasked n y) ≡ array_items y
items-unmasked n y e =
    array_items-at (unmasked n y)
    ∙ map-same (array_item (unmasked n y)) (array_item y) 0 n (λ i p q. item-unmasked n y i)
    ∙ ap (λ m. map (array_item y) (range_with_len 0 m)) (sym e) ∙ sym (array_items-at y)

-- the content of an unmasked node
pub whole_unmasked : (n : ℕ) (y : Layout) → len y ≡ n → is_option (array_type y) ≡ false
    → IsWhole (unmasked n y) y
whole_unmasked n y e o = record {
  typ = sym (present_stays (array_type y) o);
  whole = o;
  items = sym (items-unmasked n y e);
}

-- a column whose node is an unmasked one
pub same_unmasked : (x z y : Layout) (n : ℕ) → z ≡ x → n ≡ len x → unmasked (len z) y ≡ z
    → unmasked n y ≡ x
same_unmasked x z y n e l c = ap (λ m. unmasked m y) (l ∙ ap len (sym e)) ∙ c ∙ e

-- what is found
pub found_whole : (o : Option Layout) (x y : Layout) → o ≡ Some y → IfSome o (IsWhole x)
    → IsWhole x y
found_whole o x y e h = subst (λ m. IfSome m (IsWhole x)) e h

pub found_sides : (ss : List Side) (o : Option Sides) (r : Sides) → o ≡ Some r
    → IfSome o (λ s. IsWholeLevel ss (sides_of s)) → IsWholeLevel ss (sides_of r)
found_sides ss o r e h = subst (λ m. IfSome m (λ s. IsWholeLevel ss (sides_of s))) e h

pub found_counted : (o : Option Sides) (r : Sides) → o ≡ Some r → IfSome o IsCounted
    → IsCounted r
found_counted o r e h = subst (λ m. IfSome m IsCounted) e h

-- ---- one column more

carries_plain : (a b u : DataType) (f : Carry) → b ≡ a → is_option b ≡ false
    → Carries a f (opt u) → Carries b f u
carries_plain a b u f e o c =
    Carries-present b u f o (subst (λ t. Carries t f (opt u)) (sym e) c)

carries_whole : (a b u : DataType) (f : Carry) → b ≡ present a → is_option b ≡ false
    → Carries a f (opt u) → Carries b f u
carries_whole (opt a) b u f e o c =
    Carries-present b u f o
    (Carries-opt b (opt u) f (subst (λ t. Carries (opt t) f (opt u)) (sym e) c))
carries_whole a b u f e o c = carries_plain a b u f e o c

pub whole_none : IsWholeLevel [] []
whole_none = record { sides = λ u o k. tt; items = refl }

whole_more : (ss before : List Side) (s : Side) (y : Layout) → IsWhole s.column y
    → IsWholeLevel ss before → IsWholeLevel (ss ++ s ∷ []) (with_side before y s.carry)
whole_more ss before s y w h = record {
  sides = λ u o k.
      AreSides-with_side u before y s.carry
      (h.sides u o (all-left (IsSide (opt u)) ss (s ∷ []) k))
      (λ p. carries_whole (array_type s.column) (array_type y) u s.carry w.typ w.whole
      (all-last (IsSide (opt u)) ss s k).values);
  items =
      merged_items-side ss s
      ∙ ap₂ (λ xs ys. xs ++ ys) h.items (ap (map (carried s.carry)) (sym w.items))
      ∙ sym (merged_items-with_side before y s.carry);
}

pub whole_next : (ss before after : List Side) (i : ℕ) (s : Side) (y : Layout)
    → slice_get ss i ≡ Some s → after ≡ with_side before y s.carry → IsWhole s.column y
    → IsWholeLevel (take i ss) before → IsWholeLevel (take (i + 1) ss) after
whole_next ss before after i s y e a w h =
    subst (λ us. IsWholeLevel us after) (sym (take-get ss i s e))
    (subst (IsWholeLevel (take i ss ++ s ∷ [])) (sym a) (whole_more (take i ss) before s y w h))

-- ---- all columns

pub whole_present : (ss : List Side) (present : Sides) → IsCounted present
    → IsWholeLevel ss (sides_of present)
    → IsPresentLevel ss (record { index = None; sides = present })
whole_present ss present c h = record {
  sides = h.sides;
  counted = c;
  index = tt;
  items = h.items;
}

pub indexed_present : (ss : List Side) (r : OptionLevel) → IsOptionLevel ss r
    → IsPresentLevel ss (record { index = Some r.index; sides = r.sides })
indexed_present ss r h = record {
  sides = h.sides;
  counted = h.counted;
  index = (h.kind, h.fits, h.index);
  items = h.items;
}

-- ---- the option over what is merged

merged_len : (t : DataType) (ss : List Side) (y : Layout) → IsMerged t ss y
    → len y ≡ length (merged_items ss)
merged_len t ss y m = sym (length-array_items y) ∙ ap length m.items

pub present_index : (u : DataType) (ss : List Side) (r : PresentLevel) (y : Layout)
    → IsPresentLevel ss r → IsMerged u (sides_of r.sides) y → IsIndexOf (len y) r.index
present_index u ss r y o m =
    subst (λ n. IsIndexOf n r.index) (sym (merged_len u (sides_of r.sides) y m)) o.index

option_typ : (u : DataType) (y : Layout) → is_option u ≡ false → array_type y ≡ u
    → option_of (array_type y) ≡ opt u
option_typ u y e t = ap option_of t ∙ ap opt (present_stays u e)

over_merged : (u : DataType) (ss whole : List Side) (j : Option Column) (y : Layout)
    → is_option u ≡ false → IsIndexOf (len y) j
    → merged_items ss ≡ values_at j (merged_items whole) → IsMerged u whole y
    → IsMerged (opt u) ss (option_over j y)
over_merged u ss whole None y e h i m = record {
  typ = option_typ u y e m.typ;
  items = items-unmasked (len y) y refl ∙ m.items ∙ sym i;
}
over_merged u ss whole (Some j) y e h i m = record {
  typ = option_typ u y e m.typ;
  items =
      picked_items y (optional j y) j h.0 h.2 refl (λ k l. item-optional j y k)
      ∙ ap (λ vs. pick vs j.items) m.items ∙ sym i;
}

pub present_merged : (u : DataType) (ss : List Side) (r : PresentLevel) (y : Layout)
    → is_option u ≡ false → IsPresentLevel ss r → IsMerged u (sides_of r.sides) y
    → IsMerged (opt u) ss (option_over r.index y)
present_merged u ss r y e o m =
    over_merged u ss (sides_of r.sides) r.index y e (present_index u ss r y o m) o.items m
