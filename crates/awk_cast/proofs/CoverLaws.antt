-- Lists and options over what is made of their contents.
use Rattle.std.proofs.Common.{◌≡◌, ℕ, ◌+◌, ◌-◌, ◌*◌, ◌<◌, ◌||◌, false, refl, ap, ap₂, sym, subst}
use Rattle.std.proofs.Common.{◌∙◌, arith}
use Rattle.std.specs.Prelude.{ℤ, pos, negsuc, ◌<ℤ◌, Bool, List, [], ◌∷◌, Some, None, slice_get}
use Rattle.std.proofs.lemmas.Int.{ints}
use Rattle.std.specs.List.{list_any}
use Rattle.awk_types.specs.DataType.{DataType, opt}
use Rattle.awk_types.specs.Simple.{in_list, in_option}
use Rattle.awk_types.specs.Value.{Value, null, list}
use Rattle.awk_types.specs.declared.primitive.Primitive.{Primitive}
use Rattle.awk_types.proofs.NullLaws.{in_option-same}
use Rattle.awk_lanes.specs.Column.{Column}
use Rattle.awk_lanes.specs.Places.{at, place_at, option_place}
use Rattle.awk_layout.specs.Frames.{IsOnly}
use Rattle.awk_layout.specs.Item.{item, run, at_option}
use Rattle.awk_layout.specs.Layout.{Layout, optional}
use Rattle.awk_layout.specs.Typing.{layout_type, array_type, array_items}
use Rattle.awk_layout.specs.Valid.{len}
use Rattle.awk_layout.proofs.Runs.{run-same}
use Rattle.awk_gather.specs.Arrays.{array_item}
use Rattle.awk_columns.specs.Columns.{joined_items}
use Rattle.awk_columns.specs.ListClass.{Class, list_type}
use Rattle.awk_columns.specs.ListNode.{AreEven, list_layout}
use Rattle.awk_open.specs.Opens.{OpensOption}
use Rattle.awk_columns.proofs.ArrayLaws.{run_in_list}
use Rattle.awk_columns.proofs.ListNodes.{len-list}
use Rattle.awk_cast.specs.Cast.{cast_type, cast_value, some_node, are_many, told, leaf_past}
use Rattle.awk_cast.specs.Casting.{IsCast, told_of, is_large_array}
use Rattle.awk_cast.specs.Levels.{IsListed, IsOver, covered}
use Rattle.awk_cast.specs.declared.level.Cover.{Cover}
use Rattle.awk_cast.specs.declared.level.Cover.TheVariants as cover
use Rattle.awk_cast.proofs.TypeLaws.{cast_null}

-- ---- options

option_value : (z : ℤ) (n : ℕ) → z <ℤ pos n → (it ac : ℕ → Value) (g : Value → Value)
    → g null ≡ null → ((k : ℕ) → k < n → it k ≡ g (ac k))
    → at_option (option_place z) it ≡ in_option g (at_option (option_place z) ac)
option_value (pos k) n h it ac g e each =
    each k (omega (arith, ints, h)) ∙ sym (in_option-same g e (ac k))
option_value (negsuc k) n h it ac g e each = refl

option_cast : (p : Primitive) (j : Column) (z x y : Layout) → OpensOption j z x → IsCast p z y
    → IsCast p x (optional j y)
option_cast p j z x y o m = record {
  size = o.size;
  typ = ap opt m.typ ∙ ap (cast_type p) (sym o.typ);
  items = λ i h.
      option_value (at j i) (len z) (o.index.below i (omega (arith, h, o.size))) (item y)
      (array_item z) (cast_value p (array_type z)) (cast_null p (array_type z)) m.items
      ∙ ap (in_option (cast_value p (array_type z))) (sym (o.items i h))
      ∙ ap (λ t. cast_value p t (array_item x i)) (sym o.typ);
}

option_node : (f g : List Value → Bool) (j : Column) (z x : Layout) → OpensOption j z x
    → some_node f g (array_type x) (array_items x) ≡ some_node f g (array_type z) (array_items z)
option_node f g j z x o =
    ap (λ t. some_node f g t (array_items x)) o.typ
    ∙ ap (some_node f g (array_type z)) (sym o.column)

-- ---- lists

cast-list : (p : Primitive) (class : Class) (t : DataType)
    → cast_type p (list_type class t) ≡ list_type class (cast_type p t)
cast-list p None t = refl
cast-list p (Some n) t = refl

cast_value-list : (p : Primitive) (class : Class) (t : DataType) (v : Value)
    → cast_value p (list_type class t) v ≡ in_list (cast_value p t) v
cast_value-list p None t v = refl
cast_value-list p (Some n) t v = refl

pub some_node-list : (f g : List Value → Bool) (class : Class) (t : DataType) (vs : List Value)
    → some_node f g (list_type class t) vs
    ≡ (f (joined_items vs) || some_node f g t (joined_items vs))
some_node-list f g None t vs = refl
some_node-list f g (Some n) t vs = refl

layout_type-list : (class : Class) (n : ℕ) (o : Column) (y : Layout)
    → layout_type (list_layout class n o y) ≡ list_type class (layout_type y)
layout_type-list None n o y = refl
layout_type-list (Some m) n o y = refl

-- the list at a place of lists over a content
list-at : (class : Class) (n : ℕ) (o : Column) (y : Layout) → AreEven class o n → (i : ℕ) → i < n
    → item (list_layout class n o y) i
    ≡ list (run (item y) (place_at o i) (place_at o (i + 1) - place_at o i))
list-at None n o y e i h = refl
list-at (Some m) n o y e i h =
    let start : place_at o i ≡ i * m = e i (omega (arith, h)) in
    let next : place_at o (i + 1) ≡ (i + 1) * m = e (i + 1) (omega (arith, h)) in
    let size : place_at o (i + 1) - place_at o i ≡ m = omega (arith, start, next, grown i m) in
    ap₂ (λ a k. list (run (item y) a k)) (sym start) (sym size)
  where
    grown : (i m : ℕ) → (i + 1) * m ≡ i * m + m
    grown i m = grind arith

lists_cast : (p : Primitive) (class : Class) (o : Column) (z x y : Layout) → IsListed class o z x
    → IsCast p z y → IsCast p x (list_layout class (len x) o y)
lists_cast p class o z x y l m = record {
  size = len-list class (len x) o y l.offsets.size;
  typ = layout_type-list class (len x) o y ∙ ap (list_type class) m.typ
      ∙ sym (ap (cast_type p) l.typ ∙ cast-list p class (array_type z));
  items = λ i h.
      let a = place_at o i in
      let n = place_at o (i + 1) - place_at o i in
      let f = cast_value p (array_type z) in
      list-at class (len x) o y l.even i h
      ∙ ap list (run-same (item y) (λ k. f (array_item z k)) a n
      (λ k _ r. m.items k (omega (arith, r, l.offsets.within i h))))
      ∙ sym (run_in_list f (array_item z) a n)
      ∙ ap (in_list f) (sym (l.items i h))
      ∙ sym (ap (λ t. cast_value p t (array_item x i)) l.typ
      ∙ cast_value-list p class (array_type z) (array_item x i));
}

lists_node : (f g : List Value → Bool) (class : Class) (o : Column) (z x : Layout)
    → IsListed class o z x → f (array_items z) ≡ false
    → some_node f g (array_type x) (array_items x) ≡ some_node f g (array_type z) (array_items z)
lists_node f g class o z x l e =
    ap (λ t. some_node f g t (array_items x)) l.typ
    ∙ some_node-list f g class (array_type z) (array_items x)
    ∙ ap (λ vs. f vs || some_node f g (array_type z) vs) (sym l.column)
    ∙ ap (λ b. b || some_node f g (array_type z) (array_items z)) e

-- ---- either

pub over_cast : (p : Primitive) (c : Cover) (z x y : Layout) → IsOver x c z → IsCast p z y
    → IsCast p x (covered (len x) c y)
over_cast p (cover.Lists class o) z x y h m = lists_cast p class o z x y h m
over_cast p (cover.Option j) z x y h m = option_cast p j z x y h m

over_node : (f g : List Value → Bool) (c : Cover) (z x : Layout) → IsOver x c z
    → f (array_items z) ≡ false
    → some_node f g (array_type x) (array_items x) ≡ some_node f g (array_type z) (array_items z)
over_node f g (cover.Lists class o) z x h e = lists_node f g class o z x h e
over_node f g (cover.Option j) z x h e = option_node f g j z x h

over_large : (c : Cover) (z x : Layout) → IsOver x c z → is_large_array x ≡ is_large_array z
over_large (cover.Lists class o) z x h = lists_node are_many (λ vs. false) class o z x h h.few
over_large (cover.Option j) z x h = option_node are_many (λ vs. false) j z x h

-- what is told of an array is what is told of its content
pub over_told : (p : Primitive) (c : Cover) (z x : Layout) → IsOver x c z
    → told_of p x ≡ told_of p z
over_told p c z x h =
    ap₂ told (over_large c z x h)
    (over_node (λ vs. false) (list_any (leaf_past p)) c z x h refl)

-- ---- the only content

pub only_is : (P : Layout → Type 0) (zs : List Layout) (z : Layout) → IsOnly P zs
    → slice_get zs 0 ≡ Some z → P z
only_is P [] z h e = absurd h
only_is P (y ∷ []) z h e =
    let same : y ≡ z = cc in
    subst P same h
only_is P (y ∷ w ∷ zs) z h e = absurd h
