-- Indexes of indexes, and what they pick of one list.
use Rattle.std.specs.Prelude.{◌≡◌, ℕ, ◌==◌, ◌||◌, not, Bool, true, false, List, length}
use Rattle.std.specs.Prelude.{map, Option, Some, refl, if◌then◌else◌}
use Rattle.std.specs.List.{list_any}
use Rattle.std.proofs.Common.{ap, ap₂, sym, ◌∙◌, subst}
use Rattle.std.proofs.lemmas.List.{length-map}
use Rattle.std.proofs.lemmas.Option.{same_Some}
use Rattle.awk_base.proofs.Truths.{not-both}
use Rattle.awk_types.specs.DataType.{DataType, unknown, leaf, var, reg, rec, tup, opt, uni}
use Rattle.awk_types.specs.ItemLimit.{too_many}
use Rattle.awk_types.specs.Predicates.{is_leaf}
use Rattle.awk_types.specs.Simple.{option_if, simple}
use Rattle.awk_types.specs.Value.{Value}
use Rattle.awk_types.specs.declared.primitive.Primitive.TheVariants.{Bool as Truths}
use Rattle.awk_types.specs.declared.primitive.Primitive.TheVariants.{I8, I16, I32, I64, U8, U16}
use Rattle.awk_types.specs.declared.primitive.Primitive.TheVariants.{U32}
use Rattle.awk_types.specs.declared.primitive.Primitive.TheVariants.{U64}
use Rattle.awk_types.proofs.SimpleLaws.{option_over, simple_twice}
use Rattle.awk_jagged.specs.Jagged.{are_uneven, is_jagged, lacks_places, pick_type, picked_items}
use Rattle.awk_jagged.specs.Jagged.{size_refused}
use Rattle.awk_select.specs.Picks.{is_outside, is_truths, mask_places, picked, take_places}
use Rattle.awk_laws.proofs.JaggedTwice.{Fits}
use Rattle.awk_law_chains.proofs.Places.{inside_picked, picked-map_taken, picked-taken, taken_item}

-- ---- indexes and masks, optional or not

abbrev pub places_by : Bool → ℕ → List Value → List (Option ℕ)
places_by b n ws = if b then mask_places ws else take_places n ws

abbrev uneven_by : Bool → ℕ → List Value → Bool
uneven_by b n ws = if b then not (n == length ws) else false

abbrev lacking_by : Bool → ℕ → List Value → Bool
lacking_by b n ws = if b then false else list_any (is_outside n) ws

pub leaf_pick : (p : Bool) (l t : DataType) → is_leaf l ≡ true
    → pick_type (option_if p l) t ≡ Some (option_if p t)
leaf_pick false unknown t e = refl
leaf_pick false (leaf q) t e = refl
leaf_pick true unknown t e = refl
leaf_pick true (leaf q) t e = refl
leaf_pick p (var l) t e = cc
leaf_pick p (reg n l) t e = cc
leaf_pick p (rec ns ls) t e = cc
leaf_pick p (tup ls) t e = cc
leaf_pick p (opt l) t e = cc
leaf_pick p (uni ls) t e = cc

leaf_size : (p : Bool) (l : DataType) (rs : List Value) → is_leaf l ≡ true
    → size_refused (option_if p l) rs ≡ too_many (length rs)
leaf_size false unknown rs e = refl
leaf_size false (leaf q) rs e = refl
leaf_size true unknown rs e = refl
leaf_size true (leaf q) rs e = refl
leaf_size p (var l) rs e = cc
leaf_size p (reg n l) rs e = cc
leaf_size p (rec ns ls) rs e = cc
leaf_size p (tup ls) rs e = cc
leaf_size p (opt l) rs e = cc
leaf_size p (uni ls) rs e = cc

leaf_flat : (p : Bool) (l : DataType) → is_leaf l ≡ true → is_jagged (option_if p l) ≡ false
leaf_flat false unknown e = refl
leaf_flat false (leaf q) e = refl
leaf_flat true unknown e = refl
leaf_flat true (leaf q) e = refl
leaf_flat p (var l) e = cc
leaf_flat p (reg n l) e = cc
leaf_flat p (rec ns ls) e = cc
leaf_flat p (tup ls) e = cc
leaf_flat p (opt l) e = cc
leaf_flat p (uni ls) e = cc

leaf_simple : (p q : Bool) (l : DataType) → is_leaf l ≡ true
    → simple (option_if p (option_if q l)) ≡ option_if (p || q) l
leaf_simple false false unknown e = refl
leaf_simple false false (leaf x) e = refl
leaf_simple false true unknown e = refl
leaf_simple false true (leaf x) e = refl
leaf_simple true false unknown e = refl
leaf_simple true false (leaf x) e = refl
leaf_simple true true unknown e = refl
leaf_simple true true (leaf x) e = refl
leaf_simple p q (var l) e = cc
leaf_simple p q (reg n l) e = cc
leaf_simple p q (rec ns ls) e = cc
leaf_simple p q (tup ls) e = cc
leaf_simple p q (opt l) e = cc
leaf_simple p q (uni ls) e = cc

-- what is so of an index that is not optional, and of one that is
either : {X : Type 0} (f : DataType → X) (p : Bool) (l : DataType) (x : X) → f (opt l) ≡ f l
    → f l ≡ x → f (option_if p l) ≡ x
either f false l x e h = h
either f true l x e h = e ∙ h

module _ (vs ws : List Value) where
  bare_items : (l : DataType) → is_leaf l ≡ true
      → picked_items l vs ws ≡ picked vs (places_by (is_truths l) (length vs) ws)
  bare_items unknown e = refl
  bare_items (leaf Truths) e = refl
  bare_items (leaf I8) e = refl
  bare_items (leaf I16) e = refl
  bare_items (leaf I32) e = refl
  bare_items (leaf I64) e = refl
  bare_items (leaf U8) e = refl
  bare_items (leaf U16) e = refl
  bare_items (leaf U32) e = refl
  bare_items (leaf U64) e = refl
  bare_items (var l) e = cc
  bare_items (reg n l) e = cc
  bare_items (rec ns ls) e = cc
  bare_items (tup ls) e = cc
  bare_items (opt l) e = cc
  bare_items (uni ls) e = cc

  bare_uneven : (l : DataType) → is_leaf l ≡ true
      → are_uneven l vs ws ≡ uneven_by (is_truths l) (length vs) ws
  bare_uneven unknown e = refl
  bare_uneven (leaf Truths) e = refl
  bare_uneven (leaf I8) e = refl
  bare_uneven (leaf I16) e = refl
  bare_uneven (leaf I32) e = refl
  bare_uneven (leaf I64) e = refl
  bare_uneven (leaf U8) e = refl
  bare_uneven (leaf U16) e = refl
  bare_uneven (leaf U32) e = refl
  bare_uneven (leaf U64) e = refl
  bare_uneven (var l) e = cc
  bare_uneven (reg n l) e = cc
  bare_uneven (rec ns ls) e = cc
  bare_uneven (tup ls) e = cc
  bare_uneven (opt l) e = cc
  bare_uneven (uni ls) e = cc

  bare_lacking : (l : DataType) → is_leaf l ≡ true
      → lacks_places l vs ws ≡ lacking_by (is_truths l) (length vs) ws
  bare_lacking unknown e = refl
  bare_lacking (leaf Truths) e = refl
  bare_lacking (leaf I8) e = refl
  bare_lacking (leaf I16) e = refl
  bare_lacking (leaf I32) e = refl
  bare_lacking (leaf I64) e = refl
  bare_lacking (leaf U8) e = refl
  bare_lacking (leaf U16) e = refl
  bare_lacking (leaf U32) e = refl
  bare_lacking (leaf U64) e = refl
  bare_lacking (var l) e = cc
  bare_lacking (reg n l) e = cc
  bare_lacking (rec ns ls) e = cc
  bare_lacking (tup ls) e = cc
  bare_lacking (opt l) e = cc
  bare_lacking (uni ls) e = cc

  pub leaf_items : (p : Bool) (l : DataType) → is_leaf l ≡ true
      → picked_items (option_if p l) vs ws ≡ picked vs (places_by (is_truths l) (length vs) ws)
  leaf_items p l e = either (λ u. picked_items u vs ws) p l _ refl (bare_items l e)

  leaf_uneven : (p : Bool) (l : DataType) → is_leaf l ≡ true
      → are_uneven (option_if p l) vs ws ≡ uneven_by (is_truths l) (length vs) ws
  leaf_uneven p l e = either (λ u. are_uneven u vs ws) p l _ refl (bare_uneven l e)

  leaf_lacking : (p : Bool) (l : DataType) → is_leaf l ≡ true
      → lacks_places (option_if p l) vs ws ≡ lacking_by (is_truths l) (length vs) ws
  leaf_lacking p l e = either (λ u. lacks_places u vs ws) p l _ refl (bare_lacking l e)

-- ---- an index or a mask w of an index u

-- a picks by w what t picks by x
pub record PicksBoth (w x a t : DataType) : Type 0 where
  pub one : DataType
  pub other : DataType
  pub first : pick_type w a ≡ Some one
  pub second : pick_type x t ≡ Some other
  pub same : simple one ≡ simple other

pub record Composes (u w : DataType) : Type 0 where
  pub typ : DataType
  pub types : pick_type w u ≡ Some typ
  pub jagged : is_jagged w ≡ true → is_jagged (simple typ) ≡ true
  pub both : (t r : DataType) → pick_type u t ≡ Some r → PicksBoth w (simple typ) (simple r) t
  pub items : (vs is js : List Value) → picked_items w (picked_items u vs is) js
      ≡ picked_items (simple typ) vs (picked_items w is js)
  pub first : (vs is js : List Value) → Fits u vs is → Fits w is js
      → Fits w (picked_items u vs is) js
  pub second : (vs is js : List Value) → Fits u vs is → Fits w is js
      → Fits (simple typ) vs (picked_items w is js)
  pub sizes : (rs : List Value) → size_refused w rs ≡ size_refused (simple typ) rs

simple_both : (p q : Bool) (t : DataType)
    → simple (option_if p (simple (option_if q t))) ≡ simple (option_if (p || q) t)
simple_both false q t = simple_twice (option_if q t)
simple_both true false t = option_over t
simple_both true true t = option_over (opt t)

module _ (p q : Bool) (u l : DataType) (ul : is_leaf u ≡ true) (ll : is_leaf l ≡ true)
    (index : is_truths u ≡ false) where
  abbrev last : DataType
  last = option_if p l

  abbrev inner : DataType
  inner = option_if q u

  simple_is : simple (option_if p inner) ≡ option_if (p || q) u
  simple_is = leaf_simple p q u ul

  -- what the index picks
  taken : (r : Bool) (vs is : List Value)
      → picked_items (option_if r u) vs is ≡ map (taken_item vs) is
  taken r vs is =
      leaf_items vs is r u ul
      ∙ ap (λ b. picked vs (places_by b (length vs) is)) index
      ∙ picked-taken vs is

  length-taken : (vs is : List Value) → length (picked_items inner vs is) ≡ length is
  length-taken vs is = ap length (taken q vs is) ∙ length-map is (taken_item vs)

  leaf_both : (t r : DataType) → pick_type inner t ≡ Some r
      → PicksBoth last (simple (option_if p inner)) (simple r) t
  leaf_both t r e =
      let is : option_if q t ≡ r = same_Some (option_if q t) r (sym (leaf_pick q u t ul) ∙ e) in
      record {
        one = option_if p (simple r);
        other = option_if (p || q) t;
        first = leaf_pick p l (simple r) ll;
        second = ap (λ x. pick_type x t) simple_is ∙ leaf_pick (p || q) u t ul;
        same = ap (λ x. simple (option_if p (simple x))) (sym is) ∙ simple_both p q t;
      }

  leaf_twice : (vs is js : List Value) → picked_items last (picked_items inner vs is) js
      ≡ picked_items (simple (option_if p inner)) vs (picked_items last is js)
  leaf_twice vs is js =
      let ys = picked_items inner vs is in
      let os = places_by (is_truths l) (length is) js in
      leaf_items ys js p l ll
      ∙ ap₂ (λ xs (n : ℕ). picked xs (places_by (is_truths l) n js)) (taken q vs is)
      (length-taken vs is)
      ∙ picked-map_taken vs is os
      ∙ sym (ap (λ x. picked_items x vs (picked_items last is js)) simple_is
      ∙ taken (p || q) vs (picked_items last is js)
      ∙ ap (map (taken_item vs)) (leaf_items is js p l ll))

  leaf_first : (vs is js : List Value) → Fits inner vs is → Fits last is js
      → Fits last (picked_items inner vs is) js
  leaf_first vs is js h k =
      let ys = picked_items inner vs is in
      record {
        even = leaf_uneven ys js p l ll
            ∙ ap (λ (n : ℕ). uneven_by (is_truths l) n js) (length-taken vs is)
            ∙ sym (leaf_uneven is js p l ll) ∙ k.even;
        within = leaf_lacking ys js p l ll
            ∙ ap (λ (n : ℕ). lacking_by (is_truths l) n js) (length-taken vs is)
            ∙ sym (leaf_lacking is js p l ll) ∙ k.within;
      }

  leaf_second : (vs is js : List Value) → Fits inner vs is → Fits last is js
      → Fits (simple (option_if p inner)) vs (picked_items last is js)
  leaf_second vs is js h k =
      let os = places_by (is_truths l) (length is) js in
      let ks = picked_items last is js in
      let inside : list_any (is_outside (length vs)) is ≡ false =
      sym (leaf_lacking vs is q u ul
      ∙ ap (λ b. lacking_by b (length vs) is) index) ∙ h.within in
      subst (λ x. Fits x vs ks) (sym simple_is)
      (record {
        even = leaf_uneven vs ks (p || q) u ul ∙ ap (λ b. uneven_by b (length vs) ks) index;
        within = leaf_lacking vs ks (p || q) u ul ∙ ap (λ b. lacking_by b (length vs) ks) index
            ∙ ap (list_any (is_outside (length vs))) (leaf_items is js p l ll)
            ∙ inside_picked (length vs) is os inside;
      })

  pub leaf_composes : Composes inner last
  leaf_composes = record {
    typ = option_if p inner;
    types = leaf_pick p l inner ll;
    jagged = λ e. absurd (not-both (is_jagged last) (leaf_flat p l ll) e);
    both = leaf_both;
    items = leaf_twice;
    first = leaf_first;
    second = leaf_second;
    sizes = λ rs. leaf_size p l rs ll
        ∙ sym (ap (λ x. size_refused x rs) simple_is ∙ leaf_size (p || q) u rs ul);
  }
