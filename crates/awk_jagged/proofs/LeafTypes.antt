-- What is told of leaves by their types.
use Rattle.std.specs.Prelude.{◌≡◌, ◌==◌, refl, true, false, not, List, length}
use Rattle.std.specs.List.{list_any}
use Rattle.std.proofs.Common.{sym, ◌∙◌, subst}
use Rattle.awk_types.specs.DataType.{DataType, unknown, leaf, var, reg, rec, tup, opt, uni}
use Rattle.awk_types.specs.ItemLimit.{too_many}
use Rattle.awk_types.specs.Simple.{present, is_option}
use Rattle.awk_types.specs.Value.{Value}
use Rattle.awk_types.specs.declared.primitive.Primitive.TheVariants.{Bool as Truths, I8, I16, I32}
use Rattle.awk_types.specs.declared.primitive.Primitive.TheVariants.{I64, U8, U16, U32, U64}
use Rattle.awk_types.specs.Predicates.{is_leaf}
use Rattle.awk_select.specs.Picks.{picked, is_mask, is_index, mask_places, take_places, is_outside}
use Rattle.awk_jagged.specs.Jagged.{are_uneven, lacks_places, picked_items, size_refused}

-- what is told of leaves that are no mask
pub record TakesBy (u : DataType) : Type 0 where
  pub uneven : (vs ws : List Value) → are_uneven u vs ws ≡ false
  pub lacks : (vs ws : List Value) → lacks_places u vs ws ≡ list_any (is_outside (length vs)) ws
  pub picked : (vs ws : List Value) → picked_items u vs ws ≡ picked vs (take_places (length vs) ws)
  pub size : (rs : List Value) → size_refused u rs ≡ too_many (length rs)

-- what is told of a mask
pub record MasksBy (u : DataType) : Type 0 where
  pub uneven : (vs ws : List Value) → are_uneven u vs ws ≡ not (length vs == length ws)
  pub lacks : (vs ws : List Value) → lacks_places u vs ws ≡ false
  pub picked : (vs ws : List Value) → picked_items u vs ws ≡ picked vs (mask_places ws)
  pub size : (rs : List Value) → size_refused u rs ≡ too_many (length rs)

takes-opt : (u : DataType) → TakesBy u → TakesBy (opt u)
takes-opt u h = record {
  uneven = h.uneven;
  lacks = h.lacks;
  picked = h.picked;
  size = h.size;
}

takes-leaf : (u : DataType) → is_leaf u ≡ true → is_mask u ≡ false → TakesBy u
takes-leaf unknown l m = record {
  uneven = λ vs ws. refl;
  lacks = λ vs ws. refl;
  picked = λ vs ws. refl;
  size = λ rs. refl;
}
takes-leaf (leaf Truths) l m = absurd cc
takes-leaf (leaf I8) l m = record {
  uneven = λ vs ws. refl;
  lacks = λ vs ws. refl;
  picked = λ vs ws. refl;
  size = λ rs. refl;
}
takes-leaf (leaf I16) l m = record {
  uneven = λ vs ws. refl;
  lacks = λ vs ws. refl;
  picked = λ vs ws. refl;
  size = λ rs. refl;
}
takes-leaf (leaf I32) l m = record {
  uneven = λ vs ws. refl;
  lacks = λ vs ws. refl;
  picked = λ vs ws. refl;
  size = λ rs. refl;
}
takes-leaf (leaf I64) l m = record {
  uneven = λ vs ws. refl;
  lacks = λ vs ws. refl;
  picked = λ vs ws. refl;
  size = λ rs. refl;
}
takes-leaf (leaf U8) l m = record {
  uneven = λ vs ws. refl;
  lacks = λ vs ws. refl;
  picked = λ vs ws. refl;
  size = λ rs. refl;
}
takes-leaf (leaf U16) l m = record {
  uneven = λ vs ws. refl;
  lacks = λ vs ws. refl;
  picked = λ vs ws. refl;
  size = λ rs. refl;
}
takes-leaf (leaf U32) l m = record {
  uneven = λ vs ws. refl;
  lacks = λ vs ws. refl;
  picked = λ vs ws. refl;
  size = λ rs. refl;
}
takes-leaf (leaf U64) l m = record {
  uneven = λ vs ws. refl;
  lacks = λ vs ws. refl;
  picked = λ vs ws. refl;
  size = λ rs. refl;
}
takes-leaf (var u) l m = absurd cc
takes-leaf (reg n u) l m = absurd cc
takes-leaf (rec ns us) l m = absurd cc
takes-leaf (tup us) l m = absurd cc
takes-leaf (opt u) l m = absurd cc
takes-leaf (uni us) l m = absurd cc

plain_mask : (u : DataType) → is_leaf u ≡ true → is_mask (opt u) ≡ is_mask u
plain_mask unknown l = refl
plain_mask (leaf p) l = refl
plain_mask (var u) l = absurd cc
plain_mask (reg n u) l = absurd cc
plain_mask (rec ns us) l = absurd cc
plain_mask (tup us) l = absurd cc
plain_mask (opt u) l = absurd cc
plain_mask (uni us) l = absurd cc

pub takes : (u : DataType) → is_leaf (present u) ≡ true → is_mask u ≡ false → TakesBy u
takes unknown l m = takes-leaf unknown l m
takes (leaf p) l m = takes-leaf (leaf p) l m
takes (var u) l m = absurd cc
takes (reg n u) l m = absurd cc
takes (rec ns us) l m = absurd cc
takes (tup us) l m = absurd cc
takes (opt u) l m = takes-opt u (takes-leaf u l (sym (plain_mask u l) ∙ m))
takes (uni us) l m = absurd cc

masks-truths : MasksBy (leaf Truths)
masks-truths = record {
  uneven = λ vs ws. refl;
  lacks = λ vs ws. refl;
  picked = λ vs ws. refl;
  size = λ rs. refl;
}

masks-opt : (u : DataType) → MasksBy u → MasksBy (opt u)
masks-opt u h = record {
  uneven = h.uneven;
  lacks = h.lacks;
  picked = h.picked;
  size = h.size;
}

pub mask-leaf : (u : DataType) → is_leaf u ≡ true → is_mask u ≡ true → u ≡ leaf Truths
mask-leaf unknown l m = absurd cc
mask-leaf (leaf Truths) l m = refl
mask-leaf (leaf I8) l m = absurd cc
mask-leaf (leaf I16) l m = absurd cc
mask-leaf (leaf I32) l m = absurd cc
mask-leaf (leaf I64) l m = absurd cc
mask-leaf (leaf U8) l m = absurd cc
mask-leaf (leaf U16) l m = absurd cc
mask-leaf (leaf U32) l m = absurd cc
mask-leaf (leaf U64) l m = absurd cc
mask-leaf (var u) l m = absurd cc
mask-leaf (reg n u) l m = absurd cc
mask-leaf (rec ns us) l m = absurd cc
mask-leaf (tup us) l m = absurd cc
mask-leaf (opt u) l m = absurd cc
mask-leaf (uni us) l m = absurd cc

pub masks : (u : DataType) → is_leaf (present u) ≡ true → is_mask u ≡ true → MasksBy u
masks unknown l m = absurd cc
masks (leaf p) l m = subst MasksBy (sym (mask-leaf (leaf p) l m)) masks-truths
masks (var u) l m = absurd cc
masks (reg n u) l m = absurd cc
masks (rec ns us) l m = absurd cc
masks (tup us) l m = absurd cc
masks (opt u) l m =
    masks-opt u (subst MasksBy (sym (mask-leaf u l (sym (plain_mask u l) ∙ m))) masks-truths)
masks (uni us) l m = absurd cc

pub plain-leaf : (u : DataType) → is_leaf (present u) ≡ true → is_option u ≡ false
    → is_leaf u ≡ true
plain-leaf unknown l o = refl
plain-leaf (leaf p) l o = refl
plain-leaf (var u) l o = absurd cc
plain-leaf (reg n u) l o = absurd cc
plain-leaf (rec ns us) l o = absurd cc
plain-leaf (tup us) l o = absurd cc
plain-leaf (opt u) l o = absurd cc
plain-leaf (uni us) l o = absurd cc

pub leaf-index : (u : DataType) → is_leaf u ≡ true → is_mask u ≡ false → is_index u ≡ true
leaf-index unknown l m = refl
leaf-index (leaf Truths) l m = absurd cc
leaf-index (leaf I8) l m = refl
leaf-index (leaf I16) l m = refl
leaf-index (leaf I32) l m = refl
leaf-index (leaf I64) l m = refl
leaf-index (leaf U8) l m = refl
leaf-index (leaf U16) l m = refl
leaf-index (leaf U32) l m = refl
leaf-index (leaf U64) l m = refl
leaf-index (var u) l m = absurd cc
leaf-index (reg n u) l m = absurd cc
leaf-index (rec ns us) l m = absurd cc
leaf-index (tup us) l m = absurd cc
leaf-index (opt u) l m = absurd cc
leaf-index (uni us) l m = absurd cc
