-- Indexes of indexes, row by row, and what they pick.
use Rattle.std.specs.Prelude.{◌≡◌, ℕ, suc, ◌||◌, Bool, true, false, List, length, Option, Some}
use Rattle.std.specs.Prelude.{None, refl}
use Rattle.std.proofs.Common.{ap, ap₂, sym, ◌∙◌, subst}
use Rattle.awk_base.proofs.Numbers.{suc-same}
use Rattle.awk_types.specs.DataType.{DataType, unknown, leaf, var, reg, rec, tup, opt, uni}
use Rattle.awk_types.specs.Gives.{◌or◌}
use Rattle.awk_types.specs.ItemLimit.{too_many}
use Rattle.awk_types.specs.Parts.{list_depth}
use Rattle.awk_types.specs.Predicates.{is_leaf}
use Rattle.awk_types.specs.Simple.{IsSimple, option_if, simple}
use Rattle.awk_types.specs.Value.{Value}
use Rattle.awk_types.specs.declared.primitive.Primitive.{Primitive}
use Rattle.awk_types.specs.declared.primitive.Primitive.TheVariants.{Bool as Truths, I8, I16, I32}
use Rattle.awk_types.specs.declared.primitive.Primitive.TheVariants.{I64, U8, U16, U32, U64}
use Rattle.awk_columns.specs.Columns.{joined_items}
use Rattle.awk_columns.specs.ListClass.{Class, list_type}
use Rattle.awk_jagged.specs.Jagged.{is_jagged, pick_type, picked_items, rows_by, size_refused}
use Rattle.awk_jagged_rows.specs.RowTypes.{rows_of}
use Rattle.awk_select.specs.Picks.{is_truths}
use Rattle.awk_law_chains.specs.Arrays.{picks_by_place}
use Rattle.awk_law_chains.proofs.JaggedRows.{jagged-lists, pick_type-inside, pick_type-lists}
use Rattle.awk_law_chains.proofs.JaggedRows.{picked_items-lists, rows_of-lists, simple-options}
use Rattle.awk_law_chains.proofs.JaggedRows.{size-lists}
use Rattle.awk_laws.proofs.JaggedTwice.{Fits, fits_rows, rows_first, rows_fitting, rows_second}
use Rattle.awk_laws.proofs.JaggedTwice.{rows_twice}
use Rattle.awk_laws.proofs.JaggedLeaves.{Composes, PicksBoth, leaf_composes}

-- ---- lists of them

or-assoc : (p q o : Bool) → (p || (q || o)) ≡ ((p || q) || o)
or-assoc true q o = refl
or-assoc false q o = refl

module _ (p q : Bool) (c d : Class) (u w : DataType) (k : Composes u w) where
  abbrev lists_last : DataType
  lists_last = option_if p (list_type c w)

  abbrev lists_inner : DataType
  lists_inner = option_if q (list_type d u)

  abbrev made : DataType
  made = simple k.typ

  abbrev lists_type : DataType
  lists_type = option_if p (option_if q (var k.typ))

  lists_is : simple lists_type ≡ option_if (p || q) (var made)
  lists_is = simple-options p q k.typ

  lists_both : (t r : DataType) → pick_type lists_inner t ≡ Some r
      → PicksBoth lists_last (simple lists_type) (simple r) t
  lists_both t r e =
      let i = pick_type-inside q d u t r e in
      let o = i.optional in
      let b = k.both i.item i.made i.items in
      let is : simple r ≡ option_if (q || o) (var (simple i.made)) =
      ap simple i.is ∙ simple-options q o i.made in
      record {
        one = option_if p (option_if (q || o) (var b.one));
        other = option_if (p || q) (option_if o (var b.other));
        first = ap (pick_type lists_last) is
            ∙ pick_type-lists p c w (option_if (q || o) (var (simple i.made))) (q || o)
            (simple i.made) b.one (rows_of-lists (q || o) None (simple i.made)) b.first;
        second = ap (λ x. pick_type x t) lists_is
            ∙ pick_type-lists (p || q) None made t o i.item b.other i.rows b.second;
        same = simple-options p (q || o) b.one
            ∙ ap₂ (λ x y. option_if x (var y)) (or-assoc p q o) b.same
            ∙ sym (simple-options (p || q) o b.other);
      }

  lists_twice : (vs is js : List Value)
      → picked_items lists_last (picked_items lists_inner vs is) js
      ≡ picked_items (simple lists_type) vs (picked_items lists_last is js)
  lists_twice vs is js =
      ap (λ xs. picked_items lists_last xs js) (picked_items-lists q d u vs is)
      ∙ picked_items-lists p c w (rows_by (picked_items u) vs is) js
      ∙ rows_twice (picked_items u) (picked_items w) (picked_items made) k.items vs is js
      ∙ sym (ap (λ x. picked_items x vs (picked_items lists_last is js)) lists_is
      ∙ picked_items-lists (p || q) None made vs (picked_items lists_last is js)
      ∙ ap (rows_by (picked_items made) vs) (picked_items-lists p c w is js))

  lists_first : (vs is js : List Value) → Fits lists_inner vs is → Fits lists_last is js
      → Fits lists_last (picked_items lists_inner vs is) js
  lists_first vs is js a b =
      subst (λ xs. Fits lists_last xs js) (sym (picked_items-lists q d u vs is))
      (rows_fitting p c w (rows_by (picked_items u) vs is) js
      (rows_first u w made k.first k.second vs is js (fits_rows q d u vs is a)
      (fits_rows p c w is js b)))

  lists_second : (vs is js : List Value) → Fits lists_inner vs is → Fits lists_last is js
      → Fits (simple lists_type) vs (picked_items lists_last is js)
  lists_second vs is js a b =
      subst (λ x. Fits x vs (picked_items lists_last is js)) (sym lists_is)
      (subst (λ xs. Fits (option_if (p || q) (var made)) vs xs)
      (sym (picked_items-lists p c w is js))
      (rows_fitting (p || q) None made vs (rows_by (picked_items w) is js)
      (rows_second u w made k.first k.second vs is js (fits_rows q d u vs is a)
      (fits_rows p c w is js b))))

  lists_composes : Composes lists_inner lists_last
  lists_composes = record {
    typ = lists_type;
    types = pick_type-lists p c w lists_inner q u k.typ (rows_of-lists q d u) k.types;
    jagged = λ e. ap is_jagged lists_is ∙ jagged-lists (p || q) None made;
    both = lists_both;
    items = lists_twice;
    first = lists_first;
    second = lists_second;
    sizes = λ rs. size-lists p c w rs
        ∙ ap (λ o. too_many (length rs) or o) (k.sizes (joined_items rs))
        ∙ sym (ap (λ x. size_refused x rs) lists_is ∙ size-lists (p || q) None made rs);
  }

-- ---- indexes of as many levels

record IsFlat (u : DataType) : Type 0 where
  optional : Bool
  bare : DataType
  is : u ≡ option_if optional bare
  ends : is_leaf bare ≡ true
  index : is_truths bare ≡ false

record IsLists (u : DataType) (n : ℕ) : Type 0 where
  optional : Bool
  class : Class
  item : DataType
  is : u ≡ option_if optional (list_type class item)
  simple_item : IsSimple item
  index : picks_by_place item ≡ true
  deep : list_depth item ≡ n

index_leaf : (p : Primitive) → picks_by_place (leaf p) ≡ true → is_truths (leaf p) ≡ false
index_leaf Truths e = cc
index_leaf I8 e = refl
index_leaf I16 e = refl
index_leaf I32 e = refl
index_leaf I64 e = refl
index_leaf U8 e = refl
index_leaf U16 e = refl
index_leaf U32 e = refl
index_leaf U64 e = refl

flat_of : (u : DataType) → IsSimple u → picks_by_place u ≡ true → list_depth u ≡ 0 → IsFlat u
flat_of unknown s b e =
    record { optional = false; bare = unknown; is = refl; ends = refl; index = refl }
flat_of (leaf p) s b e =
    record { optional = false; bare = leaf p; is = refl; ends = refl; index = index_leaf p b }
flat_of (opt unknown) s b e =
    record { optional = true; bare = unknown; is = refl; ends = refl; index = refl }
flat_of (opt (leaf p)) s b e =
    record { optional = true; bare = leaf p; is = refl; ends = refl; index = index_leaf p b }
flat_of (var t) s b e = cc
flat_of (reg n t) s b e = cc
flat_of (rec ns ts) s b e = cc
flat_of (tup ts) s b e = cc
flat_of (uni ts) s b e = cc
flat_of (opt (var t)) s b e = cc
flat_of (opt (reg n t)) s b e = cc
flat_of (opt (rec ns ts)) s b e = cc
flat_of (opt (tup ts)) s b e = cc
flat_of (opt (opt t)) s b e = let f = s.0 in cc
flat_of (opt (uni ts)) s b e = cc

lists_of_depth : (u : DataType) (n : ℕ) → IsSimple u → picks_by_place u ≡ true
    → list_depth u ≡ suc n → IsLists u n
lists_of_depth (var t) n s b e = record {
  optional = false;
  class = None;
  item = t;
  is = refl;
  simple_item = s;
  index = b;
  deep = suc-same (list_depth t) n e;
}
lists_of_depth (reg m t) n s b e = record {
  optional = false;
  class = Some m;
  item = t;
  is = refl;
  simple_item = s;
  index = b;
  deep = suc-same (list_depth t) n e;
}
lists_of_depth (opt (var t)) n s b e = record {
  optional = true;
  class = None;
  item = t;
  is = refl;
  simple_item = s.1;
  index = b;
  deep = suc-same (list_depth t) n e;
}
lists_of_depth (opt (reg m t)) n s b e = record {
  optional = true;
  class = Some m;
  item = t;
  is = refl;
  simple_item = s.1;
  index = b;
  deep = suc-same (list_depth t) n e;
}
lists_of_depth unknown n s b e = cc
lists_of_depth (leaf p) n s b e = cc
lists_of_depth (rec ns ts) n s b e = cc
lists_of_depth (tup ts) n s b e = cc
lists_of_depth (uni ts) n s b e = cc
lists_of_depth (opt unknown) n s b e = cc
lists_of_depth (opt (leaf p)) n s b e = cc
lists_of_depth (opt (rec ns ts)) n s b e = cc
lists_of_depth (opt (tup ts)) n s b e = cc
lists_of_depth (opt (opt t)) n s b e = let f = s.0 in cc
lists_of_depth (opt (uni ts)) n s b e = cc

abbrev ComposesWith : DataType → Type 0
ComposesWith w = (u r : DataType) → IsSimple u → picks_by_place u ≡ true
    → list_depth u ≡ list_depth w → pick_type w u ≡ Some r → Composes u w

flat_composes : (p : Bool) (l u : DataType) → is_leaf l ≡ true → IsFlat u
    → Composes u (option_if p l)
flat_composes p l u e k =
    subst (λ x. Composes x (option_if p l)) (sym k.is)
    (leaf_composes p k.optional k.bare l k.ends e k.index)

-- the items of rows
abbrev item_or : DataType → Option (Bool × DataType) → DataType
item_or t None = t
item_or t (Some p) = p.1

pub item_type : (u : DataType) (o : Bool) (s : DataType) (q : Bool) (i : DataType)
    → rows_of u ≡ Some (o, s) → rows_of u ≡ Some (q, i) → s ≡ i
item_type u o s q i e f = ap (item_or s) (sym e ∙ f)

lists_composing : (p : Bool) (c : Class) (w u r : DataType) → ComposesWith w
    → IsLists u (list_depth w) → pick_type (option_if p (list_type c w)) u ≡ Some r
    → Composes u (option_if p (list_type c w))
lists_composing p c w u r h k e =
    let i = pick_type-inside p c w u r e in
    let same : i.item ≡ k.item =
    item_type u i.optional i.item k.optional k.item i.rows
    (ap rows_of k.is ∙ rows_of-lists k.optional k.class k.item) in
    subst (λ x. Composes x (option_if p (list_type c w))) (sym k.is)
    (lists_composes p k.optional c k.class k.item w
    (h k.item i.made k.simple_item k.index k.deep (ap (pick_type w) (sym same) ∙ i.items)))

pub composes : (w : DataType) → IsSimple w → ComposesWith w
composes unknown z u r s b d e = flat_composes false unknown u refl (flat_of u s b d)
composes (leaf p) z u r s b d e = flat_composes false (leaf p) u refl (flat_of u s b d)
composes (opt unknown) z u r s b d e = flat_composes true unknown u refl (flat_of u s b d)
composes (opt (leaf p)) z u r s b d e = flat_composes true (leaf p) u refl (flat_of u s b d)
composes (var w) z u r s b d e =
    lists_composing false None w u r (composes w z) (lists_of_depth u (list_depth w) s b d) e
composes (reg n w) z u r s b d e =
    lists_composing false (Some n) w u r (composes w z) (lists_of_depth u (list_depth w) s b d) e
composes (opt (var w)) z u r s b d e =
    lists_composing true None w u r (composes w z.1) (lists_of_depth u (list_depth w) s b d) e
composes (opt (reg n w)) z u r s b d e =
    lists_composing true (Some n) w u r (composes w z.1) (lists_of_depth u (list_depth w) s b d) e
composes (rec ns ts) z u r s b d e = cc
composes (tup ts) z u r s b d e = cc
composes (uni ts) z u r s b d e = cc
composes (opt (rec ns ts)) z u r s b d e = cc
composes (opt (tup ts)) z u r s b d e = cc
composes (opt (opt w)) z u r s b d e = let f = z.0 in cc
composes (opt (uni ts)) z u r s b d e = cc
