-- What is left after the lanes of an opened column are put, by its kind.
use Rattle.std.proofs.Common.{◌≡◌, ◌≤◌, ℕ, suc, true, false, ◌||◌, List, [], ◌∷◌, ◌++◌, length, map}
use Rattle.std.proofs.Common.{Option, Some, None, refl, sym, ap, ap₂, ◌∙◌, subst, append_assoc}
use Rattle.std.proofs.Common.{arith, true≢false}
use Rattle.std.specs.Prelude.{nat_lt, filter}
use Rattle.std.specs.List.{flat_map, list_any}
use Rattle.std.proofs.lemmas.List.{append-nil}
use Rattle.awk_types.specs.DataType.{Name, DataType, leaf, var, reg, rec, tup, opt, uni, types_from}
use Rattle.awk_types.specs.DataType.{row_type, nodes}
use Rattle.awk_types.specs.Predicates.{is_sized}
use Rattle.awk_types.specs.Value.{Value}
use Rattle.awk_types.specs.ItemLimit.{item_limit}
use Rattle.awk_lanes.specs.Column.{Column}
use Rattle.awk_lanes.specs.declared.kind.Kind.TheVariants as kind
use Rattle.awk_layout.specs.Kinds.{primitive_of}
use Rattle.awk_layout.specs.Layout.{Layout}
use Rattle.awk_layout.specs.Typing.{array_type, array_items}
use Rattle.awk_layout.specs.Valid.{len}
use Rattle.awk_columns.specs.Columns.{joined_items, offsets, is_present}
use Rattle.awk_open.specs.InOrder.{IsInOrder}
use Rattle.awk_columns.specs.Parts.{AreParts, AreAlternatives}
use Rattle.awk_open.specs.Opened.{IsOpened}
use Rattle.awk_open.specs.declared.opening.Opened.{Opened}
use Rattle.awk_columns.specs.ListClass.{Class, list_type}
use Rattle.awk_columns.specs.Lists.{Listed}
use Rattle.awk_columns.specs.ListValues.{list_values}
use Rattle.awk_open.specs.declared.opening.Opened.TheVariants.{Leaf, Items, Row, Option as Optional}
use Rattle.awk_open.specs.declared.opening.Opened.TheVariants.{Union}
use Rattle.awk_pack.specs.Columns.{placed, placed_fields, placed_alternatives, at_node}
use Rattle.awk_pack.specs.Lanes.{lane_of, node_lanes}
use Rattle.awk_pack.specs.Canon.{is_too_long, lanes_of}
use Rattle.awk_pack.specs.PackedForm.{all_nodes}
use Rattle.awk_pack.specs.Packing.{IsColumn, IsLeft, leaf_lane, IsJoined, are_too_large, placed_of}
use Rattle.awk_pack.proofs.FormLaws.{sum-nodes_each}
use Rattle.awk_pack.proofs.LargeLaws.{few_items}
use Rattle.awk_pack.proofs.LeafLanes.{leaf-lane}

-- the lanes of the node are put, and its contents hold the columns of the nodes below
record IsOwn (t : DataType) (vs : List Value) (old : List Column) (ys : List Layout)
    (new : List Column) : Type 0 where
  pub lanes : new ≡ old ++ node_lanes t vs
  pub columns : placed t vs ≡ at_node t vs ∷ flat_map placed_of ys
  pub count : nodes t ≡ suc (all_nodes (map array_type ys))
  pub few : nat_lt item_limit (length vs) ≡ false

left : (t : DataType) (vs : List Value) (old : List Column) (ys : List Layout) (new : List Column)
    → IsOwn t vs old ys new → IsLeft t vs old ys new
left t vs old ys new h =
    let rest = lanes_of (flat_map placed_of ys) in
    record {
      lanes =
          ap (λ cs. cs ++ rest) h.lanes
          ∙ append_assoc old (node_lanes t vs) rest
          ∙ ap (λ ps. old ++ lanes_of ps) (sym h.columns);
      fits = sym (ap (list_any is_too_long) h.columns ∙ ap (λ b. b || are_too_large ys) h.few);
      count = omega (arith, h.count);
    }

-- ---- an opened array

pub column-is : (x : Layout) (r s : Opened) → r ≡ s → IsOpened x r → IsInOrder (array_items x) r
    → len x ≤ item_limit → IsColumn (array_type x) (array_items x) s
column-is x r s is opened order l =
    subst (λ s. IsColumn (array_type x) (array_items x) s) is (record {
      kind = opened.kind;
      order = order;
      few = few_items x l;
    })

-- ---- no contents

pub left_leaf : (t : DataType) (vs : List Value) (old new : List Column) (ys : List Layout)
    (c r : Column) → IsColumn t vs (Leaf c) → r ≡ leaf_lane c → new ≡ old ++ r ∷ [] → ys ≡ []
    → IsLeft t vs old ys new
left_leaf t vs old new ys c r h l e none =
    subst (λ ys. IsLeft t vs old ys new) (sym none)
    (subst (λ t. IsLeft t vs old [] new) (sym h.kind)
    (left (leaf (primitive_of c.kind)) vs old [] new (record {
      lanes = e ∙ ap (λ c. old ++ c ∷ []) (l ∙ leaf-lane c vs h.order);
      columns = refl;
      count = refl;
      few = h.few;
    })))

-- ---- lists

one : (t : DataType) (vs : List Value) (z : Layout) → array_type z ≡ t → array_items z ≡ vs
    → placed t vs ≡ flat_map placed_of (z ∷ [])
one t vs z e f = ap₂ placed (sym e) (sym f) ∙ sym (append-nil (placed_of z))

own_var : (u : DataType) (vs : List Value) (old new : List Column) (l : Listed) (o : Column)
    (z : Layout) → IsColumn (var u) vs (Items l) → array_type l.content ≡ u
    → IsJoined l.content (list_values l.starts l.stops l.content) o z → new ≡ old ++ o ∷ []
    → IsOwn (var u) vs old (z ∷ []) new
own_var u vs old new l o z h t j m =
    let typ : array_type z ≡ u = j.typ ∙ t in
    let items : array_items z ≡ joined_items vs = j.items ∙ ap joined_items (sym h.order) in
    record {
      lanes =
          m ∙ ap (λ c. old ++ c ∷ [])
          (j.offsets ∙ ap (λ vs. lane_of kind.I64 (offsets 0 vs)) (sym h.order));
      columns = ap (λ ps. at_node (var u) vs ∷ ps) (one u (joined_items vs) z typ items);
      count = omega (arith, ap nodes typ);
      few = h.few;
    }

-- lists that are not of one length have offsets
offsets_put : (c : Class) (t : DataType) (vs : List Value) (old new : List Column) (l : Listed)
    (o : Column) (z : Layout) → t ≡ list_type c (array_type l.content) → is_sized t ≡ false
    → IsColumn t vs (Items l) → IsJoined l.content (list_values l.starts l.stops l.content) o z
    → new ≡ old ++ o ∷ [] → IsLeft t vs old (z ∷ []) new
offsets_put None t vs old new l o z e r h j m =
    let u = array_type l.content in
    subst (λ t. IsLeft t vs old (z ∷ []) new) (sym e) (left (var u) vs old (z ∷ []) new
    (own_var u vs old new l o z (subst (λ t. IsColumn t vs (Items l)) e h) refl j m))
offsets_put (Some n) t vs old new l o z e r h j m =
    absurd (true≢false (ap is_sized (sym e) ∙ r))

pub left_var : (t : DataType) (vs : List Value) (old new : List Column) (l : Listed) (o : Column)
    (z : Layout) (ys : List Layout) → is_sized t ≡ false
    → IsJoined l.content (list_values l.starts l.stops l.content) o z → new ≡ old ++ o ∷ []
    → ys ≡ z ∷ [] → IsColumn t vs (Items l) → IsLeft t vs old ys new
left_var t vs old new l o z ys r j m is h =
    subst (λ ys. IsLeft t vs old ys new) (sym is)
    (offsets_put l.class t vs old new l o z h.kind r h j m)

-- lists of one length have none
own_reg : (n : ℕ) (u : DataType) (vs : List Value) (old : List Column) (l : Listed) (o : Column)
    (z : Layout) → IsColumn (reg n u) vs (Items l) → array_type l.content ≡ u
    → IsJoined l.content (list_values l.starts l.stops l.content) o z
    → IsOwn (reg n u) vs old (z ∷ []) old
own_reg n u vs old l o z h t j =
    let typ : array_type z ≡ u = j.typ ∙ t in
    let items : array_items z ≡ joined_items vs = j.items ∙ ap joined_items (sym h.order) in
    record {
      lanes = sym (append-nil old);
      columns = ap (λ ps. at_node (reg n u) vs ∷ ps) (one u (joined_items vs) z typ items);
      count = omega (arith, ap nodes typ);
      few = h.few;
    }

none_put : (c : Class) (t : DataType) (vs : List Value) (old : List Column) (l : Listed)
    (o : Column) (z : Layout) → t ≡ list_type c (array_type l.content) → is_sized t ≡ true
    → IsColumn t vs (Items l) → IsJoined l.content (list_values l.starts l.stops l.content) o z
    → IsLeft t vs old (z ∷ []) old
none_put None t vs old l o z e r h j = absurd (true≢false (sym r ∙ ap is_sized e))
none_put (Some n) t vs old l o z e r h j =
    let u = array_type l.content in
    subst (λ t. IsLeft t vs old (z ∷ []) old) (sym e) (left (reg n u) vs old (z ∷ []) old
    (own_reg n u vs old l o z (subst (λ t. IsColumn t vs (Items l)) e h) refl j))

pub left_regular : (t : DataType) (vs : List Value) (old : List Column) (l : Listed) (o : Column)
    (z : Layout) (ys : List Layout) → is_sized t ≡ true
    → IsJoined l.content (list_values l.starts l.stops l.content) o z → ys ≡ z ∷ []
    → IsColumn t vs (Items l) → IsLeft t vs old ys old
left_regular t vs old l o z ys r j is h =
    subst (λ ys. IsLeft t vs old ys old) (sym is) (none_put l.class t vs old l o z h.kind r h j)

-- ---- options

pub left_option : (t : DataType) (vs : List Value) (old new : List Column) (j : Column) (y : Layout)
    (ys : List Layout) → IsColumn t vs (Optional j y) → new ≡ old ++ j ∷ [] → ys ≡ y ∷ []
    → IsLeft t vs old ys new
left_option t vs old new j y ys h m is =
    subst (λ ys. IsLeft t vs old ys new) (sym is)
    (subst (λ t. IsLeft t vs old (y ∷ []) new) (sym h.kind)
    (left (opt (array_type y)) vs old (y ∷ []) new (record {
      lanes = m ∙ ap (λ c. old ++ c ∷ []) h.order.0;
      columns = ap (λ ps. at_node (opt (array_type y)) vs ∷ ps)
          (one (array_type y) (filter is_present vs) y refl h.order.1);
      count = omega arith;
      few = h.few;
    })))

-- ---- rows

placed-parts : (k : ℕ) (vs : List Value) (ys : List Layout) → AreParts k vs ys
    → placed_fields k (types_from (map array_type ys)) vs ≡ flat_map placed_of ys
placed-parts k vs [] h = refl
placed-parts k vs (y ∷ ys) h =
    ap₂ (λ ps qs. ps ++ qs) (ap (placed (array_type y)) (sym h.0)) (placed-parts (suc k) vs ys h.1)

own_row : (names : Option (List Name)) (vs : List Value) (old : List Column) (ys : List Layout)
    → AreParts 0 vs ys → nat_lt item_limit (length vs) ≡ false
    → IsOwn (row_type names (types_from (map array_type ys))) vs old ys old
own_row None vs old ys h few = record {
  lanes = sym (append-nil old);
  columns =
      ap (λ ps. at_node (tup (types_from (map array_type ys))) vs ∷ ps) (placed-parts 0 vs ys h);
  count = ap suc (sum-nodes_each (map array_type ys));
  few = few;
}
own_row (Some names) vs old ys h few = record {
  lanes = sym (append-nil old);
  columns = ap (λ ps. at_node (rec names (types_from (map array_type ys))) vs ∷ ps)
      (placed-parts 0 vs ys h);
  count = ap suc (sum-nodes_each (map array_type ys));
  few = few;
}

pub left_row : (t : DataType) (vs : List Value) (old : List Column) (names : Option (List Name))
    (ys : List Layout) → IsColumn t vs (Row names ys) → IsLeft t vs old ys old
left_row t vs old names ys h =
    let u = row_type names (types_from (map array_type ys)) in
    subst (λ t. IsLeft t vs old ys old) (sym h.kind)
    (left u vs old ys old (own_row names vs old ys h.order h.few))

-- ---- unions

placed-alternatives : (k : ℕ) (vs : List Value) (ys : List Layout) → AreAlternatives k vs ys
    → placed_alternatives k (types_from (map array_type ys)) vs ≡ flat_map placed_of ys
placed-alternatives k vs [] h = refl
placed-alternatives k vs (y ∷ ys) h = ap₂ (λ ps qs. ps ++ qs) (ap (placed (array_type y)) (sym h.0))
    (placed-alternatives (suc k) vs ys h.1)

pub left_union : (t : DataType) (vs : List Value) (old mid new : List Column) (g j : Column)
    (ys : List Layout) → IsColumn t vs (Union g j ys) → mid ≡ old ++ g ∷ [] → new ≡ mid ++ j ∷ []
    → IsLeft t vs old ys new
left_union t vs old mid new g j ys h a b =
    let u = uni (types_from (map array_type ys)) in
    subst (λ t. IsLeft t vs old ys new) (sym h.kind) (left u vs old ys new (record {
      lanes = b ∙ ap (λ cs. cs ++ j ∷ []) a ∙ append_assoc old (g ∷ []) (j ∷ [])
          ∙ ap₂ (λ g j. old ++ g ∷ j ∷ []) h.order.0 h.order.1;
      columns = ap (λ ps. at_node u vs ∷ ps) (placed-alternatives 0 vs ys h.order.2);
      count = ap suc (sum-nodes_each (map array_type ys));
      few = h.few;
    }))
