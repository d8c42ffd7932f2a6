-- Columns of leaves, optional or not, as what they give at the ends.
use Rattle.std.proofs.Common.{◌≡◌, ℕ, suc, ◌+◌, true, false, refl, ap, ap₂, sym, subst, ◌∙◌, arith}
use Rattle.std.specs.Prelude.{List, [], ◌∷◌, map, length, filter, get_or, replicate}
use Rattle.std.specs.List.{AllByRecursion}
use Rattle.awk_types.specs.DataType.{DataType, unknown, leaf, var, reg, rec, tup, opt, uni}
use Rattle.awk_types.specs.Has.{Has}
use Rattle.awk_types.specs.Predicates.{is_leaf, is_null}
use Rattle.awk_types.specs.Simple.{present, is_option}
use Rattle.awk_types.specs.Value.{Value, int, truth, null, list, row, alt}
use Rattle.awk_lanes.specs.Column.{Column}
use Rattle.awk_lanes.specs.Places.{IsOptionKind}
use Rattle.awk_layout.specs.Kinds.{primitive_of}
use Rattle.awk_layout.specs.Layout.{Layout}
use Rattle.awk_layout.specs.Typing.{array_type, array_items}
use Rattle.awk_layout.specs.Valid.{len}
use Rattle.awk_layout.proofs.ArrayItems.{length-array_items}
use Rattle.awk_open.specs.Opened.{IsOpened}
use Rattle.awk_open.specs.declared.opening.Opened.TheVariants as opened
use Rattle.awk_columns.specs.Columns.{is_present, option_index}
use Rattle.awk_open.specs.InOrder.{IsInOrder}
use Rattle.awk_pointwise.specs.Optional.{item_at}
use Rattle.awk_pointwise.specs.Sides.{lane_values}
use Rattle.awk_ends.specs.Operands.{leaf_in}
use Rattle.awk_ends.proofs.LaneLaws.{lane_sized}
use Rattle.awk_choose.specs.Ends.{IsColumnEnd, ArePresent}
use Rattle.awk_choose.specs.declared.ends.End.TheVariants as end

-- ---- which values are not null

leaf-present : (t : DataType) (v : Value) → is_leaf (present t) ≡ true → is_option t ≡ false
    → Has t v → is_null v ≡ false
leaf-present unknown v l o h = absurd h
leaf-present (leaf p) (int z) l o h = refl
leaf-present (leaf p) (truth b) l o h = refl
leaf-present (leaf p) null l o h = absurd h
leaf-present (leaf p) (list vs) l o h = refl
leaf-present (leaf p) (row vs) l o h = refl
leaf-present (leaf p) (alt k v) l o h = refl
leaf-present (var t) v l o h = absurd cc
leaf-present (reg n t) v l o h = absurd cc
leaf-present (rec ns ts) v l o h = absurd cc
leaf-present (tup ts) v l o h = absurd cc
leaf-present (opt t) v l o h = absurd cc
leaf-present (uni ts) v l o h = absurd cc

-- no value of a type of leaves that is not optional is null
pub leaves-present : (t : DataType) (vs : List Value) → is_leaf (present t) ≡ true
    → is_option t ≡ false → AllByRecursion (Has t) vs → ArePresent vs
leaves-present t [] l o h = tt
leaves-present t (v ∷ vs) l o h =
    (leaf-present t v l o h.0, leaves-present t vs l o h.1)

-- ---- the values of an option

all-null : (vs : List Value) → filter is_present vs ≡ [] → replicate (length vs) null ≡ vs
all-null [] h = refl
all-null (null ∷ vs) h = ap (λ us. null ∷ us) (all-null vs h)
all-null (int z ∷ vs) h = absurd cc
all-null (truth b ∷ vs) h = absurd cc
all-null (list us ∷ vs) h = absurd cc
all-null (row us ∷ vs) h = absurd cc
all-null (alt k v ∷ vs) h = absurd cc

-- what stands in one list from n on stands in another from its first item on
abbrev IsFrom : ℕ → List Value → List Value → Type 0
IsFrom n ws vs = (k : ℕ) → get_or ws (n + k) null ≡ get_or vs k null

first-from : (n : ℕ) (ws : List Value) (v : Value) (vs : List Value) → IsFrom n ws (v ∷ vs)
    → get_or ws n null ≡ v
first-from n ws v vs h =
    let e : n + 0 ≡ n = omega arith in subst (λ m. get_or ws m null ≡ v) e (h 0)

rest-from : (n : ℕ) (ws : List Value) (v : Value) (vs : List Value) → IsFrom n ws (v ∷ vs)
    → IsFrom (suc n) ws vs
rest-from n ws v vs h k =
    let e : n + suc k ≡ suc n + k = omega arith in
    subst (λ m. get_or ws m null ≡ get_or vs k null) e (h (suc k))

-- an index that counts what is not null leads to all values again
indexed-from : (n : ℕ) (ws vs : List Value) → IsFrom n ws (filter is_present vs)
    → map (item_at ws) (option_index n vs) ≡ vs
indexed-from n ws [] h = refl
indexed-from n ws (null ∷ vs) h = ap (λ us. null ∷ us) (indexed-from n ws vs h)
indexed-from n ws (int z ∷ vs) h =
    ap₂ (λ w ws. w ∷ ws) (first-from n ws (int z) (filter is_present vs) h)
    (indexed-from (suc n) ws vs (rest-from n ws (int z) (filter is_present vs) h))
indexed-from n ws (truth b ∷ vs) h =
    ap₂ (λ w ws. w ∷ ws) (first-from n ws (truth b) (filter is_present vs) h)
    (indexed-from (suc n) ws vs (rest-from n ws (truth b) (filter is_present vs) h))
indexed-from n ws (list us ∷ vs) h =
    ap₂ (λ w ws. w ∷ ws) (first-from n ws (list us) (filter is_present vs) h)
    (indexed-from (suc n) ws vs (rest-from n ws (list us) (filter is_present vs) h))
indexed-from n ws (row us ∷ vs) h =
    ap₂ (λ w ws. w ∷ ws) (first-from n ws (row us) (filter is_present vs) h)
    (indexed-from (suc n) ws vs (rest-from n ws (row us) (filter is_present vs) h))
indexed-from n ws (alt j w ∷ vs) h =
    ap₂ (λ w ws. w ∷ ws) (first-from n ws (alt j w) (filter is_present vs) h)
    (indexed-from (suc n) ws vs (rest-from n ws (alt j w) (filter is_present vs) h))

indexed-values : (ws vs : List Value) → filter is_present vs ≡ ws
    → map (item_at ws) (option_index 0 vs) ≡ vs
indexed-values ws vs e =
    indexed-from 0 ws vs (λ k.
    let z : 0 + k ≡ k = omega arith in
    ap (λ m. get_or ws m null) z ∙ ap (λ us. get_or us k null) (sym e))

-- ---- columns

module _ (y : Layout) where
  long : length (array_items y) ≡ len y
  long = length-array_items y

  -- unknown has no items
  pub empty_end : array_type y ≡ unknown → array_items y ≡ [] → IsColumnEnd y end.Nulls
  empty_end t e = record {
    leaf = sym (ap leaf_in t);
    values = ap (λ n. replicate n null) (sym long ∙ ap length e) ∙ sym e;
    end = tt;
    present = λ o. subst ArePresent (sym e) tt;
  }

  pub leaves_end : (c : Column) → array_type y ≡ leaf (primitive_of c.kind)
      → array_items y ≡ lane_values c → AllByRecursion (Has (array_type y)) (array_items y)
      → IsColumnEnd y (end.Leaves c)
  leaves_end c t e h = record {
    leaf = sym (ap leaf_in t);
    values = sym e;
    end = lane_sized y c (len y) e refl;
    present = λ o. leaves-present (array_type y) (array_items y)
        (ap (λ u. is_leaf (present u)) t) o h;
  }

  module _ (j : Column) (z : Layout) (o : IsOpened y (opened.Option j z))
      (h : IsInOrder (array_items y) (opened.Option j z)) where
    optional : is_option (array_type y) ≡ true
    optional = ap is_option o.kind

    index_is : j.items ≡ option_index 0 (array_items y)
    index_is = ap (λ c. c.items) h.0

    -- of an unknown content nothing is present
    pub nulls_end : array_type z ≡ unknown → array_items z ≡ [] → IsColumnEnd y end.Nulls
    nulls_end t e = record {
      leaf = sym (ap leaf_in o.kind ∙ ap leaf_in t);
      values = ap (λ n. replicate n null) (sym long) ∙ all-null (array_items y) (sym h.1 ∙ e);
      end = tt;
      present = λ f. absurd cc;
    }

    pub indexed_end : (c : Column) → array_type z ≡ leaf (primitive_of c.kind)
        → array_items z ≡ lane_values c → IsColumnEnd y (end.Indexed j c)
    indexed_end c t e = record {
      leaf = sym (ap leaf_in o.kind ∙ ap leaf_in t);
      values = ap (map (item_at (lane_values c))) index_is
          ∙ indexed-values (lane_values c) (array_items y) (sym h.1 ∙ e);
      end = (o.size, subst IsOptionKind (sym (ap (λ c. c.kind) h.0)) tt);
      present = λ f. absurd cc;
    }
