-- Rows of arrays as lists, by the outermost kind of the array.
use Rattle.std.specs.Prelude.{◌≡◌, ℕ, ◌<◌, Bool, true, false, refl, List}
use Rattle.std.specs.Prelude.{Option, Some, None, is_some}
use Rattle.std.proofs.Common.{arith, ap, sym, ◌∙◌, true≢false}
use Rattle.awk_types.specs.DataType.{DataType, Name, unknown, leaf, var, reg, rec, tup, opt, uni}
use Rattle.awk_types.specs.Parts.{list_item}
use Rattle.awk_types.specs.Predicates.{is_list_or_unknown}
use Rattle.awk_types.specs.Simple.{is_option}
use Rattle.awk_lanes.specs.Column.{Column}
use Rattle.awk_lanes.specs.Places.{size_of, at, option_place_at}
use Rattle.awk_lanes.proofs.PlaceLaws.{named-below}
use Rattle.awk_layout.specs.Laws.{len-fits}
use Rattle.awk_layout.specs.Layout.{Layout}
use Rattle.awk_layout.specs.Typing.{array_type}
use Rattle.awk_layout.specs.Valid.{len, IsValid}
use Rattle.awk_layout.proofs.OptionItems.{same_at}
use Rattle.awk_gather.specs.Arrays.{array_item}
use Rattle.awk_columns.specs.ListClass.{Class, list_type}
use Rattle.awk_columns.specs.Lists.{Listed}
use Rattle.awk_columns.specs.ListValues.{list_at}
use Rattle.awk_open.specs.Opened.{IsOpened, IsKindOf}
use Rattle.awk_open.specs.declared.opening.Opened.{Opened}
use Rattle.awk_jagged_rows.specs.RowTypes.{rows_of}
use Rattle.awk_jagged_rows.specs.RowLists.{list_place, AreListsAt, AreRowsOf}
use Rattle.awk_jagged_rows.specs.declared.row_lists.RowLists.{RowLists}

-- ---- types

abbrev with_flag : Bool → Option DataType → Option (Bool × DataType)
with_flag b None = None
with_flag b (Some t) = Some (b, t)

rows_of-list : (t : DataType) → is_option t ≡ false → rows_of t ≡ with_flag false (list_item t)
rows_of-list unknown o = refl
rows_of-list (leaf p) o = refl
rows_of-list (var t) o = refl
rows_of-list (reg n t) o = refl
rows_of-list (rec ns ts) o = refl
rows_of-list (tup ts) o = refl
rows_of-list (opt t) o = absurd cc
rows_of-list (uni ts) o = refl

rows_of-option : (t : DataType) → rows_of (opt t) ≡ with_flag true (list_item t)
rows_of-option unknown = refl
rows_of-option (leaf p) = refl
rows_of-option (var t) = refl
rows_of-option (reg n t) = refl
rows_of-option (rec ns ts) = refl
rows_of-option (tup ts) = refl
rows_of-option (opt t) = refl
rows_of-option (uni ts) = refl

-- ---- no other kinds are of lists

not_leaf : (t : DataType) (c : Column) → IsKindOf t (Opened.Leaf c) → is_list_or_unknown t ≡ true
    → ⊥
not_leaf t c k h = true≢false (sym h ∙ ap is_list_or_unknown k)

not_row : (t : DataType) (names : Option (List Name)) (ys : List Layout)
    → IsKindOf t (Opened.Row names ys) → is_list_or_unknown t ≡ true → ⊥
not_row t None ys k h = true≢false (sym h ∙ ap is_list_or_unknown k)
not_row t (Some names) ys k h = true≢false (sym h ∙ ap is_list_or_unknown k)

not_option : (t : DataType) (j : Column) (y : Layout) → IsKindOf t (Opened.Option j y)
    → is_list_or_unknown t ≡ true → ⊥
not_option t j y k h = true≢false (sym h ∙ ap is_list_or_unknown k)

not_union : (t : DataType) (g j : Column) (ys : List Layout) → IsKindOf t (Opened.Union g j ys)
    → is_list_or_unknown t ≡ true → ⊥
not_union t g j ys k h = true≢false (sym h ∙ ap is_list_or_unknown k)

pub only_lists : (t : DataType) (r : Opened) → IsKindOf t r → is_list_or_unknown t ≡ true
    → (r ≡ Opened.Empty → ⊥) → ((q : Listed) → r ≡ Opened.Items q → ⊥) → ⊥
only_lists t Opened.Empty k h e l = e refl
only_lists t (Opened.Leaf c) k h e l = not_leaf t c k h
only_lists t (Opened.Items q) k h e l = l q refl
only_lists t (Opened.Row names ys) k h e l = not_row t names ys k h
only_lists t (Opened.Option j y) k h e l = not_option t j y k h
only_lists t (Opened.Union g j ys) k h e l = not_union t g j ys k h

-- ---- lists as they lie

list_item-list : (c : Class) (t : DataType) → list_item (list_type c t) ≡ Some t
list_item-list None t = refl
list_item-list (Some n) t = refl

pub rows-listed : (x : Layout) (given : Option Column) (l : Listed) (r : RowLists)
    → IsOpened x (Opened.Items l) → r.index ≡ given → r.starts ≡ l.starts → r.stops ≡ l.stops
    → r.content ≡ l.content → AreListsAt x given r
rows-listed x given l r o i s t y = record {
  index = i;
  typ = ap list_item o.kind ∙ list_item-list l.class (array_type l.content)
      ∙ ap (λ z. Some (array_type z)) (sym y);
  spans = rw (s, t, y) o.valid.1;
  valid = rw y o.valid.2;
  size = ap size_of s ∙ o.size;
  items = λ j p. rw (s, t, y) (o.items j p);
}

pub rows-whole : (x : Layout) (r : RowLists) → IsValid x → is_option (array_type x) ≡ false
    → AreListsAt x None r → AreRowsOf x r
rows-whole x r v o h = record {
  typ = rows_of-list (array_type x) o ∙ ap (with_flag false) h.typ
      ∙ ap (λ j. with_flag (is_some j) (Some (array_type r.content))) (sym h.index);
  spans = h.spans;
  valid = h.valid;
  small = omega (arith, h.size, len-fits x v);
  there = λ i p. rw h.index tt;
  places = λ i k p e.
      let e' : Some i ≡ Some k = ap (λ j. list_place j i) (sym h.index) ∙ e in
      same_below i k (size_of r.starts) e' (omega (arith, p, h.size));
  items = λ i p. rw h.index (h.items i p);
}
  where
    same_below : (i k n : ℕ) → Some i ≡ Some k → i < n → k < n
    same_below i k n e p = grind (arith)

pub rows-option : (x y : Layout) (j : Column) (r : RowLists) → IsOpened x (Opened.Option j y)
    → AreListsAt y (Some j) r → AreRowsOf x r
rows-option x y j r o h =
    let size : size_of j ≡ len x = o.size in
    let below : (i k : ℕ) → i < len x → option_place_at j i ≡ Some k → k < len y =
    λ i k p e. named-below (at j i) (len y) k (o.valid.1.below i (omega (arith, p, size))) e in
    record {
      typ = ap rows_of o.kind ∙ rows_of-option (array_type y) ∙ ap (with_flag true) h.typ
          ∙ ap (λ q. with_flag (is_some q) (Some (array_type r.content))) (sym h.index);
      spans = h.spans;
      valid = h.valid;
      small = omega (arith, h.size, len-fits y o.valid.2);
      there = λ i p. rw h.index (o.valid.1.kind, omega (arith, p, size));
      places = λ i k p e.
          let e' : option_place_at j i ≡ Some k = ap (λ q. list_place q i) (sym h.index) ∙ e in
          omega (arith, below i k p e', h.size);
      items = λ i p. rw h.index (o.items i p
          ∙ same_at (option_place_at j i) (len y) (array_item y)
          (list_at r.starts r.stops r.content)
          (λ k e. below i k p e) h.items);
    }
