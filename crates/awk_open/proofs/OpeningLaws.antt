-- The outermost kind of an array in order, as operations take it.
use Rattle.std.specs.Prelude.{◌≡◌, ℕ, zero, suc, refl, List, [], ◌∷◌, map, Option}
use Rattle.std.specs.Prelude.{Result, Ok, Err, IfOk}
use Rattle.std.proofs.Common.{ap, sym, ◌∙◌}
use Rattle.awk_types.specs.DataType.{Name}
use Rattle.awk_types.specs.Value.{row, alt, value, values_from}
use Rattle.awk_lanes.specs.Column.{Column}
use Rattle.awk_lanes.specs.Places.{place_at}
use Rattle.awk_layout.specs.Layout.{Layout, layouts_from}
use Rattle.awk_layout.specs.Place.{nth}
use Rattle.awk_layout.specs.Typing.{array_items}
use Rattle.awk_gather.specs.Arrays.{array_item}
use Rattle.awk_columns.specs.Lists.{Listed}
use Rattle.awk_open.specs.InOrder.{IsInOrder}
use Rattle.awk_open.specs.Opened as gathers
use Rattle.awk_open.specs.Opens.{across, item_among, OpensLists, OpensOption, OpensRow, OpensUnion}
use Rattle.awk_open.specs.Opens.{OpensLeaf, OpensNothing, Opens}
use Rattle.awk_open.specs.declared.opening.Opened.{Opened}
use Rattle.awk_open.specs.declared.opening.Opened.TheVariants as kinds
use Rattle.awk_open.proofs.OpenedKinds.{are_lists}

-- ---- nothing and leaves

opens_nothing : (x : Layout) → gathers.IsOpened x kinds.Empty → OpensNothing x
opens_nothing x o = record { typ = o.kind; none = sym o.size }

opens_leaf : (x : Layout) (c : Column) → gathers.IsOpened x (kinds.Leaf c) → OpensLeaf c x
opens_leaf x c o = record { typ = o.kind }

-- ---- lists

opens_lists : (x : Layout) (l : Listed) → gathers.IsOpened x (kinds.Items l)
    → OpensLists l.class l.starts l.stops l.content x
opens_lists x l o = record {
  typ = o.kind;
  lists = are_lists x l o;
  size = o.size;
  items = o.items;
}

-- ---- options

opens_option : (x y : Layout) (j : Column) → gathers.IsOpened x (kinds.Option j y)
    → IsInOrder (array_items x) (kinds.Option j y) → OpensOption j y x
opens_option x y j o h = record {
  typ = o.kind;
  size = o.size;
  fits = o.valid.0;
  index = o.valid.1;
  valid = o.valid.2;
  items = o.items;
  column = h.1;
}

-- ---- rows

across-is : (ys : List Layout) (i : ℕ) → values_from (map (λ y. array_item y i) ys) ≡ across ys i
across-is [] i = refl
across-is (y ∷ ys) i = ap (value (array_item y i)) (across-is ys i)

opens_row : (x : Layout) (names : Option (List Name)) (ys : List Layout)
    → gathers.IsOpened x (kinds.Row names ys) → IsInOrder (array_items x) (kinds.Row names ys)
    → OpensRow names ys x
opens_row x names ys o h = record {
  typ = o.kind;
  are_names = o.valid.1;
  fits = o.valid.0;
  lens = o.lengths;
  valid = o.valid.3;
  items = λ i p. o.items i p ∙ ap row (across-is ys i);
  columns = h;
}

-- ---- unions

among-is : (ys : List Layout) (k i : ℕ) → array_item (nth (layouts_from ys) k) i ≡ item_among ys k i
among-is [] k i = refl
among-is (y ∷ ys) zero i = refl
among-is (y ∷ ys) (suc k) i = among-is ys k i

opens_union : (x : Layout) (t j : Column) (ys : List Layout)
    → gathers.IsOpened x (kinds.Union t j ys) → IsInOrder (array_items x) (kinds.Union t j ys)
    → OpensUnion t j ys x
opens_union x t j ys o h = record {
  typ = o.kind;
  size = o.size;
  fits = o.valid.0;
  union = o.valid.1;
  valid = o.valid.2;
  items = λ i p. o.items i p ∙ ap (alt (place_at t i)) (among-is ys (place_at t i) (place_at j i));
  columns = h.2;
}

-- ---- of any kind

opens_kind : (x : Layout) (r : Opened) → gathers.IsOpened x r → IsInOrder (array_items x) r
    → Opens x r
opens_kind x kinds.Empty o h = opens_nothing x o
opens_kind x (kinds.Leaf c) o h = opens_leaf x c o
opens_kind x (kinds.Items l) o h = opens_lists x l o
opens_kind x (kinds.Row names ys) o h = opens_row x names ys o h
opens_kind x (kinds.Option j y) o h = opens_option x y j o h
opens_kind x (kinds.Union t j ys) o h = opens_union x t j ys o h

-- what is opened in order, as operations take it
pub opens : {E : Type 0} (x : Layout) (r : Result Opened E) → IfOk r (gathers.IsOpened x)
    → IfOk r (IsInOrder (array_items x)) → IfOk r (Opens x)
opens x (Ok r) o h = opens_kind x r o h
opens x (Err e) o h = tt
