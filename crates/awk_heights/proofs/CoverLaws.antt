-- Lists and options over what is made of their contents.
use Rattle.std.proofs.Common.{◌≡◌, ℕ, ◌+◌, ◌-◌, ◌*◌, ◌<◌, ◌≤◌, refl, ap, sym, subst, ◌∙◌, arith}
use Rattle.std.proofs.Common.{true≢false}
use Rattle.std.specs.Prelude.{List, [], ◌∷◌, Some, None, false, slice_get}
use Rattle.std.proofs.lemmas.Nat.{row_fits}
use Rattle.awk_types.specs.DataType.{DataType, var}
use Rattle.awk_types.specs.Predicates.{is_sized}
use Rattle.awk_types.specs.Value.{Value, list}
use Rattle.awk_lanes.specs.Column.{Column}
use Rattle.awk_lanes.specs.Places.{at, place_at}
use Rattle.awk_layout.specs.Frames.{IsOnly}
use Rattle.awk_layout.specs.Item.{item}
use Rattle.awk_lanes.proofs.PlaceLaws.{span-below}
use Rattle.awk_layout.specs.Layout.{Layout, height}
use Rattle.awk_layout.specs.Typing.{layout_type, array_type}
use Rattle.awk_layout.specs.Valid.{len}
use Rattle.awk_layout.proofs.Runs.{run-same}
use Rattle.awk_layout.proofs.OptionItems.{option_same}
use Rattle.awk_gather.specs.Arrays.{array_item}
use Rattle.awk_columns.specs.ListClass.{Class, list_type}
use Rattle.awk_columns.specs.Lists.{Listed}
use Rattle.awk_open.specs.Opened.{IsOpened}
use Rattle.awk_open.specs.declared.opening.Opened.TheVariants as opened
use Rattle.awk_heights.specs.Low.{height_limit, IsLowNode}
use Rattle.awk_heights.specs.Levels.{covered, cover_type, cover_item, Covers, IsOver}
use Rattle.awk_heights.specs.declared.level.Cover.{Cover}
use Rattle.awk_heights.specs.declared.level.Cover.TheVariants as cover

-- ---- the node over a content

len-covered : (c : Cover) (y z : Layout) → len (covered c y) ≡ len (covered c z)
len-covered (cover.Lists s e) y z = refl
len-covered (cover.Sized j size n) y z = refl
len-covered (cover.Option j) y z = refl

layout_type-covered : (c : Cover) (y : Layout)
    → layout_type (covered c y) ≡ cover_type c (layout_type y)
layout_type-covered (cover.Lists s e) y = refl
layout_type-covered (cover.Sized j size n) y = refl
layout_type-covered (cover.Option j) y = refl

item-covered : (c : Cover) (y : Layout) (i : ℕ)
    → item (covered c y) i ≡ cover_item c (item y) i
item-covered (cover.Lists s e) y i = refl
item-covered (cover.Sized j size n) y i = refl
item-covered (cover.Option j) y i = refl

height-covered : (c : Cover) (y : Layout) (t : DataType) → height y ≤ height_limit t
    → height (covered c y) ≤ height_limit (cover_type c t)
height-covered (cover.Lists s e) y t h = omega (arith, h)
height-covered (cover.Sized j size n) y t h = omega (arith, h)
height-covered (cover.Option j) y t h = omega (arith, h)

-- ---- items that are the same below m

cover_item-same : (c : Cover) (m : ℕ) (f g : ℕ → Value) (z : Layout) (i : ℕ) → Covers c m
    → ((k : ℕ) → k < m → f k ≡ g k) → i < len (covered c z) → cover_item c f i ≡ cover_item c g i
cover_item-same (cover.Lists s e) m f g z i h same l =
    ap list (run-same f g (place_at s i) (place_at e i - place_at s i)
    (λ k p q. same k (span-below m (at s i) (at e i) k (h.1.ordered i l) p q)))
cover_item-same (cover.Sized j size n) m f g z i h same l =
    let below : place_at j i * size + size ≤ n * size =
    row_fits (place_at j i) size n size (h.3.places i l).1 (omega arith) in
    ap list (run-same f g (place_at j i * size) size
    (λ k p q. same k (omega (arith, q, h.2, below))))
cover_item-same (cover.Option j) m f g z i h same l =
    option_same (at j i) m f g (h.1.below i l) same

-- ---- lists as they are opened

any_length : (c : Class) (t u : DataType) → t ≡ list_type c u → is_sized t ≡ false → t ≡ var u
any_length None t u e h = e
any_length (Some n) t u e h = absurd (true≢false (ap is_sized (sym e) ∙ h))

over_lists : (x : Layout) (l : Listed) → IsOpened x (opened.Items l)
    → is_sized (array_type x) ≡ false → IsOver x (cover.Lists l.starts l.stops) l.content
over_lists x l o h = record {
  fits = (o.valid.0, o.valid.1);
  size = o.size;
  typ = any_length l.class (array_type x) (array_type l.content) o.kind h;
  items = o.items;
}

pub only_lists : (x : Layout) (l : Listed) (s e : Column) (z : Layout) (zs : List Layout)
    → IsOpened x (opened.Items l) → is_sized (array_type x) ≡ false → s ≡ l.starts → e ≡ l.stops
    → z ≡ l.content → zs ≡ z ∷ [] → IsOnly (IsOver x (cover.Lists s e)) zs
only_lists x l s e z zs o h p q r is = rw (is, p, q, r) (over_lists x l o h)

-- ---- a cover over a low content

pub over_low : (c : Cover) (x y z : Layout) → IsOver x c z → IsLowNode z y
    → IsLowNode x (covered c y)
over_low c x y z o m = record {
  size = len-covered c y z ∙ o.size;
  typ = layout_type-covered c y ∙ ap (cover_type c) m.typ ∙ sym o.typ;
  items = λ i h.
      item-covered c y i
      ∙ cover_item-same c (len z) (item y) (array_item z) z i o.fits m.items
      (omega (arith, h, o.size))
      ∙ sym (o.items i h);
  low = subst (λ t. height (covered c y) ≤ height_limit t) (sym o.typ)
      (height-covered c y (array_type z) m.low);
}

-- ---- the only content

pub only_is : (P : Layout → Type 0) (zs : List Layout) (z : Layout) → IsOnly P zs
    → slice_get zs 0 ≡ Some z → P z
only_is P [] z h e = absurd h
only_is P (y ∷ []) z h e =
    let same : y ≡ z = cc in
    subst P same h
only_is P (y ∷ w ∷ zs) z h e = absurd h
