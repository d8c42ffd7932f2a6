-- The shape of values of a type is that of a frame.
use Rattle.std.proofs.Common.{◌≡◌, ℕ, zero, suc, ◌+◌, ◌-◌, ◌*◌, ◌<◌, ◌≤◌, refl, ap}
use Rattle.std.proofs.Common.{arith, sym, subst, ◌∙◌, add-one, ◌^◌, Bool, false, true}
use Rattle.std.specs.Prelude.{List, filter, length, get_or, ℤ, pos, Option, Some, None, ◌<ℤ◌}
use Rattle.std.specs.List.{AllByRecursion}
use Rattle.std.proofs.lemmas.Int.{ints}
use Rattle.awk_base.proofs.Every.{all-at}
use Rattle.awk_types.specs.DataType.{DataType, unknown, leaf, var, reg, rec, tup, opt, uni}
use Rattle.awk_types.specs.Gives.{◌or◌}
use Rattle.awk_types.specs.Has.{Has}
use Rattle.awk_types.specs.ItemLimit.{item_limit, too_many}
use Rattle.awk_types.specs.Value.{Value, int, truth, null, list, row, alt}
use Rattle.awk_types.specs.declared.fault.Fault.{Fault}
use Rattle.awk_types.specs.Simple.{option_if}
use Rattle.awk_types.proofs.ItemLimits.{limit_kept}
use Rattle.awk_lanes.specs.Places.{size_of, at, IsSpan, IsOptionalIndex}
use Rattle.awk_columns.specs.Columns.{list_items, joined_items, is_present}
use Rattle.awk_columns.specs.Joined.{AreOffsets}
use Rattle.awk_columns.specs.ListClass.{Class, list_type}
use Rattle.awk_columns.specs.ListNode.{AreEven}
use Rattle.awk_columns.proofs.PresentItems.{fewer-present, present-have, length-option_index}
use Rattle.awk_frames.specs.Framed.{places, IsFrame, over_type}
use Rattle.awk_frames.specs.Shape.{offsets_column, index_column, shape, ends, Shape, items, leaves}
use Rattle.awk_frames.specs.Shape.{missing}
use Rattle.awk_frames.specs.Sizes.{levels_refused, sizes_refused}
use Rattle.awk_frames.proofs.FramedItems.{items-have, size-offsets}
use Rattle.awk_frames.proofs.ValueLists.{start_at, offset-pos, length-offsets, start-first}
use Rattle.awk_frames.proofs.ValueLists.{start-last, start-next, start-within, index-below}

pub places-shape : (t : DataType) (vs : List Value) → places (shape t vs) ≡ length vs
places-shape (var t) vs = size-offsets vs
places-shape (reg n t) vs = size-offsets vs
places-shape (opt t) vs = length-option_index 0 vs
places-shape unknown vs = refl
places-shape (leaf p) vs = refl
places-shape (rec ns ts) vs = refl
places-shape (tup ts) vs = refl
places-shape (uni ts) vs = refl

-- ---- offsets

span-of : (n a b : ℕ) (x y : ℤ) → x ≡ pos a → y ≡ pos b → a ≤ b → b ≤ n → IsSpan n x y
span-of n a b x y e f l m =
    subst (λ z. IsSpan n z y) (sym e) (subst (λ z. IsSpan n (pos a) z) (sym f)
    (λ d. (omega (arith, ints), omega (arith, ints, l), omega (arith, ints, m))))

-- offsets of values fill the lists' items
pub offsets_fill : (vs : List Value) (whole : ℕ) → whole ≡ length (joined_items vs)
    → length vs ≤ item_limit
    → AreOffsets (offsets_column vs) (size_of (offsets_column vs) - 1) whole
offsets_fill vs whole w few = record {
  offsets = record {
    kind = tt;
    some = omega (arith, length-offsets 0 vs);
    ordered = λ i l.
        let q : i < length vs = omega (arith, l, length-offsets 0 vs) in
        span-of whole (start_at 0 vs i) (start_at 0 vs (i + 1)) (at (offsets_column vs) i)
        (at (offsets_column vs) (i + 1)) (offset-pos 0 vs i) (offset-pos 0 vs (i + 1))
        (omega (arith, start-next 0 vs i q)) (omega (arith, w, start-within 0 vs i q));
  };
  fits = omega (arith, length-offsets 0 vs, few);
  size = omega (arith, length-offsets 0 vs);
  first = start-first 0 vs;
  last = ap (start_at 0 vs) (size-offsets vs) ∙ start-last 0 vs ∙ sym (omega (arith, w));
  within = λ i l.
      let q : i < length vs = omega (arith, l, size-offsets vs) in
      omega (arith, w, start-next 0 vs i q, start-within 0 vs i q);
}

-- ---- lists of one size

list-size : (n : ℕ) (t : DataType) (v : Value) → Has (reg n t) v → length (list_items v) ≡ n
list-size n t (list ws) h = h.0
list-size n t (int z) h = absurd h
list-size n t (truth b) h = absurd h
list-size n t null h = absurd h
list-size n t (row ws) h = absurd h
list-size n t (alt k w) h = absurd h

starts-even : (n : ℕ) (t : DataType) (vs : List Value) → AllByRecursion (Has (reg n t)) vs → (i : ℕ)
    → i ≤ length vs → start_at 0 vs i ≡ i * n
starts-even n t vs h zero l = omega (arith, start-first 0 vs)
starts-even n t vs h (suc i) l =
    let q : i < length vs = omega (arith, l) in
    let here : start_at 0 vs i ≡ i * n = starts-even n t vs h i (omega (arith, l)) in
    let size : length (list_items (get_or vs i null)) ≡ n =
    list-size n t (get_or vs i null) (all-at (Has (reg n t)) vs i null h q) in
    let next : suc i * n ≡ i * n + n = grind arith in
    let all : start_at 0 vs (i + 1) ≡ suc i * n =
    omega (arith, start-next 0 vs i q, here, size, next) in
    rw add-one at all

pub offsets_even : (c : Class) (t : DataType) (vs : List Value)
    → AllByRecursion (Has (list_type c t)) vs
    → AreEven c (offsets_column vs) (size_of (offsets_column vs) - 1)
offsets_even None t vs h = tt
offsets_even (Some n) t vs h = λ i l. starts-even n t vs h i (omega (arith, l, size-offsets vs))

-- ---- nulls

pub index_into : (vs : List Value) (whole : ℕ) → whole ≡ length (filter is_present vs)
    → IsOptionalIndex (index_column vs) whole
index_into vs whole w = record {
  kind = tt;
  below = λ i l.
      let q : i < length vs = omega (arith, l, length-option_index 0 vs) in
      let e : 0 + length (filter is_present vs) ≡ whole = omega (arith, w) in
      subst (λ k. at (index_column vs) i <ℤ pos k) e (index-below 0 vs i q);
}

-- ---- all levels

none-of : (f g : Option Fault) → f or g ≡ None → (f ≡ None) × (g ≡ None)
none-of None g e = (refl, e)
none-of (Some x) g e = cc

list-frame : (c : Class) (t : DataType) (vs : List Value) → AllByRecursion (Has (list_type c t)) vs
    → length vs ≤ item_limit
    → (AllByRecursion (Has t) (joined_items vs) → length (joined_items vs) ≤ item_limit
    → levels_refused t (joined_items vs) ≡ None
    → IsFrame (shape t (joined_items vs)) (length (ends t (joined_items vs))))
    → too_many (length (joined_items vs)) or levels_refused t (joined_items vs) ≡ None
    → AreOffsets (offsets_column vs) (size_of (offsets_column vs) - 1)
    (places (shape t (joined_items vs)))
    × AreEven c (offsets_column vs) (size_of (offsets_column vs) - 1)
    × IsFrame (shape t (joined_items vs)) (length (ends t (joined_items vs)))
list-frame c t vs h few below e =
    let inner = joined_items vs in
    let n = none-of (too_many (length inner)) (levels_refused t inner) e in (
      offsets_fill vs (places (shape t inner)) (places-shape t inner) few,
      offsets_even c t vs h,
      below (items-have c t vs h) (limit_kept (length inner) n.0) n.1,
    )

pub has_frame : (t : DataType) (vs : List Value) → AllByRecursion (Has t) vs
    → length vs ≤ item_limit → levels_refused t vs ≡ None
    → IsFrame (shape t vs) (length (ends t vs))
has_frame (var t) vs h few e =
    list-frame None t vs h few (λ g l n. has_frame t (joined_items vs) g l n) e
has_frame (reg m t) vs h few e =
    list-frame (Some m) t vs h few (λ g l n. has_frame t (joined_items vs) g l n) e
has_frame (opt t) vs h few e = (
  omega (arith, few, length-option_index 0 vs),
  index_into vs (places (shape t (filter is_present vs))) (places-shape t (filter is_present vs)),
  has_frame t (filter is_present vs) (present-have t vs h)
      (omega (arith, few, fewer-present vs)) e,
)
has_frame unknown vs h few e = (refl, omega (arith, few))
has_frame (leaf p) vs h few e = (refl, omega (arith, few))
has_frame (rec ns ts) vs h few e = (refl, omega (arith, few))
has_frame (tup ts) vs h few e = (refl, omega (arith, few))
has_frame (uni ts) vs h few e = (refl, omega (arith, few))

-- values of a type that are not too many have the shape of a frame
pub sized_frame : (t : DataType) (vs : List Value) → AllByRecursion (Has t) vs
    → sizes_refused t vs ≡ None → IsFrame (shape t vs) (length (ends t vs))
sized_frame t vs h e =
    let n = none-of (too_many (length vs)) (levels_refused t vs) e in
    has_frame t vs h (limit_kept (length vs) n.0) n.1

-- a frame has fewer places than an i64 can name
pub frame_small : (s : Shape) (n : ℕ) → IsFrame s n → n < 2 ^ 63
frame_small (leaves m) n h = h.1
frame_small (items o c s) n h = frame_small s n h.2
frame_small (missing j s) n h = frame_small s n h.2

-- a type over lists, and over a level
pub over_type-list : (c : Class) (t w : DataType)
    → over_type (list_type c t) w ≡ list_type c (over_type t w)
over_type-list None t w = refl
over_type-list (Some n) t w = refl

pub over_type-level : (o : Bool) (c : Class) (p f : DataType)
    → over_type (option_if o (list_type c p)) f ≡ option_if o (list_type c (over_type p f))
over_type-level true None p f = refl
over_type-level true (Some k) p f = refl
over_type-level false None p f = refl
over_type-level false (Some k) p f = refl
