-- A value in the place of each null.
use Rattle.std.specs.Prelude.{◌≡◌, ℕ, ◌+◌, ◌-◌, ◌<◌, ◌≤◌, ◌^◌, refl, true, false, List, []}
use Rattle.std.specs.Prelude.{◌∷◌, ◌++◌, map, length, get_or, ℤ, pos, negsuc, ◌≤ℤ◌, ◌<ℤ◌, Option}
use Rattle.std.specs.Prelude.{Some, None, IfSome, Result, Ok, Err}
use Rattle.std.proofs.Common.{arith, ap, ap₂, sym, subst, ◌∙◌}
use Rattle.std.proofs.lemmas.Int.{ints}
use Rattle.std.proofs.lemmas.List.{length-append, length-map, get_or_append_left, get_or-append-add}
use Rattle.std.proofs.lemmas.Simd.{map-map}
use Rattle.awk_base.proofs.Every.{all-append}
use Rattle.awk_types.specs.DataType.{DataType, unknown, leaf, var, reg, rec, tup, opt, uni}
use Rattle.awk_types.specs.Datum.{Datum}
use Rattle.awk_types.specs.Faults.{fault_told}
use Rattle.awk_types.specs.Gives.{Gives, Told, refused_or}
use Rattle.awk_types.specs.IsType.{IsType}
use Rattle.awk_types.specs.Limit.{limit}
use Rattle.awk_types.specs.Has.{Has}
use Rattle.awk_types.specs.Simple.{IsSimple, is_option, simple, simple_value}
use Rattle.awk_types.specs.Value.{Value, int, truth, null, list, row, alt, value_list}
use Rattle.awk_types.specs.ItemLimit.{item_limit}
use Rattle.awk_types.specs.declared.fault.Fault.{Fault}
use Rattle.awk_types.specs.declared.fault.Fault.TheVariants.{Unbound, NoField, Axis, WrongType}
use Rattle.awk_types.specs.declared.fault.Fault.TheVariants.{Overflow, Zero, Depth, Size, Lengths}
use Rattle.awk_types.specs.declared.fault.Fault.TheVariants.{Index, NoMemory}
use Rattle.awk_types.specs.declared.name.Name.{Name}
use Rattle.awk_types.proofs.SimpleLaws.{simple_twice, simple_is_simple, has_each, null_in_option}
use Rattle.awk_lanes.specs.Column.{Column}
use Rattle.awk_lanes.specs.Numbers.{nat_of}
use Rattle.awk_lanes.specs.Places.{size_of, at, place_at, option_place, option_place_at, IsIndex}
use Rattle.awk_lanes.specs.Places.{IsOptionalIndex}
use Rattle.awk_lanes.specs.declared.kind.Kind.TheVariants.{I64}
use Rattle.awk_layout.specs.Filler.{Filler, filler_value, is_filler}
use Rattle.awk_layout.specs.declared.datum.Datum.{Datum as Array}
use Rattle.awk_layout.specs.Datum.{datum_of}
use Rattle.awk_layout.specs.Item.{at_option}
use Rattle.awk_layout.specs.Layout.{Layout, indexed}
use Rattle.awk_layout.specs.Typing.{layout_type, array_type, array_items}
use Rattle.awk_layout.specs.Valid.{len, IsValid}
use Rattle.awk_layout.proofs.ArrayItems.{length-array_items, get_or-array_items}
use Rattle.awk_gather.specs.Arrays.{array_item}
use Rattle.awk_lanes.proofs.MadeLanes.{at-lane_of, size-lane_of}
use Rattle.awk_columns.specs.Joined.{JoinsLists, total}
use Rattle.awk_list_functions.specs.Lifting.{lift}
use Rattle.awk_columns.specs.ListClass.{Class}
use Rattle.awk_list_functions.specs.Made.{AreGiven, AreSpanned}
use Rattle.awk_columns.specs.Lists.{AreLists, items_at, all_items_at}
use Rattle.awk_open.specs.Opens.{OpensOption}
use Rattle.awk_open.specs.Opened.{IsOpened}
use Rattle.awk_open.specs.declared.opening.Opened.TheVariants.{Option as Optional}
use Rattle.awk_list_functions.specs.Spoils.{too_many}
use Rattle.awk_list_functions.specs.declared.causes.Spoil.TheVariants.{Size as TooLarge}
use Rattle.awk_columns.proofs.ArrayLaws.{run_map}
use Rattle.awk_columns.proofs.ListNodes.{joined_even}
use Rattle.awk_unify.specs.Carry.{Carry, keep, carried}
use Rattle.awk_unify.specs.Unification.{Unification}
use Rattle.awk_unify.specs.Unifies.{IsCarriedInto, Unifies, within_type}
use Rattle.awk_unify.specs.Unify.{unification}
use Rattle.awk_layout.proofs.Runs.{run-same}
use Rattle.awk_merge_sides.specs.Sides.{Side, merged_items, AreSides, IsMerged, with_side}
use Rattle.awk_merge_sides.proofs.SideLaws.{item_has, length-carried, get_or-carried}
use Rattle.awk_merge_sides.proofs.SideLaws.{merged_items-with_side, AreSides-with_side}
use Rattle.awk_primitives.specs.Fits.{fits}
use Rattle.awk_fill.specs.Filled.{IsFirst, IsPair, place_or, places_or, IsFilled, IsFilledOption}
use Rattle.awk_fill.specs.Filled.{HoldsOption, IsRefused}
use Rattle.awk_fill.specs.declared.parts.Parts.{Parts}
use Rattle.awk_fill.specs.FillNone.{filler_type, filling, fill_value, filled, filled_type}
use Rattle.awk_fill.specs.FillNone.{fill_none_function, no_filler, fill_none_of}
use Rattle.awk_option_nodes.proofs.OptionNodes.{HasItems, item_stays, span_stays}
use Rattle.awk_list_ends.proofs.SpanLaws.{start_there}
use Rattle.awk_list_functions.proofs.SpoilLimits.{over_limit, within_limit}
use Rattle.awk_columns.proofs.OffsetLaws.{count_same}

-- ---- two columns

abbrev pub pair_sides : Unification → Layout → Layout → List Side
pair_sides u x y = with_side (with_side [] x u.left) y u.right

module _ (u : Unification) (x y : Layout) (l : IsCarriedInto (array_type x) u.left u.typ)
    (r : IsCarriedInto (array_type y) u.right u.typ) where
  pub are_pair_sides : AreSides u.typ (pair_sides u x y)
  are_pair_sides =
      AreSides-with_side u.typ (with_side [] x u.left) y u.right
      (AreSides-with_side u.typ [] x u.left tt (λ _. l.values)) (λ _. r.values)

  pub pair_items : merged_items (pair_sides u x y)
      ≡ map (carried u.left) (array_items x) ++ map (carried u.right) (array_items y)
  pair_items =
      merged_items-with_side (with_side [] x u.left) y u.right
      ∙ ap (λ vs. vs ++ map (carried u.right) (array_items y))
      (merged_items-with_side [] x u.left)

  pub merged_pair : (z : Layout) → HasItems x → HasItems y → IsValid z
      → IsMerged u.typ (pair_sides u x y) z → IsPair u x y z
  merged_pair z hx hy v m =
      let items = m.items ∙ pair_items in
      let has = all-append (Has u.typ) (map (carried u.left) (array_items x))
      (map (carried u.right) (array_items y))
      (has_each (array_type x) u.typ (carried u.left) l.values (array_items x) hx)
      (has_each (array_type y) u.typ (carried u.right) r.values (array_items y) hy) in
      record {
        valid = v;
        typ = m.typ;
        has = rw (m.typ, items) has;
        items = items;
      }

refused_none : {A F : Type 0} (o : Option F) (a b : A) → refused_or o a ≡ Ok b → a ≡ b
refused_none None a b e = cc
refused_none (Some f) a b e = cc

-- two columns as they are made
pub pair_given : (x y c d z : Layout) (a b t : DataType) (f g : Carry) (s0 s1 s2 : List Side)
    → a ≡ array_type x → b ≡ array_type y → IsType (array_type x) → IsType (array_type y)
    → within_type (unification a b) ≡ Ok (record { typ = t; left = f; right = g })
    → Unifies a b (record { typ = t; left = f; right = g }) → s0 ≡ [] → c ≡ x
    → s1 ≡ with_side s0 c f → d ≡ y → s2 ≡ with_side s1 d g → HasItems x → HasItems y → IsValid z
    → IsMerged t s2 z → IsPair (unification (array_type x) (array_type y)) x y z
pair_given x y c d z a b t f g s0 s1 s2 ea eb tx ty e laws e0 ec e1 ed e2 hx hy v m =
    let r : Unification = record { typ = t; left = f; right = g } in
    let same : r ≡ unification (array_type x) (array_type y) =
    sym (refused_none (limit (unification a b).typ) (unification a b) r e) ∙ ap₂ unification ea
    eb in
    let sides : s2 ≡ pair_sides r x y =
    e2 ∙ ap₂ (λ ss w. with_side ss w g) (e1 ∙ ap₂ (λ ss w. with_side ss w f) e0 ec) ed in
    let is_a : IsType a = subst IsType (sym ea) tx in
    let is_b : IsType b = subst IsType (sym eb) ty in
    let l : IsCarriedInto (array_type x) f t =
    subst (λ s. IsCarriedInto s f t) ea (laws.left_values is_a is_b) in
    let k : IsCarriedInto (array_type y) g t =
    subst (λ s. IsCarriedInto s g t) eb (laws.right_values is_a is_b) in
    subst (λ u. IsPair u x y z) same
    (merged_pair r x y l k z hx hy v (subst (λ ss. IsMerged t ss z) sides m))

-- a column twice as it is
pub twice_first : (x c d z : Layout) (t : DataType) (s0 s1 s2 : List Side) → s0 ≡ [] → c ≡ x
    → s1 ≡ with_side s0 c keep → d ≡ x → s2 ≡ with_side s1 d keep → t ≡ array_type x → 0 < len x
    → IsMerged t s2 z → IsFirst (array_type x) (array_item x 0) z
twice_first x c d z t s0 s1 s2 e0 ec e1 ed e2 et some m =
    let vs : List Value = map (carried keep) (array_items x) in
    let sides : s2 ≡ with_side (with_side [] x keep) x keep =
    e2 ∙ ap₂ (λ ss w. with_side ss w keep) (e1 ∙ ap₂ (λ ss w. with_side ss w keep) e0 ec) ed in
    let items : array_items z ≡ vs ++ vs =
    m.items ∙ ap merged_items sides ∙ merged_items-with_side (with_side [] x keep) x keep
    ∙ ap (λ us. us ++ vs) (merged_items-with_side [] x keep) in
    let long : len z ≡ len x + len x =
    sym (length-array_items z) ∙ ap length items ∙ length-append vs vs
    ∙ omega (arith, length-carried x keep) in
    record {
      typ = m.typ ∙ et;
      some = omega (arith, long, some);
      first =
          sym (get_or-array_items z 0 (omega (arith, long, some)))
          ∙ ap (λ us. get_or us 0 null) items
          ∙ get_or_append_left vs vs null 0 (omega (arith, some, length-carried x keep))
          ∙ get_or-carried x keep 0 some;
    }

-- ---- options

-- an item that is present is no null
fill_present : (u : Unification) (w : Value) (t : DataType) (v : Value) → Has t v
    → is_option t ≡ false → fill_value u w v ≡ carried u.left v
fill_present u w t null h n = let e : true ≡ false = sym (null_in_option t h) ∙ n in cc
fill_present u w t (int z) h n = refl
fill_present u w t (truth b) h n = refl
fill_present u w t (list vs) h n = refl
fill_present u w t (row vs) h n = refl
fill_present u w t (alt k v) h n = refl

module _ (u : Unification) (w : Value) (x v z : Layout) (has : HasItems x)
    (plain : is_option (array_type x) ≡ false) (some : 0 < len v) (first : array_item v 0 ≡ w)
    (p : IsPair u x v z) where
  length-pair : len z ≡ len x + len v
  length-pair =
      sym (length-array_items z) ∙ ap length p.items
      ∙ length-append (map (carried u.left) (array_items x)) (map (carried u.right) (array_items v))
      ∙ omega (arith, length-carried x u.left, length-carried v u.right)

  value_item : array_item z (len x) ≡ carried u.right w
  value_item =
      let xs = map (carried u.left) (array_items x) in
      let n : len x ≡ length xs + 0 = omega (arith, length-carried x u.left) in
      sym (get_or-array_items z (len x) (omega (arith, length-pair, some)))
      ∙ ap (λ vs. get_or vs (len x) null) p.items
      ∙ ap (λ i. get_or (xs ++ map (carried u.right) (array_items v)) i null) n
      ∙ get_or-append-add xs (map (carried u.right) (array_items v)) 0 null
      ∙ get_or-carried v u.right 0 some
      ∙ ap (carried u.right) first

  present_item : (k : ℕ) → k < len x → array_item z k ≡ carried u.left (array_item x k)
  present_item k q =
      let xs = map (carried u.left) (array_items x) in
      sym (get_or-array_items z k (omega (arith, q, length-pair)))
      ∙ ap (λ vs. get_or vs k null) p.items
      ∙ get_or_append_left xs (map (carried u.right) (array_items v)) null k
      (omega (arith, q, length-carried x u.left))
      ∙ get_or-carried x u.left k q

  -- the item that is gone to, for null too
  pub filled_at : (a : ℤ) → a <ℤ pos (len x)
      → array_item z (nat_of (place_or (len x) (option_place a)))
      ≡ fill_value u w (at_option (option_place a) (array_item x))
  filled_at (pos k) q =
      let k_in : k < len x = omega (arith, ints, q) in
      present_item k k_in
      ∙ sym (fill_present u w (array_type x) (array_item x k) (item_has x k has k_in) plain)
  filled_at (negsuc k) q = value_item

  place_in : (a : ℤ) → a <ℤ pos (len x)
      → (pos 0 ≤ℤ place_or (len x) (option_place a))
      × (nat_of (place_or (len x) (option_place a)) < len z)
  place_in (pos k) q = (omega (arith, ints), omega (arith, ints, q, length-pair))
  place_in (negsuc k) q = (omega (arith, ints), omega (arith, length-pair, some))

  pub filled_index : (j : Column) → IsOptionalIndex j (len x)
      → IsIndex (places_or (len x) j) (len z)
  filled_index j h = record {
    kind = tt;
    places = λ i q.
        let s = size-lane_of I64 (size_of j) (λ i. place_or (len x) (option_place_at j i)) in
        let q' : i < size_of j = omega (arith, q, s) in
        rw (at-lane_of I64 (size_of j) (λ i. place_or (len x) (option_place_at j i)) i q')
        (place_in (at j i) (h.below i q'));
  }

module _ (f : Filler) (j : Column) (x v z : Layout) (has : HasItems x)
    (plain : is_option (array_type x) ≡ false) (fit : size_of j < 2 ^ 63)
    (h : IsOptionalIndex j (len x))
    (own : IsFirst (filler_type f (array_type x)) (filler_value f) v)
    (p : IsPair (unification (array_type x) (array_type v)) x v z) where
  abbrev u : Unification
  u = unification (array_type x) (array_type v)

  same : u ≡ filling f (array_type x)
  same = ap (unification (array_type x)) own.typ

  pub filled_option_is : IsFilledOption f j x (indexed (places_or (len x) j) z)
  filled_option_is =
      let g : ℕ → ℤ = λ i. place_or (len x) (option_place_at j i) in
      let s = size-lane_of I64 (size_of j) g in
      let index = filled_index u (filler_value f) x v z has plain own.some own.first p j h in
      record {
        valid = (omega (arith, s, fit), index, p.valid);
        size = s;
        typ = p.typ ∙ ap (λ (r : Unification). r.typ) same;
        items = λ i q.
            ap (λ a. array_item z (nat_of a)) (at-lane_of I64 (size_of j) g i q)
            ∙ filled_at u (filler_value f) x v z has plain own.some own.first p (at j i)
            (h.below i q)
            ∙ ap (λ r. fill_value r (filler_value f)
            (at_option (option_place_at j i) (array_item x))) same;
        stays = λ i q. item_stays z p.has (place_at (places_or (len x) j) i)
            (index.places i (omega (arith, q, s))).1;
      }

module _ (f : Filler) (j q : Column) (x v z b : Layout) (n : ℕ) (t : DataType)
    (et : t ≡ array_type x) (has : HasItems x) (plain : is_option (array_type x) ≡ false)
    (fit : size_of j < 2 ^ 63) (h : IsOptionalIndex j (len x))
    (own : IsFirst (filler_type f t) (filler_value f) v)
    (p : IsPair (unification (array_type x) (array_type v)) x v z) (eb : b ≡ z) (en : n ≡ len x)
    (eq : q ≡ places_or n j) where
  own_here : IsFirst (filler_type f (array_type x)) (filler_value f) v
  own_here = subst (λ s. IsFirst (filler_type f s) (filler_value f) v) et own

  index_is : q ≡ places_or (len x) j
  index_is = eq ∙ ap (λ m. places_or m j) en

  pub made_index : IsIndex q (len b)
  made_index =
      subst (λ c. IsIndex c (len b)) (sym index_is)
      (subst (λ y. IsIndex (places_or (len x) j) (len y)) (sym eb)
      (filled_index (unification (array_type x) (array_type v)) (filler_value f) x v z has plain
      own_here.some own_here.first p j h))

  pub made_fit : size_of q < 2 ^ 63
  made_fit =
      subst (λ c. size_of c < 2 ^ 63) (sym index_is)
      (omega (
        arith,
        size-lane_of I64 (size_of j) (λ i. place_or (len x) (option_place_at j i)),
        fit,
      ))

  pub made_option : (w : Layout) → w ≡ indexed q b → IsFilledOption f j x w
  made_option w e =
      subst (IsFilledOption f j x) (sym (e ∙ ap₂ indexed index_is eb))
      (filled_option_is f j x v z has plain fit h own_here p)

-- ---- arrays

-- what an option opens to
pub holds_ordered : (j : Column) (y x : Layout) → OpensOption j y x → HoldsOption j y x
holds_ordered j y x o = record {
  typ = o.typ;
  size = o.size;
  fits = o.fits;
  index = o.index;
  valid = o.valid;
  items = o.items;
}

pub holds_whole : (j : Column) (y x : Layout) → IsOpened x (Optional j y) → HoldsOption j y x
holds_whole j y x o = record {
  typ = o.kind;
  size = o.size;
  fits = o.valid.0;
  index = o.valid.1;
  valid = o.valid.2;
  items = o.items;
}

pub holds_found : (x : Layout) (o : Option Parts)
    → IfSome o (λ r. IsOpened x (Optional r.index r.content))
    → IfSome o (λ r. HoldsOption r.index r.content x)
holds_found x None h = tt
holds_found x (Some r) h = holds_whole r.index r.content x h

-- an option by its parts
pub filled_opened : (f : Filler) (j : Column) (y x w : Layout) → HoldsOption j y x
    → IsFilledOption f j y w → IsFilled f x w
filled_opened f j y x w o h = record {
  valid = h.valid;
  size = h.size ∙ o.size;
  typ = h.typ ∙ ap (filled_type f) (sym o.typ);
  items = λ i q.
      h.items i (omega (arith, q, o.size))
      ∙ ap (filled f (opt (array_type y))) (sym (o.items i q))
      ∙ ap (λ t. filled f t (array_item x i)) (sym o.typ);
  stays = λ i q. h.stays i (omega (arith, q, o.size));
}

-- what is opened is no option
pub opened_plain : (j : Column) (y x : Layout) → HoldsOption j y x
    → is_option (array_type y) ≡ false
opened_plain j y x o =
    let s : IsSimple (opt (array_type y)) = subst IsSimple o.typ
    (simple_is_simple (layout_type x)) in
    s.0

plain_type : (f : Filler) (t : DataType) → is_option t ≡ false → filled_type f t ≡ t
plain_type f unknown n = refl
plain_type f (leaf p) n = refl
plain_type f (var t) n = refl
plain_type f (reg m t) n = refl
plain_type f (rec ns ts) n = refl
plain_type f (tup ts) n = refl
plain_type f (opt t) n = let e : true ≡ false = n in cc
plain_type f (uni ts) n = refl

plain_value : (f : Filler) (t : DataType) (v : Value) → is_option t ≡ false → filled f t v ≡ v
plain_value f unknown v n = refl
plain_value f (leaf p) v n = refl
plain_value f (var t) v n = refl
plain_value f (reg m t) v n = refl
plain_value f (rec ns ts) v n = refl
plain_value f (tup ts) v n = refl
plain_value f (opt t) v n = let e : true ≡ false = n in cc
plain_value f (uni ts) v n = refl

-- items that are not optional stay
pub filled_plain : (f : Filler) (x : Layout) → IsValid x → HasItems x
    → is_option (array_type x) ≡ false → IsFilled f x x
filled_plain f x v has n = record {
  valid = v;
  size = refl;
  typ = sym (plain_type f (array_type x) n);
  items = λ i q. sym (plain_value f (array_type x) (array_item x i) n);
  stays = item_stays x has;
}

-- ---- a column of lists

module _ (f : Filler) (class : Class) (s t : Column) (y : Layout) (o : Column) (x w : Layout)
    (a : AreLists class s t y) (j : JoinsLists s t y o x) (h : IsFilled f x w) where
  abbrev typ : DataType
  typ = filled_type f (array_type y)

  made_typ : array_type w ≡ typ
  made_typ = h.typ ∙ ap (filled_type f) j.typ

  made_item : (i : ℕ) → i < len x
      → array_item w i ≡ simple_value typ (filled f (array_type y) (array_item x i))
  made_item i q =
      let e : array_item w i ≡ filled f (array_type y) (array_item x i) =
      h.items i q ∙ ap (λ u. filled f u (array_item x i)) j.typ in
      sym (h.stays i q) ∙ ap (λ u. simple_value u (array_item w i)) made_typ
      ∙ ap (simple_value typ) e

  pub filled_given : AreGiven class typ (λ vs. map (filled f (array_type y)) vs) s t y o w
  filled_given = record {
    valid = h.valid;
    offsets = rw h.size j.offsets;
    even = joined_even class s t y o x a.same_class j;
    typ = sym (simple_twice (layout_type w)) ∙ ap simple made_typ;
    lists = λ i p.
        let first = place_at o i in
        let n = place_at o (i + 1) - place_at o i in
        let g : Value → Value = filled f (array_type y) in
        let within = j.offsets.within i p in
        ap value_list (run-same (array_item w) (λ k. simple_value typ (g (array_item x k))) first n
        (λ k _ q. made_item k (omega (arith, q, within))))
        ∙ sym (run_map (λ v. simple_value typ (g v)) (array_item x) first n)
        ∙ ap (λ r. map (λ v. simple_value typ (g v)) (value_list r)) (sym (j.lists i p))
        ∙ sym (map-map (simple_value typ) g (items_at s t y i));
  }

-- lists whose items are not optional, as they lie
fill_all : (f : Filler) (t : DataType) (vs : List Value) → is_option t ≡ false
    → map (filled f t) vs ≡ vs
fill_all f t [] n = refl
fill_all f t (v ∷ vs) n = ap₂ (λ u us. u ∷ us) (plain_value f t v n) (fill_all f t vs n)

pub filled_spanned : (f : Filler) (class : Class) (s t : Column) (y : Layout) → AreLists class s t y
    → HasItems y → is_option (array_type y) ≡ false
    → AreSpanned (filled_type f (array_type y)) (λ vs. map (filled f (array_type y)) vs) s t y s t y
filled_spanned f class s t y a has n = record {
  valid = a.valid;
  fits = a.fits;
  size = refl;
  spans = a.spans;
  typ = sym (simple_twice (layout_type y)) ∙ ap simple (sym (plain_type f (array_type y) n));
  lists = λ i p.
      let vs : List Value = items_at s t y i in
      sym (ap (map (simple_value (filled_type f (array_type y)))) (fill_all f (array_type y) vs n)
      ∙ ap (λ u. map (simple_value u) vs) (plain_type f (array_type y) n)
      ∙ span_stays y has (place_at s i) (place_at t i - place_at s i)
      (λ q. (start_there (len y) (at s i) (at t i) (a.spans.ordered i p) q).1));
}

pub filled_spoilt : (f : Filler) (s t : Column) (y : Layout) → item_limit < total s t y
    → (fill_none_function f).spoil (array_type y) (all_items_at s t y) ≡ Some TooLarge
filled_spoilt f s t y h =
    ap too_many (count_same (map (filled f (array_type y))) s t y
    (λ vs. length-map vs (filled f (array_type y)))) ∙ over_limit (total s t y) h

pub filled_fine : (f : Filler) (s t : Column) (y : Layout) → total s t y ≤ item_limit
    → (fill_none_function f).spoil (array_type y) (all_items_at s t y) ≡ None
filled_fine f s t y h =
    ap too_many (count_same (map (filled f (array_type y))) s t y
    (λ vs. length-map vs (filled f (array_type y)))) ∙ within_limit (total s t y) h

-- ---- what is no filler

pub refused_ok : (d : Array) → IsRefused (Ok d) WrongType
refused_ok d said e = ap no_filler e

pub refused_axis : IsRefused (Err Axis) Axis
refused_axis said e = ap no_filler e

pub refused_memory : (r : Result Array Fault) → IsRefused r NoMemory
refused_memory r said e = tt

pub refused_unbound : (n : Name) → IsRefused (Err (Unbound n)) WrongType
refused_unbound n said e = ap no_filler e

pub refused_field : (n : Name) → IsRefused (Err (NoField n)) WrongType
refused_field n said e = ap no_filler e

pub refused_type : IsRefused (Err WrongType) WrongType
refused_type said e = ap no_filler e

pub refused_overflow : IsRefused (Err Overflow) WrongType
refused_overflow said e = ap no_filler e

pub refused_zero : IsRefused (Err Zero) WrongType
refused_zero said e = ap no_filler e

pub refused_depth : IsRefused (Err Depth) WrongType
refused_depth said e = ap no_filler e

pub refused_size : IsRefused (Err Size) WrongType
refused_size said e = ap no_filler e

pub refused_lengths : IsRefused (Err Lengths) WrongType
refused_lengths said e = ap no_filler e

pub refused_index : IsRefused (Err Index) WrongType
refused_index said e = ap no_filler e

pub ruleset refusing = (
  refused_ok,
  refused_axis,
  refused_memory,
  refused_unbound,
  refused_field,
  refused_type,
  refused_overflow,
  refused_zero,
  refused_depth,
  refused_size,
  refused_lengths,
  refused_index,
)

-- ---- the call

-- what may fill nulls: the lifted function's answer
pub answer_filled : (r : Result Array Fault) (d : Datum) (f g : Filler) (axis : ℤ) → g ≡ f
    → is_filler f ≡ true → Gives datum_of fault_told r (lift (fill_none_function g) axis d)
    → Gives datum_of fault_told r (fill_none_of d f axis)
answer_filled r d f g axis e b h =
    let k : Gives datum_of fault_told r (lift (fill_none_function f) axis d) =
    subst (λ u. Gives datum_of fault_told r (lift (fill_none_function u) axis d)) e h in
    rw b k

-- what may not: the fault told of that answer
pub answer_refused : (r : Result Array Fault) (fault : Fault) (d : Datum) (f g : Filler) (axis : ℤ)
    → g ≡ f → is_filler f ≡ false → Gives datum_of fault_told r (lift (fill_none_function g) axis d)
    → IsRefused r fault → Told (fault_told fault) (fill_none_of d f axis)
answer_refused r fault d f g axis e b h s =
    let k : Gives datum_of fault_told r (lift (fill_none_function f) axis d) =
    subst (λ u. Gives datum_of fault_told r (lift (fill_none_function u) axis d)) e h in
    rw b (s (lift (fill_none_function f) axis d) k)
