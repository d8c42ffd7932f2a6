-- What is made of lists whose items' numbers are ready: extremes and their places.
use Rattle.std.proofs.Common.{◌≡◌, ℕ, ◌<◌, length, map, get_or, List, [], ◌∷◌, refl, ap, sym, ◌∙◌}
use Rattle.std.proofs.Common.{subst, arith}
use Rattle.std.specs.Prelude.{ℤ, pos, true, false, position, Option, Some, None}
use Rattle.std.specs.List.{slice_range}
use Rattle.std.specs.Option.{option_and_then}
use Rattle.std.specs.Ordering.{int_eq}
use Rattle.std.proofs.lemmas.List.{get_or-map, length-map}
use Rattle.awk_types.specs.DataType.{DataType, leaf, opt}
use Rattle.awk_types.specs.Value.{Value, int}
use Rattle.awk_types.specs.declared.primitive.Primitive.{Primitive}
use Rattle.awk_types.specs.declared.primitive.Primitive.TheVariants as primitive
use Rattle.awk_lanes.specs.Column.{Column}
use Rattle.awk_lanes.specs.Made.{lane_of}
use Rattle.awk_lanes.specs.Numbers.{element}
use Rattle.awk_lanes.specs.declared.kind.Kind.{Kind}
use Rattle.awk_lanes.specs.declared.kind.Kind.TheVariants.{I8, I64}
use Rattle.awk_lanes.proofs.PlaceLaws.{element-element}
use Rattle.awk_layout.specs.Item.{leaf_value, at_option}
use Rattle.awk_layout.specs.Kinds.{kind_of, primitive_of, primitive_of-kind_of}
use Rattle.awk_layout.specs.Layout.{Layout, flat, byte_masked}
use Rattle.awk_layout.specs.Typing.{array_type}
use Rattle.awk_list_functions.specs.Made.{IsColumn}
use Rattle.awk_columns.specs.Lists.{Listed}
use Rattle.awk_list_functions.specs.declared.function.Made.TheVariants as made
use Rattle.awk_numbers.specs.Folds.{lane_numbers, first_extreme, extreme_of}
use Rattle.awk_numbers.specs.declared.extremes.Extreme.{Extreme}
use Rattle.awk_numbers.specs.declared.extremes.Extreme.TheVariants.{Least, Greatest}
use Rattle.awk_numbers.proofs.PartLaws.{slice_range-map}
use Rattle.awk_cells.specs.Extremes.{number_or_zero}
use Rattle.awk_parts.specs.Lanes.{extreme_at, local_at, present_at, some_place}
use Rattle.awk_parts.specs.Lanes.{mask_byte, place_or_zero}
use Rattle.awk_parts.specs.Spans.{start_of, stop_of, span_count, span_part}
use Rattle.awk_parts.specs.declared.parts.Spans.{Spans}
use Rattle.awk_present.specs.Numbers.{leaf_of, numbers, number_place, extreme_place}
use Rattle.awk_reduce.specs.Lists.{list_in, AreReady, IsReduced}
use Rattle.awk_reduce.specs.Reduce.{overflows}
use Rattle.awk_reduce.specs.Reducers.{reduced, reduced_type, item_or_null, place_or_null}
use Rattle.awk_reduce.specs.Totals.{item_reducer, place_reducer}
use Rattle.awk_reduce.specs.declared.ready.ReadyLists.{ReadyLists}
use Rattle.awk_reduce.proofs.ColumnLaws.{masked_column}
use Rattle.awk_reduce.proofs.ExtremeLaws.{extreme_found, extreme_none}
use Rattle.awk_reduce.proofs.ReadyLaws.{AreNumbered, ready_numbered}

-- ---- by types and values

pub item_value : (how : Extreme) (t : DataType) (vs : List Value)
    → item_or_null (leaf_of t) (extreme_of how (numbers vs)) ≡ reduced (item_reducer how) t vs
item_value Least t vs = refl
item_value Greatest t vs = refl

pub place_value : (how : Extreme) (t : DataType) (vs : List Value)
    → place_or_null (extreme_place how vs) ≡ reduced (place_reducer how) t vs
place_value Least t vs = refl
place_value Greatest t vs = refl

item_type : (how : Extreme) (t : DataType)
    → opt (leaf (leaf_of t)) ≡ reduced_type (item_reducer how) t
item_type Least t = refl
item_type Greatest t = refl

place_type : (how : Extreme) (t : DataType)
    → opt (leaf primitive.I64) ≡ reduced_type (place_reducer how) t
place_type Least t = refl
place_type Greatest t = refl

item_fits : (how : Extreme) (t : DataType) (vs : List Value)
    → overflows (item_reducer how) t vs ≡ false
item_fits Least t vs = refl
item_fits Greatest t vs = refl

place_fits : (how : Extreme) (t : DataType) (vs : List Value)
    → overflows (place_reducer how) t vs ≡ false
place_fits Least t vs = refl
place_fits Greatest t vs = refl

-- ---- of one list

pub none_of : (how : Extreme) → extreme_of how [] ≡ None
none_of Least = refl
none_of Greatest = refl

pub some_of : (how : Extreme) (z : ℤ) (zs : List ℤ) → first_extreme how (z ∷ zs) ≡ None → ⊥
some_of how z zs e = go how (extreme_none how (z ∷ zs) e)
  where
    go : (how : Extreme) → extreme_of how (z ∷ zs) ≡ None → ⊥
    go Least e = cc
    go Greatest e = cc

-- numbers that are read of a lane are read so again
read_twice : (k : Kind) (ys : List ℤ) (q : ℕ) → q < length (map (element k) ys)
    → element k (get_or (map (element k) ys) q (pos 0)) ≡ get_or (map (element k) ys) q (pos 0)
read_twice k ys q l =
    let here = get_or-map (element k) ys q (pos 0) (pos 0)
    (omega (arith, l, length-map ys (element k))) in
    ap (element k) here ∙ element-element k (get_or ys q (pos 0)) ∙ sym here

-- the item that is the extreme of numbers, or null
item_case : (how : Extreme) (k : Kind) (p : Primitive) (zs : List ℤ) (f : Option ℕ)
    → k ≡ kind_of p
    → ((q : ℕ) → q < length zs → element k (get_or zs q (pos 0)) ≡ get_or zs q (pos 0))
    → first_extreme how zs ≡ f
    → at_option (some_place zs) (λ q. leaf_value k (element k (number_or_zero zs f)))
    ≡ item_or_null p (extreme_of how zs)
item_case how k p [] f e read h = sym (ap (item_or_null p) (none_of how))
item_case how k p (z ∷ zs) None e read h = absurd (some_of how z zs h)
item_case how k p (z ∷ zs) (Some q) e read h =
    let found = extreme_found how (z ∷ zs) q h in
    ap (leaf_value k) (read q found.0)
    ∙ ap (λ k. leaf_value k (get_or (z ∷ zs) q (pos 0))) e
    ∙ sym (ap (item_or_null p) found.1)

-- ---- of lists whose numbers are known

module _ (l : Listed) (n : ℕ) (zs : ℕ → List ℤ) (r : AreNumbered l n zs) (how : Extreme) where
  abbrev t : DataType
  t = array_type l.content

  abbrev vs : ℕ → List Value
  vs i = list_in l i

  abbrev there : ℕ → Option ℕ
  there i = some_place (zs i)

  -- which lists have a number
  abbrev pub chosen : ℕ → ℤ
  chosen i = mask_byte (there i)

  leaf_type : (k : Kind) → k ≡ kind_of (leaf_of t) → leaf (primitive_of k) ≡ leaf (leaf_of t)
  leaf_type k e = ap leaf (ap primitive_of e ∙ primitive_of-kind_of (leaf_of t))

  pub extremes_made : (k : Kind) (f : ℕ → ℤ) (y : Layout) (j c : Column)
      → k ≡ kind_of (leaf_of t)
      → ((i : ℕ) → i < n → at_option (there i) (λ q. leaf_value k (element k (f i)))
      ≡ reduced (item_reducer how) t (vs i))
      → c ≡ lane_of k n f → j ≡ lane_of I8 n chosen → y ≡ byte_masked j true (flat c)
      → IsReduced (item_reducer how) t vs n (made.Singles y)
  extremes_made k f y j c ke here ce je ye =
      let value : ℕ → Value = λ i. reduced (item_reducer how) t (vs i) in
      let same : y ≡ byte_masked (lane_of I8 n chosen) true (flat (lane_of k n f)) =
      ye ∙ ap (λ j. byte_masked j true (flat c)) je
      ∙ ap (λ c. byte_masked (lane_of I8 n chosen) true (flat c)) ce in (
        λ i l. item_fits how t (vs i),
        subst (λ u. IsColumn u value n y) (ap opt (leaf_type k ke) ∙ item_type how t)
            (subst (IsColumn (opt (leaf (primitive_of k))) value n) (sym same)
            (masked_column k n there f value r.fits here)),
      )

  pub places_made : (f : ℕ → ℤ) (y : Layout) (j c : Column)
      → ((i : ℕ) → i < n → at_option (there i) (λ q. int (f i))
      ≡ reduced (place_reducer how) t (vs i))
      → c ≡ lane_of I64 n f → j ≡ lane_of I8 n chosen → y ≡ byte_masked j true (flat c)
      → IsReduced (place_reducer how) t vs n (made.Singles y)
  places_made f y j c here ce je ye =
      let value : ℕ → Value = λ i. reduced (place_reducer how) t (vs i) in
      let same : y ≡ byte_masked (lane_of I8 n chosen) true (flat (lane_of I64 n f)) =
      ye ∙ ap (λ j. byte_masked j true (flat c)) je
      ∙ ap (λ c. byte_masked (lane_of I8 n chosen) true (flat c)) ce in (
        λ i l. place_fits how t (vs i),
        subst (λ u. IsColumn u value n y) (place_type how t)
            (subst (IsColumn (opt (leaf primitive.I64)) value n) (sym same)
            (masked_column I64 n there f value r.fits here)),
      )

-- ---- of lists whose items' numbers are ready

module _ (x : ReadyLists) (r : AreReady x) (how : Extreme) where
  abbrev all : List ℤ
  all = lane_numbers x.lane.now

  abbrev k : Kind
  k = x.lane.now.kind

  abbrev p : Spans
  p = x.spans.now

  abbrev n : ℕ
  n = span_count x.spans.now

  abbrev item : DataType
  item = array_type x.lists.now.content

  abbrev values : ℕ → List Value
  values i = list_in x.lists.now i

  abbrev zs : ℕ → List ℤ
  zs i = span_part all p i

  read : (i q : ℕ) → q < length (zs i)
      → element k (get_or (zs i) q (pos 0)) ≡ get_or (zs i) q (pos 0)
  read i q =
      subst (λ ws. q < length ws → element k (get_or ws q (pos 0)) ≡ get_or ws q (pos 0))
      (sym (slice_range-map (element k) x.lane.now.items (start_of p i) (stop_of p i)))
      (read_twice k (slice_range x.lane.now.items (start_of p i) (stop_of p i)) q)

  item_here : (i : ℕ) → i < n
      → at_option (some_place (zs i)) (λ q. leaf_value k (element k (extreme_at how all p i)))
      ≡ reduced (item_reducer how) item (values i)
  item_here i l =
      item_case how k (leaf_of item) (zs i) (first_extreme how (zs i)) r.kind (read i) refl
      ∙ ap (λ ns. item_or_null (leaf_of item) (extreme_of how ns)) (r.parts i l)
      ∙ item_value how item (values i)

  pub ready_extremes : (y : Layout) (j c : Column) → c ≡ lane_of k n (extreme_at how all p)
      → j ≡ lane_of I8 n (present_at all p) → y ≡ byte_masked j true (flat c)
      → IsReduced (item_reducer how) item values n (made.Singles y)
  ready_extremes y j c =
      extremes_made x.lists.now n zs (ready_numbered x r) how k (extreme_at how all p) y j c r.kind
      item_here

  place_case : (i : ℕ) → i < n → (ws : List ℤ) → zs i ≡ ws → (f : Option ℕ)
      → first_extreme how ws ≡ f
      → at_option (some_place ws) (λ q. int (place_or_zero f))
      ≡ place_or_null (option_and_then (number_place (values i)) (extreme_of how ws))
  place_case i l [] e f h =
      sym (ap (λ m. place_or_null (option_and_then (number_place (values i)) m)) (none_of how))
  place_case i l (w ∷ ws) e None h = absurd (some_of how w ws h)
  place_case i l (w ∷ ws) e (Some q) h =
      let found = extreme_found how (w ∷ ws) q h in
      let z = get_or (w ∷ ws) q (pos 0) in
      sym (ap place_or_null (r.places i q z l (ap (position (int_eq z)) e ∙ found.2)))
      ∙ sym (ap (λ m. place_or_null (option_and_then (number_place (values i)) m)) found.1)

  place_here : (i : ℕ) → i < n
      → at_option (some_place (zs i)) (λ q. int (local_at how all p i))
      ≡ reduced (place_reducer how) item (values i)
  place_here i l =
      place_case i l (zs i) refl (first_extreme how (zs i)) refl
      ∙ ap (λ ns. place_or_null (option_and_then (number_place (values i)) (extreme_of how ns)))
      (r.parts i l)
      ∙ place_value how item (values i)

  pub ready_places : (y : Layout) (j c : Column) → c ≡ lane_of I64 n (local_at how all p)
      → j ≡ lane_of I8 n (present_at all p) → y ≡ byte_masked j true (flat c)
      → IsReduced (place_reducer how) item values n (made.Singles y)
  ready_places y j c =
      places_made x.lists.now n zs (ready_numbered x r) how (local_at how all p) y j c place_here
