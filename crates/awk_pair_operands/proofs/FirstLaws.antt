-- The first rows of arrays and single values.
use Rattle.std.proofs.Common.{◌≡◌, ℕ, zero, suc, ◌+◌, ◌<◌, ◌≤◌, ◌==◌, Bool, true, false, not, ◌&&◌}
use Rattle.std.proofs.Common.{refl, ap, arith, sym, subst, ◌∙◌, drop, take}
use Rattle.std.specs.Prelude.{List, [], ◌∷◌, ◌++◌, map, length, slice_get, Option, Some, pos}
use Rattle.std.specs.Prelude.{unwrap_or, is_some}
use Rattle.std.proofs.lemmas.Int.{ints}
use Rattle.std.specs.List.{list_all, flat_map, range_with_len, AllByRecursion}
use Rattle.std.proofs.lemmas.List.{take_all}
use Rattle.std.proofs.lemmas.Bool.{and_parts}
use Rattle.awk_base.proofs.Ranges.{map-in}
use Rattle.awk_base.proofs.Lists.{drop-get, take-get}
use Rattle.awk_types.specs.Datum.{Datum, arr, one, datum_type}
use Rattle.awk_lanes.specs.Column.{Column}
use Rattle.awk_lanes.specs.Places.{size_of, place_at, at, IsIndex}
use Rattle.awk_lanes.specs.Made.{lane_of}
use Rattle.awk_lanes.specs.Numbers.{nat_of}
use Rattle.awk_lanes.specs.declared.kind.Kind.TheVariants.{I64}
use Rattle.awk_lanes.proofs.MadeLanes.{size-lane_of, at-lane_of}
use Rattle.awk_layout.specs.Layout.{Layout}
use Rattle.awk_layout.specs.Single.{own_datum}
use Rattle.awk_layout.specs.Typing.{array_type}
use Rattle.awk_layout.specs.Valid.{len}
use Rattle.awk_layout.specs.declared.datum.Datum.{Datum as Kept}
use Rattle.awk_layout.specs.declared.datum.Datum.TheVariants.{Arr}
use Rattle.awk_layout.specs.declared.datum.Operand.{Operand}
use Rattle.awk_layout.specs.declared.datum.Operand.TheVariants.{Of}
use Rattle.awk_layout.proofs.ArrayItems.{length-array_items, get_or-array_items}
use Rattle.awk_gather.specs.Arrays.{array_item, IsGathered}
use Rattle.awk_open.specs.Opened.{AreLong}
use Rattle.awk_pair_operands.specs.First.{all_data, IsColumn, AreColumns, operand_lengths}
use Rattle.awk_pair_operands.specs.First.{array_lengths, first_of, IsRowColumn, AreRowColumns}
use Rattle.awk_pair_operands.specs.First.{AreFirstRows}
use Rattle.awk_pair_operands.specs.Pairs.{is_array, datum_side, single_value, typs, some_array}
use Rattle.awk_pair_operands.specs.Pairs.{first_rows}
use Rattle.awk_pair_operands.specs.Typed.{IsTyped}
use Rattle.awk_pair_sides.specs.Rows.{row_at, rows_at}
use Rattle.awk_pair_sides.specs.Sides.{side_at, side_lengths, all_same, first_or_zero, equally_long}
use Rattle.awk_pair_sides.specs.Sides.{each}
use Rattle.awk_pair_sides.proofs.RangeLaws.{flat-map}

-- ---- columns

columns-append : (ds : List Datum) (ys : List Layout) (d : Datum) (y : Layout) → AreColumns ds ys
    → IsColumn d y → AreColumns (ds ++ d ∷ []) (ys ++ y ∷ [])
columns-append [] [] d y h g = (g, tt)
columns-append (e ∷ ds) (z ∷ ys) d y h g = (h.0, columns-append ds ys d y h.1 g)
columns-append [] (z ∷ ys) d y h g = absurd h
columns-append (e ∷ ds) [] d y h g = absurd h

map-append-one : (xs : List Operand) (x : Operand)
    → map own_datum (xs ++ x ∷ []) ≡ map own_datum xs ++ own_datum x ∷ []
map-append-one [] x = refl
map-append-one (y ∷ xs) x = ap (λ ds. own_datum y ∷ ds) (map-append-one xs x)

pub columns_push : (xs : List Operand) (ys zs : List Layout) (i : ℕ) (x : Operand) (y : Layout)
    → slice_get xs i ≡ Some x → zs ≡ ys ++ y ∷ [] → AreColumns (all_data (take i xs)) ys
    → IsColumn (own_datum x) y → AreColumns (all_data (take (i + 1) xs)) zs
columns_push xs ys zs i x y e f h g =
    subst (λ w. AreColumns (all_data (take (i + 1) xs)) w) (sym f)
    (subst (λ w. AreColumns w (ys ++ y ∷ []))
    (sym (ap all_data (take-get xs i x e) ∙ map-append-one (take i xs) x))
    (columns-append (all_data (take i xs)) ys (own_datum x) y h g))

pub columns_all : (xs : List Operand) (ys : List Layout) (i : ℕ) → length xs ≤ i
    → AreColumns (all_data (take i xs)) ys → AreColumns (all_data xs) ys
columns_all xs ys i l h = subst (λ w. AreColumns (all_data w) ys) (take_all i xs l) h

columns-drop : (i : ℕ) (xs : List Operand) (ys : List Layout) → AreColumns (all_data xs) ys
    → AreColumns (all_data (drop i xs)) (drop i ys)
columns-drop zero xs ys h = h
columns-drop (suc i) [] [] h = tt
columns-drop (suc i) (x ∷ xs) (y ∷ ys) h = columns-drop i xs ys h.1
columns-drop (suc i) [] (y ∷ ys) h = absurd h
columns-drop (suc i) (x ∷ xs) [] h = absurd h

-- the column at a place is that of the operand there
pub column_get : (xs : List Operand) (ys : List Layout) (i : ℕ) (x : Operand) (y : Layout)
    → slice_get xs i ≡ Some x → slice_get ys i ≡ Some y → AreColumns (all_data xs) ys
    → IsColumn (own_datum x) y
column_get xs ys i x y e f h =
    let g : AreColumns (all_data (x ∷ drop (i + 1) xs)) (y ∷ drop (i + 1) ys) =
    subst (λ w. AreColumns (all_data (x ∷ drop (i + 1) xs)) w) (drop-get ys i y f)
    (subst (λ w. AreColumns (all_data w) (drop i ys)) (drop-get xs i x e)
    (columns-drop i xs ys h)) in
    g.0

pub columns_count : (xs : List Operand) (ys : List Layout) → AreColumns (all_data xs) ys
    → length ys ≡ length xs
columns_count [] [] h = refl
columns_count (x ∷ xs) (y ∷ ys) h = ap suc (columns_count xs ys h.1)
columns_count [] (y ∷ ys) h = absurd h
columns_count (x ∷ xs) [] h = absurd h

-- ---- lengths

pub lengths-data : (xs : List Operand)
    → flat_map side_lengths (map datum_side (all_data xs)) ≡ array_lengths xs
lengths-data xs =
    flat-map side_lengths datum_side (all_data xs)
    ∙ flat-map (λ d. side_lengths (datum_side d)) own_datum xs

pub lengths_next : (xs : List Operand) (i : ℕ) (x : Operand) → slice_get xs i ≡ Some x
    → array_lengths (drop i xs) ≡ operand_lengths x ++ array_lengths (drop (i + 1) xs)
lengths_next xs i x e = ap array_lengths (drop-get xs i x e)

-- one more array that is as long, or none
pub long_same : (n : ℕ) (ms ns : List ℕ) → list_all (λ m. n == m) (ms ++ ns)
    ≡ list_all (λ m. n == m) ms && list_all (λ m. n == m) ns
long_same n [] ns = refl
long_same n (m ∷ ms) ns = step (n == m) (long_same n ms ns)
  where
    step : (b : Bool) → list_all (λ k. n == k) (ms ++ ns)
        ≡ list_all (λ k. n == k) ms && list_all (λ k. n == k) ns
        → b && list_all (λ k. n == k) (ms ++ ns)
        ≡ (b && list_all (λ k. n == k) ms) && list_all (λ k. n == k) ns
    step true e = e
    step false e = refl

-- the first length, or 1
abbrev pub count_of : List ℕ → ℕ
count_of [] = 1
count_of (n ∷ ns) = n

same-first : (n : ℕ) (ns : List ℕ) → list_all (λ m. n == m) (n ∷ ns) ≡ list_all (λ m. n == m) ns
same-first n ns = let e : (n == n) ≡ true = grind arith in rw e refl

pub long_all_same : (ns : List ℕ) (b : Bool) → list_all (λ m. count_of ns == m) ns ≡ b
    → all_same ns ≡ b
long_all_same [] b e = e
long_all_same (n ∷ ns) b e = sym (same-first n ns) ∙ e

-- whether there is an array
abbrev pub is_none_of : List ℕ → Bool
is_none_of [] = true
is_none_of (n ∷ ns) = false

pub no_array : (ds : List Datum)
    → not (some_array ds) ≡ is_none_of (flat_map side_lengths (map datum_side ds))
no_array [] = refl
no_array (arr t vs ∷ ds) = refl
no_array (one t v ∷ ds) = no_array ds

-- ---- rows

pub row_kept : (n : ℕ) (d : Datum) (y : Layout) → is_array d ≡ true → IsColumn d y
    → list_all (λ m. n == m) (side_lengths (datum_side d)) ≡ true → IsRowColumn n d y
row_kept n (one t v) y a h l = cc
row_kept n (arr t vs) y a h l =
    let e : n ≡ length vs = only (length vs) l in
    let s : len y ≡ n = sym (length-array_items y) ∙ ap length h.1 ∙ sym e in
    record {
      size = s;
      typ = h.0;
      items = λ k q.
          let r : k < len y = omega (arith, s, q) in
          sym (get_or-array_items y k r) ∙ ap (λ ws. side_at k (each ws)) h.1;
    }
  where
    only : (m : ℕ) → list_all (λ k. n == k) (m ∷ []) ≡ true → n ≡ m
    only m f = step (n == m) refl f
      where
        step : (b : Bool) → (n == m) ≡ b → b && true ≡ true → n ≡ m
        step true g f = grind (arith, g)
        step false g f = cc

pub zeros_index : (n m : ℕ) (p : Column) → p ≡ lane_of I64 n (λ i. pos 0) → 0 < m → IsIndex p m
zeros_index n m p e h = subst (λ c. IsIndex c m) (sym e) (record {
  kind = tt;
  places = λ i l.
      let q : i < n = omega (arith, l, size-lane_of I64 n (λ j. pos 0)) in
      let z : at (lane_of I64 n (λ j. pos 0)) i ≡ pos 0 = at-lane_of I64 n (λ j. pos 0) i q in
      rw z (omega (arith, ints), h);
})

pub row_repeated : (n : ℕ) (d : Datum) (y r : Layout) (p : Column) → is_array d ≡ false
    → IsColumn d y → p ≡ lane_of I64 n (λ i. pos 0) → IsGathered y p r → IsRowColumn n d r
row_repeated n (arr t vs) y r p a h e g = cc
row_repeated n (one t v) y r p a h e g =
    let s : size_of p ≡ n = ap size_of e ∙ size-lane_of I64 n (λ i. pos 0) in
    record {
      size = g.size ∙ s;
      typ = g.typ ∙ h.0;
      items = λ k q.
          let l : k < size_of p = omega (arith, s, q) in
          g.each k l
          ∙ ap (λ c. array_item y (place_at c k)) e
          ∙ ap (λ z. array_item y (nat_of z)) (at-lane_of I64 n (λ i. pos 0) k q)
          ∙ h.2;
    }

row-append : (n : ℕ) (ds : List Datum) (ys : List Layout) (d : Datum) (y : Layout)
    → AreRowColumns n ds ys → IsRowColumn n d y → AreRowColumns n (ds ++ d ∷ []) (ys ++ y ∷ [])
row-append n [] [] d y h g = (g, tt)
row-append n (e ∷ ds) (z ∷ ys) d y h g = (h.0, row-append n ds ys d y h.1 g)
row-append n [] (z ∷ ys) d y h g = absurd h
row-append n (e ∷ ds) [] d y h g = absurd h

pub row_push : (n : ℕ) (xs : List Operand) (ys zs : List Layout) (i : ℕ) (x : Operand) (y : Layout)
    → slice_get xs i ≡ Some x → zs ≡ ys ++ y ∷ [] → AreRowColumns n (all_data (take i xs)) ys
    → IsRowColumn n (own_datum x) y → AreRowColumns n (all_data (take (i + 1) xs)) zs
row_push n xs ys zs i x y e f h g =
    subst (λ w. AreRowColumns n (all_data (take (i + 1) xs)) w) (sym f)
    (subst (λ w. AreRowColumns n w (ys ++ y ∷ []))
    (sym (ap all_data (take-get xs i x e) ∙ map-append-one (take i xs) x))
    (row-append n (all_data (take i xs)) ys (own_datum x) y h g))

pub row_all : (n : ℕ) (xs : List Operand) (ys : List Layout) (i : ℕ) → length xs ≤ i
    → AreRowColumns n (all_data (take i xs)) ys → AreRowColumns n (all_data xs) ys
row_all n xs ys i l h = subst (λ w. AreRowColumns n (all_data w) ys) (take_all i xs l) h

rows-types : (n : ℕ) (ds : List Datum) (ys : List Layout) → AreRowColumns n ds ys
    → map array_type ys ≡ typs ds
rows-types n [] [] h = refl
rows-types n (d ∷ ds) (y ∷ ys) h =
    ap (λ t. t ∷ map array_type ys) h.0.typ ∙ ap (λ ts. datum_type d ∷ ts) (rows-types n ds ys h.1)
rows-types n [] (y ∷ ys) h = absurd h
rows-types n (d ∷ ds) [] h = absurd h

rows-long : (n : ℕ) (ds : List Datum) (ys : List Layout) → AreRowColumns n ds ys → AreLong n ys
rows-long n [] [] h = tt
rows-long n (d ∷ ds) (y ∷ ys) h = (h.0.size, rows-long n ds ys h.1)
rows-long n [] (y ∷ ys) h = absurd h
rows-long n (d ∷ ds) [] h = absurd h

row-at : (n k : ℕ) (ds : List Datum) (ys : List Layout) → k < n → AreRowColumns n ds ys
    → row_at ys k ≡ map (side_at k) (map datum_side ds)
row-at n k [] [] q h = refl
row-at n k (d ∷ ds) (y ∷ ys) q h =
    ap (λ v. v ∷ row_at ys k) (h.0.items k q)
    ∙ ap (λ vs. side_at k (datum_side d) ∷ vs) (row-at n k ds ys q h.1)
row-at n k [] (y ∷ ys) q h = absurd h
row-at n k (d ∷ ds) [] q h = absurd h

singles : (ds : List Datum) → some_array ds ≡ false
    → map (side_at 0) (map datum_side ds) ≡ map single_value ds
singles [] e = refl
singles (arr t vs ∷ ds) e = cc
singles (one t v ∷ ds) e = ap (λ vs. v ∷ vs) (singles ds e)

rows-by : (ds : List Datum) (ys : List Layout) (ns : List ℕ) (b : Bool)
    → flat_map side_lengths (map datum_side ds) ≡ ns → some_array ds ≡ b
    → not b ≡ is_none_of ns → AreRowColumns (count_of ns) ds ys
    → rows_at ys (count_of ns) ≡ first_rows ds
rows-by ds ys [] true e a f h = cc
rows-by ds ys [] false e a f h =
    ap (λ v. v ∷ []) (row-at 1 0 ds ys (omega arith) h ∙ singles ds a) ∙ (rw a refl)
rows-by ds ys (n ∷ ns) false e a f h = cc
rows-by ds ys (n ∷ ns) true e a f h =
    map-in (row_at ys) (λ k. map (side_at k) (map datum_side ds)) 0 n
    (λ k q. row-at n k ds ys (omega arith) h)
    ∙ ap (λ ms. map (λ k. map (side_at k) (map datum_side ds))
    (range_with_len 0 (first_or_zero ms)))
    (sym e)
    ∙ (rw a refl)

pub first_rows_are : (xs : List Operand) (single : Bool) (n : ℕ) (ys : List Layout)
    → n ≡ count_of (array_lengths xs) → single ≡ is_none_of (array_lengths xs)
    → list_all (λ m. n == m) (array_lengths xs) ≡ true → AreRowColumns n (all_data xs) ys
    → AreFirstRows (all_data xs) single n ys
first_rows_are xs single n ys c s l h =
    let e : flat_map side_lengths (map datum_side (all_data xs)) ≡ array_lengths xs =
    lengths-data xs in
    let f : not (some_array (all_data xs)) ≡ is_none_of (array_lengths xs) =
    no_array (all_data xs) ∙ ap is_none_of e in
    record {
      even = ap all_same e ∙ long_all_same (array_lengths xs) true
          (subst (λ k. list_all (λ m. k == m) (array_lengths xs) ≡ true) c l);
      is_single = s ∙ sym f;
      types = rows-types n (all_data xs) ys h;
      long = rows-long n (all_data xs) ys h;
      rows = ap (rows_at ys) c
          ∙ rows-by (all_data xs) ys (array_lengths xs) (some_array (all_data xs)) e refl f
          (subst (λ k. AreRowColumns k (all_data xs) ys) c h);
    }

pub first_unequal : (xs : List Operand) (n : ℕ) → n ≡ count_of (array_lengths xs)
    → list_all (λ m. n == m) (array_lengths xs) ≡ false
    → equally_long (map datum_side (all_data xs)) ≡ false
first_unequal xs n c l =
    ap all_same (lengths-data xs) ∙ long_all_same (array_lengths xs) false
    (subst (λ k. list_all (λ m. k == m) (array_lengths xs) ≡ false) c l)

-- ---- loops over operands

-- the length of an array
pub length_arr : (x : Operand) (d : Kept) (y : Layout) (n : ℕ) → x ≡ Of d → d ≡ Arr y → n ≡ len y
    → n ∷ [] ≡ operand_lengths x
length_arr x d y n e f l =
    ap (λ k. k ∷ []) (l ∙ sym (length-array_items y))
    ∙ sym (ap operand_lengths (e ∙ ap (λ c. Of c) f))

pub first_found : (xs : List Operand) (i : ℕ) (x : Operand) (n : ℕ) → slice_get xs i ≡ Some x
    → n ∷ [] ≡ operand_lengths x → array_lengths (drop i xs) ≡ array_lengths xs
    → Some n ≡ first_of (array_lengths xs)
first_found xs i x n e l h =
    ap (λ ms. first_of (ms ++ array_lengths (drop (i + 1) xs))) l
    ∙ sym (ap first_of (sym h ∙ lengths_next xs i x e))

pub first_next : (xs : List Operand) (i : ℕ) (x : Operand) → slice_get xs i ≡ Some x
    → [] ≡ operand_lengths x → array_lengths (drop i xs) ≡ array_lengths xs
    → array_lengths (drop (i + 1) xs) ≡ array_lengths xs
first_next xs i x e l h =
    ap (λ ms. ms ++ array_lengths (drop (i + 1) xs)) l ∙ sym (lengths_next xs i x e) ∙ h

module _ (n : ℕ) (xs : List Operand) (i : ℕ) (x : Operand) (e : slice_get xs i ≡ Some x) where
  abbrev are_long : List ℕ → Bool
  are_long ms = list_all (λ m. n == m) ms

  long-split : are_long (array_lengths (drop i xs))
      ≡ are_long (operand_lengths x) && are_long (array_lengths (drop (i + 1) xs))
  long-split =
      ap are_long (lengths_next xs i x e)
      ∙ long_same n (operand_lengths x) (array_lengths (drop (i + 1) xs))

  pub long_not : are_long (operand_lengths x) ≡ false
      → are_long (array_lengths (drop i xs)) ≡ are_long (array_lengths xs)
      → false ≡ are_long (array_lengths xs)
  long_not f h =
      sym (ap (λ b. b && are_long (array_lengths (drop (i + 1) xs))) f) ∙ sym long-split ∙ h

  pub long_next : are_long (operand_lengths x) ≡ true
      → are_long (array_lengths (drop i xs)) ≡ are_long (array_lengths xs)
      → are_long (array_lengths (drop (i + 1) xs)) ≡ are_long (array_lengths xs)
  long_next f h =
      sym (ap (λ b. b && are_long (array_lengths (drop (i + 1) xs))) f) ∙ sym long-split ∙ h

  pub long_both : are_long (array_lengths (drop i xs)) ≡ true
      → (are_long (operand_lengths x) ≡ true)
      × (are_long (array_lengths (drop (i + 1) xs)) ≡ true)
  long_both h =
      and_parts (are_long (operand_lengths x)) (are_long (array_lengths (drop (i + 1) xs)))
      (sym long-split ∙ h)

-- a single value is kept as an array of one item
pub single_len : (d : Datum) (y : Layout) → is_array d ≡ false → IsColumn d y → 0 < len y
single_len (arr t vs) y a h = cc
single_len (one t v) y a h = omega (arith, h.1)

typed-append : (ds : List Datum) (d : Datum) → AllByRecursion IsTyped ds → IsTyped d
    → AllByRecursion IsTyped (ds ++ d ∷ [])
typed-append [] d h g = (g, tt)
typed-append (e ∷ ds) d h g = (h.0, typed-append ds d h.1 g)

pub typed_push : (xs : List Operand) (i : ℕ) (x : Operand) → slice_get xs i ≡ Some x
    → AllByRecursion IsTyped (all_data (take i xs)) → IsTyped (own_datum x)
    → AllByRecursion IsTyped (all_data (take (i + 1) xs))
typed_push xs i x e h g =
    subst (AllByRecursion IsTyped)
    (sym (ap all_data (take-get xs i x e) ∙ map-append-one (take i xs) x))
    (typed-append (all_data (take i xs)) (own_datum x) h g)

pub typed_all : (xs : List Operand) (i : ℕ) → length xs ≤ i
    → AllByRecursion IsTyped (all_data (take i xs)) → AllByRecursion IsTyped (all_data xs)
typed_all xs i l h = subst (λ w. AllByRecursion IsTyped (all_data w)) (take_all i xs l) h

-- how many rows there are, and whether they are of single values
pub count_is : (ns : List ℕ) (o : Option ℕ) (n : ℕ) → o ≡ first_of ns → n ≡ unwrap_or o 1
    → n ≡ count_of ns
count_is [] o n e f = f ∙ ap (λ p. unwrap_or p 1) e
count_is (m ∷ ns) o n e f = f ∙ ap (λ p. unwrap_or p 1) e

pub none_is : (ns : List ℕ) (o : Option ℕ) (b : Bool) → o ≡ first_of ns → is_some o ≡ not b
    → b ≡ is_none_of ns
none_is ns o b e f = step ns b (sym (ap is_some e) ∙ f)
  where
    step : (ns : List ℕ) (b : Bool) → is_some (first_of ns) ≡ not b → b ≡ is_none_of ns
    step [] true f = refl
    step [] false f = cc
    step (m ∷ ns) true f = cc
    step (m ∷ ns) false f = refl
