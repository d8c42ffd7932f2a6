-- What is told of lists in pairs by their rows, and what is picked.
use Rattle.std.specs.Prelude.{◌≡◌, ℕ, zero, suc, ◌+◌, ◌<◌, ◌≤◌, ◌==◌, Bool, true, false, not, ◌||◌}
use Rattle.std.specs.Prelude.{refl, List, [], ◌∷◌, length, map, Option, Some, None}
use Rattle.std.specs.List.{range_with_len, flat_map}
use Rattle.std.proofs.Common.{arith, ap, ap₂, sym, ◌∙◌, subst, eq-eqb}
use Rattle.std.proofs.lemmas.List.Folds.{flat_map-map}
use Rattle.std.proofs.lemmas.List.FromFn.{length-map-range_with_len}
use Rattle.std.proofs.Math.Bool.{or-true}
use Rattle.awk_base.proofs.Ranges.{map-same}
use Rattle.awk_types.specs.DataType.{DataType, unknown, leaf, var, reg, rec, tup, opt, uni}
use Rattle.awk_types.specs.ItemLimit.{too_many}
use Rattle.awk_types.specs.Gives.{◌or◌}
use Rattle.awk_types.specs.Value.{Value, int, truth, null, list, row, alt, value_list}
use Rattle.awk_types.specs.declared.primitive.Primitive.TheVariants.{Bool as Truths, I8, I16, I32}
use Rattle.awk_types.specs.declared.primitive.Primitive.TheVariants.{I64, U8, U16, U32, U64}
use Rattle.awk_types.proofs.Trees.{value_list-from}
use Rattle.awk_lanes.specs.Counted.{before}
use Rattle.awk_lanes.proofs.CountedLanes.{before-same}
use Rattle.awk_columns.specs.Columns.{list_items, joined_items}
use Rattle.awk_jagged.specs.Jagged.{are_uneven, lacks_places, picked_items, size_refused}
use Rattle.awk_jagged_rows.specs.RowTypes.{rows_of}
use Rattle.awk_jagged.specs.Jagged.{rows_any, row_any, rows_by, row_by, is_jagged}
use Rattle.awk_jagged.specs.Pairs.{AreEven, IsUneven, HaveAll, LackSome, picks, picked_length}
use Rattle.awk_jagged_rows.specs.Sides.{ListsBy, sides}
use Rattle.awk_jagged_rows.proofs.FlatPlaces.{IsIn, find, flat_within}
use Rattle.awk_jagged_places.proofs.FlatLists.{each_same, map-flat, each-flat, flat_each, flat_same}
use Rattle.awk_jagged_places.proofs.FlatLists.{length-each}

-- ---- types of rows

-- what is told by lists of type u is told by their items of type v
pub record Unrolls (u v : DataType) : Type 0 where
  pub uneven : (vs ws : List Value)
      → are_uneven u vs ws ≡ (not (length vs == length ws) || rows_any (are_uneven v) vs ws)
  pub lacks : (vs ws : List Value) → lacks_places u vs ws ≡ rows_any (lacks_places v) vs ws
  pub picked : (vs ws : List Value) → picked_items u vs ws ≡ rows_by (picked_items v) vs ws
  pub size : (rs : List Value)
      → size_refused u rs ≡ (too_many (length rs) or size_refused v (joined_items rs))

unrolls-var : (u v : DataType) → u ≡ v → Unrolls (var u) v
unrolls-var u v e = subst (λ w. Unrolls (var u) w) e (record {
  uneven = λ vs ws. refl;
  lacks = λ vs ws. refl;
  picked = λ vs ws. refl;
  size = λ rs. refl;
})

unrolls-reg : (n : ℕ) (u v : DataType) → u ≡ v → Unrolls (reg n u) v
unrolls-reg n u v e = subst (λ w. Unrolls (reg n u) w) e (record {
  uneven = λ vs ws. refl;
  lacks = λ vs ws. refl;
  picked = λ vs ws. refl;
  size = λ rs. refl;
})

unrolls-opt : (u v : DataType) → Unrolls u v → Unrolls (opt u) v
unrolls-opt u v h = record {
  uneven = h.uneven;
  lacks = h.lacks;
  picked = h.picked;
  size = h.size;
}

abbrev item_of : Option (Bool × DataType) → DataType
item_of None = unknown
item_of (Some p) = p.1

pub unrolls : (u v : DataType) (b : Bool) → is_jagged u ≡ true → rows_of u ≡ Some (b, v)
    → Unrolls u v
unrolls unknown v b j e = absurd cc
unrolls (leaf p) v b j e = absurd cc
unrolls (var u) v b j e = unrolls-var u v (ap item_of e)
unrolls (reg n u) v b j e = unrolls-reg n u v (ap item_of e)
unrolls (rec ns us) v b j e = absurd cc
unrolls (tup us) v b j e = absurd cc
unrolls (uni us) v b j e = absurd cc
unrolls (opt unknown) v b j e = absurd cc
unrolls (opt (leaf p)) v b j e = absurd cc
unrolls (opt (var u)) v b j e = unrolls-opt (var u) v (unrolls-var u v (ap item_of e))
unrolls (opt (reg n u)) v b j e =
    unrolls-opt (reg n u) v (unrolls-reg n u v (ap item_of e))
unrolls (opt (rec ns us)) v b j e = absurd cc
unrolls (opt (tup us)) v b j e = absurd cc
unrolls (opt (opt u)) v b j e = absurd cc
unrolls (opt (uni us)) v b j e = absurd cc

-- ---- nothing is even, and nothing is picked of it

pub even-none : (u : DataType) → are_uneven u [] [] ≡ false
even-none unknown = refl
even-none (leaf Truths) = refl
even-none (leaf I8) = refl
even-none (leaf I16) = refl
even-none (leaf I32) = refl
even-none (leaf I64) = refl
even-none (leaf U8) = refl
even-none (leaf U16) = refl
even-none (leaf U32) = refl
even-none (leaf U64) = refl
even-none (var u) = refl
even-none (reg n u) = refl
even-none (rec ns us) = refl
even-none (tup us) = refl
even-none (opt u) = even-none u
even-none (uni us) = refl

pub lacks-none : (u : DataType) → lacks_places u [] [] ≡ false
lacks-none unknown = refl
lacks-none (leaf Truths) = refl
lacks-none (leaf I8) = refl
lacks-none (leaf I16) = refl
lacks-none (leaf I32) = refl
lacks-none (leaf I64) = refl
lacks-none (leaf U8) = refl
lacks-none (leaf U16) = refl
lacks-none (leaf U32) = refl
lacks-none (leaf U64) = refl
lacks-none (var u) = refl
lacks-none (reg n u) = refl
lacks-none (rec ns us) = refl
lacks-none (tup us) = refl
lacks-none (opt u) = lacks-none u
lacks-none (uni us) = refl

pub picked-none : (u : DataType) → picked_items u [] [] ≡ []
picked-none unknown = refl
picked-none (leaf Truths) = refl
picked-none (leaf I8) = refl
picked-none (leaf I16) = refl
picked-none (leaf I32) = refl
picked-none (leaf I64) = refl
picked-none (leaf U8) = refl
picked-none (leaf U16) = refl
picked-none (leaf U32) = refl
picked-none (leaf U64) = refl
picked-none (var u) = refl
picked-none (reg n u) = refl
picked-none (rec ns us) = refl
picked-none (tup us) = refl
picked-none (opt u) = picked-none u
picked-none (uni us) = refl

-- ---- one row

pub row_any-sides : (f : List Value → List Value → Bool) (v w : Value) → f [] [] ≡ false
    → row_any f v w ≡ f (sides v w).0 (sides v w).1
row_any-sides f (list vs) (list ws) e = refl
row_any-sides f (list vs) (int z) e = sym e
row_any-sides f (list vs) (truth b) e = sym e
row_any-sides f (list vs) null e = sym e
row_any-sides f (list vs) (row ws) e = sym e
row_any-sides f (list vs) (alt k w) e = sym e
row_any-sides f (int z) w e = sym e
row_any-sides f (truth b) w e = sym e
row_any-sides f null w e = sym e
row_any-sides f (row vs) w e = sym e
row_any-sides f (alt k v) w e = sym e

pub row_by-sides : (f : List Value → List Value → List Value) (v w : Value) → f [] [] ≡ []
    → list_items (row_by f v w) ≡ f (sides v w).0 (sides v w).1
row_by-sides f (list vs) (list ws) e = value_list-from (f (value_list vs) (value_list ws))
row_by-sides f (list vs) (int z) e = sym e
row_by-sides f (list vs) (truth b) e = sym e
row_by-sides f (list vs) null e = sym e
row_by-sides f (list vs) (row ws) e = sym e
row_by-sides f (list vs) (alt k w) e = sym e
row_by-sides f (int z) w e = sym e
row_by-sides f (truth b) w e = sym e
row_by-sides f null w e = sym e
row_by-sides f (row vs) w e = sym e
row_by-sides f (alt k v) w e = sym e

-- ---- all rows

rows_any-none : (f : List Value → List Value → Bool) (g h : ℕ → Value) (a m : ℕ)
    → ((k : ℕ) → a ≤ k → k < a + m → row_any f (g k) (h k) ≡ false)
    → rows_any f (map g (range_with_len a m)) (map h (range_with_len a m)) ≡ false
rows_any-none f g h a zero e = refl
rows_any-none f g h a (suc m) e =
    ap₂ (λ b c. b || c) (e a (omega arith) (omega arith))
    (rows_any-none f g h (a + 1) m (λ k p q. e k (omega (arith, p)) (omega (arith, q))))

rows_any-some : (f : List Value → List Value → Bool) (g h : ℕ → Value) (a m k : ℕ) → k < m
    → row_any f (g (a + k)) (h (a + k)) ≡ true
    → rows_any f (map g (range_with_len a m)) (map h (range_with_len a m)) ≡ true
rows_any-some f g h a zero k p e = absurd (omega (arith, p))
rows_any-some f g h a (suc m) zero p e =
    let z : a + zero ≡ a = omega arith in
    let e' : row_any f (g a) (h a) ≡ true = subst (λ b. row_any f (g b) (h b) ≡ true) z e in
    ap (λ b. b || rows_any f (map g (range_with_len (a + 1) m))
    (map h (range_with_len (a + 1) m))) e'
rows_any-some f g h a (suc m) (suc k) p e =
    let z : a + suc k ≡ a + 1 + k = omega arith in
    ap (λ b. row_any f (g a) (h a) || b)
    (rows_any-some f g h (a + 1) m k (omega (arith, p))
    (subst (λ b. row_any f (g b) (h b) ≡ true) z e))
    ∙ or-true (row_any f (g a) (h a))

pub rows_by-map : (f : List Value → List Value → List Value) (g h : ℕ → Value) (a m : ℕ)
    → rows_by f (map g (range_with_len a m)) (map h (range_with_len a m))
    ≡ map (λ k. row_by f (g k) (h k)) (range_with_len a m)
rows_by-map f g h a zero = refl
rows_by-map f g h a (suc m) =
    ap (λ vs. row_by f (g a) (h a) ∷ vs) (rows_by-map f g h (a + 1) m)

same_length : (g h : ℕ → Value) (m : ℕ)
    → (length (map g (range_with_len 0 m)) == length (map h (range_with_len 0 m))) ≡ true
same_length g h m =
    eq-eqb _ _ (length-map-range_with_len g 0 m ∙ sym (length-map-range_with_len h 0 m))

-- ---- lists of rows

-- lists in pairs, and their rows as pairs of lists
pub record AreBelow (u v : DataType) (x w : ListsBy) (n : ℕ) (m : ℕ → ℕ) (x' w' : ListsBy)
    (g h : ℕ → ℕ → Value) : Type 0 where
  pub unrolls : Unrolls u v
  pub first : (i : ℕ) → i < n → x i ≡ map (g i) (range_with_len 0 (m i))
  pub second : (i : ℕ) → i < n → w i ≡ map (h i) (range_with_len 0 (m i))
  pub rows : (i k : ℕ) → i < n → k < m i
      → (x' (before m i + k), w' (before m i + k)) ≡ sides (g i k) (h i k)

module _ (u v : DataType) (x w : ListsBy) (n : ℕ) (m : ℕ → ℕ) (x' w' : ListsBy)
    (g h : ℕ → ℕ → Value) (b : AreBelow u v x w n m x' w' g h) where
  first_of : (i k : ℕ) → i < n → k < m i → x' (before m i + k) ≡ (sides (g i k) (h i k)).0
  first_of i k p q = ap (λ s. s.0) (b.rows i k p q)

  second_of : (i k : ℕ) → i < n → k < m i → w' (before m i + k) ≡ (sides (g i k) (h i k)).1
  second_of i k p q = ap (λ s. s.1) (b.rows i k p q)

  told : (f : List Value → List Value → Bool) → f [] [] ≡ false → (i k : ℕ) → i < n → k < m i
      → row_any f (g i k) (h i k) ≡ f (x' (before m i + k)) (w' (before m i + k))
  told f e i k p q =
      row_any-sides f (g i k) (h i k) e
      ∙ ap₂ (λ vs ws. f vs ws) (sym (first_of i k p q)) (sym (second_of i k p q))

  -- no row tells, or one does
  rows_none : (f : List Value → List Value → Bool) → f [] [] ≡ false
      → ((t : ℕ) → t < before m n → f (x' t) (w' t) ≡ false)
      → (i : ℕ) → i < n → rows_any f (x i) (w i) ≡ false
  rows_none f e none i p =
      ap₂ (λ vs ws. rows_any f vs ws) (b.first i p) (b.second i p)
      ∙ rows_any-none f (g i) (h i) 0 (m i)
      (λ k l q.
      let q' : k < m i = omega (arith, q) in
      told f e i k p q' ∙ none (before m i + k) (flat_within m n i k p q'))

  rows_one : (f : List Value → List Value → Bool) → f [] [] ≡ false → (t : ℕ) → t < before m n
      → f (x' t) (w' t) ≡ true
      → (i : ℕ) × (i < n) × (rows_any f (x i) (w i) ≡ true)
  rows_one f e t p one =
      let s : IsIn m n t = find m n t p in
      let here : f (x' (before m s.list + s.item)) (w' (before m s.list + s.item)) ≡ true =
      subst (λ j. f (x' j) (w' j) ≡ true) s.place one in
      let z : s.item ≡ 0 + s.item = omega arith in (
        s.list,
        s.within,
        ap₂ (λ vs ws. rows_any f vs ws) (b.first s.list s.within) (b.second s.list s.within)
            ∙ rows_any-some f (g s.list) (h s.list) 0 (m s.list) s.item s.below
            (subst (λ k. row_any f (g s.list k) (h s.list k) ≡ true) z
            (told f e s.list s.item s.within s.below ∙ here)),
      )

  alike : (i : ℕ) → i < n → not (length (x i) == length (w i)) ≡ false
  alike i p = ap not
      (ap₂ (λ vs ws. length vs == length ws) (b.first i p) (b.second i p)
      ∙ same_length (g i) (h i) (m i))

  pub even-up : AreEven v x' w' (before m n) → AreEven u x w n
  even-up e i p =
      b.unrolls.uneven (x i) (w i)
      ∙ ap₂ (λ c d. c || d) (alike i p) (rows_none (are_uneven v) (even-none v) e i p)

  pub uneven-up : IsUneven v x' w' (before m n) → IsUneven u x w n
  uneven-up e =
      let s = rows_one (are_uneven v) (even-none v) e.0 e.1 e.2 in (
        s.0,
        s.1,
        b.unrolls.uneven (x s.0) (w s.0)
            ∙ ap (λ d. not (length (x s.0) == length (w s.0)) || d) s.2
            ∙ or-true (not (length (x s.0) == length (w s.0))),
      )

  pub have-up : HaveAll v x' w' (before m n) → HaveAll u x w n
  have-up e i p =
      b.unrolls.lacks (x i) (w i) ∙ rows_none (lacks_places v) (lacks-none v) e i p

  pub lack-up : LackSome v x' w' (before m n) → LackSome u x w n
  lack-up e =
      let s = rows_one (lacks_places v) (lacks-none v) e.0 e.1 e.2 in
      (s.0, s.1, b.unrolls.lacks (x s.0) (w s.0) ∙ s.2)

  -- ---- what is picked

  -- what is picked of a row
  abbrev pub picked_row : ℕ → ℕ → Value
  picked_row i k = row_by (picked_items v) (g i k) (h i k)

  pub picked-rows : (i : ℕ) → i < n
      → picked_items u (x i) (w i) ≡ map (picked_row i) (range_with_len 0 (m i))
  picked-rows i p =
      b.unrolls.picked (x i) (w i)
      ∙ ap₂ (λ vs ws. rows_by (picked_items v) vs ws) (b.first i p) (b.second i p)
      ∙ rows_by-map (picked_items v) (g i) (h i) 0 (m i)

  pub length-picked : (i : ℕ) → i < n → picked_length u x w i ≡ m i
  length-picked i p =
      ap length (picked-rows i p) ∙ length-map-range_with_len (picked_row i) 0 (m i)

  -- rows by all their places
  pub picks-rows : (f : ℕ → Value)
      → ((i k : ℕ) → i < n → k < m i → f (before m i + k) ≡ picked_row i k)
      → map f (range_with_len 0 (before m n)) ≡ picks u x w n
  picks-rows f e =
      map-flat m f n
      ∙ each_same _ _ n (λ i p.
      map-same (λ k. f (before m i + k)) (picked_row i) 0 (m i)
      (λ k l q. e i k p (omega (arith, q))) ∙ sym (picked-rows i p))

  row_items : (i k : ℕ) → i < n → k < m i
      → list_items (picked_row i k)
      ≡ picked_items v (x' (before m i + k)) (w' (before m i + k))
  row_items i k p q =
      row_by-sides (picked_items v) (g i k) (h i k) (picked-none v)
      ∙ ap₂ (λ vs ws. picked_items v vs ws) (sym (first_of i k p q)) (sym (second_of i k p q))

  pub length-picks : length (picks u x w n) ≡ before m n
  length-picks =
      length-each (λ i. picked_items u (x i) (w i)) n
      ∙ before-same (picked_length u x w) m n length-picked

  -- the items of what is picked are what is picked of the rows
  pub joined-picks : joined_items (picks u x w n) ≡ picks v x' w' (before m n)
  joined-picks =
      flat_each list_items (λ i. picked_items u (x i) (w i)) n
      ∙ each_same _ _ n (λ i p.
      ap (flat_map list_items) (picked-rows i p)
      ∙ flat_map-map list_items (picked_row i) (range_with_len 0 (m i))
      ∙ flat_same (λ k. list_items (picked_row i k))
      (λ k. picked_items v (x' (before m i + k)) (w' (before m i + k))) 0 (m i)
      (λ k l q. row_items i k p (omega (arith, q))))
      ∙ sym (each-flat m (λ t. picked_items v (x' t) (w' t)) n)

  pub size-up : size_refused u (picks u x w n)
      ≡ (too_many (before m n) or size_refused v (picks v x' w' (before m n)))
  size-up =
      b.unrolls.size (picks u x w n)
      ∙ ap₂ (λ k rs. too_many k or size_refused v rs) length-picks joined-picks
