-- Copies of items that are all alike.
use Rattle.std.proofs.Common.{subst, ◌≡◌, ℕ, ◌+◌, ◌*◌, ◌<◌, ◌≤◌, suc, zero, List, [], ◌∷◌, ◌++◌}
use Rattle.std.proofs.Common.{take, slice_get, Some, add-one, arith, refl, ap, sym, ◌∙◌}
use Rattle.std.specs.Prelude.{Option, IfSome}
use Rattle.std.proofs.lemmas.Nat.{row_fits}
use Rattle.awk_types.specs.DataType.{Name, type, row_type, reg}
use Rattle.awk_types.specs.Value.{value, row, list}
use Rattle.awk_lanes.specs.Column.{Column}
use Rattle.awk_lanes.specs.Places.{size_of, place_at}
use Rattle.awk_layout.specs.Layout.{Layout, layouts_from, count, held_all, weights, rows, regular}
use Rattle.awk_layout.specs.Valid.{len, IsValid, AllReach, AreNames}
use Rattle.awk_layout.specs.Item.{item, items_across}
use Rattle.awk_layout.specs.Typing.{layout_types}
use Rattle.awk_layout.proofs.Runs.{run-moved}
use Rattle.awk_gather.specs.Alike.{AreCopies, AreAllCopies}
use Rattle.awk_gather.specs.Picked.{IsPicked}

-- ---- records

push_suc : (n : ℕ) (xs : List Layout) (i : ℕ) (y : Layout) (rs : List Layout) (r : Layout)
    → slice_get xs i ≡ Some y → AreAllCopies (take i xs) n rs → AreCopies y n r
    → AreAllCopies (take (suc i) xs) n (rs ++ r ∷ [])
push_suc n [] i y rs r e h p = cc
push_suc n (x ∷ xs) zero y [] r e h p = let f : x ≡ y = cc in (rw f p, tt)
push_suc n (x ∷ xs) zero y (s ∷ rs) r e h p = elim h [ ]
push_suc n (x ∷ xs) (suc i) y [] r e h p = elim h [ ]
push_suc n (x ∷ xs) (suc i) y (s ∷ rs) r e h p = (h.0, push_suc n xs i y rs r e h.1 p)

pub AreAllCopies-push : (n : ℕ) (xs : List Layout) (i : ℕ) (y : Layout) (rs : List Layout)
    (r : Layout) → slice_get xs i ≡ Some y → AreAllCopies (take i xs) n rs → AreCopies y n r →
    AreAllCopies (take (i + 1) xs) n (rs ++ r ∷ [])
AreAllCopies-push n xs i y rs r e h p = rw add-one (push_suc n xs i y rs r e h p)

pub reach_of_copies : (n : ℕ) (xs rs : List Layout) → AreAllCopies xs n rs
    → AllReach n (layouts_from rs)
reach_of_copies n [] [] h = tt
reach_of_copies n (x ∷ xs) (r ∷ rs) h = (h.0.size, reach_of_copies n xs rs h.1)
reach_of_copies n [] (r ∷ rs) h = elim h [ ]
reach_of_copies n (x ∷ xs) [] h = elim h [ ]

pub count_of_copies : (n : ℕ) (xs rs : List Layout) → AreAllCopies xs n rs
    → count (layouts_from rs) ≡ count (layouts_from xs)
count_of_copies n [] [] h = refl
count_of_copies n (x ∷ xs) (r ∷ rs) h = omega (arith, count_of_copies n xs rs h.1)
count_of_copies n [] (r ∷ rs) h = elim h [ ]
count_of_copies n (x ∷ xs) [] h = elim h [ ]

across_copies : (n : ℕ) (xs rs : List Layout) (i j : ℕ) → AreAllCopies xs n rs → i < n
    → items_across (layouts_from rs) i ≡ items_across (layouts_from xs) j
across_copies n [] [] i j h k = refl
across_copies n (x ∷ xs) (r ∷ rs) i j h k = λ t. value (h.0.items i j k t)
    (across_copies n xs rs i j h.1 k t)
across_copies n [] (r ∷ rs) i j h k = elim h [ ]
across_copies n (x ∷ xs) [] i j h k = elim h [ ]

types_of_copies : (n : ℕ) (xs rs : List Layout) → AreAllCopies xs n rs
    → layout_types (layouts_from rs) ≡ layout_types (layouts_from xs)
types_of_copies n [] [] h = refl
types_of_copies n (x ∷ xs) (r ∷ rs) h = λ t. type (h.0.same_type t) (types_of_copies n xs rs h.1 t)
types_of_copies n [] (r ∷ rs) h = elim h [ ]
types_of_copies n (x ∷ xs) [] h = elim h [ ]

held_of_copies : (n : ℕ) (xs rs : List Layout) → AreAllCopies xs n rs
    → held_all (layouts_from rs) ≤ held_all (layouts_from xs)
held_of_copies n [] [] h = omega arith
held_of_copies n (x ∷ xs) (r ∷ rs) h = omega (arith, h.0.held_within, held_of_copies n xs rs h.1)
held_of_copies n [] (r ∷ rs) h = elim h [ ]
held_of_copies n (x ∷ xs) [] h = elim h [ ]

weights_of_copies : (n : ℕ) (xs rs : List Layout) → AreAllCopies xs n rs
    → weights (layouts_from rs) ≤ weights (layouts_from xs)
weights_of_copies n [] [] h = omega arith
weights_of_copies n (x ∷ xs) (r ∷ rs) h =
    omega (arith, h.0.nodes_within, weights_of_copies n xs rs h.1)
weights_of_copies n [] (r ∷ rs) h = elim h [ ]
weights_of_copies n (x ∷ xs) [] h = elim h [ ]

rows_copied : (names : Option (List Name)) (m n : ℕ) (xs rs : List Layout) → AreAllCopies xs n rs
    → AreCopies (rows names m (layouts_from xs)) n (rows names n (layouts_from rs))
rows_copied names m n xs rs h = record {
  size = omega arith;
  items = λ i j l. ap row (across_copies n xs rs i j h l);
  same_type = ap (row_type names) (types_of_copies n xs rs h);
  held_within = omega (arith, held_of_copies n xs rs h);
  nodes_within = omega (arith, weights_of_copies n xs rs h);
}

pub rows_copies : (names made : Option (List Name)) (m n : ℕ) (xs rs : List Layout) (x r : Layout)
    → rows names m (layouts_from xs) ≡ x → AreAllCopies xs n rs → made ≡ names
    → r ≡ rows made n (layouts_from rs) → AreCopies x n r
rows_copies names made m n xs rs x r e f g k = rw (← e, k, g) (rows_copied names m n xs rs f)

-- the names of the records
pub rows_named : (names made : Option (List Name)) (m n : ℕ) (xs rs : List Layout) (x : Layout)
    → rows names m (layouts_from xs) ≡ x → IsValid x → AreAllCopies xs n rs → made ≡ names
    → AreNames made (count (layouts_from rs))
rows_named names made m n xs rs x e v f g =
    let w : IsValid (rows names m (layouts_from xs)) = subst IsValid (sym e) v in
    rw (g, count_of_copies n xs rs f) w.1

-- ---- lists of one size, and optional items

regular_copied : (size m n : ℕ) (y r : Layout) → AreCopies y (n * size) r
    → AreCopies (regular size m y) n (regular size n r)
regular_copied size m n y r h = record {
  size = omega arith;
  items = λ i j l. ap list (run-moved (item r) (item y) (i * size) (j * size) size (λ k l'.
      let w : i * size + size ≤ n * size = row_fits i size n size l (omega arith) in
      h.items (i * size + k) (j * size + k) (omega arith)));
  same_type = ap (reg size) h.same_type;
  held_within = omega (arith, h.held_within);
  nodes_within = omega (arith, h.nodes_within);
}

pub regular_copies : (size m n k : ℕ) (x y r s z : Layout) → regular size m y ≡ x → k ≡ n * size
    → AreCopies y k r → s ≡ r → z ≡ regular size n s → AreCopies x n z
regular_copies size m n k x y r s z e f h g i =
    let h' : AreCopies y (n * size) r = subst (λ q. AreCopies y q r) f h in
    rw (← e, i, g) (regular_copied size m n y r h')

pub copies_reach : (n k size : ℕ) (y r s : Layout) → k ≡ n * size → AreCopies y k r → s ≡ r
    → n * size ≤ len s
copies_reach n k size y r s f h g = rw (g, ← f) h.size

-- lists of one size at places, where their items are alike
alike_lists : (size n : ℕ) (p : Column) (y r : Layout) → AreCopies y (size_of p * size) r
    → IsPicked (regular size n y) p (regular size (size_of p) r)
alike_lists size n p y r h = record {
  size = refl;
  items = λ j k. ap list (run-moved (item r) (item y) (j * size) (place_at p j * size) size (λ i l.
      let w : j * size + size ≤ size_of p * size = row_fits j size (size_of p) size k
      (omega arith) in
      h.items (j * size + i) (place_at p j * size + i) (omega arith)));
  same_type = ap (reg size) h.same_type;
  held_within = omega (arith, h.held_within);
  nodes_within = omega (arith, h.nodes_within);
}

pub alike_picked : (size n l m k : ℕ) (p : Column) (y r s z : Layout) → l ≡ size_of p
    → m ≡ size_of p → k ≡ l * size → AreCopies y k r → s ≡ r → z ≡ regular size m s
    → IsPicked (regular size n y) p z
alike_picked size n l m k p y r s z d e f h g i =
    let f' : k ≡ size_of p * size = f ∙ ap (λ q. q * size) d in
    let h' : AreCopies y (size_of p * size) r = subst (λ q. AreCopies y q r) f' h in
    rw (i, g, e) (alike_lists size n p y r h')

-- what a call found
pub found_copies : (o : Option Layout) (x r : Layout) (n : ℕ) → o ≡ Some r
    → IfSome o (AreCopies x n) → AreCopies x n r
found_copies o x r n e h = subst (λ q. IfSome q (AreCopies x n)) e h

pub found_all : (o : Option (List Layout)) (xs rs : List Layout) (n : ℕ) → o ≡ Some rs
    → IfSome o (AreAllCopies xs n) → AreAllCopies xs n rs
found_all o xs rs n e h = subst (λ q. IfSome q (AreAllCopies xs n)) e h
