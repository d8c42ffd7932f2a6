-- A pick of a pick, row by row: by the picked index.
use Rattle.std.specs.Prelude.{◌≡◌, suc, ◌==◌, ◌||◌, not, Bool, false, List, [], ◌∷◌}
use Rattle.std.specs.Prelude.{length, refl}
use Rattle.std.proofs.Common.{arith, ap, ap₂, sym, ◌∙◌, subst}
use Rattle.awk_base.proofs.Truths.{or_first, or_second, same_number, equal_right}
use Rattle.awk_types.specs.DataType.{DataType}
use Rattle.awk_types.specs.Simple.{option_if}
use Rattle.awk_types.specs.Value.{Value, int, truth, null, list, row, alt, value_list, values_from}
use Rattle.awk_types.proofs.Trees.{value_list-from}
use Rattle.awk_columns.specs.ListClass.{Class, list_type}
use Rattle.awk_jagged.specs.Jagged.{are_uneven, lacks_places}
use Rattle.awk_jagged.specs.Jagged.{picked_items, row_any, row_by}
use Rattle.awk_jagged.specs.Jagged.{rows_any, rows_by}
use Rattle.awk_law_chains.proofs.JaggedRows.{lacking-lists}
use Rattle.awk_law_chains.proofs.JaggedRows.{uneven-lists}

-- ---- an index or a mask fits the items that it picks

pub record Fits (u : DataType) (vs ws : List Value) : Type 0 where
  pub even : are_uneven u vs ws ≡ false
  pub within : lacks_places u vs ws ≡ false

-- and so each row
abbrev pub RowFits : DataType → Value → Value → Type 0
RowFits u (list vs) (list ws) = Fits u (value_list vs) (value_list ws)
RowFits u v w = Unit {0}

abbrev pub RowsFit : DataType → List Value → List Value → Type 0
RowsFit u [] [] = Unit {0}
RowsFit u (v ∷ vs) (w ∷ ws) = RowFits u v w × RowsFit u vs ws
RowsFit u [] (w ∷ ws) = ⊥
RowsFit u (v ∷ vs) [] = ⊥

row_fits : (u : DataType) (v w : Value) → row_any (are_uneven u) v w ≡ false
    → row_any (lacks_places u) v w ≡ false → RowFits u v w
row_fits u (list vs) (list ws) e f = record { even = e; within = f }
row_fits u (list vs) (int z) e f = tt
row_fits u (list vs) (truth b) e f = tt
row_fits u (list vs) null e f = tt
row_fits u (list vs) (row ws) e f = tt
row_fits u (list vs) (alt j w) e f = tt
row_fits u (int z) w e f = tt
row_fits u (truth b) w e f = tt
row_fits u null w e f = tt
row_fits u (row vs) w e f = tt
row_fits u (alt j v) w e f = tt

rows_fit : (u : DataType) (vs ws : List Value) → length vs ≡ length ws
    → rows_any (are_uneven u) vs ws ≡ false → rows_any (lacks_places u) vs ws ≡ false
    → RowsFit u vs ws
rows_fit u [] [] l e f = tt
rows_fit u [] (w ∷ ws) l e f = absurd (omega (arith, l))
rows_fit u (v ∷ vs) [] l e f = absurd (omega (arith, l))
rows_fit u (v ∷ vs) (w ∷ ws) l e f =
    let a = row_any (are_uneven u) v w in
    let b = row_any (lacks_places u) v w in
    let ra = rows_any (are_uneven u) vs ws in
    let rb = rows_any (lacks_places u) vs ws in (
      row_fits u v w (or_first a ra e) (or_first b rb f),
      rows_fit u vs ws (omega (arith, l)) (or_second a ra e) (or_second b rb f),
    )

row_even : (u : DataType) (v w : Value) → RowFits u v w
    → (row_any (are_uneven u) v w ≡ false) × (row_any (lacks_places u) v w ≡ false)
row_even u (list vs) (list ws) k = (k.even, k.within)
row_even u (list vs) (int z) k = (refl, refl)
row_even u (list vs) (truth b) k = (refl, refl)
row_even u (list vs) null k = (refl, refl)
row_even u (list vs) (row ws) k = (refl, refl)
row_even u (list vs) (alt j w) k = (refl, refl)
row_even u (int z) w k = (refl, refl)
row_even u (truth b) w k = (refl, refl)
row_even u null w k = (refl, refl)
row_even u (row vs) w k = (refl, refl)
row_even u (alt j v) w k = (refl, refl)

rows_even : (u : DataType) (vs ws : List Value) → RowsFit u vs ws
    → (length vs ≡ length ws) × (rows_any (are_uneven u) vs ws ≡ false)
    × (rows_any (lacks_places u) vs ws ≡ false)
rows_even u [] [] k = (refl, refl, refl)
rows_even u [] (w ∷ ws) k = absurd k
rows_even u (v ∷ vs) [] k = absurd k
rows_even u (v ∷ vs) (w ∷ ws) k =
    let a = row_even u v w k.0 in
    let b = rows_even u vs ws k.1 in
    (ap suc b.0, ap₂ (λ x y. x || y) a.0 b.1, ap₂ (λ x y. x || y) a.1 b.2)

pub fits_rows : (p : Bool) (c : Class) (u : DataType) (vs ws : List Value)
    → Fits (option_if p (list_type c u)) vs ws → RowsFit u vs ws
fits_rows p c u vs ws k =
    let e = sym (uneven-lists p c u vs ws) ∙ k.even in
    let a = not (length vs == length ws) in
    let b = rows_any (are_uneven u) vs ws in
    rows_fit u vs ws (same_number (length vs) (length ws) (or_first a b e)) (or_second a b e)
    (sym (lacking-lists p c u vs ws) ∙ k.within)

pub rows_fitting : (p : Bool) (c : Class) (u : DataType) (vs ws : List Value)
    → RowsFit u vs ws → Fits (option_if p (list_type c u)) vs ws
rows_fitting p c u vs ws k =
    let e = rows_even u vs ws k in
    record {
      even = uneven-lists p c u vs ws
          ∙ ap₂ (λ x y. x || y) (equal_right (length vs) (length ws) e.0) e.1;
      within = lacking-lists p c u vs ws ∙ e.2;
    }

-- ---- rows picked twice

module _ (f g : List Value → List Value → List Value) (h : List Value → List Value → List Value)
    (e : (vs is js : List Value) → g (f vs is) js ≡ h vs (g is js)) where
  row_twice : (v i j : Value) → row_by g (row_by f v i) j ≡ row_by h v (row_by g i j)
  row_twice (list vs) (list is) (list js) =
      ap (λ xs. list (values_from (g xs (value_list js))))
      (value_list-from (f (value_list vs) (value_list is)))
      ∙ ap (λ xs. list (values_from xs)) (e (value_list vs) (value_list is) (value_list js))
      ∙ sym (ap (λ xs. list (values_from (h (value_list vs) xs)))
      (value_list-from (g (value_list is) (value_list js))))
  row_twice (list vs) (list is) (int z) = refl
  row_twice (list vs) (list is) (truth b) = refl
  row_twice (list vs) (list is) null = refl
  row_twice (list vs) (list is) (row js) = refl
  row_twice (list vs) (list is) (alt k j) = refl
  row_twice (list vs) (int z) j = refl
  row_twice (list vs) (truth b) j = refl
  row_twice (list vs) null j = refl
  row_twice (list vs) (row is) j = refl
  row_twice (list vs) (alt k i) j = refl
  row_twice (int z) i j = refl
  row_twice (truth b) i j = refl
  row_twice null i j = refl
  row_twice (row vs) i j = refl
  row_twice (alt k v) i j = refl

  pub rows_twice : (vs is js : List Value)
      → rows_by g (rows_by f vs is) js ≡ rows_by h vs (rows_by g is js)
  rows_twice [] is js = refl
  rows_twice (v ∷ vs) [] js = refl
  rows_twice (v ∷ vs) (i ∷ is) [] = refl
  rows_twice (v ∷ vs) (i ∷ is) (j ∷ js) =
      ap₂ (λ x xs. x ∷ xs) (row_twice v i j) (rows_twice vs is js)

-- ---- what is picked fits

module _ (u w x : DataType)
    (first : (vs is js : List Value) → Fits u vs is → Fits w is js
    → Fits w (picked_items u vs is) js)
    (second : (vs is js : List Value) → Fits u vs is → Fits w is js
    → Fits x vs (picked_items w is js)) where
  row_first : (v i j : Value) → RowFits u v i → RowFits w i j
      → RowFits w (row_by (picked_items u) v i) j
  row_first (list vs) (list is) (list js) k l =
      subst (λ xs. Fits w xs (value_list js))
      (sym (value_list-from (picked_items u (value_list vs) (value_list is))))
      (first (value_list vs) (value_list is) (value_list js) k l)
  row_first (list vs) (list is) (int z) k l = tt
  row_first (list vs) (list is) (truth b) k l = tt
  row_first (list vs) (list is) null k l = tt
  row_first (list vs) (list is) (row js) k l = tt
  row_first (list vs) (list is) (alt n j) k l = tt
  row_first (list vs) (int z) j k l = tt
  row_first (list vs) (truth b) j k l = tt
  row_first (list vs) null j k l = tt
  row_first (list vs) (row is) j k l = tt
  row_first (list vs) (alt n i) j k l = tt
  row_first (int z) i j k l = tt
  row_first (truth b) i j k l = tt
  row_first null i j k l = tt
  row_first (row vs) i j k l = tt
  row_first (alt n v) i j k l = tt

  row_second : (v i j : Value) → RowFits u v i → RowFits w i j
      → RowFits x v (row_by (picked_items w) i j)
  row_second (list vs) (list is) (list js) k l =
      subst (λ xs. Fits x (value_list vs) xs)
      (sym (value_list-from (picked_items w (value_list is) (value_list js))))
      (second (value_list vs) (value_list is) (value_list js) k l)
  row_second (list vs) (list is) (int z) k l = tt
  row_second (list vs) (list is) (truth b) k l = tt
  row_second (list vs) (list is) null k l = tt
  row_second (list vs) (list is) (row js) k l = tt
  row_second (list vs) (list is) (alt n j) k l = tt
  row_second (list vs) (int z) j k l = tt
  row_second (list vs) (truth b) j k l = tt
  row_second (list vs) null j k l = tt
  row_second (list vs) (row is) j k l = tt
  row_second (list vs) (alt n i) j k l = tt
  row_second (int z) i j k l = tt
  row_second (truth b) i j k l = tt
  row_second null i j k l = tt
  row_second (row vs) i j k l = tt
  row_second (alt n v) i j k l = tt

  pub rows_first : (vs is js : List Value) → RowsFit u vs is → RowsFit w is js
      → RowsFit w (rows_by (picked_items u) vs is) js
  rows_first [] [] [] k l = tt
  rows_first [] [] (j ∷ js) k l = absurd l
  rows_first [] (i ∷ is) js k l = absurd k
  rows_first (v ∷ vs) [] js k l = absurd k
  rows_first (v ∷ vs) (i ∷ is) [] k l = absurd l
  rows_first (v ∷ vs) (i ∷ is) (j ∷ js) k l =
      (row_first v i j k.0 l.0, rows_first vs is js k.1 l.1)

  pub rows_second : (vs is js : List Value) → RowsFit u vs is → RowsFit w is js
      → RowsFit x vs (rows_by (picked_items w) is js)
  rows_second [] [] [] k l = tt
  rows_second [] [] (j ∷ js) k l = absurd l
  rows_second [] (i ∷ is) js k l = absurd k
  rows_second (v ∷ vs) [] js k l = absurd k
  rows_second (v ∷ vs) (i ∷ is) [] k l = absurd l
  rows_second (v ∷ vs) (i ∷ is) (j ∷ js) k l =
      (row_second v i j k.0 l.0, rows_second vs is js k.1 l.1)
