-- Columns of operands one after another, and their rows.
use Rattle.std.proofs.Common.{◌≡◌, ◌∙◌, ◌+◌, ◌*◌, ◌<◌, ◌≤◌, ◌==◌, ◌&&◌, ◌∷◌, ◌++◌, [], ℕ, suc, true}
use Rattle.std.proofs.Common.{List, Some, ap, sym, subst, refl, map, drop, length, slice_get}
use Rattle.std.proofs.Common.{get_or, arith}
use Rattle.std.specs.List.{range_with_len}
use Rattle.std.proofs.lemmas.List.{append-nil, append_assoc, length-append, length-map, drop_all}
use Rattle.std.proofs.lemmas.List.{get_or_append_left, get_or-append-add}
use Rattle.std.proofs.lemmas.Bool.{and_parts}
use Rattle.awk_base.proofs.Ranges.{map-in, map-suc}
use Rattle.awk_base.proofs.Lists.{drop-get}
use Rattle.awk_types.specs.DataType.{DataType}
use Rattle.awk_types.specs.Value.{Value, null}
use Rattle.awk_layout.specs.Datum.{kept}
use Rattle.awk_layout.specs.declared.datum.Datum.{Datum}
use Rattle.awk_unify.specs.Carry.{Carry, carried}
use Rattle.awk_merge_operands.specs.Concatenate.{carried_columns, stacked, row_of, joined_row}
use Rattle.awk_merge_operands.specs.Concatenate.{joined_rows, row_count, are_long}
use Rattle.awk_merge_operands.specs.Operands.{column_in, AreCarriedOperands, stacked_row}
use Rattle.awk_merge_operands.specs.Operands.{stacked_rows}
use Rattle.awk_merge_sides.specs.Sides.{Side, merged_items, AreSides, with_side}
use Rattle.awk_merge_operands.proofs.OperandLaws.{length-lifts}
use Rattle.awk_merge_sides.proofs.SideLaws.{merged_items-with_side, AreSides-with_side}

-- ---- the columns one by one

-- the first i operands are columns of the type
pub record AreTaken (ds : List Datum) (fs : List Carry) (t : DataType) (i : ℕ) (ss : List Side)
    : Type 0 where
  pub items : merged_items ss ++ stacked (carried_columns (drop i fs) (map column_in (drop i ds)))
      ≡ stacked (carried_columns fs (map column_in ds))
  pub left : AreCarriedOperands (drop i ds) (drop i fs) t
  pub sides : AreSides t ss

pub one_taken : (ds : List Datum) (fs : List Carry) (t : DataType) (i : ℕ) (ss rs : List Side)
    (d : Datum) (f : Carry) → slice_get ds i ≡ Some d → slice_get fs i ≡ Some f
    → rs ≡ with_side ss (kept d) f → AreTaken ds fs t i ss → AreTaken ds fs t (i + 1) rs
one_taken ds fs t i ss rs d f e g h k =
    let a = drop-get ds i d e in
    let b = drop-get fs i f g in
    let here : AreCarriedOperands (d ∷ drop (i + 1) ds) (f ∷ drop (i + 1) fs) t =
    subst (λ xs. AreCarriedOperands xs (f ∷ drop (i + 1) fs) t) a
    (subst (λ gs. AreCarriedOperands (drop i ds) gs t) b k.left) in
    let now : List Value = map (carried f) (column_in d) in
    let later : List Value =
    stacked (carried_columns (drop (i + 1) fs) (map column_in (drop (i + 1) ds))) in
    record {
      items =
          ap (λ xs. merged_items xs ++ later) h
          ∙ ap (λ vs. vs ++ later) (merged_items-with_side ss (kept d) f)
          ∙ append_assoc (merged_items ss) now later
          ∙ sym (ap (λ xs. merged_items ss ++ stacked
          (carried_columns (drop i fs) (map column_in xs))) a
          ∙ ap (λ gs. merged_items ss ++ stacked
          (carried_columns gs (map column_in (d ∷ drop (i + 1) ds)))) b)
          ∙ k.items;
      left = here.1;
      sides =
          subst (AreSides t) (sym h) (AreSides-with_side t ss (kept d) f k.sides (λ p. here.0));
    }

pub all_taken : (ds : List Datum) (fs : List Carry) (t : DataType) (i : ℕ) (ss : List Side)
    → AreCarriedOperands ds fs t → length ds ≤ i → AreTaken ds fs t i ss
    → merged_items ss ≡ stacked (carried_columns fs (map column_in ds))
all_taken ds fs t i ss h l k =
    let n = length-lifts ds fs t h in
    sym (append-nil (merged_items ss))
    ∙ sym (ap (λ gs. merged_items ss ++ stacked (carried_columns gs (map column_in (drop i ds))))
    (drop_all i fs (omega (arith, l, n))))
    ∙ k.items

-- ---- their lengths

pub carried_long : (fs : List Carry) (vss : List (List Value)) (n : ℕ) → length fs ≡ length vss
    → are_long n (carried_columns fs vss) ≡ are_long n vss
carried_long [] [] n e = refl
carried_long [] (vs ∷ vss) n e = absurd (omega (arith, e))
carried_long (f ∷ fs) [] n e = absurd (omega (arith, e))
carried_long (f ∷ fs) (vs ∷ vss) n e =
    ap (λ m. (m == n) && are_long n (carried_columns fs vss)) (length-map vs (carried f))
    ∙ ap (λ b. (length vs == n) && b) (carried_long fs vss n (omega (arith, e)))

pub length-carried_columns : (fs : List Carry) (vss : List (List Value)) → length fs ≡ length vss
    → length (carried_columns fs vss) ≡ length vss
length-carried_columns [] [] e = refl
length-carried_columns [] (vs ∷ vss) e = absurd (omega (arith, e))
length-carried_columns (f ∷ fs) [] e = absurd (omega (arith, e))
length-carried_columns (f ∷ fs) (vs ∷ vss) e =
    ap suc (length-carried_columns fs vss (omega (arith, e)))

pub carried_rows : (fs : List Carry) (vss : List (List Value)) → length fs ≡ length vss
    → row_count (carried_columns fs vss) ≡ row_count vss
carried_rows [] [] e = refl
carried_rows [] (vs ∷ vss) e = absurd (omega (arith, e))
carried_rows (f ∷ fs) [] e = absurd (omega (arith, e))
carried_rows (f ∷ fs) (vs ∷ vss) e = length-map vs (carried f)

-- ---- columns of one length

long_first : (vs : List Value) (vss : List (List Value)) (n : ℕ) → are_long n (vs ∷ vss) ≡ true
    → (length vs ≡ n) × (are_long n vss ≡ true)
long_first vs vss n e =
    let h = and_parts (length vs == n) (are_long n vss) e in (grind (arith, h.0), h.1)

pub length-stacked : (vss : List (List Value)) (n : ℕ) → are_long n vss ≡ true
    → length (stacked vss) ≡ length vss * n
length-stacked [] n e = omega arith
length-stacked (vs ∷ vss) n e =
    let h = long_first vs vss n e in
    let rest = length-stacked vss n h.1 in
    let w : suc (length vss) * n ≡ n + length vss * n = grind arith in
    length-append vs (stacked vss) ∙ omega (arith, h.0, rest, w)

-- ---- the rows

pub row-stacked : (vss : List (List Value)) (n i : ℕ) → i < n → are_long n vss ≡ true
    → stacked_row n (length vss) (stacked vss) i ≡ row_of vss i
row-stacked [] n i p e = refl
row-stacked (vs ∷ vss) n i p e =
    let h = long_first vs vss n e in
    let zero_row : 0 * n + i ≡ i = omega arith in
    let first : get_or (vs ++ stacked vss) (0 * n + i) null ≡ get_or vs i null =
    ap (λ m. get_or (vs ++ stacked vss) m null) zero_row
    ∙ get_or_append_left vs (stacked vss) null i (omega (arith, p, h.0)) in
    let next : (j : ℕ) → get_or (vs ++ stacked vss) ((j + 1) * n + i) null
    ≡ get_or (stacked vss) (j * n + i) null = λ j.
    let w : (j + 1) * n + i ≡ length vs + (j * n + i) = grind (arith, h.0) in
    ap (λ m. get_or (vs ++ stacked vss) m null) w
    ∙ get_or-append-add vs (stacked vss) (j * n + i) null in
    ap (λ v. v ∷ map (λ j. get_or (vs ++ stacked vss) (j * n + i) null)
    (range_with_len 1 (length vss))) first
    ∙ ap (λ ws. get_or vs i null ∷ ws)
    (map-suc (λ j. get_or (vs ++ stacked vss) (j * n + i) null) 0 (length vss)
    ∙ map-in (λ j. get_or (vs ++ stacked vss) ((j + 1) * n + i) null)
    (λ j. get_or (stacked vss) (j * n + i) null) 0 (length vss) (λ j q. next j)
    ∙ row-stacked vss n i p h.1)

pub rows-stacked : (vss : List (List Value)) (n : ℕ) → n ≡ row_count vss → are_long n vss ≡ true
    → stacked_rows n (length vss) (stacked vss) ≡ joined_rows vss
rows-stacked vss n r e =
    map-in (λ i. joined_row (stacked_row n (length vss) (stacked vss) i))
    (λ i. joined_row (row_of vss i)) 0 n
    (λ i p. ap joined_row (row-stacked vss n i (omega (arith, p)) e))
    ∙ ap (λ m. map (λ i. joined_row (row_of vss i)) (range_with_len 0 m)) r
