-- The columns of two data that are paired, and rows of their items.
use Rattle.std.proofs.Common.{◌≡◌, ℕ, zero, suc, Bool, true, false, refl, ap, sym, ◌∙◌}
use Rattle.std.proofs.Common.{◌<◌, ap₂, not, arith, slice_get}
use Rattle.std.specs.Prelude.{List, [], ◌∷◌, map, length, get_or, Option, Some, None, Ok}
use Rattle.std.specs.Simd.Lanes.{zip2}
use Rattle.std.proofs.lemmas.List.{length-map}
use Rattle.std.proofs.lemmas.Simd.{zip2_of_maps}
use Rattle.awk_types.specs.DataType.{Name, DataType, unknown}
use Rattle.awk_types.specs.Datum.{Datum}
use Rattle.awk_types.specs.Faults.{limit_refused}
use Rattle.awk_types.specs.Gives.{refused_or}
use Rattle.awk_types.specs.Parts.{is_record, names_of_fields}
use Rattle.awk_types.specs.Value.{Value}
use Rattle.awk_types.specs.declared.fault.Fault.{Fault}
use Rattle.awk_types.proofs.RefusalLaws.{refused_or-Ok}
use Rattle.awk_layout.specs.Layout.{Layout}
use Rattle.awk_layout.specs.Typing.{array_type, array_items}
use Rattle.awk_layout.specs.Valid.{len}
use Rattle.awk_layout.specs.declared.datum.Operand.{Operand}
use Rattle.awk_layout.proofs.ArrayItems.{length-array_items}
use Rattle.awk_open.specs.Opened.{AreLong}
use Rattle.awk_columns.specs.Columns.{part_at}
use Rattle.awk_columns.specs.Parts.{AreParts}
use Rattle.awk_frames.specs.Framed.{over_type}
use Rattle.awk_pair_operands.specs.First.{all_data}
use Rattle.awk_pair_operands.specs.Pairs.{leaf_types, pair_type}
use Rattle.awk_types.specs.Simple.{present}
use Rattle.awk_put_field.specs.Field.{field_type, end_value, field_value}
use Rattle.awk_pair_operands.proofs.TypeLaws.{columns-length}
use Rattle.awk_with_field.specs.WithField.{end_of, is_wrong, with_type}

-- ---- each of two columns

pub type-at : (k : ℕ) (ys : List Layout) (y : Layout) (ts : List DataType)
    → slice_get ys k ≡ Some y → map array_type ys ≡ ts → array_type y ≡ get_or ts k unknown
type-at k ys y ts e f = by k ys e ∙ ap (λ us. get_or us k unknown) f
  where
    by : (k : ℕ) (ys : List Layout) → slice_get ys k ≡ Some y
        → array_type y ≡ get_or (map array_type ys) k unknown
    by k [] e = cc
    by zero (z ∷ zs) e = let f : y ≡ z = cc in ap array_type f
    by (suc k) (z ∷ zs) e = by k zs e

pub first-part : (vs : List Value) (ys : List Layout) (y : Layout) → AreParts 0 vs ys
    → slice_get ys 0 ≡ Some y → array_items y ≡ map (part_at 0) vs
first-part vs [] y h e = cc
first-part vs (z ∷ zs) y h e = let f : y ≡ z = cc in ap array_items f ∙ h.0

pub second-part : (vs : List Value) (ys : List Layout) (y : Layout) → AreParts 0 vs ys
    → slice_get ys 1 ≡ Some y → array_items y ≡ map (part_at 1) vs
second-part vs [] y h e = cc
second-part vs (x ∷ []) y h e = cc
second-part vs (x ∷ z ∷ zs) y h e = let f : y ≡ z = cc in ap array_items f ∙ h.1.0

pub part-long : (k : ℕ) (vs : List Value) (y : Layout) → array_items y ≡ map (part_at k) vs
    → len y ≡ length vs
part-long k vs y e = sym (length-array_items y) ∙ ap length e ∙ length-map vs (part_at k)

pub long-at : (n k : ℕ) (ys : List Layout) (y : Layout) → AreLong n ys
    → slice_get ys k ≡ Some y → len y ≡ n
long-at n k [] y h e = cc
long-at n zero (z ∷ zs) y h e = let f : y ≡ z = cc in ap len f ∙ h.0
long-at n (suc k) (z ∷ zs) y h e = long-at n k zs y h.1 e

-- ---- rows of two columns

pub rows-with : (n : Name) (ns : List Name) (vs : List Value) (x v : Layout)
    → array_items x ≡ map (part_at 0) vs → array_items v ≡ map (part_at 1) vs
    → zip2 (field_value n ns) (array_items x) (array_items v) ≡ map (end_value n ns) vs
rows-with n ns vs x v e f = zip2_of_maps (field_value n ns) (part_at 0) (part_at 1) vs e f

-- what the first ends at is a record
pub right-record : (d : ℕ) (ds : List Datum) (t : DataType) → is_wrong d ds ≡ false
    → t ≡ end_of 0 d ds → is_record (present t) ≡ true
right-record d ds t r e =
    by (is_record (present t)) (ap (λ u. not (is_record (present u))) e ∙ r)
  where
    by : (b : Bool) → not b ≡ false → b ≡ true
    by true f = refl
    by false f = cc

-- the type of the result, by the types of the columns
pub type-joined : (n : Name) (d : ℕ) (ds : List Datum) (t x v : DataType)
    → t ≡ over_type (pair_type true (Some d) ds) (field_type n x v) → x ≡ end_of 0 d ds
    → v ≡ end_of 1 d ds → t ≡ with_type n d ds
type-joined n d ds t x v e f g =
    e ∙ ap₂ (λ a b. over_type (pair_type true (Some d) ds) (field_type n a b)) f g

-- the items at the ends, by the columns
pub ends-joined : (n : Name) (d : ℕ) (ds : List Datum) (vs us : List Value) (x v : Layout)
    → us ≡ zip2 (field_value n (names_of_fields (present (array_type x)))) (array_items x)
    (array_items v)
    → array_type x ≡ end_of 0 d ds → array_items x ≡ map (part_at 0) vs
    → array_items v ≡ map (part_at 1) vs
    → us ≡ map (end_value n (names_of_fields (present (end_of 0 d ds)))) vs
ends-joined n d ds vs us x v e f g h =
    e ∙ ap (λ t. zip2 (field_value n (names_of_fields (present t))) (array_items x)
    (array_items v)) f
    ∙ rows-with n (names_of_fields (present (end_of 0 d ds))) vs x v g h

pub few-leaves : (k : ℕ) (d : ℕ) (xs : List Operand) (ys : List Layout) → length xs ≡ 2 → k < 2
    → map array_type ys ≡ leaf_types (Some d) (all_data xs) → k < length ys
few-leaves k d xs ys e l h = omega (arith, columns-length d xs ys h, e, l)

-- a limit that is judged is none
pub typ-given : (t u : DataType) → refused_or (limit_refused t) t ≡ Ok u
    → (limit_refused t ≡ None) × (t ≡ u)
typ-given t u h = refused_or-Ok (limit_refused t) t u h

pub paired-given : (o : Option Fault) (b single : Bool) → refused_or o (not b) ≡ Ok single
    → (o ≡ None) × (not b ≡ single)
paired-given o b single h = refused_or-Ok o (not b) single h
