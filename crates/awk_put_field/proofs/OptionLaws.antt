-- Records, of which some are null, with a field: those that are there, under their option.
use Rattle.std.proofs.Common.{◌≡◌, ℕ, suc, true, refl, ap, sym, subst, ◌∙◌, arith}
use Rattle.std.specs.Prelude.{List, [], ◌∷◌, map, filter, length, pos, negsuc}
use Rattle.std.specs.Simd.Lanes.{zip2}
use Rattle.awk_types.specs.DataType.{Name, DataType, unknown, leaf, var, reg, rec, tup, opt, uni}
use Rattle.awk_types.specs.Parts.{is_record}
use Rattle.awk_types.specs.Simple.{present, in_option}
use Rattle.awk_types.specs.Value.{Value, int, truth, null, list, row, alt, values_from}
use Rattle.awk_columns.specs.Columns.{is_present, option_index}
use Rattle.awk_lanes.specs.Column.{Column}
use Rattle.awk_lanes.specs.Counted.{before}
use Rattle.awk_lanes.specs.Places.{size_of, IsOptionKind, IsOptionalIndex}
use Rattle.awk_lanes.specs.declared.kind.Kind.TheVariants.{I64}
use Rattle.awk_layout.proofs.ArrayItems.{length-array_items}
use Rattle.awk_layout.specs.Layout.{Layout, optional}
use Rattle.awk_layout.specs.Typing.{array_type, array_items}
use Rattle.awk_layout.specs.Valid.{len}
use Rattle.awk_columns.proofs.PresentItems.{length-option_index}
use Rattle.awk_frames.specs.Shape.{index_column}
use Rattle.awk_frames.proofs.FramedItems.{nulls-framed}
use Rattle.awk_frames.proofs.FrameLaws.{index_into}
use Rattle.awk_put_field.specs.Field.{field_type, end_value, field_value}
use Rattle.awk_put_field.specs.There.{beside_present, there_length}
use Rattle.awk_put_field.proofs.ThereLaws.{count-there, length-beside}

-- a row of a record that is there and its field's value, or null
abbrev pub if_there : Value → Value → Value
if_there null w = null
if_there v w = row (values_from (v ∷ w ∷ []))

abbrev pub all_there : List Value → List Value → List Value
all_there vs ws = zip2 if_there vs ws

pub index-all_there : (n : ℕ) (vs ws : List Value) → length ws ≡ length vs
    → option_index n (all_there vs ws) ≡ option_index n vs
index-all_there n [] ws e = refl
index-all_there n (v ∷ vs) [] e = absurd (omega (arith, e))
index-all_there n (null ∷ vs) (w ∷ ws) e =
    ap (λ zs. negsuc 0 ∷ zs) (index-all_there n vs ws (omega (arith, e)))
index-all_there n (int z ∷ vs) (w ∷ ws) e =
    ap (λ zs. pos n ∷ zs) (index-all_there (suc n) vs ws (omega (arith, e)))
index-all_there n (truth b ∷ vs) (w ∷ ws) e =
    ap (λ zs. pos n ∷ zs) (index-all_there (suc n) vs ws (omega (arith, e)))
index-all_there n (list us ∷ vs) (w ∷ ws) e =
    ap (λ zs. pos n ∷ zs) (index-all_there (suc n) vs ws (omega (arith, e)))
index-all_there n (row us ∷ vs) (w ∷ ws) e =
    ap (λ zs. pos n ∷ zs) (index-all_there (suc n) vs ws (omega (arith, e)))
index-all_there n (alt k u ∷ vs) (w ∷ ws) e =
    ap (λ zs. pos n ∷ zs) (index-all_there (suc n) vs ws (omega (arith, e)))

module _ (n : Name) (ns : List Name) where
  -- the fields of the records that are there
  pub present-all_there : (vs ws : List Value) → length ws ≡ length vs
      → map (end_value n ns) (filter is_present (all_there vs ws))
      ≡ zip2 (field_value n ns) (filter is_present vs) (beside_present vs ws)
  present-all_there [] ws e = refl
  present-all_there (v ∷ vs) [] e = absurd (omega (arith, e))
  present-all_there (null ∷ vs) (w ∷ ws) e = present-all_there vs ws (omega (arith, e))
  present-all_there (int z ∷ vs) (w ∷ ws) e =
      ap (λ us. field_value n ns (int z) w ∷ us) (present-all_there vs ws (omega (arith, e)))
  present-all_there (truth b ∷ vs) (w ∷ ws) e =
      ap (λ us. field_value n ns (truth b) w ∷ us) (present-all_there vs ws (omega (arith, e)))
  present-all_there (list xs ∷ vs) (w ∷ ws) e =
      ap (λ us. field_value n ns (list xs) w ∷ us) (present-all_there vs ws (omega (arith, e)))
  present-all_there (row xs ∷ vs) (w ∷ ws) e =
      ap (λ us. field_value n ns (row xs) w ∷ us) (present-all_there vs ws (omega (arith, e)))
  present-all_there (alt k x ∷ vs) (w ∷ ws) e =
      ap (λ us. field_value n ns (alt k x) w ∷ us) (present-all_there vs ws (omega (arith, e)))

  -- and those of all records
  pub fields-all_there : (vs ws : List Value) → length ws ≡ length vs
      → map (in_option (end_value n ns)) (all_there vs ws) ≡ zip2 (field_value n ns) vs ws
  fields-all_there [] ws e = refl
  fields-all_there (v ∷ vs) [] e = absurd (omega (arith, e))
  fields-all_there (null ∷ vs) (w ∷ ws) e =
      ap (λ us. null ∷ us) (fields-all_there vs ws (omega (arith, e)))
  fields-all_there (int z ∷ vs) (w ∷ ws) e =
      ap (λ us. field_value n ns (int z) w ∷ us) (fields-all_there vs ws (omega (arith, e)))
  fields-all_there (truth b ∷ vs) (w ∷ ws) e =
      ap (λ us. field_value n ns (truth b) w ∷ us) (fields-all_there vs ws (omega (arith, e)))
  fields-all_there (list xs ∷ vs) (w ∷ ws) e =
      ap (λ us. field_value n ns (list xs) w ∷ us) (fields-all_there vs ws (omega (arith, e)))
  fields-all_there (row xs ∷ vs) (w ∷ ws) e =
      ap (λ us. field_value n ns (row xs) w ∷ us) (fields-all_there vs ws (omega (arith, e)))
  fields-all_there (alt k x ∷ vs) (w ∷ ws) e =
      ap (λ us. field_value n ns (alt k x) w ∷ us) (fields-all_there vs ws (omega (arith, e)))

-- ---- columns: x is y under the index of an option

module _ (x y : Layout) (j : Column) (e : j ≡ index_column (array_items x))
    (p : array_items y ≡ filter is_present (array_items x)) where
  pub index-kind : IsOptionKind j.kind
  index-kind = subst (λ (c : Column). IsOptionKind c.kind) (sym e) tt

  pub index-size : size_of j ≡ len x
  index-size = ap size_of e ∙ length-option_index 0 (array_items x) ∙ length-array_items x

  pub content-count : len y ≡ before (there_length j) (size_of j)
  content-count =
      sym (length-array_items y) ∙ ap length p ∙ sym (count-there j (array_items x) e)

  -- z has as many items as y
  pub index-into : (z : Layout) → len z ≡ len y → IsOptionalIndex j (len z)
  index-into z l =
      subst (λ c. IsOptionalIndex c (len z)) (sym e)
      (index_into (array_items x) (len z)
      (l ∙ sym (length-array_items y) ∙ ap length p))

  module _ (v t : Layout) (l : len v ≡ len x)
      (b : array_items t ≡ beside_present (array_items x) (array_items v)) where
    long : length (array_items v) ≡ length (array_items x)
    long = length-array_items v ∙ l ∙ sym (length-array_items x)

    pub there-size : len t ≡ len y
    there-size =
        sym (length-array_items t) ∙ ap length b
        ∙ length-beside (array_items x) (array_items v) long
        ∙ sym (ap length p) ∙ length-array_items y

    -- the records that are there with the field, under the option
    pub items-optional : (n : Name) (ns : List Name) (z : Layout)
        → array_items z ≡ zip2 (field_value n ns) (array_items y) (array_items t)
        → array_items (optional j z)
        ≡ zip2 (field_value n ns) (array_items x) (array_items v)
    items-optional n ns z h =
        let us = all_there (array_items x) (array_items v) in
        ap (λ c. array_items (optional c z))
        (e ∙ ap (λ zs. record { kind = I64; items = zs })
        (sym (index-all_there 0 (array_items x) (array_items v) long)))
        ∙ nulls-framed (end_value n ns) us z
        (h ∙ ap (λ ws. zip2 (field_value n ns) ws (array_items t)) p
        ∙ ap (zip2 (field_value n ns) (filter is_present (array_items x))) b
        ∙ sym (present-all_there n ns (array_items x) (array_items v) long))
        ∙ fields-all_there n ns (array_items x) (array_items v) long

record-field : (n : Name) (t u : DataType) → is_record t ≡ true
    → opt (present (field_type n t u)) ≡ field_type n (opt t) u
record-field n (rec ns ts) u r = refl
record-field n unknown u r = cc
record-field n (leaf q) u r = cc
record-field n (var t) u r = cc
record-field n (reg k t) u r = cc
record-field n (tup ts) u r = cc
record-field n (opt t) u r = cc
record-field n (uni ts) u r = cc

pub type-optional : (n : Name) (x y v t z : Layout) (j : Column)
    → array_type x ≡ opt (array_type y) → is_record (array_type y) ≡ true
    → array_type t ≡ array_type v → array_type z ≡ field_type n (array_type y) (array_type t)
    → array_type (optional j z) ≡ field_type n (array_type x) (array_type v)
type-optional n x y v t z j e r f g =
    ap (λ w. opt (present w)) (g ∙ ap (field_type n (array_type y)) f)
    ∙ record-field n (array_type y) (array_type v) r
    ∙ ap (λ w. field_type n w (array_type v)) (sym e)
