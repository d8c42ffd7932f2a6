-- The texts of types and of data, on worked examples by computing.
use Rattle.std.proofs.Common.{◌≡◌, [], ◌∷◌, codes, refl}
use Rattle.std.specs.Fmt.{digits}
use Rattle.awk_types.specs.declared.primitive.Primitive.TheVariants.{Bool as Truths, I8, I64, U8}
use Rattle.awk_types.specs.DataType.{DataType, unknown, leaf, var, reg, rec, tup, opt, uni}
use Rattle.awk_types.specs.DataType.{no_types, type}
use Rattle.awk_types.specs.Value.{null, list, no_values}
use Rattle.awk_types.specs.Datum.{arr, one}
use Rattle.awk_text.specs.TypeText.{type_text, datum_type_text}

abbrev muon : DataType
muon = rec (codes "pt" ∷ codes "charge" ∷ []) (type (leaf I64) (type (leaf I8) no_types))

jagged_records : datum_type_text
    (arr (var muon) (list no_values ∷ list no_values ∷ list no_values ∷ list no_values ∷ []))
    ≡ codes "4 * var * {pt: int64, charge: int8}"
unfolding digits
jagged_records = refl

alternatives : datum_type_text
    (arr (uni (type (leaf I64) (type (leaf Truths) (type (leaf I8) no_types))))
    (null ∷ null ∷ null ∷ [])) ≡ codes "3 * union[int64, bool, int8]"
unfolding digits
alternatives = refl

optional_numbers : datum_type_text (arr (opt (leaf I64)) (null ∷ null ∷ null ∷ null ∷ []))
    ≡ codes "4 * ?int64"
unfolding digits
optional_numbers = refl

no_items : datum_type_text (arr unknown []) ≡ codes "0 * unknown"
unfolding digits
no_items = refl

-- a single value stands alone
optional_list : datum_type_text (one (opt (var (leaf I64))) null) ≡ codes "option[var * int64]"
optional_list = refl

optional_regular : type_text (opt (reg 12 (opt (leaf U8)))) ≡ codes "option[12 * ?uint8]"
unfolding digits
optional_regular = refl

optional_row : type_text (opt (tup (type (leaf I64) (type (var (leaf I8)) no_types))))
    ≡ codes "?(int64, var * int8)"
optional_row = refl

-- names of letters, digits and `_` that begin with no digit are bare, all others quoted
names : type_text (rec (codes "aZ_9" ∷ codes "_" ∷ codes "0" ∷ [] ∷ codes "a b" ∷ codes "\"" ∷ [])
    (type unknown
    (type unknown (type unknown (type unknown (type unknown (type unknown no_types)))))))
    ≡ codes "{aZ_9: unknown, _: unknown, \"0\": unknown, \"\": unknown, \"a b\": unknown, \"\\\"\": unknown}"
names = refl

no_fields : type_text (rec [] no_types) ≡ codes "{}"
no_fields = refl

no_places : type_text (tup no_types) ≡ codes "()"
no_places = refl
