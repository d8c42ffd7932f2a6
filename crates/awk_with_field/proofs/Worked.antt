-- Worked examples of records with a field more, each checked by computing.
use Rattle.std.specs.Prelude.{◌≡◌, ℕ, List, [], ◌∷◌, pos, Ok, Err, true, false, refl}
use Rattle.awk_types.specs.declared.primitive.Primitive.TheVariants.{Bool, I64}
use Rattle.awk_types.specs.DataType.{Name, DataType, DataTypes, unknown, leaf, var, reg, rec, tup}
use Rattle.awk_types.specs.DataType.{opt, types_from}
use Rattle.awk_types.specs.Value.{Value, int, truth, null, list, row, values_from}
use Rattle.awk_types.specs.Datum.{Datum, arr, one}
use Rattle.awk_types.specs.declared.fault.Fault.TheVariants.{WrongType, Lengths}
use Rattle.awk_with_field.specs.WithField.{with_field_of}

abbrev int64 : DataType
int64 = leaf I64

abbrev n : ℕ → Value
n k = int (pos k)

abbrev lists : List Value → Value
lists vs = list (values_from vs)

abbrev single : Value → Value
single v = row (values_from (v ∷ []))

abbrev two : Value → Value → Value
two v w = row (values_from (v ∷ w ∷ []))

abbrev types : DataType → DataType → DataTypes
types t u = types_from (t ∷ u ∷ [])

-- p, q, x, y and z
abbrev p : Name
p = 112 ∷ []

abbrev q : Name
q = 113 ∷ []

abbrev x : Name
x = 120 ∷ []

abbrev y : Name
y = 121 ∷ []

abbrev z : Name
z = 122 ∷ []

-- [1,2] and [[1,2,3],[4]]
abbrev a : Datum
a = arr int64 (n 1 ∷ n 2 ∷ [])

abbrev more : Datum
more = arr (var int64) (lists (n 1 ∷ n 2 ∷ n 3 ∷ []) ∷ lists (n 4 ∷ []) ∷ [])

-- [{"x":1,"y":[1,2]},{"x":2,"y":[]}]
abbrev r : Datum
r = arr (rec (x ∷ y ∷ []) (types int64 (var int64)))
    (two (n 1) (lists (n 1 ∷ n 2 ∷ [])) ∷ two (n 2) (lists []) ∷ [])

-- records of one field p
abbrev only : DataType
only = rec (p ∷ []) (types_from (int64 ∷ []))

-- a new field comes last
new_field : with_field_of z r a
    ≡ Ok (arr (rec (x ∷ y ∷ z ∷ []) (types_from (int64 ∷ var int64 ∷ int64 ∷ [])))
    (row (values_from (n 1 ∷ lists (n 1 ∷ n 2 ∷ []) ∷ n 1 ∷ []))
    ∷ row (values_from (n 2 ∷ lists [] ∷ n 2 ∷ [])) ∷ []))
new_field = refl

-- one that is there keeps its place
same_place : with_field_of x r (arr (leaf Bool) (truth true ∷ truth false ∷ []))
    ≡ Ok (arr (rec (x ∷ y ∷ []) (types (leaf Bool) (var int64)))
    (two (truth true) (lists (n 1 ∷ n 2 ∷ [])) ∷ two (truth false) (lists []) ∷ []))
same_place = refl

-- a null record stays null, and a null of the field is one of its values
null_record : with_field_of q (arr (opt only) (single (n 1) ∷ null ∷ single (n 3) ∷ []))
    (arr (opt int64) (n 7 ∷ n 8 ∷ null ∷ []))
    ≡ Ok (arr (opt (rec (p ∷ q ∷ []) (types int64 (opt int64))))
    (two (n 1) (n 7) ∷ null ∷ two (n 3) null ∷ []))
null_record = refl

-- lists of records pair with lists, and with what is none, which stands at each record
abbrev rows : Datum
rows = arr (var only) (lists (single (n 1) ∷ single (n 2) ∷ []) ∷ lists (single (n 3) ∷ []) ∷ [])

each_record : with_field_of q rows a
    ≡ Ok (arr (var (rec (p ∷ q ∷ []) (types int64 int64)))
    (lists (two (n 1) (n 1) ∷ two (n 2) (n 1) ∷ []) ∷ lists (two (n 3) (n 2) ∷ []) ∷ []))
each_record = refl

-- a null list of either is null
null_list : with_field_of q rows (arr (opt (var int64)) (null ∷ lists (n 4 ∷ []) ∷ []))
    ≡ Ok (arr (opt (var (rec (p ∷ q ∷ []) (types int64 int64))))
    (null ∷ lists (two (n 3) (n 4) ∷ []) ∷ []))
null_list = refl

-- lists of records are not stretched, and lists of size 1 beside them are
abbrev single_records : Datum
single_records =
    arr (reg 1 only) (lists (single (n 10) ∷ []) ∷ lists (single (n 20) ∷ []) ∷ [])

kept_lists : with_field_of q single_records more ≡ Err Lengths
kept_lists = refl

stretched : with_field_of q rows (arr (reg 1 int64) (lists (n 7 ∷ []) ∷ lists (n 8 ∷ []) ∷ []))
    ≡ Ok (arr (var (rec (p ∷ q ∷ []) (types int64 int64)))
    (lists (two (n 1) (n 7) ∷ two (n 2) (n 7) ∷ []) ∷ lists (two (n 3) (n 8) ∷ []) ∷ []))
stretched = refl

-- beside a single record an array is one list
list_field : with_field_of q (one only (single (n 1))) a
    ≡ Ok (one (rec (p ∷ q ∷ []) (types int64 (var int64))) (two (n 1) (lists (n 1 ∷ n 2 ∷ []))))
list_field = refl

no_record : with_field_of q a a ≡ Err WrongType
no_record = refl

unknown_end : with_field_of q (arr unknown []) (arr unknown []) ≡ Err WrongType
unknown_end = refl

tuple_end : with_field_of q (arr (tup (types int64 int64)) []) a ≡ Err WrongType
tuple_end = refl
