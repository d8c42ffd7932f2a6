-- Worked examples of records made of columns, each checked by computing.
use Rattle.std.specs.Prelude.{◌≡◌, ℕ, List, [], ◌∷◌, pos, Some, None, Ok, Err, true, false, refl}
use Rattle.awk_types.specs.declared.primitive.Primitive.TheVariants.{Bool, I64}
use Rattle.awk_types.specs.DataType.{Name, DataType, DataTypes, leaf, var, reg, rec, tup}
use Rattle.awk_types.specs.DataType.{opt, types_from}
use Rattle.awk_types.specs.Value.{Value, int, truth, null, list, row, values_from}
use Rattle.awk_types.specs.Datum.{Datum, arr, one}
use Rattle.awk_types.specs.declared.fault.Fault.TheVariants.{Lengths}
use Rattle.awk_zip.specs.Zip.{zip_of}

abbrev int64 : DataType
int64 = leaf I64

abbrev n : ℕ → Value
n k = int (pos k)

abbrev lists : List Value → Value
lists vs = list (values_from vs)

abbrev two : Value → Value → Value
two v w = row (values_from (v ∷ w ∷ []))

abbrev types : DataType → DataType → DataTypes
types t u = types_from (t ∷ u ∷ [])

-- p, q, x, y and z
abbrev p : Name
p = 112 ∷ []

abbrev q : Name
q = 113 ∷ []

abbrev x : Name
x = 120 ∷ []

abbrev y : Name
y = 121 ∷ []

abbrev z : Name
z = 122 ∷ []

-- [[1,2,3],[],[4,5]], [true,false,true] and [1,null,3]
abbrev a : Datum
a = arr (var int64)
    (lists (n 1 ∷ n 2 ∷ n 3 ∷ []) ∷ lists [] ∷ lists (n 4 ∷ n 5 ∷ []) ∷ [])

abbrev b : Datum
b = arr (leaf Bool) (truth true ∷ truth false ∷ truth true ∷ [])

abbrev o : Datum
o = arr (opt int64) (n 1 ∷ null ∷ n 3 ∷ [])

-- [{"x":1,"y":[1,2]},{"x":2,"y":[]}]
abbrev r : Datum
r = arr (rec (x ∷ y ∷ []) (types int64 (var int64)))
    (two (n 1) (lists (n 1 ∷ n 2 ∷ [])) ∷ two (n 2) (lists []) ∷ [])

named_rows : zip_of 2 (Some (p ∷ q ∷ [])) (a ∷ b ∷ [])
    ≡ Ok (arr (var (rec (p ∷ q ∷ []) (types int64 (leaf Bool))))
    (lists (two (n 1) (truth true) ∷ two (n 2) (truth true) ∷ two (n 3) (truth true) ∷ [])
    ∷ lists [] ∷ lists (two (n 4) (truth true) ∷ two (n 5) (truth true) ∷ []) ∷ []))
named_rows = refl

-- nulls stay in the rows
tuples : zip_of 1 None (o ∷ b ∷ [])
    ≡ Ok (arr (tup (types (opt int64) (leaf Bool)))
    (two (n 1) (truth true) ∷ two null (truth false) ∷ two (n 3) (truth true) ∷ []))
tuples = refl

-- [[10],[20]] of regular size 1, and [[1,2,3],[4]]
abbrev tens : Datum
tens = arr (reg 1 int64) (lists (n 10 ∷ []) ∷ lists (n 20 ∷ []) ∷ [])

abbrev more : Datum
more = arr (var int64) (lists (n 1 ∷ n 2 ∷ n 3 ∷ []) ∷ lists (n 4 ∷ []) ∷ [])

stretched : zip_of 2 (Some (p ∷ q ∷ [])) (tens ∷ more ∷ [])
    ≡ Ok (arr (var (rec (p ∷ q ∷ []) (types int64 int64)))
    (lists (two (n 10) (n 1) ∷ two (n 10) (n 2) ∷ two (n 10) (n 3) ∷ [])
    ∷ lists (two (n 20) (n 4) ∷ []) ∷ []))
stretched = refl

-- names stay in their order
in_order : zip_of 1 (Some (q ∷ p ∷ [])) (b ∷ b ∷ [])
    ≡ Ok (arr (rec (q ∷ p ∷ []) (types (leaf Bool) (leaf Bool)))
    (two (truth true) (truth true) ∷ two (truth false) (truth false)
    ∷ two (truth true) (truth true) ∷ []))
in_order = refl

unequal : zip_of 1 None (a ∷ tens ∷ []) ≡ Err Lengths
unequal = refl

one_row : zip_of 1 None (one int64 (n 1) ∷ one (opt int64) null ∷ [])
    ≡ Ok (one (tup (types int64 (opt int64))) (two (n 1) null))
one_row = refl
