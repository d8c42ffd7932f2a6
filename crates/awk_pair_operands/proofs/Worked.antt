-- Worked examples of pairing, each checked by computing.
use Rattle.std.specs.Prelude.{◌≡◌, ℕ, List, [], ◌∷◌, pos, negsuc, ℤ, Some, None, Ok}
use Rattle.std.specs.Prelude.{Err}
use Rattle.std.specs.Prelude.{true, false, refl}
use Rattle.awk_types.specs.declared.primitive.Primitive.TheVariants.{Bool, I64, U64}
use Rattle.awk_types.specs.DataType.{DataType, unknown, leaf, var, reg, tup, opt, types_from}
use Rattle.awk_types.specs.Value.{Value, int, truth, null, list, row, values_from}
use Rattle.awk_types.specs.Datum.{Datum, arr, one}
use Rattle.awk_types.specs.declared.fault.Fault.TheVariants.{WrongType, Lengths}
use Rattle.awk_layout.specs.declared.datum.Operand.TheVariants.{Literal}
use Rattle.awk_lanes.specs.Column.{Column}
use Rattle.awk_lanes.specs.declared.kind.Kind.TheVariants as kind
use Rattle.awk_layout.specs.Single.{own_datum}
use Rattle.awk_pair_operands.specs.Pairs.{pair_of, pair_type, pair_values}
use Rattle.awk_frames.specs.Shape.{shape, ends, leaves, items, missing}

abbrev int64 : DataType
int64 = leaf I64

abbrev n : ℕ → Value
n k = int (pos k)

abbrev lists : List Value → Value
lists vs = list (values_from vs)

abbrev rows : Value → Value → Value
rows v w = row (values_from (v ∷ w ∷ []))

abbrev two : DataType → DataType → DataType
two t u = tup (types_from (t ∷ u ∷ []))

-- [[1,2],[3]]
abbrev jagged : Datum
jagged = arr (var int64) (lists (n 1 ∷ n 2 ∷ []) ∷ lists (n 3 ∷ []) ∷ [])

-- [[1,2,3],[],[4,5]]
abbrev longer : Datum
longer =
    arr (var int64)
    (lists (n 1 ∷ n 2 ∷ n 3 ∷ []) ∷ lists [] ∷ lists (n 4 ∷ n 5 ∷ []) ∷ [])

-- [[1,null],null,[3]]
abbrev holes : Datum
holes =
    arr (opt (var (opt int64)))
    (lists (n 1 ∷ null ∷ []) ∷ null ∷ lists (n 3 ∷ []) ∷ [])

-- [[1,null],null]
abbrev holes2 : Datum
holes2 = arr (opt (var (opt int64))) (lists (n 1 ∷ null ∷ []) ∷ null ∷ [])

abbrev lane : List ℤ → Column
lane zs = record { kind = kind.I64; items = zs }

-- [1,null,3] and [true,false,true]
abbrev optional : Datum
optional = arr (opt int64) (n 1 ∷ null ∷ n 3 ∷ [])

abbrev truths : Datum
truths = arr (leaf Bool) (truth true ∷ truth false ∷ truth true ∷ [])

-- an operand that is no list is repeated in each list
repeats : pair_of false None (jagged ∷ arr int64 (n 10 ∷ n 20 ∷ []) ∷ [])
    ≡ Ok (arr (var (two int64 int64))
    (lists (rows (n 1) (n 10) ∷ rows (n 2) (n 10) ∷ []) ∷ lists (rows (n 3) (n 20) ∷ []) ∷ []))
repeats = refl

unequal_arrays : pair_of false None (jagged ∷ arr int64 (n 1 ∷ n 2 ∷ n 3 ∷ []) ∷ []) ≡ Err Lengths
unequal_arrays = refl

to_depth_2 : pair_of false (Some 2) (longer ∷ truths ∷ []) ≡ Ok (arr (var (two int64 (leaf Bool)))
    (lists (rows (n 1) (truth true) ∷ rows (n 2) (truth true) ∷ rows (n 3) (truth true) ∷ [])
    ∷ lists [] ∷ lists (rows (n 4) (truth true) ∷ rows (n 5) (truth true) ∷ []) ∷ []))
to_depth_2 = refl

-- at a depth nulls stay in the rows
to_depth_1 : pair_of false (Some 1) (optional ∷ truths ∷ []) ≡ Ok (arr (two (opt int64) (leaf Bool))
    (rows (n 1) (truth true) ∷ rows null (truth false) ∷ rows (n 3) (truth true) ∷ []))
to_depth_1 = refl

-- at the leaves a null in any operand gives null
to_leaf : pair_of false None (optional ∷ truths ∷ []) ≡ Ok (arr (opt (two int64 (leaf Bool)))
    (rows (n 1) (truth true) ∷ null ∷ rows (n 3) (truth true) ∷ []))
to_leaf = refl

-- two literals, the second above the greatest i64
two_literals : pair_of false None (own_datum (Literal (pos 1))
    ∷ own_datum (Literal (pos 9223372036854775808)) ∷ [])
    ≡ Ok (one (two int64 (leaf U64)) (rows (n 1) (n 9223372036854775808)))
two_literals = refl

unequal_lists : pair_of false None (longer ∷ holes ∷ []) ≡ Err Lengths
unequal_lists = refl

-- an optional operand that is no list is used up at the level of the lists
used_up : pair_of false None (jagged ∷ arr (opt int64) (n 10 ∷ null ∷ []) ∷ [])
    ≡ Ok (arr (opt (var (two int64 int64)))
    (lists (rows (n 1) (n 10) ∷ rows (n 2) (n 10) ∷ []) ∷ null ∷ []))
used_up = refl

-- a single list beside an array stands in each row, where its length must agree
beside_single : pair_of false None (jagged ∷ one (var int64) (lists (n 7 ∷ [])) ∷ []) ≡ Err Lengths
beside_single = refl

-- unknown opens no level alone, and counts as lists of any length where another operand opens one
beside_unknown : pair_of false None (arr (reg 3 int64) [] ∷ arr unknown [] ∷ [])
    ≡ Ok (arr (var (two int64 unknown)) [])
beside_unknown = refl

unknowns : pair_of false (Some 9) (arr unknown [] ∷ arr (leaf Bool) [] ∷ [])
    ≡ Ok (arr (two unknown (leaf Bool)) [])
unknowns = refl

all_sized : pair_type false None (arr (reg 3 int64) [] ∷ arr (opt (reg 3 int64)) [] ∷ arr int64 []
    ∷ [])
    ≡ opt (reg 3 (tup (types_from (int64 ∷ int64 ∷ int64 ∷ []))))
all_sized = refl

sizes_differ : pair_type false None (arr (reg 3 int64) [] ∷ arr (reg 2 int64) [] ∷ [])
    ≡ var (two int64 int64)
sizes_differ = refl

-- a type fault comes before lengths, and a tuple is no leaf
wrong_leaf : pair_of false None (jagged ∷ arr (var (tup (types_from []))) [] ∷ []) ≡ Err WrongType
wrong_leaf = refl

-- lengths deep down come before the end, at every depth asked for
deep_lengths : pair_of false (Some 3) (arr (var (var int64)) (lists (lists (n 1 ∷ []) ∷ []) ∷ [])
    ∷ arr (var (var int64)) (lists (lists [] ∷ []) ∷ []) ∷ []) ≡ Err Lengths
deep_lengths = refl

not_so_deep : pair_of false (Some 2) (arr (var (var int64)) (lists (lists (n 1 ∷ []) ∷ []) ∷ [])
    ∷ arr (var (var int64)) (lists (lists [] ∷ []) ∷ []) ∷ [])
    ≡ Ok (arr (var (two (var int64) (var int64))) (lists (rows (lists (n 1 ∷ [])) (lists []) ∷ [])
    ∷ []))
not_so_deep = refl

-- a null row is as long as any
null_row : pair_of false None (arr (opt (var int64)) (null ∷ lists (n 3 ∷ []) ∷ []) ∷ jagged ∷ [])
    ≡ Ok (arr (opt (var (two int64 int64))) (null ∷ lists (rows (n 3) (n 3) ∷ []) ∷ []))
null_row = refl

-- single values alone are paired to one
singles : pair_of false (Some 1) (one (var int64) (lists (n 1 ∷ n 2 ∷ [])) ∷ one (opt int64) null
    ∷ [])
    ≡ Ok (one (opt (var (two int64 int64))) null)
singles = refl

-- lists that are shared: their offsets, and the rows at the ends
shape_of_lists : shape (pair_type false None (jagged ∷ holes2 ∷ []))
    (pair_values false None (jagged ∷ holes2 ∷ []))
    ≡ missing (lane (pos 0 ∷ negsuc 0 ∷ [])) (items (lane (pos 0 ∷ pos 2 ∷ [])) None
    (missing (lane (pos 0 ∷ negsuc 0 ∷ [])) (leaves 1)))
shape_of_lists = refl

ends_of_lists : ends (pair_type false None (jagged ∷ holes2 ∷ []))
    (pair_values false None (jagged ∷ holes2 ∷ []))
    ≡ rows (n 1) (n 1) ∷ []
ends_of_lists = refl

-- ---- lists of size 1

-- [[10],[20]]
abbrev singles_of_10 : Datum
singles_of_10 = arr (reg 1 int64) (lists (n 10 ∷ []) ∷ lists (n 20 ∷ []) ∷ [])

-- [[1,2,3],[4]]
abbrev three_and_one : Datum
three_and_one = arr (var int64) (lists (n 1 ∷ n 2 ∷ n 3 ∷ []) ∷ lists (n 4 ∷ []) ∷ [])

-- [[1,2,3],[4,5,6]]
abbrev threes : Datum
threes =
    arr (reg 3 int64)
    (lists (n 1 ∷ n 2 ∷ n 3 ∷ []) ∷ lists (n 4 ∷ n 5 ∷ n 6 ∷ []) ∷ [])

-- the one item stands at every place
stretched : pair_of false None (singles_of_10 ∷ three_and_one ∷ [])
    ≡ Ok (arr (var (two int64 int64))
    (lists (rows (n 10) (n 1) ∷ rows (n 10) (n 2) ∷ rows (n 10) (n 3) ∷ [])
    ∷ lists (rows (n 20) (n 4) ∷ []) ∷ []))
stretched = refl

stretched_to_3 : pair_of false None (singles_of_10 ∷ threes ∷ [])
    ≡ Ok (arr (reg 3 (two int64 int64))
    (lists (rows (n 10) (n 1) ∷ rows (n 10) (n 2) ∷ rows (n 10) (n 3) ∷ [])
    ∷ lists (rows (n 20) (n 4) ∷ rows (n 20) (n 5) ∷ rows (n 20) (n 6) ∷ []) ∷ []))
stretched_to_3 = refl

-- where all lists are of size 1 none is stretched
both_of_1 : pair_of false (Some 2) (singles_of_10 ∷ singles_of_10 ∷ [])
    ≡ Ok (arr (reg 1 (two int64 int64))
    (lists (rows (n 10) (n 10) ∷ []) ∷ lists (rows (n 20) (n 20) ∷ []) ∷ []))
both_of_1 = refl

-- those of the first operand are not stretched where they are to be kept
kept : pair_of true None (singles_of_10 ∷ three_and_one ∷ []) ≡ Err Lengths
kept = refl

other_stretched : pair_of true (Some 2) (three_and_one ∷ singles_of_10 ∷ [])
    ≡ Ok (arr (var (two int64 int64))
    (lists (rows (n 1) (n 10) ∷ rows (n 2) (n 10) ∷ rows (n 3) (n 10) ∷ [])
    ∷ lists (rows (n 4) (n 20) ∷ []) ∷ []))
other_stretched = refl

-- beside unknown, which counts as lists of any length
stretched_unknown : pair_of false None (arr (reg 1 int64) [] ∷ arr unknown [] ∷ [])
    ≡ Ok (arr (var (two int64 unknown)) [])
stretched_unknown = refl

-- lists of size 0 are too
empty_lists : pair_of false None (arr (reg 1 int64) (lists (n 7 ∷ []) ∷ [])
    ∷ arr (reg 0 int64) (lists [] ∷ []) ∷ []) ≡ Ok (arr (reg 0 (two int64 int64)) (lists [] ∷ []))
empty_lists = refl
