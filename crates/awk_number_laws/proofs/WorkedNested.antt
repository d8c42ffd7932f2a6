-- Worked examples of the laws of whole arrays of lists, each checked by computing.
use Rattle.std.specs.Prelude.{◌≡◌, refl, ℤ, pos, negsuc, true, false, List, [], ◌∷◌, ◌++◌, map}
use Rattle.std.specs.Prelude.{length}
use Rattle.std.specs.Prelude.{Ok, Err}
use Rattle.awk_types.specs.DataType.{DataType, unknown, leaf, var, reg, opt}
use Rattle.awk_types.specs.Datum.{Datum, arr, one}
use Rattle.awk_types.specs.Value.{Value, int, truth, null, list, row, values_from}
use Rattle.awk_types.specs.declared.fault.Fault.TheVariants.{Lengths}
use Rattle.awk_types.specs.declared.primitive.Primitive.TheVariants.{I8, I64}
use Rattle.awk_types.specs.declared.primitive.Primitive.TheVariants.{Bool as Truths}
use Rattle.awk_kernels.specs.declared.operation.Arith.TheVariants.{Add, FloorDiv, Rem}
use Rattle.awk_kernels.specs.declared.operation.Compare.TheVariants.{Lt, Ge}
use Rattle.awk_layout.specs.Filler.{datum, literal}
use Rattle.awk_kernels.specs.Kernels.{total}
use Rattle.awk_leaves.specs.Values.{binary_values}
use Rattle.awk_leaves.specs.declared.leaf_type.LeafType.TheVariants.{Of}
use Rattle.awk_leaves.specs.declared.operation.Binary.TheVariants.{Calculate, Test}
use Rattle.awk_leaves.specs.declared.operation.Unary.TheVariants.{Not, Negate}
use Rattle.awk_present.specs.Numbers.{numbers}
use Rattle.awk_reduce.specs.Reduce.{reduce_of}
use Rattle.awk_reduce.specs.Reducers.{reduced}
use Rattle.awk_reduce.specs.declared.reducer.Reducer.TheVariants.{Sum, Max}
use Rattle.awk_order.specs.Sort.{sort_of, argsort_of}
use Rattle.awk_hist.specs.Bins.{bins_type}
use Rattle.awk_hist.specs.Hist.{hist_of, leaves_of}
use Rattle.awk_hist.specs.HistEach.{hist_each_of}
use Rattle.awk_hist.specs.Totals.{counts_total}
use Rattle.awk_jagged.specs.Jagged.{jagged_of}
use Rattle.awk_arith.specs.Binary.{binary_of}
use Rattle.awk_arith.specs.Unary.{unary_of}
use Rattle.awk_choose.specs.Choice.{choose_of}
use Rattle.awk_law_chains.specs.Innermost.{innermost_lists, leaves_in}
use Rattle.awk_number_laws.specs.Leaves.{beside}
use Rattle.awk_number_laws.specs.Reducers.{joined_lists}

abbrev int64 : DataType
int64 = leaf I64

abbrev ints : List ℤ → List Value
ints zs = map (λ z. int z) zs

abbrev items : List Value → Value
items vs = list (values_from vs)

-- [[1,2],[],[3]] and the like
abbrev lists_of : List (List ℤ) → Datum
lists_of zss = arr (var int64) (map (λ zs. items (ints zs)) zss)

abbrev three : Datum
three = lists_of ((pos 1 ∷ pos 2 ∷ []) ∷ [] ∷ (pos 3 ∷ []) ∷ [])

-- ---- leaves

-- [[1,null],[4]] and [[2,3],[4]]
abbrev some_null : Datum
some_null = arr (var (opt int64)) (items (int (pos 1) ∷ null ∷ []) ∷ items (int (pos 4) ∷ []) ∷ [])

abbrev others : Datum
others = lists_of ((pos 2 ∷ pos 3 ∷ []) ∷ (pos 4 ∷ []) ∷ [])

abbrev truths : Value → Value → Datum
truths a b =
    arr (var (opt (leaf Truths))) (items (a ∷ null ∷ []) ∷ items (b ∷ []) ∷ [])

less : binary_of (Test Lt) (datum some_null) (datum others)
    ≡ Ok (truths (truth true) (truth false))
less = refl

not_less : unary_of Not (truths (truth true) (truth false)) ≡ Ok (truths (truth false) (truth true))
not_less = refl

at_least : binary_of (Test Ge) (datum some_null) (datum others)
    ≡ Ok (truths (truth false) (truth true))
at_least = refl

-- of lists where the condition is true of none, and of one item for a whole list
abbrev conditions : Datum
conditions =
    arr (var (leaf Truths))
    (items (truth true ∷ truth false ∷ []) ∷ items [] ∷ items (truth false ∷ []) ∷ [])

chosen : choose_of conditions (datum three) (datum three) ≡ Ok three
chosen = refl

chosen_by_one : choose_of (arr (leaf Truths) (truth true ∷ truth false ∷ truth true ∷ []))
    (datum three) (datum three) ≡ Ok three
chosen_by_one = refl

-- a condition that is deeper makes more of its items
deeper : choose_of (arr (var (leaf Truths)) (items (truth true ∷ truth true ∷ []) ∷ []))
    (datum (arr int64 (ints (pos 5 ∷ [])))) (datum (arr int64 (ints (pos 5 ∷ []))))
    ≡ Ok (lists_of ((pos 5 ∷ pos 5 ∷ []) ∷ []))
deeper = refl

-- and lists of any length, of a condition of such
any_length : choose_of
    (arr (var (leaf Truths)) (items (truth true ∷ truth true ∷ []) ∷ []))
    (datum (arr (reg 2 int64) (items (ints (pos 5 ∷ pos 6 ∷ [])) ∷ [])))
    (datum (arr (reg 2 int64) (items (ints (pos 5 ∷ pos 6 ∷ [])) ∷ [])))
    ≡ Ok (lists_of ((pos 5 ∷ pos 6 ∷ []) ∷ []))
any_length = refl

-- both are x as it is repeated by being paired with the condition
deeper_beside : beside (arr (var (leaf Truths)) (items (truth true ∷ truth true ∷ []) ∷ []))
    (arr int64 (ints (pos 5 ∷ [])))
    ≡ Ok (lists_of ((pos 5 ∷ pos 5 ∷ []) ∷ []))
deeper_beside = refl

any_length_beside : beside
    (arr (var (leaf Truths)) (items (truth true ∷ truth true ∷ []) ∷ []))
    (arr (reg 2 int64) (items (ints (pos 5 ∷ pos 6 ∷ [])) ∷ []))
    ≡ Ok (lists_of ((pos 5 ∷ pos 6 ∷ []) ∷ []))
any_length_beside = refl

-- where the condition is null, so is a leaf, or a whole list that stands beside it
null_leaf : beside (arr (var (opt (leaf Truths))) (items (truth true ∷ null ∷ []) ∷ []))
    (arr int64 (ints (pos 5 ∷ [])))
    ≡ Ok (arr (var (opt int64)) (items (int (pos 5) ∷ null ∷ []) ∷ []))
null_leaf = refl

abbrev one_null : Datum
one_null = arr (opt (leaf Truths)) (truth false ∷ null ∷ truth true ∷ [])

null_list : beside one_null three
    ≡ Ok (arr (opt (var int64))
    (items (ints (pos 1 ∷ pos 2 ∷ [])) ∷ null ∷ items (ints (pos 3 ∷ [])) ∷ []))
null_list = refl

chosen_null_list : choose_of one_null (datum three) (datum three) ≡ beside one_null three
chosen_null_list = refl

-- and what is not paired is refused alike
unequal_beside : beside conditions (lists_of ([] ∷ [] ∷ [] ∷ [])) ≡ Err Lengths
unequal_beside = refl

-- unknown leaves have no sign, and become int64
unknown_minus : unary_of Negate (arr unknown []) ≡ Ok (arr int64 [])
unknown_minus = refl

-- [[-7],[7]] by 2
abbrev sevens : Datum
sevens = lists_of ((negsuc 6 ∷ []) ∷ (pos 7 ∷ []) ∷ [])

quotients : binary_of (Calculate FloorDiv) (datum sevens) (literal (pos 2))
    ≡ Ok (lists_of ((negsuc 3 ∷ []) ∷ (pos 3 ∷ []) ∷ []))
quotients = refl

remainders : binary_of (Calculate Rem) (datum sevens) (literal (pos 2))
    ≡ Ok (lists_of ((pos 1 ∷ []) ∷ (pos 1 ∷ []) ∷ []))
remainders = refl

minus : unary_of Negate three
    ≡ Ok (lists_of ((negsuc 0 ∷ negsuc 1 ∷ []) ∷ [] ∷ (negsuc 2 ∷ []) ∷ []))
minus = refl

minus_minus : unary_of Negate (lists_of ((negsuc 0 ∷ negsuc 1 ∷ []) ∷ [] ∷ (negsuc 2 ∷ []) ∷ []))
    ≡ Ok three
minus_minus = refl

-- [[1,2],[],[3]] and [10,20,30], which stand beside each item of a list
abbrev tens : Datum
tens = arr int64 (ints (pos 10 ∷ pos 20 ∷ pos 30 ∷ []))

sums : binary_of (Calculate Add) (datum three) (datum tens)
    ≡ Ok (lists_of ((pos 11 ∷ pos 12 ∷ []) ∷ [] ∷ (pos 33 ∷ []) ∷ []))
sums = refl

sums_turned : binary_of (Calculate Add) (datum tens) (datum three)
    ≡ Ok (lists_of ((pos 11 ∷ pos 12 ∷ []) ∷ [] ∷ (pos 33 ∷ []) ∷ []))
sums_turned = refl

-- lists that are unequally long are refused either way round
unequal : binary_of (Calculate Add) (datum three) (datum (lists_of ([] ∷ [] ∷ [] ∷ [])))
    ≡ Err Lengths
unequal = refl

unequal_turned : binary_of (Calculate Add) (datum (lists_of ([] ∷ [] ∷ [] ∷ []))) (datum three)
    ≡ Err Lengths
unequal_turned = refl

column_sums : binary_values (Calculate Add) (Of I8) (Of I64) (int (pos 1) ∷ null ∷ [])
    (ints (pos 2 ∷ pos 3 ∷ [])) ≡ Ok (int (pos 3) ∷ null ∷ [])
column_sums = refl

column_sums_turned : binary_values (Calculate Add) (Of I64) (Of I8) (ints (pos 2 ∷ pos 3 ∷ []))
    (int (pos 1) ∷ null ∷ []) ≡ Ok (int (pos 3) ∷ null ∷ [])
column_sums_turned = refl

-- ---- innermost lists

-- [[[1,3],[]],[[2]]]
abbrev deep : Datum
deep =
    arr (var (var int64))
    (items (items (ints (pos 1 ∷ pos 3 ∷ [])) ∷ items [] ∷ [])
    ∷ items (items (ints (pos 2 ∷ [])) ∷ []) ∷ [])

lists_inside : innermost_lists deep ≡ ints (pos 1 ∷ pos 3 ∷ []) ∷ [] ∷ ints (pos 2 ∷ []) ∷ []
lists_inside = refl

greatest : reduce_of Max deep
    ≡ Ok (arr (var (opt int64))
    (items (int (pos 3) ∷ null ∷ []) ∷ items (int (pos 2) ∷ []) ∷ []))
greatest = refl

greatest_each : map (reduced Max int64) (innermost_lists deep)
    ≡ int (pos 3) ∷ null ∷ int (pos 2) ∷ []
greatest_each = refl

greatest_leaves : leaves_in (arr (var (opt int64))
    (items (int (pos 3) ∷ null ∷ []) ∷ items (int (pos 2) ∷ []) ∷ []))
    ≡ ints (pos 3 ∷ pos 2 ∷ [])
greatest_leaves = refl

-- the sums of [1,2] and [4], and the sum of [1,2,4]
joined_sum : reduced Sum int64 (ints (pos 1 ∷ pos 2 ∷ []) ++ ints (pos 4 ∷ []))
    ≡ reduced Sum int64 (ints (pos 3 ∷ pos 4 ∷ []))
joined_sum = refl

-- the sums of [[[1,3],[]],[[2]]] add up to what its leaves do, and summed again too
deep_sums : reduce_of Sum deep
    ≡ Ok (lists_of ((pos 4 ∷ pos 0 ∷ []) ∷ (pos 2 ∷ []) ∷ []))
deep_sums = refl

sums_again : reduce_of Sum (lists_of ((pos 4 ∷ pos 0 ∷ []) ∷ (pos 2 ∷ []) ∷ []))
    ≡ Ok (arr int64 (ints (pos 4 ∷ pos 2 ∷ [])))
sums_again = refl

-- each list of sums adds up to what the lists joined do: [4,0] to what [1,3] does, and [2] alike
joined_deep : joined_lists deep ≡ ints (pos 1 ∷ pos 3 ∷ []) ∷ ints (pos 2 ∷ []) ∷ []
joined_deep = refl

lists_added : map (λ l. total (numbers l)) (joined_lists deep) ≡ pos 4 ∷ pos 2 ∷ []
lists_added = refl

sums_lists_added : map (λ l. total (numbers l))
    (innermost_lists (lists_of ((pos 4 ∷ pos 0 ∷ []) ∷ (pos 2 ∷ []) ∷ [])))
    ≡ pos 4 ∷ pos 2 ∷ []
sums_lists_added = refl

all_added : total (numbers (leaves_in deep)) ≡ pos 6
all_added = refl

sums_added : total (numbers (ints (pos 4 ∷ pos 2 ∷ []))) ≡ pos 6
sums_added = refl

-- ---- order

-- [[3,1],[],[2]]
abbrev unsorted : Datum
unsorted = lists_of ((pos 3 ∷ pos 1 ∷ []) ∷ [] ∷ (pos 2 ∷ []) ∷ [])

sorted : sort_of true unsorted ≡ Ok (lists_of ((pos 1 ∷ pos 3 ∷ []) ∷ [] ∷ (pos 2 ∷ []) ∷ []))
sorted = refl

sorted_places : argsort_of true unsorted
    ≡ Ok (lists_of ((pos 1 ∷ pos 0 ∷ []) ∷ [] ∷ (pos 0 ∷ []) ∷ []))
sorted_places = refl

-- lists that are all of length 2 are of any length where they are picked
abbrev squares : Datum
squares =
    arr (reg 2 int64)
    (items (ints (pos 3 ∷ pos 1 ∷ [])) ∷ items (ints (pos 2 ∷ pos 5 ∷ [])) ∷ [])

abbrev square_places : Datum
square_places =
    arr (reg 2 int64)
    (items (ints (pos 1 ∷ pos 0 ∷ [])) ∷ items (ints (pos 0 ∷ pos 1 ∷ [])) ∷ [])

places_of_squares : argsort_of true squares ≡ Ok square_places
places_of_squares = refl

picked_squares : jagged_of squares square_places
    ≡ Ok (lists_of ((pos 1 ∷ pos 3 ∷ []) ∷ (pos 2 ∷ pos 5 ∷ []) ∷ []))
picked_squares = refl

picked_sorted : jagged_of unsorted (lists_of ((pos 1 ∷ pos 0 ∷ []) ∷ [] ∷ (pos 0 ∷ []) ∷ []))
    ≡ sort_of true unsorted
picked_sorted = refl

-- ---- histograms

abbrev edges : List ℤ
edges = pos 0 ∷ pos 5 ∷ pos 10 ∷ []

-- [[1,7],null,[-3]] has three leaves and a null list
abbrev measured : Datum
measured =
    arr (opt (var int64))
    (items (ints (pos 1 ∷ pos 7 ∷ [])) ∷ null ∷ items (ints (negsuc 2 ∷ [])) ∷ [])

-- counts, under, over, nulls
abbrev histogram : ℤ → ℤ → ℤ → ℤ → ℤ → Datum
histogram a b under over nulls =
    one bins_type
    (row (values_from (items (ints (a ∷ b ∷ [])) ∷ ints (under ∷ over ∷ nulls ∷ []))))

counted : hist_of edges measured ≡ Ok (histogram (pos 1) (pos 1) (pos 1) (pos 0) (pos 1))
counted = refl

four_leaves : length (leaves_of measured) ≡ 4
four_leaves = refl

four_counted : counts_total (histogram (pos 1) (pos 1) (pos 1) (pos 0) (pos 1)) ≡ 4
four_counted = refl

-- of each list there is one, and none of a null list
abbrev row_of_counts : ℤ → ℤ → ℤ → Value
row_of_counts a b under =
    row (values_from (items (ints (a ∷ b ∷ [])) ∷ ints (under ∷ pos 0 ∷ pos 0 ∷ [])))

counted_each : hist_each_of edges measured
    ≡ Ok (arr (opt bins_type)
    (row_of_counts (pos 1) (pos 1) (pos 0) ∷ null ∷ row_of_counts (pos 0) (pos 0) (pos 1) ∷ []))
counted_each = refl

-- [[1,7]] and [[10,2]], and both joined
first_counted : hist_of edges (lists_of ((pos 1 ∷ pos 7 ∷ []) ∷ []))
    ≡ Ok (histogram (pos 1) (pos 1) (pos 0) (pos 0) (pos 0))
first_counted = refl

second_counted : hist_of edges (lists_of ((pos 10 ∷ pos 2 ∷ []) ∷ []))
    ≡ Ok (histogram (pos 1) (pos 0) (pos 0) (pos 1) (pos 0))
second_counted = refl

both_counted : hist_of edges (lists_of ((pos 1 ∷ pos 7 ∷ []) ∷ (pos 10 ∷ pos 2 ∷ []) ∷ []))
    ≡ Ok (histogram (pos 2) (pos 1) (pos 0) (pos 1) (pos 0))
both_counted = refl
