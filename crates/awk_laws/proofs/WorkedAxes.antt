-- Worked examples of the laws at an axis and row by row, each checked by computing.
use Rattle.std.specs.Prelude.{◌≡◌, ℕ, refl, pos, true, false, List, [], ◌∷◌, map, length}
use Rattle.std.specs.Prelude.{Ok, Err, codes}
use Rattle.awk_types.specs.DataType.{DataType, leaf, var, rec, tup, opt, uni, types_from}
use Rattle.awk_types.specs.Datum.{Datum, arr}
use Rattle.awk_types.specs.Value.{Value, int, truth, null, list, row, alt, values_from}
use Rattle.awk_types.specs.declared.fault.Fault.TheVariants as fault
use Rattle.awk_types.specs.declared.primitive.Primitive.TheVariants.{Bool as Truths, I64}
use Rattle.awk_combi.specs.Combinations.{combinations_of}
use Rattle.awk_layout.specs.Filler.{literal}
use Rattle.awk_fill.specs.FillNone.{fill_none_of}
use Rattle.awk_jagged.specs.Jagged.{jagged_of}
use Rattle.awk_lists.specs.LocalIndex.{local_index_of}
use Rattle.awk_lists.specs.Num.{num_of}
use Rattle.awk_nulls.specs.Firsts.{firsts_of}
use Rattle.awk_laws.specs.Axes.{lists_of}
use Rattle.awk_laws.specs.InPlace.{in_place}
use Rattle.awk_laws.specs.Choices.{binomial}

abbrev int64 : DataType
int64 = leaf I64

abbrev n : ℕ → Value
n k = int (pos k)

abbrev items : List Value → Value
items vs = list (values_from vs)

abbrev numbers : List ℕ → Value
numbers ks = items (map n ks)

-- [[1,2],[],[3]] and the like
abbrev lists : List (List ℕ) → Datum
lists kss = arr (var int64) (map numbers kss)

-- ---- tuples at axis 1

abbrev pair : ℕ → ℕ → Value
pair j k = row (values_from (n j ∷ n k ∷ []))

abbrev pair_type : DataType
pair_type = tup (types_from (int64 ∷ int64 ∷ []))

-- of [[1,2,3],[],[4]]
abbrev three : Datum
three = lists ((1 ∷ 2 ∷ 3 ∷ []) ∷ [] ∷ (4 ∷ []) ∷ [])

abbrev pairs : Datum
pairs =
    arr (var pair_type) (items (pair 1 2 ∷ pair 1 3 ∷ pair 2 3 ∷ []) ∷ items [] ∷ items [] ∷ [])

pairs_in_rows : combinations_of 2 false (pos 1) false three ≡ Ok pairs
pairs_in_rows = refl

rows_of_pairs : lists_of (pos 1) pairs
    ≡ (pair_type, pair 1 2 ∷ pair 1 3 ∷ pair 2 3 ∷ []) ∷ (pair_type, []) ∷ (pair_type, []) ∷ []
rows_of_pairs = refl

counts_of_pairs : map (λ l. length l.1) (lists_of (pos 1) pairs)
    ≡ map (λ l. binomial (length l.1) 2) (lists_of (pos 1) three)
counts_of_pairs = refl

-- ---- nulls at axis 1

filled_rows : fill_none_of
    (arr (var (opt int64)) (items (n 1 ∷ null ∷ []) ∷ items (null ∷ []) ∷ []))
    (literal (pos 0)) (pos 1)
    ≡ Ok (lists ((1 ∷ 0 ∷ []) ∷ (0 ∷ []) ∷ []))
filled_rows = refl

-- ---- first items in records and unions

-- of [{"x":[1,2],"y":[]},null] the first items are [{"x":1,"y":null},null]
abbrev two_fields : DataType → DataType → DataType
two_fields t u = rec (codes "x" ∷ codes "y" ∷ []) (types_from (t ∷ u ∷ []))

abbrev records : Datum
records =
    arr (opt (two_fields (var int64) (var int64)))
    (row (values_from (numbers (1 ∷ 2 ∷ []) ∷ numbers [] ∷ [])) ∷ null ∷ [])

abbrev records_by : DataType → Value → Value → Datum
records_by t v w = arr (opt (two_fields t t)) (row (values_from (v ∷ w ∷ [])) ∷ null ∷ [])

firsts_of_fields : firsts_of (pos 1) records ≡ Ok (records_by (opt int64) (n 1) null)
firsts_of_fields = refl

counts_of_fields : num_of (pos 1) records ≡ Ok (records_by int64 (n 2) (n 0))
counts_of_fields = refl

fields_in_place : in_place (pos 1) records (records_by (opt int64) (n 1) null) ≡ n 1 ∷ null ∷ []
fields_in_place = refl

counts_in_place : in_place (pos 1) records (records_by int64 (n 2) (n 0)) ≡ n 2 ∷ n 0 ∷ []
counts_in_place = refl

-- in a union the null of an empty list is one of the whole, and a first item of a union one of its
-- alternatives: lists of a union of two and lists of lists, of which [] and [true] are among the
-- first, and [[7]] and [] among the second
abbrev either : DataType
either = uni (types_from (int64 ∷ leaf Truths ∷ []))

abbrev unions : Datum
unions =
    arr (uni (types_from (var either ∷ var (var int64) ∷ [])))
    (alt 0 (items []) ∷ alt 0 (items (alt 1 (truth true) ∷ [])) ∷ alt 1 (items (numbers (7 ∷ [])
    ∷ [])) ∷ alt 1 (items []) ∷ [])

abbrev unions_firsts : Datum
unions_firsts =
    arr (opt (uni (types_from (int64 ∷ leaf Truths ∷ var int64 ∷ []))))
    (null ∷ alt 1 (truth true) ∷ alt 2 (numbers (7 ∷ [])) ∷ null ∷ [])

firsts_of_unions : firsts_of (pos 1) unions ≡ Ok unions_firsts
firsts_of_unions = refl

unions_in_place : in_place (pos 1) unions unions_firsts
    ≡ null ∷ truth true ∷ numbers (7 ∷ []) ∷ null ∷ []
unions_in_place = refl

lists_of_unions : in_place (pos 1) unions unions
    ≡ items [] ∷ items (alt 1 (truth true) ∷ []) ∷ items (numbers (7 ∷ []) ∷ []) ∷ items [] ∷ []
lists_of_unions = refl

-- where a list is null, so is what is given for it
nulls_in_place : in_place (pos 1) (arr (opt (var int64)) (null ∷ numbers (5 ∷ []) ∷ []))
    (arr (opt int64) (null ∷ n 5 ∷ []))
    ≡ null ∷ n 5 ∷ []
nulls_in_place = refl

-- where items are optional the first of a list that has items may be null
null_first : firsts_of (pos 1) (arr (var (opt int64)) (items (null ∷ n 1 ∷ []) ∷ []))
    ≡ Ok (arr (opt int64) (null ∷ []))
null_first = refl

counted_first : num_of (pos 1) (arr (var (opt int64)) (items (null ∷ n 1 ∷ []) ∷ []))
    ≡ Ok (arr int64 (n 2 ∷ []))
counted_first = refl

-- an array is the one list at axis 0
first_of_whole : firsts_of (pos 0) (lists ([] ∷ (4 ∷ []) ∷ [])) ≡ Ok (arr int64 [])
first_of_whole = refl

whole_in_place : in_place (pos 0) (lists ([] ∷ (4 ∷ []) ∷ [])) (arr int64 []) ≡ items [] ∷ []
whole_in_place = refl

-- ---- picks row by row

-- [[5,6,7],[8]] at [[2,0],[0]], and that at [[1,1],[]]
abbrev eight : Datum
eight = lists ((5 ∷ 6 ∷ 7 ∷ []) ∷ (8 ∷ []) ∷ [])

abbrev index : Datum
index = lists ((2 ∷ 0 ∷ []) ∷ (0 ∷ []) ∷ [])

abbrev second : Datum
second = lists ((1 ∷ 1 ∷ []) ∷ [] ∷ [])

picked_rows : jagged_of eight index ≡ Ok (lists ((7 ∷ 5 ∷ []) ∷ (8 ∷ []) ∷ []))
picked_rows = refl

picked_again : jagged_of (lists ((7 ∷ 5 ∷ []) ∷ (8 ∷ []) ∷ [])) second
    ≡ Ok (lists ((5 ∷ 5 ∷ []) ∷ [] ∷ []))
picked_again = refl

index_picked : jagged_of index second ≡ Ok (lists ((0 ∷ 0 ∷ []) ∷ [] ∷ []))
index_picked = refl

picked_at_once : jagged_of eight (lists ((0 ∷ 0 ∷ []) ∷ [] ∷ []))
    ≡ Ok (lists ((5 ∷ 5 ∷ []) ∷ [] ∷ []))
picked_at_once = refl

-- a mask in place of the second index
abbrev mask : Datum
mask =
    arr (var (leaf Truths)) (items (truth true ∷ truth false ∷ []) ∷ items (truth true ∷ []) ∷ [])

masked_again : jagged_of (lists ((7 ∷ 5 ∷ []) ∷ (8 ∷ []) ∷ [])) mask
    ≡ Ok (lists ((7 ∷ []) ∷ (8 ∷ []) ∷ []))
masked_again = refl

index_masked : jagged_of index mask ≡ Ok (lists ((2 ∷ []) ∷ (0 ∷ []) ∷ []))
index_masked = refl

masked_at_once : jagged_of eight (lists ((2 ∷ []) ∷ (0 ∷ []) ∷ []))
    ≡ Ok (lists ((7 ∷ []) ∷ (8 ∷ []) ∷ []))
masked_at_once = refl

-- where the second index is less deep than the first it moves whole rows: [[[1],[2,3]]] at
-- [[[0],[1,0]]], and that at [[1,0]]
abbrev deep : List (List (List ℕ)) → Datum
deep ksss = arr (var (var int64)) (map (λ kss. items (map numbers kss)) ksss)

deep_picked : jagged_of (deep (((1 ∷ []) ∷ (2 ∷ 3 ∷ []) ∷ []) ∷ []))
    (deep (((0 ∷ []) ∷ (1 ∷ 0 ∷ []) ∷ []) ∷ []))
    ≡ Ok (deep (((1 ∷ []) ∷ (3 ∷ 2 ∷ []) ∷ []) ∷ []))
deep_picked = refl

rows_moved : jagged_of (deep (((1 ∷ []) ∷ (3 ∷ 2 ∷ []) ∷ []) ∷ [])) (lists ((1 ∷ 0 ∷ []) ∷ []))
    ≡ Ok (deep (((3 ∷ 2 ∷ []) ∷ (1 ∷ []) ∷ []) ∷ []))
rows_moved = refl

index_moved : jagged_of (deep (((0 ∷ []) ∷ (1 ∷ 0 ∷ []) ∷ []) ∷ [])) (lists ((1 ∷ 0 ∷ []) ∷ []))
    ≡ Ok (deep (((1 ∷ 0 ∷ []) ∷ (0 ∷ []) ∷ []) ∷ []))
index_moved = refl

no_such_place : jagged_of (deep (((1 ∷ []) ∷ (2 ∷ 3 ∷ []) ∷ []) ∷ []))
    (deep (((1 ∷ 0 ∷ []) ∷ (0 ∷ []) ∷ []) ∷ [])) ≡ Err fault.Index
no_such_place = refl

-- [[1,2],[],[3]] by the places of its lists' items
abbrev cut : Datum
cut = lists ((1 ∷ 2 ∷ []) ∷ [] ∷ (3 ∷ []) ∷ [])

abbrev own_places : Datum
own_places = lists ((0 ∷ 1 ∷ []) ∷ [] ∷ (0 ∷ []) ∷ [])

places_in_rows : local_index_of (pos 1) cut ≡ Ok own_places
places_in_rows = refl

picked_in_rows : jagged_of cut own_places ≡ Ok cut
picked_in_rows = refl

-- by a mask, and by the places that it picks
abbrev rows_mask : Datum
rows_mask =
    arr (var (opt (leaf Truths)))
    (items (truth true ∷ null ∷ []) ∷ items [] ∷ items (truth false ∷ []) ∷ [])

abbrev some_of_rows : List Value → Datum
some_of_rows vs = arr (var (opt int64)) (items vs ∷ items [] ∷ items [] ∷ [])

masked_rows : jagged_of cut rows_mask ≡ Ok (some_of_rows (n 1 ∷ null ∷ []))
masked_rows = refl

masked_places : jagged_of own_places rows_mask ≡ Ok (some_of_rows (n 0 ∷ null ∷ []))
masked_places = refl

rows_by_masked_places : jagged_of cut (some_of_rows (n 0 ∷ null ∷ []))
    ≡ Ok (some_of_rows (n 1 ∷ null ∷ []))
rows_by_masked_places = refl

-- places two levels down, where a list of lists is null
abbrev some_deep : Datum
some_deep = arr (opt (var (var int64))) (items (numbers (5 ∷ 6 ∷ []) ∷ []) ∷ null ∷ [])

abbrev deep_places : Datum
deep_places = arr (opt (var (var int64))) (items (numbers (0 ∷ 1 ∷ []) ∷ []) ∷ null ∷ [])

places_in_deep : local_index_of (pos 2) some_deep ≡ Ok deep_places
places_in_deep = refl

picked_in_deep : jagged_of some_deep deep_places ≡ Ok some_deep
picked_in_deep = refl
