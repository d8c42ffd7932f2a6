-- Sums and products of whole arrays that change places.
use Rattle.std.specs.Prelude.{◌≡◌, ℕ, zero, suc, Bool, true, false, not, ◌&&◌, ◌||◌, List, [], ◌∷◌}
use Rattle.std.specs.Prelude.{map, length, Option, Some, None, Result, Ok, Err, refl, if◌then◌else◌}
use Rattle.std.specs.Prelude.{ℤ}
use Rattle.std.specs.List.{AllByRecursion, list_any, range_with_len}
use Rattle.std.proofs.Common.{ap, ap₂, sym, ◌∙◌, subst}
use Rattle.std.proofs.lemmas.Bool.{not-false, or_parts}
use Rattle.std.proofs.lemmas.Simd.{map-map}
use Rattle.awk_types.specs.DataType.{DataType, unknown, leaf, var, reg, rec, tup, opt, uni, depth}
use Rattle.awk_types.specs.Datum.{Datum, datum_type}
use Rattle.awk_types.specs.Faults.{limit_refused}
use Rattle.awk_types.specs.Gives.{refused_or, ◌or◌}
use Rattle.awk_types.specs.ItemLimit.{too_many}
use Rattle.awk_types.specs.Value.{Value, int, null, list, row, values_from}
use Rattle.awk_types.specs.declared.fault.Fault.{Fault}
use Rattle.awk_types.specs.declared.fault.Fault.TheVariants.{WrongType, Lengths}
use Rattle.awk_types.specs.declared.primitive.Primitive.{Primitive}
use Rattle.awk_types.proofs.Trees.{value_list-from}
use Rattle.awk_kernels.specs.Operations.{leaf as result}
use Rattle.awk_kernels.specs.declared.operation.Arith.{Arith}
use Rattle.awk_columns.specs.Columns.{list_items, part_at}
use Rattle.awk_frames.specs.Framed.{over}
use Rattle.awk_frames.specs.Sizes.{sizes_refused}
use Rattle.awk_layout.specs.Filler.{Filler, literal, datum}
use Rattle.awk_leaves.specs.LeafTypes.{overflows, type_beside}
use Rattle.awk_leaves.specs.Table.{judged, binary_judged}
use Rattle.awk_leaves.specs.declared.leaf_type.LeafType.{LeafType}
use Rattle.awk_leaves.specs.declared.operation.Binary.TheVariants.{Calculate}
use Rattle.awk_ends.specs.Operands.{both_data, leaf_of, in_primitive}
use Rattle.awk_pair_operands.specs.Answer.{shared_ends}
use Rattle.awk_pair_operands.specs.Paired.{to_leaves, paired_value, is_uneven, is_wrong, all_levels}
use Rattle.awk_pair_operands.specs.Pairs.{datum_from, datum_side, first_rows, has_wrong_end}
use Rattle.awk_pair_operands.specs.Pairs.{are_uneven, pair_refused, pair_type, pair_values}
use Rattle.awk_pair_operands.specs.Pairs.{is_array, some_array, single_value}
use Rattle.awk_pair_sides.specs.Levels.{opens, some_option, item_types, level_class}
use Rattle.awk_pair_sides.specs.Sides.{side_at, rows_of, equally_long, common_length, inner_rows}
use Rattle.awk_pair_sides.specs.Sides.{misses, is_whole}
use Rattle.awk_arith.specs.AtLeaves.{at_leaves, first_fault, row_values, result_type, value_or_null}
use Rattle.awk_arith.specs.Binary.{binary_of, binary_row}
use Rattle.awk_law_chains.proofs.Chains.{Chain, close, layer, chain_type, at_ends, IsAt, is_lists}
use Rattle.awk_law_chains.proofs.Chains.{chain_sizes, chain_ends, sizes-mapped, length-each}
use Rattle.awk_law_chains.proofs.Chains.{in_list-same, in_option-same}
use Rattle.awk_law_chains.proofs.ChainEnds.{ends-mapped, twice-each}
use Rattle.awk_number_laws.proofs.LeafArrays.{shared, result_is, rows_are, ends_are, sizes_are}
use Rattle.awk_number_laws.proofs.LeafLaws.{turned_at, or_turned, promotion_turned}
use Rattle.awk_number_laws.proofs.TurnedLevels.{any_same, any_turned, equal_turned, length_turned}
use Rattle.awk_number_laws.proofs.TurnedLevels.{max_turned, pairs_of, rows_same, shared_turned}
use Rattle.awk_number_laws.proofs.TurnedLevels.{turn, uneven_if, uneven_turned, value_turned}
use Rattle.awk_number_laws.proofs.TurnedLevels.{wrong_turned}

-- ---- paired values have the lists that their types share

pub list_or_null : (o w : Bool) (ws : List Value)
    → is_lists o (if o && not w then null else list (values_from ws)) ≡ true
list_or_null true true ws = refl
list_or_null true false ws = refl
list_or_null false w ws = refl

abbrev pub Anything : Value → Type 0
Anything v = Unit {0}

any_end : (o : Bool) (v : Value) → IsAt (close o) Anything v
any_end true v = λ e. tt
any_end false v = tt

pub items_at : (k : Chain) (m : Bool) (ws : List Value) → AllByRecursion (IsAt k Anything) ws
    → AllByRecursion (IsAt k Anything) (list_items (if m then null else list (values_from ws)))
items_at k true ws h = tt
items_at k false ws h = subst (AllByRecursion (IsAt k Anything)) (sym (value_list-from ws)) h

pub every : (k : Chain) (g : List Value → Value) (rows : List (List Value))
    → ((vs : List Value) → IsAt k Anything (g vs)) → AllByRecursion (IsAt k Anything) (map g rows)
every k g [] e = tt
every k g (vs ∷ rows) e = (e vs, every k g rows e)

level_at : (b : Bool) (k : Chain) (ts : List DataType) (vs ws : List Value)
    → AllByRecursion (IsAt k Anything) ws
    → IsAt (if b then layer (some_option ts) (level_class false ts) k else close (some_option ts))
    Anything
    (if b then (if misses ts vs then null else list (values_from ws))
    else (if misses ts vs then null else row (values_from vs)))
level_at true k ts vs ws h =
    (list_or_null (some_option ts) (is_whole vs) ws, items_at k (misses ts vs) ws h)
level_at false k ts vs ws h =
    any_end (some_option ts) (if misses ts vs then null else row (values_from vs))

pub paired_at : (d : ℕ) (ts : List DataType) (vs : List Value)
    → IsAt (shared false to_leaves d ts) Anything (paired_value false to_leaves d ts vs)
paired_at zero ts vs = any_end (some_option ts) (paired_value false to_leaves zero ts vs)
paired_at (suc d) ts vs =
    level_at (opens ts) (shared false to_leaves d (item_types ts)) ts vs
    (map (paired_value false to_leaves d (item_types ts)) (inner_rows false ts vs))
    (every (shared false to_leaves d (item_types ts))
    (paired_value false to_leaves d (item_types ts)) (inner_rows false ts vs)
    (λ ws. paired_at d (item_types ts) ws))

-- ---- what is said of data

abbrev said : DataType → Bool → Bool → Option Fault → Option Fault → Datum → Result Datum Fault
said t w u sizes faults d =
    refused_or (limit_refused t or (((if w then Some WrongType else None)
    or ((if u then Some Lengths else None) or sizes)) or faults)) d

never : (o : Option Fault) (f : Fault) (d e : Datum)
    → refused_or (o or Some f) d ≡ refused_or (o or Some f) e
never (Some g) f d e = refl
never None f d e = refl

said_same : (t : DataType) (w u : Bool) (s r f g : Option Fault) (d e : Datum)
    → (u ≡ false → s ≡ r) → (u ≡ false → f ≡ g) → (u ≡ false → d ≡ e)
    → said t w u s f d ≡ said t w u r g e
said_same t true true s r f g d e p q h = never (limit_refused t) WrongType d e
said_same t false true s r f g d e p q h = never (limit_refused t) Lengths d e
said_same t true false s r f g d e p q h = never (limit_refused t) WrongType d e
said_same t false false s r f g d e p q h =
    ap₂ (λ x y. refused_or (limit_refused t or (x or y)) d) (p refl) (q refl)
    ∙ ap (refused_or (limit_refused t or (r or g))) (h refl)

-- ---- data

module _ (c e : Datum) where
  abbrev ds : List Datum
  ds = c ∷ e ∷ []

  abbrev es : List Datum
  es = e ∷ c ∷ []

  abbrev s : DataType
  s = datum_type c

  abbrev t : DataType
  t = datum_type e

  abbrev n : ℕ
  n = all_levels (s ∷ t ∷ [])

  abbrev m : ℕ
  m = all_levels (t ∷ s ∷ [])

  levels_same : n ≡ m
  levels_same = max_turned (depth s) (depth t)

  abbrev chain_by : Chain
  chain_by = shared false to_leaves n (s ∷ t ∷ [])

  chain_same : chain_by ≡ shared false to_leaves m (t ∷ s ∷ [])
  chain_same = shared_turned n s t ∙ ap (λ k. shared false to_leaves k (t ∷ s ∷ [])) levels_same

  arrays_same : some_array ds ≡ some_array es
  arrays_same = any_turned (is_array c) (is_array e)

  pub wrong_same : has_wrong_end None ds ≡ has_wrong_end None es
  wrong_same = wrong_turned n s t ∙ ap (λ k. is_wrong to_leaves k (t ∷ s ∷ [])) levels_same

  abbrev rows_when : Bool → List (List Value)
  rows_when b = if b then rows_of (datum_side c ∷ datum_side e ∷ [])
      else (single_value c ∷ single_value e ∷ []) ∷ []

  abbrev turned_when : Bool → List (List Value)
  turned_when b = if b then rows_of (datum_side e ∷ datum_side c ∷ [])
      else (single_value e ∷ single_value c ∷ []) ∷ []

  uneven_rows : (b : Bool) → equally_long (datum_side c ∷ datum_side e ∷ []) ≡ true
      → list_any (is_uneven false n (s ∷ t ∷ [])) (rows_when b)
      ≡ list_any (is_uneven false n (t ∷ s ∷ [])) (turned_when b)
  uneven_rows true q =
      ap (λ k. list_any (is_uneven false n (s ∷ t ∷ [])) (pairs_of (datum_side c) (datum_side e) k))
      (length_turned (datum_side c) (datum_side e) q)
      ∙ any_same (is_uneven false n (s ∷ t ∷ [])) (is_uneven false n (t ∷ s ∷ []))
      (λ k. side_at k (datum_side c) ∷ side_at k (datum_side e) ∷ [])
      (λ k. side_at k (datum_side e) ∷ side_at k (datum_side c) ∷ [])
      (range_with_len 0 (common_length (datum_side e ∷ datum_side c ∷ [])))
      (λ k. uneven_turned n s t (side_at k (datum_side c)) (side_at k (datum_side e)))
  uneven_rows false q =
      ap (λ b. b || false) (uneven_turned n s t (single_value c) (single_value e))

  pub uneven_same : are_uneven false None ds ≡ are_uneven false None es
  uneven_same =
      uneven_if (not (equally_long (datum_side c ∷ datum_side e ∷ [])))
      (not (equally_long (datum_side e ∷ datum_side c ∷ [])))
      (list_any (is_uneven false n (s ∷ t ∷ [])) (first_rows ds))
      (list_any (is_uneven false m (t ∷ s ∷ [])) (first_rows es))
      (ap not (equal_turned (datum_side c) (datum_side e)))
      (λ q. uneven_rows (some_array ds)
      (not-false (equally_long (datum_side c ∷ datum_side e ∷ [])) q)
      ∙ ap₂ (λ k b. list_any (is_uneven false k (t ∷ s ∷ [])) (turned_when b)) levels_same
      arrays_same)

  values_rows : (b : Bool) → equally_long (datum_side c ∷ datum_side e ∷ []) ≡ true
      → list_any (is_uneven false n (s ∷ t ∷ [])) (rows_when b) ≡ false
      → map (paired_value false to_leaves n (t ∷ s ∷ [])) (turned_when b)
      ≡ map (at_ends chain_by turn) (map (paired_value false to_leaves n (s ∷ t ∷ []))
      (rows_when b))
  values_rows true q h =
      ap (λ k. map (paired_value false to_leaves n (t ∷ s ∷ []))
      (pairs_of (datum_side e) (datum_side c) k))
      (sym (length_turned (datum_side c) (datum_side e) q))
      ∙ rows_same (is_uneven false n (s ∷ t ∷ []))
      (λ k. side_at k (datum_side c) ∷ side_at k (datum_side e) ∷ [])
      (λ k. side_at k (datum_side e) ∷ side_at k (datum_side c) ∷ [])
      (paired_value false to_leaves n (s ∷ t ∷ [])) (paired_value false to_leaves n (t ∷ s ∷ []))
      (at_ends chain_by turn) (range_with_len 0 (common_length (datum_side c ∷ datum_side e ∷ [])))
      (λ k f. value_turned n s t (side_at k (datum_side c)) (side_at k (datum_side e)) f) h
  values_rows false q h =
      ap (λ v. v ∷ []) (value_turned n s t (single_value c) (single_value e)
      (or_parts (is_uneven false n (s ∷ t ∷ []) (single_value c ∷ single_value e ∷ [])) false h).0)

  pub values_same : are_uneven false None ds ≡ false
      → pair_values false None es ≡ map (at_ends chain_by turn) (pair_values false None ds)
  values_same h =
      let k = or_parts (not (equally_long (datum_side c ∷ datum_side e ∷ [])))
      (list_any (is_uneven false n (s ∷ t ∷ [])) (first_rows ds)) h in
      ap₂ (λ k b. map (paired_value false to_leaves k (t ∷ s ∷ [])) (turned_when b))
      (sym levels_same) (sym arrays_same)
      ∙ values_rows (some_array ds) (not-false (equally_long (datum_side c ∷ datum_side e ∷ []))
      k.0)
      k.1

  values_at : AllByRecursion (IsAt chain_by Anything) (pair_values false None ds)
  values_at =
      every chain_by (paired_value false to_leaves n (s ∷ t ∷ [])) (first_rows ds)
      (λ vs. paired_at n (s ∷ t ∷ []) vs)

  module _ (p : Primitive) (f g : Value → Result Value Fault)
      (same : (v : Value) → g (turn v) ≡ f v) where
    abbrev one_data : Filler
    one_data = datum c

    abbrev two_data : Filler
    two_data = datum e

    abbrev values : List Value
    values = pair_values false None ds

    types_same : result_type p ds ≡ result_type p es
    types_same =
        result_is one_data two_data p ∙ ap (λ k. chain_type k (leaf p)) chain_same
        ∙ sym (result_is two_data one_data p)

    sizes_same : are_uneven false None ds ≡ false
        → sizes_refused (pair_type false None ds) values
        ≡ sizes_refused (pair_type false None es) (pair_values false None es)
    sizes_same h =
        sizes_are one_data two_data
        ∙ sym (sizes_are two_data one_data
        ∙ ap₂ (λ k vs. too_many (length vs) or chain_sizes k vs) (sym chain_same) (values_same h)
        ∙ ap₂ (λ k o. too_many k or o) (length-each (at_ends chain_by turn) values)
        (sizes-mapped chain_by turn values))

    each_same : (vs : List Value) → map (λ v. g (turn v)) vs ≡ map f vs
    each_same [] = refl
    each_same (v ∷ vs) = ap₂ (λ x xs. x ∷ xs) (same v) (each_same vs)

    faults_same : are_uneven false None ds ≡ false
        → first_fault (map f (shared_ends false None ds))
        ≡ first_fault (map g (shared_ends false None es))
    faults_same h =
        ap (λ vs. first_fault (map f vs)) (ends_are one_data two_data)
        ∙ sym (ap (λ vs. first_fault (map g vs))
        (ends_are two_data one_data
        ∙ ap₂ chain_ends (sym chain_same) (values_same h)
        ∙ ends-mapped Anything turn (λ v h. refl) chain_by values values_at)
        ∙ ap first_fault (map-map g turn (chain_ends chain_by values)
        ∙ each_same (chain_ends chain_by values)))

    datum_same : are_uneven false None ds ≡ false
        → datum_from (some_array ds) (result_type p ds) (row_values f ds)
        ≡ datum_from (some_array ds) (result_type p ds) (row_values g es)
    datum_same h =
        ap (datum_from (some_array ds) (result_type p ds))
        (rows_are one_data two_data f
        ∙ sym (rows_are two_data one_data g
        ∙ ap₂ (λ k vs. map (at_ends k (λ v. value_or_null (g v))) vs) (sym chain_same)
        (values_same h)
        ∙ twice-each Anything turn (λ v h. refl) (λ v. value_or_null (g v))
        (λ v. value_or_null (f v)) (λ v h. ap value_or_null (same v)) chain_by values values_at))

    pub leaves_turned : at_leaves p f ds ≡ at_leaves p g es
    leaves_turned =
        said_same (result_type p ds) (has_wrong_end None ds) (are_uneven false None ds)
        (sizes_refused (pair_type false None ds) values)
        (sizes_refused (pair_type false None es) (pair_values false None es))
        (first_fault (map f (shared_ends false None ds)))
        (first_fault (map g (shared_ends false None es)))
        (datum_from (some_array ds) (result_type p ds) (row_values f ds))
        (datum_from (some_array ds) (result_type p ds) (row_values g es))
        sizes_same faults_same datum_same
        ∙ ap₂ (λ w u. said (result_type p ds) w u
        (sizes_refused (pair_type false None es) (pair_values false None es))
        (first_fault (map g (shared_ends false None es)))
        (datum_from (some_array ds) (result_type p ds) (row_values g es))) wrong_same uneven_same
        ∙ ap₂ (λ x b. said x (has_wrong_end None es) (are_uneven false None es)
        (sizes_refused (pair_type false None es) (pair_values false None es))
        (first_fault (map g (shared_ends false None es)))
        (datum_from b x (row_values g es))) types_same arrays_same

-- ---- operands that change places

over_same : (t : DataType) (f g : Value → Value) (v : Value) → ((x : Value) → f x ≡ g x)
    → over t f v ≡ over t g v
over_same (var t) f g v e = in_list-same (over t f) (over t g) v (λ x. over_same t f g x e)
over_same (reg n t) f g v e = in_list-same (over t f) (over t g) v (λ x. over_same t f g x e)
over_same (opt t) f g v e = in_option-same (over t f) (over t g) v (λ x. over_same t f g x e)
over_same unknown f g v e = e v
over_same (leaf p) f g v e = e v
over_same (rec ns ts) f g v e = e v
over_same (tup ts) f g v e = e v
over_same (uni ts) f g v e = e v

leaves_same : (p : Primitive) (f g : Value → Result Value Fault) (ds : List Datum)
    → ((v : Value) → f v ≡ g v) → at_leaves p f ds ≡ at_leaves p g ds
leaves_same p f g ds e =
    ap₂ (λ x vs. refused_or (limit_refused (result_type p ds)
    or (pair_refused false None ds or first_fault x))
    (datum_from (some_array ds) (result_type p ds) vs)) (each (shared_ends false None ds))
    (all (pair_values false None ds))
  where
    each : (vs : List Value) → map f vs ≡ map g vs
    each [] = refl
    each (v ∷ vs) = ap₂ (λ x xs. x ∷ xs) (e v) (each vs)

    all : (vs : List Value)
        → map (over (pair_type false None ds) (λ v. value_or_null (f v))) vs
        ≡ map (over (pair_type false None ds) (λ v. value_or_null (g v))) vs
    all [] = refl
    all (v ∷ vs) =
        ap₂ (λ x xs. x ∷ xs)
        (over_same (pair_type false None ds) (λ v. value_or_null (f v)) (λ v. value_or_null (g v)) v
        (λ x. ap value_or_null (e x))) (all vs)

in_primitive_same : (j : Result Primitive Fault) (f g : Primitive → Result Datum Fault)
    → ((p : Primitive) → f p ≡ g p) → in_primitive j f ≡ in_primitive j g
in_primitive_same (Ok p) f g e = e p
in_primitive_same (Err x) f g e = refl

module _ (op : Arith)
    (turned : (lo hi a b : ℤ) → result op lo hi a b ≡ result op lo hi b a) where
  judged_turned : (a b : LeafType)
      → binary_judged (Calculate op) a b ≡ binary_judged (Calculate op) b a
  judged_turned a b =
      ap₂ judged (promotion_turned (type_beside a b) (type_beside b a))
      (or_turned (overflows a b) (overflows b a))

  abbrev calculated : Filler → Filler → Result Datum Fault
  calculated a b =
      in_primitive (binary_judged (Calculate op) (leaf_of a) (leaf_of b))
      (λ p. at_leaves p (binary_row (Calculate op) p a b) (both_data a b))

  by_operands : (a b : Filler)
      → ((p : Primitive) → at_leaves p (binary_row (Calculate op) p a b) (both_data a b)
      ≡ at_leaves p (binary_row (Calculate op) p b a) (both_data b a))
      → calculated a b ≡ calculated b a
  by_operands a b e =
      ap (λ j. in_primitive j (λ p. at_leaves p (binary_row (Calculate op) p a b) (both_data a b)))
      (judged_turned (leaf_of a) (leaf_of b))
      ∙ in_primitive_same (binary_judged (Calculate op) (leaf_of b) (leaf_of a))
      (λ p. at_leaves p (binary_row (Calculate op) p a b) (both_data a b))
      (λ p. at_leaves p (binary_row (Calculate op) p b a) (both_data b a)) e

  pub operands_turned : (a b : Filler)
      → binary_of (Calculate op) a b ≡ binary_of (Calculate op) b a
  operands_turned (literal y) (literal z) =
      ap (λ r. if has_wrong_end None [] then Err WrongType else r)
      (by_operands (literal y) (literal z) (λ p. leaves_same p
      (binary_row (Calculate op) p (literal y) (literal z))
      (binary_row (Calculate op) p (literal z) (literal y)) []
      (λ v. turned_at op turned p (int y) (int z))))
  operands_turned (literal y) (datum e) =
      ap (λ r. if has_wrong_end None (e ∷ []) then Err WrongType else r)
      (by_operands (literal y) (datum e) (λ p. leaves_same p
      (binary_row (Calculate op) p (literal y) (datum e))
      (binary_row (Calculate op) p (datum e) (literal y)) (e ∷ [])
      (λ v. turned_at op turned p (int y) (part_at 0 v))))
  operands_turned (datum c) (literal z) =
      ap (λ r. if has_wrong_end None (c ∷ []) then Err WrongType else r)
      (by_operands (datum c) (literal z) (λ p. leaves_same p
      (binary_row (Calculate op) p (datum c) (literal z))
      (binary_row (Calculate op) p (literal z) (datum c)) (c ∷ [])
      (λ v. turned_at op turned p (part_at 0 v) (int z))))
  operands_turned (datum c) (datum e) =
      ap₂ (λ w r. if w then Err WrongType else r) (wrong_same c e)
      (by_operands (datum c) (datum e) (λ p. leaves_turned c e p
      (binary_row (Calculate op) p (datum c) (datum e))
      (binary_row (Calculate op) p (datum e) (datum c))
      (λ v. turned_at op turned p (part_at 1 v) (part_at 0 v))))
