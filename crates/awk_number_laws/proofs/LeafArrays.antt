-- Laws of operations on the leaves of whole arrays.
use Rattle.std.specs.Prelude.{◌≡◌, ℕ, zero, suc, ◌<◌, Bool, true, false, ◌||◌, List, [], ◌∷◌, map}
use Rattle.std.specs.Prelude.{length, get_or, Option, Some, None, Result, Ok, Err, refl}
use Rattle.std.specs.Prelude.{if◌then◌else◌}
use Rattle.std.specs.List.{AllByRecursion, list_all}
use Rattle.std.proofs.Common.{ap, ap₂, sym, ◌∙◌, arith, subst}
use Rattle.std.proofs.lemmas.Bool.{and_parts}
use Rattle.std.proofs.lemmas.Simd.{map-map}
use Rattle.awk_types.specs.DataType.{DataType, unknown, leaf, var, reg, rec, tup, opt, uni}
use Rattle.awk_types.specs.DataType.{types_from}
use Rattle.awk_types.specs.Datum.{Datum}
use Rattle.awk_types.specs.Faults.{limit_refused}
use Rattle.awk_types.specs.Gives.{refused_or, ◌or◌}
use Rattle.awk_types.specs.Has.{Has, HasRow}
use Rattle.awk_types.specs.ItemLimit.{too_many}
use Rattle.awk_types.specs.Parts.{number_of}
use Rattle.awk_types.specs.Predicates.{is_leaf, is_null}
use Rattle.awk_types.specs.Simple.{option_if, present}
use Rattle.awk_types.specs.Value.{Value, int, truth, null, list, row, alt, value_list}
use Rattle.awk_types.specs.declared.fault.Fault.{Fault}
use Rattle.awk_types.specs.declared.fault.Fault.TheVariants.{WrongType, Lengths}
use Rattle.awk_types.specs.declared.primitive.Primitive.{Primitive}
use Rattle.awk_types.specs.declared.primitive.Primitive.TheVariants.{Bool as Truths}
use Rattle.awk_types.proofs.RefusalLaws.{or-both}
use Rattle.awk_kernels.specs.Operations.{holds}
use Rattle.awk_kernels.specs.declared.operation.Compare.{Compare}
use Rattle.awk_columns.specs.Columns.{is_present, part_at}
use Rattle.awk_columns.specs.ListClass.{Class, list_type}
use Rattle.awk_frames.specs.Framed.{over, over_type}
use Rattle.awk_frames.specs.Shape.{ends}
use Rattle.awk_frames.specs.Sizes.{sizes_refused}
use Rattle.awk_layout.specs.Filler.{Filler, literal, datum}
use Rattle.awk_leaves.specs.LeafTypes.{are_alike, comparison_type, type_beside}
use Rattle.awk_leaves.specs.Table.{judged, literals_overflow}
use Rattle.awk_leaves.specs.Values.{unary_at}
use Rattle.awk_leaves.specs.declared.operation.Binary.TheVariants.{Test}
use Rattle.awk_leaves.specs.declared.operation.Unary.TheVariants.{Not}
use Rattle.awk_ends.specs.Operands.{at_end, both_data, data_in, leaf_of, in_primitive}
use Rattle.awk_pair_operands.specs.Answer.{shared_ends}
use Rattle.awk_pair_operands.specs.Paired.{Reach, to_leaves, to_depth, end_types, paired_type}
use Rattle.awk_pair_operands.specs.Paired.{types_at_ends, paired_value}
use Rattle.awk_pair_operands.specs.Pairs.{datum_from, has_wrong_end, are_uneven, below}
use Rattle.awk_pair_operands.specs.Pairs.{pair_refused, pair_type, pair_values, some_array, typs}
use Rattle.awk_pair_operands.specs.Pairs.{single_value, datum_side}
use Rattle.awk_pair_sides.specs.Sides.{rows_of}
use Rattle.awk_pair_operands.specs.Typed.{IsTyped}
use Rattle.awk_pair_operands.proofs.TypedLaws.{typed_pairs}
use Rattle.awk_pair_sides.specs.Levels.{opens, some_option, item_types, level_class}
use Rattle.awk_ends.proofs.LeafLaws.{ends_leaves}
use Rattle.awk_arith.specs.AtLeaves.{at_leaves, first_fault, row_values, result_type, value_or_null}
use Rattle.awk_arith.specs.Binary.{binary_of, binary_row}
use Rattle.awk_arith.specs.Unary.{unary_of}
use Rattle.awk_number_laws.specs.Leaves.{opposite, on_result}
use Rattle.awk_law_chains.proofs.Chains.{Chain, close, layer, chain_type, at_ends, IsAt}
use Rattle.awk_law_chains.proofs.Chains.{chain_sizes, chain_ends, over-chain, over_type-chain}
use Rattle.awk_law_chains.proofs.Chains.{sizes-chain, sizes-mapped, ends-chain, length-each}
use Rattle.awk_law_chains.proofs.ChainEnds.{ends-mapped, twice-each, same-all, all-mapped, have-at}
use Rattle.awk_number_laws.proofs.OnePaired.{IsChainOf, unary_is}
use Rattle.awk_number_laws.proofs.LeafLaws.{tested, test_is, not_tested}

-- ---- the lists and options that data share

abbrev pub closed_by : Reach → List DataType → Bool
closed_by to_leaves ts = some_option ts
closed_by to_depth ts = false

abbrev pub shared : Bool → Reach → ℕ → List DataType → Chain
shared keep r zero ts = close (closed_by r ts)
shared keep r (suc d) ts =
    if opens ts
    then layer (some_option ts) (level_class keep ts) (shared keep r d (item_types ts))
    else close (closed_by r ts)

close_type : (r : Reach) (ts : List DataType)
    → paired_type false r zero ts ≡ chain_type (close (closed_by r ts))
    (tup (types_from (end_types r ts)))
close_type to_leaves ts = refl
close_type to_depth ts = refl

by_opens : (r : Reach) (b o : Bool) (c : Class) (t : DataType) (k : Chain)
    (ts us : List DataType) → t ≡ chain_type k (tup (types_from us))
    → (if b then option_if o (list_type c t) else paired_type false r zero ts)
    ≡ chain_type (if b then layer o c k else close (closed_by r ts))
    (tup (types_from (if b then us else end_types r ts)))
by_opens r true o c t k ts us e = ap (λ u. option_if o (list_type c u)) e
by_opens r false o c t k ts us e = close_type r ts

pub shared_type : (r : Reach) (d : ℕ) (ts : List DataType)
    → paired_type false r d ts
    ≡ chain_type (shared false r d ts) (tup (types_from (types_at_ends r d ts)))
shared_type r zero ts = close_type r ts
shared_type to_leaves (suc d) ts =
    by_opens to_leaves (opens ts) (some_option ts) (level_class false ts)
    (paired_type false to_leaves d (item_types ts)) (shared false to_leaves d (item_types ts)) ts
    (types_at_ends to_leaves d (item_types ts)) (shared_type to_leaves d (item_types ts))
shared_type to_depth (suc d) ts =
    by_opens to_depth (opens ts) (some_option ts) (level_class false ts)
    (paired_type false to_depth d (item_types ts)) (shared false to_depth d (item_types ts)) ts
    (types_at_ends to_depth d (item_types ts)) (shared_type to_depth d (item_types ts))

-- ---- ends that are leaves

length-types : (f : DataType → DataType) (ts : List DataType) → length (map f ts) ≡ length ts
length-types f [] = refl
length-types f (t ∷ ts) = ap suc (length-types f ts)

either_length : (b : Bool) (us ws : List DataType) (n : ℕ) → length us ≡ n → length ws ≡ n
    → length (if b then us else ws) ≡ n
either_length true us ws n e f = e
either_length false us ws n e f = f

pub count_ends : (d : ℕ) (ts : List DataType)
    → length (types_at_ends to_leaves d ts) ≡ length ts
count_ends zero ts = length-types present ts
count_ends (suc d) ts =
    either_length (opens ts) (types_at_ends to_leaves d (item_types ts)) (map present ts)
    (length ts)
    (count_ends d (item_types ts) ∙ length-types _ (map present ts) ∙ length-types present ts)
    (length-types present ts)

leaf_present : (t : DataType) (v : Value) → is_leaf t ≡ true → Has t v → is_present v ≡ true
leaf_present (leaf p) (int z) e h = refl
leaf_present (leaf p) (truth b) e h = refl
leaf_present (leaf p) null e h = absurd h
leaf_present (leaf p) (list vs) e h = refl
leaf_present (leaf p) (row vs) e h = refl
leaf_present (leaf p) (alt j v) e h = refl
leaf_present unknown v e h = absurd h
leaf_present (var t) v e h = cc
leaf_present (reg n t) v e h = cc
leaf_present (rec ns ts) v e h = cc
leaf_present (tup ts) v e h = cc
leaf_present (opt t) v e h = cc
leaf_present (uni ts) v e h = cc

parts_present : (ts : List DataType) (vs : List Value) (j : ℕ) → list_all is_leaf ts ≡ true
    → HasRow (types_from ts) vs → j < length ts → is_present (get_or vs j null) ≡ true
parts_present [] vs j e h l = absurd (omega (arith, l))
parts_present (t ∷ ts) [] j e h l = absurd h
parts_present (t ∷ ts) (v ∷ vs) zero e h l =
    leaf_present t v (and_parts (is_leaf t) (list_all is_leaf ts) e).0 h.0
parts_present (t ∷ ts) (v ∷ vs) (suc j) e h l =
    parts_present ts vs j (and_parts (is_leaf t) (list_all is_leaf ts) e).1 h.1 (omega (arith, l))

pub part_present : (ts : List DataType) (v : Value) (j : ℕ) → list_all is_leaf ts ≡ true
    → Has (tup (types_from ts)) v → j < length ts → is_present (part_at j v) ≡ true
part_present ts (row vs) j e h l = parts_present ts (value_list vs) j e h l
part_present ts (int z) j e h l = absurd h
part_present ts (truth b) j e h l = absurd h
part_present ts null j e h l = absurd h
part_present ts (list vs) j e h l = absurd h
part_present ts (alt i v) j e h l = absurd h

-- ---- two operands

pub single_pairs : (ds : List Datum) → some_array ds ≡ false
    → (v : Value) × (pair_values false None ds ≡ v ∷ [])
single_pairs ds e = (
  paired_value false to_leaves (below None ds) (typs ds) (map single_value ds),
  ap (λ b. map (paired_value false to_leaves (below None ds) (typs ds))
      (if b then rows_of (map datum_side ds) else map single_value ds ∷ [])) e,
)

first_present : (a b : Filler) (ts : List DataType) (v : Value) → list_all is_leaf ts ≡ true
    → length ts ≡ length (both_data a b) → Has (tup (types_from ts)) v
    → is_present (at_end a 0 v) ≡ true
first_present (literal z) b ts v l n h = refl
first_present (datum d) b ts v l n h =
    let m : length ts ≡ suc (length (data_in b)) = n in
    part_present ts v 0 l h (omega (arith, m))

second_present : (a b : Filler) (ts : List DataType) (v : Value) → list_all is_leaf ts ≡ true
    → length ts ≡ length (both_data a b) → Has (tup (types_from ts)) v
    → is_present (at_end b (length (data_in a)) v) ≡ true
second_present (literal z) (literal y) ts v l n h = refl
second_present (datum d) (literal y) ts v l n h = refl
second_present (literal z) (datum e) ts v l n h =
    let m : length ts ≡ 1 = n in part_present ts v 0 l h (omega (arith, m))
second_present (datum d) (datum e) ts v l n h =
    let m : length ts ≡ 2 = n in part_present ts v 1 l h (omega (arith, m))

pub over-each : (k : Chain) (ts : List DataType) (f : Value → Value) (vs : List Value)
    → map (over (chain_type k (tup (types_from ts))) f) vs ≡ map (at_ends k f) vs
over-each k ts f [] = refl
over-each k ts f (v ∷ vs) =
    ap₂ (λ x xs. x ∷ xs) (over-chain k (tup (types_from ts)) f v tt) (over-each k ts f vs)

even_false : (b : Bool) → (if b then Some Lengths else None) ≡ None → b ≡ false
even_false true e = cc
even_false false e = refl

pub no_fault : (f : Value → Result Value Fault) (g : Value → Value) (vs : List Value)
    → ((v : Value) → f v ≡ Ok (g v)) → first_fault (map f vs) ≡ None
no_fault f g [] e = refl
no_fault f g (v ∷ vs) e =
    ap (λ r. first_fault (r ∷ map f vs)) (e v) ∙ no_fault f g vs e

module _ (a b : Filler) where
  abbrev ds : List Datum
  ds = both_data a b

  abbrev levels : ℕ
  levels = below None ds

  abbrev pub K : Chain
  K = shared false to_leaves levels (typs ds)

  abbrev pub E : List DataType
  E = types_at_ends to_leaves levels (typs ds)

  abbrev pub vals : List Value
  vals = pair_values false None ds

  abbrev first : Value → Value
  first = at_end a 0

  abbrev second : Value → Value
  second = at_end b (length (data_in a))

  abbrev pub P : Value → Type 0
  P v = Has (tup (types_from E)) v

  type_is : pair_type false None ds ≡ chain_type K (tup (types_from E))
  type_is = shared_type to_leaves levels (typs ds)

  count_is : length E ≡ length (both_data a b)
  count_is = count_ends levels (typs ds) ∙ length-data (both_data a b)
    where
      length-data : (xs : List Datum) → length (typs xs) ≡ length xs
      length-data [] = refl
      length-data (x ∷ xs) = ap suc (length-data xs)

  -- the datum of what each end gives
  pub result_is : (p : Primitive)
      → over_type (pair_type false None ds) (leaf p) ≡ chain_type K (leaf p)
  result_is p =
      ap (λ t. over_type t (leaf p)) type_is
      ∙ over_type-chain K (tup (types_from E)) (leaf p) tt (λ e. refl)

  pub rows_are : (f : Value → Result Value Fault)
      → row_values f ds ≡ map (at_ends K (λ v. value_or_null (f v))) vals
  rows_are f =
      ap (λ t. map (over t (λ v. value_or_null (f v))) vals) type_is
      ∙ over-each K E (λ v. value_or_null (f v)) vals

  pub ends_are : shared_ends false None ds ≡ chain_ends K vals
  ends_are =
      ap (λ t. ends t vals) type_is ∙ ends-chain K (tup (types_from E)) vals tt

  pub sizes_are : sizes_refused (pair_type false None ds) vals
      ≡ (too_many (length vals) or chain_sizes K vals)
  sizes_are =
      ap (λ t. sizes_refused t vals) type_is
      ∙ ap (λ o. too_many (length vals) or o) (sizes-chain K (tup (types_from E)) vals tt)

  module _ (typed : AllByRecursion IsTyped ds) (right : has_wrong_end None ds ≡ false)
      (fine : pair_refused false None ds ≡ None) where
    both : ((if are_uneven false None ds then Some Lengths else None) ≡ None)
        × (sizes_refused (pair_type false None ds) vals ≡ None)
    both =
        or-both (if are_uneven false None ds then Some Lengths else None)
        (sizes_refused (pair_type false None ds) vals)
        (or-both (if has_wrong_end None ds then Some WrongType else None)
        ((if are_uneven false None ds then Some Lengths else None)
        or sizes_refused (pair_type false None ds) vals) fine).1

    pub few : (too_many (length vals) or chain_sizes K vals) ≡ None
    few = sym sizes_are ∙ both.1

    pub at : AllByRecursion (IsAt K P) vals
    at =
        have-at K (tup (types_from E)) vals
        (subst (λ t. AllByRecursion (Has t) vals) type_is
        (typed_pairs false None ds typed (even_false (are_uneven false None ds) both.0)))

    all_leaves : list_all is_leaf E ≡ true
    all_leaves = ends_leaves levels (typs ds) right

    pub first_there : (v : Value) → P v → is_present (first v) ≡ true
    first_there v h = first_present a b E v all_leaves count_is h

    pub second_there : (v : Value) → P v → is_present (second v) ≡ true
    second_there v h = second_present a b E v all_leaves count_is h

-- ---- comparisons

are_truths : (b c : Bool) (p : Primitive)
    → judged (if b then Some Truths else None) c ≡ Ok p → p ≡ Truths
are_truths true true p e = cc
are_truths true false p e = cc
are_truths false c p e = cc

tested_there : (how : Compare) (x y : Value) → is_present x ≡ true → is_present y ≡ true
    → is_present (tested how x y) ≡ true
tested_there how x y e f =
    ap (λ b. is_present (if b then null else truth (holds how (number_of x) (number_of y))))
    (ap₂ (λ b c. b || c) (no_null x e) (no_null y f))
  where
    no_null : (v : Value) → is_present v ≡ true → is_null v ≡ false
    no_null null e = cc
    no_null (int z) e = refl
    no_null (truth b) e = refl
    no_null (list vs) e = refl
    no_null (row vs) e = refl
    no_null (alt j v) e = refl

module _ (a b : Filler) (typed : AllByRecursion IsTyped (both_data a b)) where
  abbrev given : List Datum
  given = both_data a b

  abbrev chain : Chain
  chain = K a b

  abbrev values : List Value
  values = vals a b

  abbrev tests : Compare → Value → Value
  tests how v = tested how (first a b v) (second a b v)

  abbrev whole : Compare → Result Datum Fault
  whole how = at_leaves Truths (binary_row (Test how) Truths a b) given

  abbrev refused : Option Fault
  refused = limit_refused (result_type Truths given) or (pair_refused false None given or None)

  abbrev values_of : Compare → Datum
  values_of how = datum_from (some_array given) (result_type Truths given)
      (row_values (binary_row (Test how) Truths a b) given)

  whole_is : (how : Compare) → whole how ≡ refused_or refused (values_of how)
  whole_is how =
      ap (λ o. refused_or (limit_refused (result_type Truths given)
      or (pair_refused false None given or o)) (values_of how))
      (no_fault (binary_row (Test how) Truths a b) (tests how) (shared_ends false None given)
      (λ v. test_is how Truths (first a b v) (second a b v)))

  module _ (right : has_wrong_end None given ≡ false) (fine : refused ≡ None) where
    limits : (limit_refused (result_type Truths given) ≡ None)
        × ((pair_refused false None given or None) ≡ None)
    limits =
        or-both (limit_refused (result_type Truths given)) (pair_refused false None given or None)
        fine

    pairs : pair_refused false None given ≡ None
    pairs = (or-both (pair_refused false None given) None limits.1).0

    are_at : AllByRecursion (IsAt chain (P a b)) values
    are_at = at a b typed right pairs

    stays : (how : Compare) (v : Value) → P a b v → is_present (tests how v) ≡ true
    stays how v h =
        tested_there how (first a b v) (second a b v) (first_there a b typed right pairs v h)
        (second_there a b typed right pairs v h)

    values_are : (how : Compare)
        → values_of how ≡ datum_from (some_array given) (chain_type chain (leaf Truths))
        (map (at_ends chain (tests how)) values)
    values_are how =
        ap₂ (λ t vs. datum_from (some_array given) t vs) (result_is a b Truths)
        (rows_are a b (binary_row (Test how) Truths a b)
        ∙ same-all (P a b) (λ v. value_or_null (binary_row (Test how) Truths a b v)) (tests how)
        (λ v h. ap value_or_null (test_is how Truths (first a b v) (second a b v))) chain values
        are_at)

    chain_of_tests : (how : Compare) → IsChainOf (λ v. is_present v ≡ true) (some_array given) chain
        (map (at_ends chain (tests how)) values)
    chain_of_tests how = record {
      single = λ e.
          let p = single_pairs given e in
          (at_ends chain (tests how) p.0, ap (map (at_ends chain (tests how))) p.1);
      each =
          all-mapped (P a b) (λ v. is_present v ≡ true) (tests how) (λ v h. stays how v h) chain
          values
          are_at;
    }

    not_fault : (how : Compare)
        → first_fault (map (unary_at Not Truths)
        (chain_ends chain (map (at_ends chain (tests how)) values))) ≡ None
    not_fault how =
        ap (λ es. first_fault (map (unary_at Not Truths) es))
        (ends-mapped (P a b) (tests how) (λ v h. stays how v h) chain values are_at)
        ∙ ap first_fault (map-map (unary_at Not Truths) (tests how) (chain_ends chain values))
        ∙ no_fault (λ v. unary_at Not Truths (tests how v)) (tests (opposite how))
        (chain_ends chain values) (λ v. not_tested how (first a b v) (second a b v))

    not_of : (how : Compare) → unary_of Not (values_of how) ≡ Ok (values_of (opposite how))
    not_of how =
        let ws = map (at_ends chain (tests how)) values in
        ap (unary_of Not) (values_are how)
        ∙ unary_is (λ v. is_present v ≡ true) (some_array given) chain Truths ws
        (chain_of_tests how)
        Not Truths refl
        ∙ ap₂ refused_or
        (ap₂ (λ o x. o or x) (ap limit_refused (sym (result_is a b Truths)) ∙ limits.0)
        (ap₂ (λ o x. o or x)
        (ap₂ (λ n o. too_many n or o) (length-each (at_ends chain (tests how)) values)
        (sizes-mapped chain (tests how) values)
        ∙ few a b typed right pairs) (not_fault how)))
        (ap (λ vs. datum_from (some_array given) (chain_type chain (leaf Truths)) vs)
        (twice-each (P a b) (tests how) (λ v h. stays how v h)
        (λ v. value_or_null (unary_at Not Truths v)) (tests (opposite how))
        (λ v h. ap value_or_null (not_tested how (first a b v) (second a b v))) chain values are_at)
        ∙ sym (values_are (opposite how)))

  by_refusal : (how : Compare) (right : has_wrong_end None given ≡ false) (o : Option Fault)
      → refused ≡ o
      → on_result (unary_of Not) (refused_or o (values_of how))
      ≡ refused_or o (values_of (opposite how))
  by_refusal how right (Some f) e = refl
  by_refusal how right None e = not_of right e how

  at_truths : (how : Compare) → has_wrong_end None given ≡ false
      → on_result (unary_of Not) (whole how) ≡ whole (opposite how)
  at_truths how right =
      ap (on_result (unary_of Not)) (whole_is how) ∙ by_refusal how right refused refl
      ∙ sym (whole_is (opposite how))

  in_type : (how : Compare) (j : Result Primitive Fault) → has_wrong_end None given ≡ false
      → ((p : Primitive) → j ≡ Ok p → p ≡ Truths)
      → on_result (unary_of Not)
      (in_primitive j (λ p. at_leaves p (binary_row (Test how) p a b) given))
      ≡ in_primitive j (λ p. at_leaves p (binary_row (Test (opposite how)) p a b) given)
  in_type how (Err f) right e = refl
  in_type how (Ok p) right e =
      subst (λ q. on_result (unary_of Not) (at_leaves q (binary_row (Test how) q a b) given)
      ≡ at_leaves q (binary_row (Test (opposite how)) q a b) given) (sym (e p refl))
      (at_truths how right)

  abbrev compared : Compare → Result Datum Fault
  compared how =
      in_primitive (judged (comparison_type (leaf_of a) (leaf_of b))
      (literals_overflow (leaf_of a) (leaf_of b)))
      (λ p. at_leaves p (binary_row (Test how) p a b) given)

  by_right : (how : Compare) (w : Bool) → has_wrong_end None given ≡ w
      → on_result (unary_of Not) (if w then Err WrongType else compared how)
      ≡ (if w then Err WrongType else compared (opposite how))
  by_right how true e = refl
  by_right how false e =
      in_type how (judged (comparison_type (leaf_of a) (leaf_of b))
      (literals_overflow (leaf_of a) (leaf_of b))) e
      (λ p q. are_truths (are_alike (type_beside (leaf_of a) (leaf_of b))
      (type_beside (leaf_of b) (leaf_of a))) (literals_overflow (leaf_of a) (leaf_of b)) p q)

  pub negation_of : (how : Compare)
      → on_result (unary_of Not) (binary_of (Test how) a b) ≡ binary_of (Test (opposite how)) a b
  negation_of how = by_right how (has_wrong_end None given) refl
