-- A choice between a whole array, or a single value, and itself.
use Rattle.std.specs.Prelude.{◌≡◌, ℕ, zero, suc, ◌≤◌, ◌<◌, Bool, true, false, not, ◌&&◌, ◌||◌, List}
use Rattle.std.specs.Prelude.{[], ◌∷◌, map, length, get_or, Some, None, Result, Ok, Err, refl}
use Rattle.std.specs.Prelude.{if◌then◌else◌}
use Rattle.std.specs.List.{AllByRecursion, list_all, list_any, range_with_len}
use Rattle.std.proofs.Common.{ap, ap₂, sym, ◌∙◌, arith, subst, inl, inr}
use Rattle.std.proofs.lemmas.Bool.{and_parts, not-false, or_parts}
use Rattle.std.proofs.lemmas.Simd.{map-map}
use Rattle.awk_base.proofs.Every.{all-at}
use Rattle.awk_types.specs.DataType.{DataType, leaf, var, reg, opt}
use Rattle.awk_types.specs.Datum.{Datum, arr, one, datum_type}
use Rattle.awk_types.specs.Faults.{limit_refused}
use Rattle.awk_types.specs.Gives.{◌or◌}
use Rattle.awk_types.specs.Has.{Has}
use Rattle.awk_types.specs.Predicates.{is_leaf}
use Rattle.awk_types.specs.Simple.{IsSimple, option_if, present}
use Rattle.awk_types.specs.Value.{Value, null}
use Rattle.awk_types.specs.declared.fault.Fault.{Fault}
use Rattle.awk_types.specs.declared.fault.Fault.TheVariants.{WrongType, Lengths}
use Rattle.awk_types.specs.declared.primitive.Primitive.{Primitive}
use Rattle.awk_types.specs.declared.primitive.Primitive.TheVariants.{Bool as Truths}
use Rattle.awk_types.proofs.RefusalLaws.{refused_or-Ok, or-both}
use Rattle.awk_columns.specs.ListClass.{Class, list_type}
use Rattle.awk_frames.specs.Framed.{over, over_type}
use Rattle.awk_frames.specs.Sizes.{sizes_refused}
use Rattle.awk_layout.specs.Filler.{datum}
use Rattle.awk_leaves.specs.Table.{choice_judged}
use Rattle.awk_leaves.specs.declared.leaf_type.LeafType.TheVariants.{Of}
use Rattle.awk_frames.proofs.FrameLaws.{over_type-level}
use Rattle.awk_ends.specs.Operands.{leaf_in, in_primitive}
use Rattle.awk_pair_operands.specs.Paired.{to_depth, types_at_ends, paired_type, paired_value}
use Rattle.awk_pair_operands.specs.Paired.{is_uneven}
use Rattle.awk_pair_operands.specs.Pairs.{are_uneven, datum_from, datum_side, has_wrong_end}
use Rattle.awk_pair_operands.specs.Pairs.{pair_type, pair_values, some_array, single_value}
use Rattle.awk_pair_operands.specs.Typed.{IsTyped}
use Rattle.awk_pair_sides.specs.Levels.{some_option}
use Rattle.awk_pair_sides.specs.Sides.{Side, each, always, side_at, rows_of, equally_long}
use Rattle.awk_pair_sides.specs.Sides.{common_length}
use Rattle.awk_choose.specs.Choice.{far, are_leaves, chosen_in, result_type, result_values}
use Rattle.awk_choose.specs.Choice.{judged_choice, choose_of}
use Rattle.awk_number_laws.specs.Leaves.{IsCondition, IsUnder}
use Rattle.awk_law_chains.proofs.Chains.{Chain, close, layer, chain_type, IsAt, closing}
use Rattle.awk_law_chains.proofs.ChainEnds.{have-at}
use Rattle.awk_number_laws.proofs.LeafChoices as choices
use Rattle.awk_number_laws.proofs.LeafChoices.{choose, chosen, twice, values_twice, row_of}
use Rattle.awk_number_laws.proofs.LeafChoices.{rows_back, under_leaf, list_level, leaf_level}
use Rattle.awk_number_laws.proofs.LeafChoices.{type_level, ends_level, items_back, same_lengths}
use Rattle.awk_number_laws.proofs.LeafChoices.{end_of}
use Rattle.awk_number_laws.proofs.LeafLaws.{choice_type_is}
use Rattle.awk_number_laws.proofs.LeafSigns.{chain_of, chained}
use Rattle.awk_number_laws.proofs.OnePaired.{levels, leaf-chain}

-- ---- a condition's lists

under_chain : (c t : DataType) → IsUnder c t → choices.IsUnder c (chain_of t)
under_chain (leaf Truths) t h = under_leaf (chain_of t)
under_chain (var c) (var t) h = inr (c, refl, under_chain c t h)
under_chain (var c) (opt (var t)) h = inr (c, refl, under_chain c t h)
under_chain (reg n c) (reg m t) h = inr (c, ap (λ i. reg i c) h.0, under_chain c t h.1)
under_chain (reg n c) (opt (reg m t)) h = inr (c, ap (λ i. reg i c) h.0, under_chain c t h.1)
under_chain c t h = absurd h

leaf-list : (d : Class) (t : DataType) → leaf_in (list_type d t) ≡ leaf_in t
leaf-list None t = refl
leaf-list (Some n) t = refl

leaf-under : (c : DataType) (k : Chain) → choices.IsUnder c k → leaf_in c ≡ Of Truths
leaf-under c (close o) q = ap leaf_in q
leaf-under c (layer o d k) (inl e) = ap leaf_in e
leaf-under c (layer o d k) (inr w) = ap leaf_in w.1 ∙ leaf-list d w.0 ∙ leaf-under w.0 k w.2

-- ---- types

close-type : (o : Bool) (p : Primitive) (n : ℕ)
    → over_type (paired_type false to_depth n (twice (leaf Truths) (option_if o (leaf p))))
    (option_if o (leaf p)) ≡ option_if o (leaf p)
close-type true p zero = refl
close-type false p zero = refl
close-type true p (suc n) = refl
close-type false p (suc n) = refl

level-type : (c u : DataType) (o : Bool) (d : Class) (t w r : DataType) (side_of : Value → Side)
    (n : ℕ) → choices.IsLevel c u o d t side_of
    → over_type (paired_type false to_depth n (twice u t)) w ≡ r
    → over_type (paired_type false to_depth (suc n) (twice c (option_if o (list_type d t)))) w
    ≡ option_if o (list_type d r)
level-type c u o d t w r side_of n h e =
    ap (λ s. over_type s w) (type_level c u o d t side_of n h)
    ∙ over_type-level o d (paired_type false to_depth n (twice u t)) w
    ∙ ap (λ s. option_if o (list_type d s)) e

type_back : (k : Chain) (p : Primitive) (n : ℕ) (c : DataType) → choices.IsUnder c k
    → levels k ≤ n
    → over_type (paired_type false to_depth n (twice c (chain_type k (leaf p)))) (end_of k p)
    ≡ chain_type k (leaf p)
type_back (close o) p n c q l =
    ap (λ s. over_type (paired_type false to_depth n (twice s (option_if o (leaf p))))
    (option_if o (leaf p))) q
    ∙ close-type o p n
type_back (layer o d k) p zero c q l = absurd (omega (arith, l))
type_back (layer o d k) p (suc n) c (inl e) l =
    ap (λ s. over_type (paired_type false to_depth (suc n)
    (twice s (option_if o (list_type d (chain_type k (leaf p)))))) (end_of k p)) e
    ∙ level-type (leaf Truths) (leaf Truths) o d (chain_type k (leaf p)) (end_of k p)
    (chain_type k (leaf p)) (λ x. always x) n (leaf_level o d (chain_type k (leaf p)))
    (type_back k p n (leaf Truths) (under_leaf k) (omega (arith, l)))
type_back (layer o d k) p (suc n) c (inr w) l =
    ap (λ s. over_type (paired_type false to_depth (suc n)
    (twice s (option_if o (list_type d (chain_type k (leaf p)))))) (end_of k p)) w.1
    ∙ level-type (list_type d w.0) w.0 o d (chain_type k (leaf p)) (end_of k p)
    (chain_type k (leaf p))
    choices.lists_of n (list_level w.0 o d (chain_type k (leaf p)))
    (type_back k p n w.0 w.2 (omega (arith, l)))

close-option : (o : Bool) (p : Primitive) (n : ℕ)
    → some_option (types_at_ends to_depth n (twice (leaf Truths) (option_if o (leaf p)))) ≡ o
close-option true p zero = refl
close-option false p zero = refl
close-option true p (suc n) = refl
close-option false p (suc n) = refl

option_back : (k : Chain) (p : Primitive) (n : ℕ) (c : DataType) → choices.IsUnder c k
    → levels k ≤ n
    → some_option (types_at_ends to_depth n (twice c (chain_type k (leaf p)))) ≡ closing k
option_back (close o) p n c q l =
    ap (λ s. some_option (types_at_ends to_depth n (twice s (option_if o (leaf p))))) q
    ∙ close-option o p n
option_back (layer o d k) p zero c q l = absurd (omega (arith, l))
option_back (layer o d k) p (suc n) c (inl e) l =
    ap (λ s. some_option (types_at_ends to_depth (suc n)
    (twice s (option_if o (list_type d (chain_type k (leaf p))))))) e
    ∙ ap some_option (ends_level (leaf Truths) (leaf Truths) o d (chain_type k (leaf p))
    (λ x. always x) n (leaf_level o d (chain_type k (leaf p))))
    ∙ option_back k p n (leaf Truths) (under_leaf k) (omega (arith, l))
option_back (layer o d k) p (suc n) c (inr w) l =
    ap (λ s. some_option (types_at_ends to_depth (suc n)
    (twice s (option_if o (list_type d (chain_type k (leaf p))))))) w.1
    ∙ ap some_option (ends_level (list_type d w.0) w.0 o d (chain_type k (leaf p)) choices.lists_of
    n
    (list_level w.0 o d (chain_type k (leaf p))))
    ∙ option_back k p n w.0 w.2 (omega (arith, l))

-- leaves at the ends are not below more lists than are paired
abbrev are_leaf_ends : List DataType → Bool
are_leaf_ends ts = list_all is_leaf (map present ts)

no_list_leaf : (o : Bool) (d : Class) (t : DataType)
    → is_leaf (present (option_if o (list_type d t))) ≡ true → ⊥
no_list_leaf true None t e = cc
no_list_leaf true (Some n) t e = cc
no_list_leaf false None t e = cc
no_list_leaf false (Some n) t e = cc

deep_enough : (k : Chain) (p : Primitive) (n : ℕ) (c : DataType) → choices.IsUnder c k
    → are_leaf_ends (types_at_ends to_depth n (twice c (chain_type k (leaf p)))) ≡ true
    → levels k ≤ n
deep_enough (close o) p n c q e = omega arith
deep_enough (layer o d k) p zero c q e =
    let t = option_if o (list_type d (chain_type k (leaf p))) in
    let f = and_parts (is_leaf (present c)) (is_leaf (present t) && (is_leaf (present t) && true))
    e in
    absurd (no_list_leaf o d (chain_type k (leaf p))
    (and_parts (is_leaf (present t)) (is_leaf (present t) && true) f.1).0)
deep_enough (layer o d k) p (suc n) c (inl g) e =
    let m = deep_enough k p n (leaf Truths) (under_leaf k)
    (ap are_leaf_ends (sym (ends_level (leaf Truths) (leaf Truths) o d (chain_type k (leaf p))
    (λ x. always x) n (leaf_level o d (chain_type k (leaf p)))))
    ∙ ap (λ s. are_leaf_ends (types_at_ends to_depth (suc n)
    (twice s (option_if o (list_type d (chain_type k (leaf p))))))) (sym g) ∙ e) in
    omega (arith, m)
deep_enough (layer o d k) p (suc n) c (inr w) e =
    let m = deep_enough k p n w.0 w.2
    (ap are_leaf_ends (sym (ends_level (list_type d w.0) w.0 o d (chain_type k (leaf p))
    choices.lists_of
    n (list_level w.0 o d (chain_type k (leaf p)))))
    ∙ ap (λ s. are_leaf_ends (types_at_ends to_depth (suc n)
    (twice s (option_if o (list_type d (chain_type k (leaf p))))))) (sym w.1) ∙ e) in
    omega (arith, m)

-- ---- rows

long_of : (c : Datum) (xs : List Value)
    → equally_long (datum_side c ∷ each xs ∷ each xs ∷ []) ≡ true
    → common_length (datum_side c ∷ each xs ∷ each xs ∷ []) ≡ length xs
long_of (arr t vs) xs e = same_lengths (length vs) (length xs) e
long_of (one t v) xs e = refl

have_of : (c : Datum) (xs : List Value) → IsTyped c
    → equally_long (datum_side c ∷ each xs ∷ each xs ∷ []) ≡ true → (j : ℕ) → j < length xs
    → Has (datum_type c) (side_at j (datum_side c))
have_of (arr t vs) xs h e j l =
    all-at (Has t) vs j null h (omega (arith, l, same_lengths (length vs) (length xs) e))
have_of (one t v) xs h e j l = h

-- the rows of an array and its condition
module _ (c : Datum) (k : Chain) (p : Primitive) (vs : List Value) (n : ℕ) (hc : IsTyped c)
    (q : choices.IsUnder (datum_type c) k) (l : levels k ≤ n)
    (h : AllByRecursion (IsAt k (Has (leaf p))) vs) where
  abbrev tx : DataType
  tx = chain_type k (leaf p)

  abbrev ts : List DataType
  ts = twice (datum_type c) tx

  abbrev rs : List Side
  rs = datum_side c ∷ each vs ∷ each vs ∷ []

  abbrev back : List Value → Value
  back row = over (paired_type false to_depth n ts) choose (paired_value false to_depth n ts row)

  rows_chosen : (not (equally_long rs) || list_any (is_uneven false n ts) (rows_of rs)) ≡ false
      → map (over (paired_type false to_depth n ts) choose)
      (map (paired_value false to_depth n ts) (rows_of rs)) ≡ vs
  rows_chosen e =
      let a = or_parts (not (equally_long rs)) (list_any (is_uneven false n ts) (rows_of rs)) e in
      let even = not-false (equally_long rs) a.0 in
      let m = long_of c vs even in
      map-map (over (paired_type false to_depth n ts) choose) (paired_value false to_depth n ts)
      (rows_of rs)
      ∙ ap (λ b. map back (map (row_of (datum_side c) vs) (range_with_len 0 b))) m
      ∙ rows_back (is_uneven false n ts) back (datum_side c) vs 0 (length vs)
      (λ j b f. chosen (Has (leaf p)) k p n (datum_type c) (side_at j (datum_side c))
      (get_or vs j null) q l (have_of c vs hc even j (omega (arith, b)))
      (all-at (IsAt k (Has (leaf p))) vs j null h (omega (arith, b))) f)
      (ap (λ b. list_any (is_uneven false n ts)
      (map (row_of (datum_side c) vs) (range_with_len 0 b)))
      (sym m) ∙ a.1)
      ∙ items_back vs

-- ---- data

even_false : (b : Bool) → (if b then Some Lengths else None) ≡ None → b ≡ false
even_false true e = cc
even_false false e = refl

from_primitive : (j : Result Primitive Fault) (f : Primitive → Result Datum Fault) (d : Datum)
    (p : Primitive) → j ≡ Ok p → in_primitive j f ≡ Ok d → f p ≡ Ok d
from_primitive (Ok q) f d p g e = let same : q ≡ p = cc in ap f (sym same) ∙ e
from_primitive (Err x) f d p g e = cc

right_ends : (b : Bool) (r : Result Datum Fault) (d : Datum)
    → (if not b then Err WrongType else r) ≡ Ok d → (b ≡ true) × (r ≡ Ok d)
right_ends true r d e = (refl, e)
right_ends false r d e = cc

module _ (c x made : Datum) (k : Chain) (p : Primitive) (t : datum_type x ≡ chain_type k (leaf p))
    (q : choices.IsUnder (datum_type c) k) where
  abbrev ds : List Datum
  ds = c ∷ x ∷ x ∷ []

  abbrev n : ℕ
  n = if some_array ds then 63 else 64

  record IsChosen : Type 0 where
    enough : levels k ≤ n
    even : are_uneven false far ds ≡ false
    is : made ≡ datum_from (some_array ds) (chain_type k (leaf p))
        (map (over (pair_type false far ds) choose) (pair_values false far ds))

  judged_is : choice_judged (leaf_in (datum_type c)) (leaf_in (datum_type x))
      (leaf_in (datum_type x)) ≡ Ok p
  judged_is =
      ap₂ (λ a b. choice_judged a b b) (leaf-under (datum_type c) k q)
      (ap leaf_in t ∙ leaf-chain k p)
      ∙ choice_type_is p

  chosen_is : choose_of c (datum x) (datum x) ≡ Ok made → IsChosen
  chosen_is e =
      let f = right_ends (are_leaves ds) (judged_choice c (datum x) (datum x)) made e in
      let g = from_primitive (choice_judged (leaf_in (datum_type c)) (leaf_in (datum_type x))
      (leaf_in (datum_type x))) (chosen_in (datum x) (datum x) ds) made p judged_is f.1 in
      let limits = limit_refused (result_type p ds) in
      let wrong = if has_wrong_end far ds then Some WrongType else None in
      let uneven = if are_uneven false far ds then Some Lengths else None in
      let sizes = sizes_refused (pair_type false far ds) (pair_values false far ds) in
      let r = refused_or-Ok (limits or (wrong or (uneven or sizes)))
      (datum_from (some_array ds) (result_type p ds) (result_values (datum x) (datum x) ds)) made
      g in
      let m = or-both uneven sizes
      (or-both wrong (uneven or sizes) (or-both limits (wrong or (uneven or sizes)) r.0).1).1 in
      let l = deep_enough k p n (datum_type c) q
      (ap (λ s. are_leaf_ends (types_at_ends to_depth n (twice (datum_type c) s))) (sym t) ∙ f.0) in
      record {
        enough = l;
        even = even_false (are_uneven false far ds) m.0;
        is =
            sym r.1
            ∙ ap (λ s. datum_from (some_array ds) s
            (map (over (pair_type false far ds) choose) (pair_values false far ds)))
            (ap (λ s. over_type (paired_type false to_depth n (twice (datum_type c) s))
            (option_if (some_option (types_at_ends to_depth n (twice (datum_type c) s)))
            (leaf p))) t
            ∙ ap (λ o. over_type (paired_type false to_depth n
            (twice (datum_type c) (chain_type k (leaf p)))) (option_if o (leaf p)))
            (option_back k p n (datum_type c) q l)
            ∙ type_back k p n (datum_type c) q l);
      }

array_of : (c : Datum) (t : DataType) (vs : List Value)
    → some_array (c ∷ arr t vs ∷ arr t vs ∷ []) ≡ true
array_of (arr u ws) t vs = refl
array_of (one u w) t vs = refl

abbrev single_rows : Datum → DataType → List Value → List (List Value)
single_rows c t vs = map single_value (c ∷ arr t vs ∷ arr t vs ∷ []) ∷ []

of_array : (c made : Datum) (p : Primitive) (t : DataType) (vs : List Value) → IsTyped c
    → AllByRecursion (Has t) vs → (k : Chain) → t ≡ chain_type k (leaf p)
    → choices.IsUnder (datum_type c) k
    → choose_of c (datum (arr t vs)) (datum (arr t vs)) ≡ Ok made → made ≡ arr t vs
of_array c made p t vs hc h k e q f =
    let g = chosen_is c (arr t vs) made k p e q f in
    let b = array_of c t vs in
    let ns = twice (datum_type c) t in
    let rs = datum_side c ∷ each vs ∷ each vs ∷ [] in
    let l : levels k ≤ 63 = subst (λ a. levels k ≤ (if a then 63 else 64)) b g.enough in
    let u : (not (equally_long rs) || list_any (is_uneven false 63 (twice (datum_type c)
    (chain_type k (leaf p)))) (rows_of rs)) ≡ false =
    ap (λ s. not (equally_long rs) || list_any (is_uneven false 63 (twice (datum_type c) s))
    (rows_of rs)) (sym e)
    ∙ subst (λ a. (not (equally_long rs) || list_any (is_uneven false (if a then 63 else 64) ns)
    (if a then rows_of rs else single_rows c t vs)) ≡ false) b g.even in
    g.is
    ∙ ap (λ a. datum_from a (chain_type k (leaf p))
    (map (over (paired_type false to_depth (if a then 63 else 64) ns) choose)
    (map (paired_value false to_depth (if a then 63 else 64) ns)
    (if a then rows_of rs else single_rows c t vs)))) b
    ∙ ap (λ s. arr (chain_type k (leaf p))
    (map (over (paired_type false to_depth 63 (twice (datum_type c) s)) choose)
    (map (paired_value false to_depth 63 (twice (datum_type c) s)) (rows_of rs)))) e
    ∙ ap (arr (chain_type k (leaf p)))
    (rows_chosen c k p vs 63 hc q l
    (have-at k (leaf p) vs (subst (λ s. AllByRecursion (Has s) vs) e h)) u)
    ∙ ap (λ s. arr s vs) (sym e)

of_value : (c : DataType) (v : Value) (made : Datum) (p : Primitive) (t : DataType) (w : Value)
    → Has c v → Has t w → (k : Chain) → t ≡ chain_type k (leaf p) → choices.IsUnder c k
    → choose_of (one c v) (datum (one t w)) (datum (one t w)) ≡ Ok made → made ≡ one t w
of_value c v made p t w hc h k e q f =
    let g = chosen_is (one c v) (one t w) made k p e q f in
    let u = or_parts (is_uneven false 64 (twice c t) (values_twice v w)) false g.even in
    g.is
    ∙ ap (λ s. one (chain_type k (leaf p)) (over (paired_type false to_depth 64 (twice c s)) choose
    (paired_value false to_depth 64 (twice c s) (values_twice v w)))) e
    ∙ ap (one (chain_type k (leaf p)))
    (chosen (Has (leaf p)) k p 64 c v w q g.enough hc
    (have-at k (leaf p) (w ∷ []) (subst (λ s. AllByRecursion (Has s) (w ∷ [])) e (h, tt))).0
    (ap (λ s. is_uneven false 64 (twice c s) (values_twice v w)) (sym e) ∙ u.0))
    ∙ ap (λ s. one s w) (sym e)

pub choice_of : (p : Primitive) (c x made : Datum) → IsTyped c → IsTyped x
    → IsSimple (datum_type x) → leaf_in (datum_type x) ≡ Of p → IsCondition c x
    → choose_of c (datum x) (datum x) ≡ Ok made → made ≡ x
choice_of p (arr c cs) (arr t vs) made hc h s l q e =
    of_array (arr c cs) made p t vs hc h (chain_of t) (chained t p s l) (under_chain c t q) e
choice_of p (one c v) (arr t vs) made hc h s l q e =
    of_array (one c v) made p t vs hc h (chain_of t) (chained t p s l)
    (subst (λ u. choices.IsUnder u (chain_of t)) (sym q) (under_leaf (chain_of t))) e
choice_of p (one c v) (one t w) made hc h s l q e =
    of_value c v made p t w hc h (chain_of t) (chained t p s l) (under_chain c t q) e
choice_of p (arr c cs) (one t w) made hc h s l q e = absurd q
