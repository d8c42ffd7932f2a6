-- One operand alone, paired to its leaves: a row of one at each end of it.
use Rattle.std.specs.Prelude.{◌≡◌, ℕ, zero, suc, ◌==◌, ◌≤◌, max, Bool, true, false, not, ◌&&◌, ◌||◌}
use Rattle.std.specs.Prelude.{List, [], ◌∷◌, map, length, get_or, Some, None, Ok, Err, refl}
use Rattle.std.specs.Prelude.{if◌then◌else◌}
use Rattle.std.specs.List.{AllByRecursion, list_any, range_with_len}
use Rattle.std.proofs.Common.{ap, ap₂, sym, ◌∙◌, arith}
use Rattle.std.proofs.lemmas.List.FromFn.{fill_by_all}
use Rattle.std.proofs.lemmas.Simd.{map-map}
use Rattle.awk_types.specs.DataType.{DataType, leaf, var, opt, tup, no_types, type, depth}
use Rattle.awk_types.specs.Datum.{Datum, datum_type}
use Rattle.awk_types.specs.Faults.{limit_refused}
use Rattle.awk_types.specs.Gives.{refused_or, ◌or◌}
use Rattle.awk_types.specs.ItemLimit.{too_many}
use Rattle.awk_types.specs.Simple.{option_if, in_list}
use Rattle.awk_types.specs.Value.{Value, int, truth, null, list, row, alt, value, no_values}
use Rattle.awk_types.specs.Value.{values_from}
use Rattle.awk_types.specs.declared.fault.Fault.TheVariants.{WrongType, Lengths}
use Rattle.awk_types.specs.declared.primitive.Primitive.{Primitive}
use Rattle.awk_columns.specs.Columns.{is_present, list_items}
use Rattle.awk_columns.specs.ListClass.{Class, list_type}
use Rattle.awk_frames.specs.Framed.{over, over_type}
use Rattle.awk_frames.specs.Sizes.{sizes_refused}
use Rattle.awk_frames.specs.Shape.{ends}
use Rattle.awk_leaves.specs.Table.{unary_judged}
use Rattle.awk_leaves.specs.Values.{unary_at}
use Rattle.awk_leaves.specs.declared.leaf_type.LeafType.TheVariants.{Of}
use Rattle.awk_leaves.specs.declared.operation.Unary.{Unary}
use Rattle.awk_ends.specs.Operands.{leaf_in, in_primitive}
use Rattle.awk_pair_operands.specs.Answer.{shared_ends}
use Rattle.awk_pair_operands.specs.Paired.{to_leaves, paired_type, paired_value, is_uneven}
use Rattle.awk_pair_operands.specs.Paired.{is_wrong, all_levels}
use Rattle.awk_pair_operands.specs.Pairs.{datum_from, datum_side, first_rows, has_wrong_end}
use Rattle.awk_pair_operands.specs.Pairs.{are_uneven, pair_refused, pair_type, pair_values}
use Rattle.awk_pair_operands.specs.Pairs.{some_array}
use Rattle.awk_pair_sides.specs.Levels.{level_class}
use Rattle.awk_pair_sides.specs.Sides.{each, rows_of, inner_rows, level_sides, equally_long}
use Rattle.awk_arith.specs.AtLeaves.{at_leaves, first_fault, leaves_refused, result_type}
use Rattle.awk_arith.specs.AtLeaves.{value_or_null}
use Rattle.awk_arith.specs.Unary.{unary_of, unary_row}
use Rattle.awk_law_chains.proofs.Chains.{Chain, close, layer, chain_type, at_ends, IsAt, is_lists}
use Rattle.awk_law_chains.proofs.Chains.{same-each, chain_sizes, chain_ends, over-chain}
use Rattle.awk_law_chains.proofs.Chains.{over_type-chain, sizes-chain, sizes-mapped, ends-chain}
use Rattle.awk_law_chains.proofs.Chains.{length-each}
use Rattle.awk_law_chains.proofs.ChainEnds.{twice-each, ends-mapped}

-- a row of one
abbrev pub alone : Value → Value
alone v = row (value v no_values)

-- how many lists there are above the ends
abbrev pub levels : Chain → ℕ
levels (close o) = 0
levels (layer o c k) = suc (levels k)

depth-option : (o : Bool) (t : DataType) → depth t ≤ depth (option_if o t)
depth-option true t = omega arith
depth-option false t = omega arith

depth-list : (c : Class) (t : DataType) → depth (list_type c t) ≡ suc (depth t)
depth-list None t = refl
depth-list (Some n) t = refl

levels-depth : (k : Chain) (u : DataType) → levels k ≤ depth (chain_type k u)
levels-depth (close o) u = omega arith
levels-depth (layer o c k) u =
    omega (
      arith,
      levels-depth k u,
      depth-list c (chain_type k u),
      depth-option o (list_type c (chain_type k u)),
    )

enough : (k : Chain) (p : Primitive) → levels k ≤ all_levels (chain_type k (leaf p) ∷ [])
enough k p =
    let m : depth (chain_type k (leaf p)) ≤ max (depth (chain_type k (leaf p))) 0 = omega arith in
    omega (arith, levels-depth k (leaf p), m)

-- ---- types

not_stretched : (b : Bool) → (not b || false) && b ≡ false
not_stretched true = refl
not_stretched false = refl

one_class : (o : Bool) (c : Class) (t : DataType)
    → level_class false (option_if o (list_type c t) ∷ []) ≡ c
one_class true None t = refl
one_class false None t = refl
one_class true (Some n) t = rw (not_stretched (n == 1)) refl
one_class false (Some n) t = rw (not_stretched (n == 1)) refl

list_level : (o : Bool) (c : Class) (t u : DataType) (d : ℕ)
    → paired_type false to_leaves d (t ∷ []) ≡ u
    → paired_type false to_leaves (suc d) (option_if o (list_type c t) ∷ [])
    ≡ option_if o (list_type c u)
list_level true None t u d e = ap (λ w. opt (var w)) e
list_level false None t u d e = ap var e
list_level true (Some n) t u d e =
    ap₂ (λ k w. opt (list_type k w)) (one_class true (Some n) t) e
list_level false (Some n) t u d e = ap₂ list_type (one_class false (Some n) t) e

pub one_type : (k : Chain) (p : Primitive) (d : ℕ) → levels k ≤ d
    → paired_type false to_leaves d (chain_type k (leaf p) ∷ [])
    ≡ chain_type k (tup (type (leaf p) no_types))
one_type (close true) p zero l = refl
one_type (close false) p zero l = refl
one_type (close true) p (suc d) l = refl
one_type (close false) p (suc d) l = refl
one_type (layer o c k) p zero l = absurd (omega (arith, l))
one_type (layer o c k) p (suc d) l =
    list_level o c (chain_type k (leaf p)) (chain_type k (tup (type (leaf p) no_types))) d
    (one_type k p d (omega (arith, l)))

-- ---- values

rows-each : (vs : List Value) → rows_of (each vs ∷ []) ≡ map (λ v. v ∷ []) vs
rows-each vs =
    sym (map-map (λ (v : Value). v ∷ []) (λ k. get_or vs k null) (range_with_len 0 (length vs)))
    ∙ ap (map (λ (v : Value). v ∷ []))
    (sym (fill_by_all (λ k. get_or vs k null) vs (length vs) null refl (λ k p. refl)))

one_sides : (o : Bool) (c : Class) (t : DataType) (v : Value)
    → level_sides false (option_if o (list_type c t) ∷ []) (v ∷ []) ≡ each (list_items v) ∷ []
one_sides true None t v = refl
one_sides false None t v = refl
one_sides true (Some n) t v = rw (not_stretched (n == 1)) refl
one_sides false (Some n) t v = rw (not_stretched (n == 1)) refl

one_rows : (o : Bool) (c : Class) (t : DataType) (v : Value)
    → inner_rows false (option_if o (list_type c t) ∷ []) (v ∷ [])
    ≡ map (λ x. x ∷ []) (list_items v)
one_rows o c t v = ap rows_of (one_sides o c t v) ∙ rows-each (list_items v)

abbrev paired_one : ℕ → DataType → Value → Value
paired_one d t v = paired_value false to_leaves d (t ∷ []) (v ∷ [])

list_pairs : (o : Bool) (c : Class) (t : DataType) (d : ℕ) (v : Value) (f : Value → Value)
    → map (paired_one d t) (list_items v) ≡ map f (list_items v)
    → list (values_from (map (paired_value false to_leaves d (t ∷ []))
    (inner_rows false (option_if o (list_type c t) ∷ []) (v ∷ []))))
    ≡ list (values_from (map f (list_items v)))
list_pairs o c t d v f e =
    ap (λ xs. list (values_from xs))
    (ap (map (paired_value false to_leaves d (t ∷ []))) (one_rows o c t v)
    ∙ map-map (paired_value false to_leaves d (t ∷ [])) (λ x. x ∷ []) (list_items v) ∙ e)

list_value : (o : Bool) (c : Class) (t : DataType) (d : ℕ) (v : Value) (f : Value → Value)
    → is_lists o v ≡ true → map (paired_one d t) (list_items v) ≡ map f (list_items v)
    → paired_one (suc d) (option_if o (list_type c t)) v ≡ in_list f v
list_value true None t d null f i e = refl
list_value true (Some n) t d null f i e = refl
list_value true None t d (list vs) f i e = list_pairs true None t d (list vs) f e
list_value true (Some n) t d (list vs) f i e = list_pairs true (Some n) t d (list vs) f e
list_value false None t d (list vs) f i e = list_pairs false None t d (list vs) f e
list_value false (Some n) t d (list vs) f i e = list_pairs false (Some n) t d (list vs) f e
list_value false c t d null f i e = cc
list_value o c t d (int z) f i e = cc
list_value o c t d (truth b) f i e = cc
list_value o c t d (row vs) f i e = cc
list_value o c t d (alt j v) f i e = cc

end_alone : (o : Bool) (p : Primitive) (d : ℕ) (v : Value)
    → paired_one d (option_if o (leaf p)) v ≡ at_ends (close o) alone v
end_alone true p zero null = refl
end_alone true p zero (int z) = refl
end_alone true p zero (truth b) = refl
end_alone true p zero (list vs) = refl
end_alone true p zero (row vs) = refl
end_alone true p zero (alt j v) = refl
end_alone true p (suc d) null = refl
end_alone true p (suc d) (int z) = refl
end_alone true p (suc d) (truth b) = refl
end_alone true p (suc d) (list vs) = refl
end_alone true p (suc d) (row vs) = refl
end_alone true p (suc d) (alt j v) = refl
end_alone false p zero v = refl
end_alone false p (suc d) v = refl

pub one_value : (P : Value → Type 0) (k : Chain) (p : Primitive) (d : ℕ) (v : Value)
    → levels k ≤ d → IsAt k P v → paired_one d (chain_type k (leaf p)) v ≡ at_ends k alone v
one_value P (close o) p d v l i = end_alone o p d v
one_value P (layer o c k) p zero v l i = absurd (omega (arith, l))
one_value P (layer o c k) p (suc d) v l i =
    list_value o c (chain_type k (leaf p)) d v (at_ends k alone) i.0
    (same-each (IsAt k P) (paired_one d (chain_type k (leaf p))) (at_ends k alone) (list_items v)
    (λ x j. one_value P k p d x (omega (arith, l)) j) i.1)

-- ---- lengths

abbrev uneven_one : ℕ → DataType → Value → Bool
uneven_one d t v = is_uneven false d (t ∷ []) (v ∷ [])

any_row : (P : Value → Type 0) (t : DataType) (d : ℕ) (vs : List Value)
    → ((x : Value) → P x → uneven_one d t x ≡ false) → AllByRecursion P vs
    → list_any (is_uneven false d (t ∷ [])) (map (λ x. x ∷ []) vs) ≡ false
any_row P t d [] e h = refl
any_row P t d (v ∷ vs) e h = ap₂ (λ a b. a || b) (e v h.0) (any_row P t d vs e h.1)

even_list : (o : Bool) (c : Class) (t : DataType) (d : ℕ) (v : Value)
    → list_any (is_uneven false d (t ∷ [])) (map (λ x. x ∷ []) (list_items v)) ≡ false
    → not (equally_long (level_sides false (option_if o (list_type c t) ∷ []) (v ∷ [])))
    || list_any (is_uneven false d (t ∷ []))
    (inner_rows false (option_if o (list_type c t) ∷ []) (v ∷ []))
    ≡ false
even_list o c t d v e =
    ap₂ (λ ss rows. not (equally_long ss) || list_any (is_uneven false d (t ∷ [])) rows)
    (one_sides o c t v) (one_rows o c t v) ∙ e

either_false : (b : Bool) (x : Bool) → x ≡ false → (if b then false else x) ≡ false
either_false true x e = refl
either_false false x e = e

even_level : (o : Bool) (c : Class) (t : DataType) (d : ℕ) (v : Value)
    → list_any (is_uneven false d (t ∷ [])) (map (λ x. x ∷ []) (list_items v)) ≡ false
    → uneven_one (suc d) (option_if o (list_type c t)) v ≡ false
even_level true None t d v e =
    either_false (not (is_present v && true)) _ (even_list true None t d v e)
even_level true (Some n) t d v e =
    either_false (not (is_present v && true)) _ (even_list true (Some n) t d v e)
even_level false None t d v e = even_list false None t d v e
even_level false (Some n) t d v e = even_list false (Some n) t d v e

pub one_even : (P : Value → Type 0) (k : Chain) (p : Primitive) (d : ℕ) (v : Value)
    → IsAt k P v → uneven_one d (chain_type k (leaf p)) v ≡ false
one_even P (close true) p zero v i = refl
one_even P (close false) p zero v i = refl
one_even P (close true) p (suc d) v i = refl
one_even P (close false) p (suc d) v i = refl
one_even P (layer o c k) p zero v i = refl
one_even P (layer o c k) p (suc d) v i =
    even_level o c (chain_type k (leaf p)) d v
    (any_row (IsAt k P) (chain_type k (leaf p)) d (list_items v)
    (λ x j. one_even P k p d x j) i.1)

-- ---- ends that are leaves

right_list : (o : Bool) (c : Class) (t : DataType) (d : ℕ)
    → is_wrong to_leaves (suc d) (option_if o (list_type c t) ∷ [])
    ≡ is_wrong to_leaves d (t ∷ [])
right_list true None t d = refl
right_list true (Some n) t d = refl
right_list false None t d = refl
right_list false (Some n) t d = refl

pub one_right : (k : Chain) (p : Primitive) (d : ℕ) → levels k ≤ d
    → is_wrong to_leaves d (chain_type k (leaf p) ∷ []) ≡ false
one_right (close true) p zero l = refl
one_right (close false) p zero l = refl
one_right (close true) p (suc d) l = refl
one_right (close false) p (suc d) l = refl
one_right (layer o c k) p zero l = absurd (omega (arith, l))
one_right (layer o c k) p (suc d) l =
    right_list o c (chain_type k (leaf p)) d ∙ one_right k p d (omega (arith, l))

leaf-list : (o : Bool) (c : Class) (t : DataType)
    → leaf_in (option_if o (list_type c t)) ≡ leaf_in t
leaf-list true None t = refl
leaf-list true (Some n) t = refl
leaf-list false None t = refl
leaf-list false (Some n) t = refl

pub leaf-chain : (k : Chain) (p : Primitive) → leaf_in (chain_type k (leaf p)) ≡ Of p
leaf-chain (close true) p = refl
leaf-chain (close false) p = refl
leaf-chain (layer o c k) p = leaf-list o c (chain_type k (leaf p)) ∙ leaf-chain k p

-- ---- a datum

-- values of a chain, or one
pub record IsChainOf (P : Value → Type 0) (b : Bool) (k : Chain) (vs : List Value) : Type 0 where
  pub single : b ≡ false → (v : Value) × (vs ≡ v ∷ [])
  pub each : AllByRecursion (IsAt k P) vs

abbrev pub made : Bool → Chain → Primitive → List Value → Datum
made b k p vs = datum_from b (chain_type k (leaf p)) vs

some_made : (b : Bool) (t : DataType) (vs : List Value) → some_array (datum_from b t vs ∷ []) ≡ b
some_made true t vs = refl
some_made false t vs = refl

type_made : (b : Bool) (t : DataType) (vs : List Value) → datum_type (datum_from b t vs) ≡ t
type_made true t vs = refl
type_made false t vs = refl

rows_made : (b : Bool) (t : DataType) (vs : List Value)
    → (b ≡ false → (v : Value) × (vs ≡ v ∷ []))
    → first_rows (datum_from b t vs ∷ []) ≡ map (λ v. v ∷ []) vs
rows_made true t vs h = rows-each vs
rows_made false t vs h =
    let p = h refl in
    ap (λ ws. first_rows (datum_from false t ws ∷ [])) p.1 ∙ sym (ap (map (λ v. v ∷ [])) p.1)

module _ (P : Value → Type 0) (b : Bool) (k : Chain) (p : Primitive) (vs : List Value)
    (h : IsChainOf P b k vs) where
  abbrev d : List Datum
  d = made b k p vs ∷ []

  abbrev t : DataType
  t = chain_type k (leaf p)

  fuel : levels k ≤ all_levels (t ∷ [])
  fuel = enough k p

  pub type_paired : pair_type false None d ≡ chain_type k (tup (type (leaf p) no_types))
  type_paired =
      ap (λ u. paired_type false to_leaves (all_levels (u ∷ [])) (u ∷ [])) (type_made b t vs)
      ∙ one_type k p (all_levels (t ∷ [])) fuel

  pub values_paired : pair_values false None d ≡ map (at_ends k alone) vs
  values_paired =
      ap₂ (λ u rows. map (paired_value false to_leaves (all_levels (u ∷ [])) (u ∷ [])) rows)
      (type_made b t vs) (rows_made b t vs h.single)
      ∙ map-map (paired_value false to_leaves (all_levels (t ∷ [])) (t ∷ [])) (λ v. v ∷ []) vs
      ∙ same-each (IsAt k P) (paired_one (all_levels (t ∷ [])) t) (at_ends k alone) vs
      (λ x j. one_value P k p (all_levels (t ∷ [])) x fuel j) h.each

  pub right_end : has_wrong_end None d ≡ false
  right_end =
      ap (λ u. is_wrong to_leaves (all_levels (u ∷ [])) (u ∷ [])) (type_made b t vs)
      ∙ one_right k p (all_levels (t ∷ [])) fuel

  even_first : (c : Bool) (ws : List Value)
      → equally_long (map datum_side (datum_from c t ws ∷ [])) ≡ true
  even_first true ws = refl
  even_first false ws = refl

  pub even_lengths : are_uneven false None d ≡ false
  even_lengths =
      ap₂ (λ x y. not x || y) (even_first b vs)
      (ap₂ (λ u rows. list_any (is_uneven false (all_levels (u ∷ [])) (u ∷ [])) rows)
      (type_made b t vs) (rows_made b t vs h.single)
      ∙ any_row (IsAt k P) t (all_levels (t ∷ [])) vs
      (λ x j. one_even P k p (all_levels (t ∷ [])) x j) h.each)

  pub refused_paired : pair_refused false None d ≡ (too_many (length vs) or chain_sizes k vs)
  refused_paired =
      ap₂ (λ x y. (if x then Some WrongType else None)
      or ((if y then Some Lengths else None)
      or sizes_refused (pair_type false None d) (pair_values false None d)))
      right_end even_lengths
      ∙ ap₂ sizes_refused type_paired values_paired
      ∙ ap₂ (λ n o. too_many n or o) (length-each (at_ends k alone) vs)
      (sizes-chain k (tup (type (leaf p) no_types)) (map (at_ends k alone) vs) tt
      ∙ sizes-mapped k alone vs)

  pub ends_paired : shared_ends false None d ≡ map alone (chain_ends k vs)
  ends_paired =
      ap₂ ends type_paired values_paired
      ∙ ends-chain k (tup (type (leaf p) no_types)) (map (at_ends k alone) vs) tt
      ∙ ends-mapped P alone (λ x j. refl) k vs h.each

  pub over_paired : (f : Value → Value)
      → map (over (pair_type false None d) f) (pair_values false None d)
      ≡ map (at_ends k (λ v. f (alone v))) vs
  over_paired f =
      ap₂ (λ u ws. map (over u f) ws) type_paired values_paired
      ∙ same_over (map (at_ends k alone) vs)
      ∙ twice-each P alone (λ x j. refl) f (λ v. f (alone v)) (λ x j. refl) k vs h.each
    where
      same_over : (ws : List Value)
          → map (over (chain_type k (tup (type (leaf p) no_types))) f) ws ≡ map (at_ends k f) ws
      same_over [] = refl
      same_over (w ∷ ws) =
          ap₂ (λ x xs. x ∷ xs) (over-chain k (tup (type (leaf p) no_types)) f w tt) (same_over ws)

  pub over_result : (q : Primitive)
      → over_type (pair_type false None d) (leaf q) ≡ chain_type k (leaf q)
  over_result q =
      ap (λ u. over_type u (leaf q)) type_paired
      ∙ over_type-chain k (tup (type (leaf p) no_types)) (leaf q) tt (λ e. refl)

  -- ---- an operation on it

  pub unary_is : (op : Unary) (q : Primitive) → unary_judged op (Of p) ≡ Ok q
      → unary_of op (made b k p vs)
      ≡ refused_or (limit_refused (chain_type k (leaf q))
      or ((too_many (length vs) or chain_sizes k vs)
      or first_fault (map (unary_at op q) (chain_ends k vs))))
      (made b k q (map (at_ends k (λ v. value_or_null (unary_at op q v))) vs))
  unary_is op q e =
      ap (λ w. if w then Err WrongType
      else in_primitive (unary_judged op (leaf_in (datum_type (made b k p vs))))
      (λ r. at_leaves r (unary_row op r) d)) right_end
      ∙ ap (λ j. in_primitive j (λ r. at_leaves r (unary_row op r) d))
      (ap (unary_judged op) (ap leaf_in (type_made b t vs) ∙ leaf-chain k p) ∙ e)
      ∙ ap₂ refused_or refused
      (ap₂ (λ c ws. datum_from c (result_type q d) ws) (some_made b t vs)
      (over_paired (λ v. value_or_null (unary_row op q v)))
      ∙ ap (λ u. datum_from b u (map (at_ends k (λ v. value_or_null (unary_at op q v))) vs))
      (over_result q))
    where
      refused : leaves_refused q (unary_row op q) d
          ≡ (limit_refused (chain_type k (leaf q))
          or ((too_many (length vs) or chain_sizes k vs)
          or first_fault (map (unary_at op q) (chain_ends k vs))))
      refused =
          ap₂ (λ u o. limit_refused u or o) (over_result q)
          (ap₂ (λ x es. x or first_fault (map (unary_row op q) es)) refused_paired ends_paired
          ∙ ap (λ es. (too_many (length vs) or chain_sizes k vs) or first_fault es)
          (map-map (unary_row op q) alone (chain_ends k vs)))
