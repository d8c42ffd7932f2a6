-- A choice between an array and itself.
use Rattle.std.specs.Prelude.{◌≡◌, ℕ, zero, suc, ◌+◌, ◌==◌, ◌≤◌, ◌<◌, Bool, true, false, not, ◌&&◌}
use Rattle.std.specs.Prelude.{◌||◌, ◌⊎◌, List, [], ◌∷◌, map, length, get_or, Some, None}
use Rattle.std.specs.Prelude.{refl, if◌then◌else◌}
use Rattle.std.specs.List.{AllByRecursion, list_any, range_with_len}
use Rattle.std.proofs.Common.{ap, ap₂, sym, ◌∙◌, arith, subst, inl, inr}
use Rattle.std.proofs.lemmas.List.FromFn.{fill_by_all}
use Rattle.std.proofs.lemmas.Bool.{not-false, or_parts}
use Rattle.std.proofs.lemmas.Simd.{map-map}
use Rattle.awk_base.proofs.Truths.{eq-refl}
use Rattle.awk_base.proofs.Every.{all-at}
use Rattle.awk_types.specs.DataType.{DataType, leaf, tup, opt, types_from}
use Rattle.awk_types.specs.Has.{Has}
use Rattle.awk_types.specs.Predicates.{is_null}
use Rattle.awk_types.specs.Simple.{option_if}
use Rattle.awk_types.specs.Value.{Value, Values, int, truth, null, list, row, alt}
use Rattle.awk_types.specs.Value.{value_list, values_from}
use Rattle.awk_types.specs.declared.primitive.Primitive.{Primitive}
use Rattle.awk_types.specs.declared.primitive.Primitive.TheVariants.{Bool as Truths}
use Rattle.awk_types.proofs.Trees.{value_list-from, values_from-list}
use Rattle.awk_columns.specs.Columns.{is_present, list_items, part_at}
use Rattle.awk_columns.specs.ListClass.{Class, list_type}
use Rattle.awk_frames.specs.Framed.{over}
use Rattle.awk_leaves.specs.Values.{chosen_at}
use Rattle.awk_columns.proofs.ListTypes.{list-has}
use Rattle.awk_pair_operands.specs.Paired.{to_depth, types_at_ends, paired_type, paired_value}
use Rattle.awk_pair_operands.specs.Paired.{is_uneven}
use Rattle.awk_pair_sides.specs.Levels.{level_class, some_option, opens, item_types}
use Rattle.awk_pair_sides.specs.Sides.{Side, each, always, side_at, rows_of, equally_long}
use Rattle.awk_pair_sides.specs.Sides.{common_length, level_sides, misses}
use Rattle.awk_law_chains.proofs.Chains.{Chain, close, layer, chain_type, IsAt, closing}
use Rattle.awk_number_laws.proofs.LeafLaws.{choice_is}
use Rattle.awk_number_laws.proofs.OnePaired.{levels}

-- ---- a condition whose lists are those of another type, from the outermost on

abbrev pub IsUnder : DataType → Chain → Type 0
IsUnder c (close o) = c ≡ leaf Truths
IsUnder c (layer o d k) =
    (c ≡ leaf Truths) ⊎ ((u : DataType) × (c ≡ list_type d u) × IsUnder u k)

-- what is chosen by the first part of a row, of the second and the third
abbrev pub choose : Value → Value
choose v = chosen_at (part_at 0 v) (part_at 1 v) (part_at 2 v)

abbrev pub twice : DataType → DataType → List DataType
twice c t = c ∷ t ∷ t ∷ []

abbrev pub values_twice : Value → Value → List Value
values_twice v w = v ∷ w ∷ w ∷ []

pub under_leaf : (k : Chain) → IsUnder (leaf Truths) k
under_leaf (close o) = refl
under_leaf (layer o d k) = inl refl

-- ---- one level: the condition's lists, or the condition at every place

abbrev pub end_of : Chain → Primitive → DataType
end_of k p = option_if (closing k) (leaf p)

not_three : (b : Bool) → (not b || (not b || (not b || false))) && b ≡ false
not_three true = refl
not_three false = refl

not_two : (b : Bool) → (not b || (not b || false)) && b ≡ false
not_two true = refl
not_two false = refl

-- what a level of three operands is, of which the last two are the same
pub record IsLevel (c u : DataType) (o : Bool) (d : Class) (t : DataType) (side_of : Value → Side)
    : Type 0 where
  pub opened : opens (twice c (option_if o (list_type d t))) ≡ true
  pub items : item_types (twice c (option_if o (list_type d t))) ≡ twice u t
  pub optional : some_option (twice c (option_if o (list_type d t))) ≡ o
  pub classed : level_class false (twice c (option_if o (list_type d t))) ≡ d
  pub sides_are : (v w : Value)
      → level_sides false (twice c (option_if o (list_type d t))) (values_twice v w)
      ≡ side_of v ∷ each (list_items w) ∷ each (list_items w) ∷ []

abbrev pub lists_of : Value → Side
lists_of v = each (list_items v)

pub list_level : (u : DataType) (o : Bool) (d : Class) (t : DataType)
    → IsLevel (list_type d u) u o d t lists_of
list_level u true None t = record {
  opened = refl;
  items = refl;
  optional = refl;
  classed = refl;
  sides_are = λ v w. refl;
}
list_level u false None t = record {
  opened = refl;
  items = refl;
  optional = refl;
  classed = refl;
  sides_are = λ v w. refl;
}
list_level u true (Some n) t = record {
  opened = refl;
  items = refl;
  optional = refl;
  classed = rw (not_three (n == 1), eq-refl n) refl;
  sides_are = λ v w. rw (not_three (n == 1)) refl;
}
list_level u false (Some n) t = record {
  opened = refl;
  items = refl;
  optional = refl;
  classed = rw (not_three (n == 1), eq-refl n) refl;
  sides_are = λ v w. rw (not_three (n == 1)) refl;
}

pub leaf_level : (o : Bool) (d : Class) (t : DataType)
    → IsLevel (leaf Truths) (leaf Truths) o d t (λ v. always v)
leaf_level true None t = record {
  opened = refl;
  items = refl;
  optional = refl;
  classed = refl;
  sides_are = λ v w. refl;
}
leaf_level false None t = record {
  opened = refl;
  items = refl;
  optional = refl;
  classed = refl;
  sides_are = λ v w. refl;
}
leaf_level true (Some n) t = record {
  opened = refl;
  items = refl;
  optional = refl;
  classed = rw (not_two (n == 1), eq-refl n) refl;
  sides_are = λ v w. rw (not_two (n == 1)) refl;
}
leaf_level false (Some n) t = record {
  opened = refl;
  items = refl;
  optional = refl;
  classed = rw (not_two (n == 1), eq-refl n) refl;
  sides_are = λ v w. rw (not_two (n == 1)) refl;
}

-- ---- types

pub type_level : (c u : DataType) (o : Bool) (d : Class) (t : DataType) (side_of : Value → Side)
    (n : ℕ) → IsLevel c u o d t side_of
    → paired_type false to_depth (suc n) (twice c (option_if o (list_type d t)))
    ≡ option_if o (list_type d (paired_type false to_depth n (twice u t)))
type_level c u o d t side_of n h =
    let ts = twice c (option_if o (list_type d t)) in
    ap (λ b. if b then option_if (some_option ts)
    (list_type (level_class false ts) (paired_type false to_depth n (item_types ts)))
    else tup (types_from ts)) h.opened
    ∙ ap₂ (λ x e. option_if x (list_type e (paired_type false to_depth n (item_types ts))))
    h.optional h.classed
    ∙ ap (λ us. option_if o (list_type d (paired_type false to_depth n us))) h.items

pub ends_level : (c u : DataType) (o : Bool) (d : Class) (t : DataType) (side_of : Value → Side)
    (n : ℕ) → IsLevel c u o d t side_of
    → types_at_ends to_depth (suc n) (twice c (option_if o (list_type d t)))
    ≡ types_at_ends to_depth n (twice u t)
ends_level c u o d t side_of n h =
    let ts = twice c (option_if o (list_type d t)) in
    ap (λ b. if b then types_at_ends to_depth n (item_types ts) else ts) h.opened
    ∙ ap (types_at_ends to_depth n) h.items

-- ---- values

in_level : (o : Bool) (d : Class) (t : DataType) (f : Value → Value) (vs : List Value)
    → over (option_if o (list_type d t)) f (list (values_from vs))
    ≡ list (values_from (map (over t f) vs))
in_level true None t f vs = ap (λ xs. list (values_from (map (over t f) xs))) (value_list-from vs)
in_level true (Some n) t f vs =
    ap (λ xs. list (values_from (map (over t f) xs))) (value_list-from vs)
in_level false None t f vs = ap (λ xs. list (values_from (map (over t f) xs))) (value_list-from vs)
in_level false (Some n) t f vs =
    ap (λ xs. list (values_from (map (over t f) xs))) (value_list-from vs)

null_level : (d : Class) (t : DataType) (f : Value → Value)
    → over (opt (list_type d t)) f null ≡ null
null_level None t f = refl
null_level (Some n) t f = refl

never_and : (o : Bool) → o && false ≡ false
never_and true = refl
never_and false = refl

abbrev pub row_of : Side → List Value → ℕ → List Value
row_of r xs j = side_at j r ∷ get_or xs j null ∷ get_or xs j null ∷ []

pub rows_back : (bad : List Value → Bool) (f : List Value → Value) (r : Side) (xs : List Value)
    (a m : ℕ)
    → ((j : ℕ) → j < a + m → bad (row_of r xs j) ≡ false → f (row_of r xs j) ≡ get_or xs j null)
    → list_any bad (map (row_of r xs) (range_with_len a m)) ≡ false
    → map f (map (row_of r xs) (range_with_len a m))
    ≡ map (λ j. get_or xs j null) (range_with_len a m)
rows_back bad f r xs a zero h e = refl
rows_back bad f r xs a (suc m) h e =
    let q = or_parts (bad (row_of r xs a))
    (list_any bad (map (row_of r xs) (range_with_len (a + 1) m)))
    e in
    ap₂ (λ v vs. v ∷ vs) (h a (omega arith) q.0)
    (rows_back bad f r xs (a + 1) m (λ j l g. h j (omega (arith, l)) g) q.1)

-- one level, from what the rows below come to
module _ (c u : DataType) (o : Bool) (d : Class) (t : DataType) (side_of : Value → Side)
    (h : IsLevel c u o d t side_of) (n : ℕ) (v w : Value) (there : is_present v ≡ true) where
  abbrev ts : List DataType
  ts = twice c (option_if o (list_type d t))

  abbrev both_of : List Value
  both_of = values_twice v w

  abbrev ss : List Side
  ss = side_of v ∷ each (list_items w) ∷ each (list_items w) ∷ []

  abbrev is_missing : Bool
  is_missing = o && not (true && (is_present w && (is_present w && true)))

  missing : misses ts both_of ≡ is_missing
  missing =
      ap₂ (λ x b. x && not (b && (is_present w && (is_present w && true)))) h.optional there

  abbrev rows_value : List Value
  rows_value = map (paired_value false to_depth n (twice u t)) (rows_of ss)

  level_value : paired_value false to_depth (suc n) ts both_of
      ≡ (if is_missing then null else list (values_from rows_value))
  level_value =
      ap (λ b. if b then (if misses ts both_of then null
      else list (values_from (map (paired_value false to_depth n (item_types ts))
      (rows_of (level_sides false ts both_of))))) else row (values_from both_of)) h.opened
      ∙ ap₂ (λ m us. if m then null else list (values_from (map (paired_value false to_depth n us)
      (rows_of (level_sides false ts both_of))))) missing h.items
      ∙ ap (λ rs. if is_missing then null
      else list (values_from (map (paired_value false to_depth n (twice u t)) (rows_of rs))))
      (h.sides_are v w)

  level_uneven : is_uneven false (suc n) ts both_of
      ≡ (if is_missing then false
      else not (equally_long ss) || list_any (is_uneven false n (twice u t)) (rows_of ss))
  level_uneven =
      ap (λ b. if b then (if misses ts both_of then false
      else not (equally_long (level_sides false ts both_of))
      || list_any (is_uneven false n (item_types ts)) (rows_of (level_sides false ts both_of)))
      else false) h.opened
      ∙ ap₂ (λ m us. if m then false else not (equally_long (level_sides false ts both_of))
      || list_any (is_uneven false n us) (rows_of (level_sides false ts both_of))) missing h.items
      ∙ ap (λ rs. if is_missing then false else not (equally_long rs)
      || list_any (is_uneven false n (twice u t)) (rows_of rs)) (h.sides_are v w)

pub items_back : (xs : List Value) → map (λ j. get_or xs j null) (range_with_len 0 (length xs)) ≡ xs
items_back xs = sym (fill_by_all (λ k. get_or xs k null) xs (length xs) null refl (λ k p. refl))

module _ (c u : DataType) (o : Bool) (d : Class) (k : Chain) (p : Primitive)
    (side_of : Value → Side) (h : IsLevel c u o d (chain_type k (leaf p)) side_of)
    (long : (v : Value) (xs : List Value)
    → equally_long (side_of v ∷ each xs ∷ each xs ∷ []) ≡ true
    → common_length (side_of v ∷ each xs ∷ each xs ∷ []) ≡ length xs)
    (have : (v : Value) → Has c v → (xs : List Value)
    → equally_long (side_of v ∷ each xs ∷ each xs ∷ []) ≡ true → (j : ℕ) → j < length xs
    → Has u (side_at j (side_of v)))
    (n : ℕ) (P : Value → Type 0)
    (ih : (v w : Value) → Has u v → IsAt k P w
    → is_uneven false n (twice u (chain_type k (leaf p))) (values_twice v w) ≡ false
    → over (paired_type false to_depth n (twice u (chain_type k (leaf p)))) choose
    (paired_value false to_depth n (twice u (chain_type k (leaf p))) (values_twice v w)) ≡ w) where
  abbrev tx : DataType
  tx = chain_type k (leaf p)

  abbrev below : DataType
  below = paired_type false to_depth n (twice u tx)

  present_level : (v : Value) (xs : Values) → is_present v ≡ true → Has c v
      → AllByRecursion (IsAt k P) (value_list xs)
      → is_uneven false (suc n) (twice c (option_if o (list_type d tx))) (values_twice v (list xs))
      ≡ false
      → over (option_if o (list_type d below)) choose
      (paired_value false to_depth (suc n) (twice c (option_if o (list_type d tx)))
      (values_twice v (list xs))) ≡ list xs
  present_level v xs e q i f =
      let ys = value_list xs in
      let rs = side_of v ∷ each ys ∷ each ys ∷ [] in
      let m = never_and o in
      let g : (not (equally_long rs)
      || list_any (is_uneven false n (twice u tx)) (rows_of rs)) ≡ false =
      ap (λ b. if b then false else not (equally_long rs)
      || list_any (is_uneven false n (twice u tx)) (rows_of rs)) (sym m)
      ∙ sym (level_uneven c u o d tx side_of h n v (list xs) e) ∙ f in
      let a = or_parts (not (equally_long rs))
      (list_any (is_uneven false n (twice u tx)) (rows_of rs)) g in
      let even = not-false (equally_long rs) a.0 in
      let l = long v ys even in
      ap (over (option_if o (list_type d below)) choose)
      (level_value c u o d tx side_of h n v (list xs) e
      ∙ ap (λ b. if b then null else list (values_from (map (paired_value false to_depth n
      (twice u tx)) (rows_of rs)))) m)
      ∙ in_level o d below choose (map (paired_value false to_depth n (twice u tx)) (rows_of rs))
      ∙ ap (λ zs. list (values_from zs))
      (map-map (over below choose) (paired_value false to_depth n (twice u tx)) (rows_of rs)
      ∙ ap (λ b. map (λ row. over below choose (paired_value false to_depth n (twice u tx) row))
      (map (row_of (side_of v) ys) (range_with_len 0 b))) l
      ∙ rows_back (is_uneven false n (twice u tx))
      (λ row. over below choose (paired_value false to_depth n (twice u tx) row)) (side_of v) ys 0
      (length ys)
      (λ j b r. ih (side_at j (side_of v)) (get_or ys j null)
      (have v q ys even j (omega (arith, b))) (all-at (IsAt k P) ys j null i (omega (arith, b))) r)
      (ap (λ b. list_any (is_uneven false n (twice u tx)) (map (row_of (side_of v) ys)
      (range_with_len 0 b))) (sym l) ∙ a.1)
      ∙ items_back ys)
      ∙ ap list (values_from-list xs)

  null_or : (b : Bool) (v : Value) → is_present v ≡ true → b ≡ true
      → over (option_if b (list_type d below)) choose
      (if b && not (true && (false && (false && true))) then null
      else list (values_from (map (paired_value false to_depth n (twice u tx))
      (rows_of (side_of v ∷ each [] ∷ each [] ∷ []))))) ≡ null
  null_or true v e f = null_level d below choose
  null_or false v e f = cc

  pub chosen_level : (v w : Value) → is_present v ≡ true → Has c v → IsAt (layer o d k) P w
      → is_uneven false (suc n) (twice c (option_if o (list_type d tx))) (values_twice v w) ≡ false
      → over (paired_type false to_depth (suc n) (twice c (option_if o (list_type d tx)))) choose
      (paired_value false to_depth (suc n) (twice c (option_if o (list_type d tx)))
      (values_twice v w)) ≡ w
  chosen_level v (list xs) e q i f =
      ap (λ t. over t choose (paired_value false to_depth (suc n)
      (twice c (option_if o (list_type d tx))) (values_twice v (list xs))))
      (type_level c u o d tx side_of n h)
      ∙ present_level v xs e q i.1 f
  chosen_level v null e q i f =
      ap₂ (λ t x. over t choose x) (type_level c u o d tx side_of n h)
      (level_value c u o d tx side_of h n v null e)
      ∙ null_or o v e i.0
  chosen_level v (int z) e q i f = absurd (cc)
  chosen_level v (truth b) e q i f = absurd (cc)
  chosen_level v (row xs) e q i f = absurd (cc)
  chosen_level v (alt j x) e q i f = absurd (cc)

-- ---- the two kinds of level

pub same_lengths : (n m : ℕ) → (n == m) && ((n == m) && true) ≡ true → n ≡ m
same_lengths n m e = grind (arith, e)

list_long : (v : Value) (xs : List Value)
    → equally_long (lists_of v ∷ each xs ∷ each xs ∷ []) ≡ true
    → common_length (lists_of v ∷ each xs ∷ each xs ∷ []) ≡ length xs
list_long v xs e = same_lengths (length (list_items v)) (length xs) e

list_have : (d : Class) (u : DataType) (v : Value) → Has (list_type d u) v → (xs : List Value)
    → equally_long (lists_of v ∷ each xs ∷ each xs ∷ []) ≡ true → (j : ℕ) → j < length xs
    → Has u (side_at j (lists_of v))
list_have d u v h xs e j l =
    all-at (Has u) (list_items v) j null (list-has d u v h)
    (omega (arith, l, list_long v xs e, same_lengths (length (list_items v)) (length xs) e))

leaf_long : (v : Value) (xs : List Value)
    → equally_long (always v ∷ each xs ∷ each xs ∷ []) ≡ true
    → common_length (always v ∷ each xs ∷ each xs ∷ []) ≡ length xs
leaf_long v xs e = refl

list_there : (d : Class) (u : DataType) (v : Value) → Has (list_type d u) v → is_present v ≡ true
list_there d u (list vs) h = refl
list_there d u (int z) h = refl
list_there d u (truth b) h = refl
list_there None u null h = absurd h
list_there (Some n) u null h = absurd h
list_there d u (row vs) h = refl
list_there d u (alt j v) h = refl

truth_there : (v : Value) → Has (leaf Truths) v → is_present v ≡ true
truth_there (int z) h = refl
truth_there (truth b) h = refl
truth_there null h = absurd h
truth_there (list vs) h = refl
truth_there (row vs) h = refl
truth_there (alt j v) h = refl

truth_no_null : (v : Value) → Has (leaf Truths) v → is_null v ≡ false
truth_no_null (int z) h = refl
truth_no_null (truth b) h = refl
truth_no_null null h = absurd h
truth_no_null (list vs) h = refl
truth_no_null (row vs) h = refl
truth_no_null (alt j v) h = refl

-- ---- all levels

close_value : (o : Bool) (p : Primitive) (n : ℕ) (v w : Value) → Has (leaf Truths) v
    → over (paired_type false to_depth n (twice (leaf Truths) (option_if o (leaf p)))) choose
    (paired_value false to_depth n (twice (leaf Truths) (option_if o (leaf p))) (values_twice v w))
    ≡ w
close_value true p zero v w h = choice_is v w (truth_no_null v h)
close_value false p zero v w h = choice_is v w (truth_no_null v h)
close_value true p (suc n) v w h = choice_is v w (truth_no_null v h)
close_value false p (suc n) v w h = choice_is v w (truth_no_null v h)

pub chosen : (P : Value → Type 0) (k : Chain) (p : Primitive) (n : ℕ) (c : DataType) (v w : Value)
    → IsUnder c k → levels k ≤ n → Has c v → IsAt k P w
    → is_uneven false n (twice c (chain_type k (leaf p))) (values_twice v w) ≡ false
    → over (paired_type false to_depth n (twice c (chain_type k (leaf p)))) choose
    (paired_value false to_depth n (twice c (chain_type k (leaf p))) (values_twice v w)) ≡ w
chosen P (close o) p n c v w q l h i f =
    let m = subst (λ t. Has t v) q h in
    ap (λ t. over (paired_type false to_depth n (twice t (option_if o (leaf p)))) choose
    (paired_value false to_depth n (twice t (option_if o (leaf p))) (values_twice v w))) q
    ∙ close_value o p n v w m
chosen P (layer o d k) p zero c v w q l h i f = absurd (omega (arith, l))
chosen P (layer o d k) p (suc n) c v w (inl e) l h i f =
    let m = subst (λ t. Has t v) e h in
    ap (λ t. over (paired_type false to_depth (suc n)
    (twice t (option_if o (list_type d (chain_type k (leaf p)))))) choose
    (paired_value false to_depth (suc n)
    (twice t (option_if o (list_type d (chain_type k (leaf p))))) (values_twice v w))) e
    ∙ chosen_level (leaf Truths) (leaf Truths) o d k p (λ x. always x)
    (leaf_level o d (chain_type k (leaf p))) leaf_long (λ x g xs y j b. g) n P
    (λ x y g j b. chosen P k p n (leaf Truths) x y (under_leaf k) (omega (arith, l)) g j b) v w
    (truth_there v m) m i
    (ap (λ t. is_uneven false (suc n) (twice t (option_if o (list_type d (chain_type k (leaf p)))))
    (values_twice v w)) (sym e) ∙ f)
chosen P (layer o d k) p (suc n) c v w (inr z) l h i f =
    let m = subst (λ t. Has t v) z.1 h in
    ap (λ t. over (paired_type false to_depth (suc n)
    (twice t (option_if o (list_type d (chain_type k (leaf p)))))) choose
    (paired_value false to_depth (suc n)
    (twice t (option_if o (list_type d (chain_type k (leaf p))))) (values_twice v w))) z.1
    ∙ chosen_level (list_type d z.0) z.0 o d k p lists_of
    (list_level z.0 o d (chain_type k (leaf p))) list_long (list_have d z.0) n P
    (λ x y g j b. chosen P k p n z.0 x y z.2 (omega (arith, l)) g j b) v w
    (list_there d z.0 v m) m i
    (ap (λ t. is_uneven false (suc n) (twice t (option_if o (list_type d (chain_type k (leaf p)))))
    (values_twice v w)) (sym z.1) ∙ f)
