-- Levels, classes and rows of two operands that change places, and the values there.
use Rattle.std.specs.Prelude.{◌≡◌, ℕ, zero, suc, ◌==◌, max, Bool, true, false, not, ◌&&◌, ◌||◌}
use Rattle.std.specs.Prelude.{List, [], ◌∷◌, map, length, Some, None, refl, if◌then◌else◌}
use Rattle.std.specs.List.{list_any, range_with_len, flat_map}
use Rattle.std.proofs.Common.{ap, ap₂, sym, ◌∙◌, arith}
use Rattle.std.proofs.lemmas.Bool.{not-false, or_parts}
use Rattle.awk_types.specs.DataType.{DataType}
use Rattle.awk_types.specs.Parts.{item_of}
use Rattle.awk_types.specs.Predicates.{is_list, is_leaf}
use Rattle.awk_types.specs.Simple.{present, is_option, in_list}
use Rattle.awk_types.specs.Value.{Value, null, list, row, value, no_values, values_from}
use Rattle.awk_types.proofs.Trees.{value_list-from}
use Rattle.awk_columns.specs.Columns.{is_present, part_at}
use Rattle.awk_columns.specs.ListClass.{Class}
use Rattle.awk_pair_operands.specs.Paired.{to_leaves, paired_value, is_uneven, is_wrong}
use Rattle.awk_pair_sides.specs.Levels.{Role, listed, stretched, repeated, role, opens, some_option}
use Rattle.awk_pair_sides.specs.Levels.{item_types, level_class, role_class, common_class}
use Rattle.awk_pair_sides.specs.Levels.{is_longer, stretches}
use Rattle.awk_pair_sides.specs.Sides.{Side, each, always, side, side_at, rows_of, equally_long}
use Rattle.awk_pair_sides.specs.Sides.{common_length, inner_rows, level_sides, misses, is_whole}
use Rattle.awk_pair_sides.specs.Sides.{differ}
use Rattle.awk_law_chains.proofs.Chains.{Chain, close, layer, at_ends}
use Rattle.awk_number_laws.proofs.LeafArrays.{shared}

-- ---- tests of two

pub any_turned : (a b : Bool) → (a || (b || false)) ≡ (b || (a || false))
any_turned true true = refl
any_turned true false = refl
any_turned false true = refl
any_turned false false = refl

all_turned : (a b : Bool) → (a && (b && true)) ≡ (b && (a && true))
all_turned true true = refl
all_turned true false = refl
all_turned false true = refl
all_turned false false = refl

pub max_turned : (m n : ℕ) → max m (max n 0) ≡ max n (max m 0)
max_turned m n = omega arith

same_turned : (n m : ℕ) → (n == m) ≡ (m == n)
same_turned n m = grind arith

opens_turned : (a b : DataType) → opens (a ∷ b ∷ []) ≡ opens (b ∷ a ∷ [])
opens_turned a b = any_turned (is_list (present a)) (is_list (present b))

option_turned : (a b : DataType) → some_option (a ∷ b ∷ []) ≡ some_option (b ∷ a ∷ [])
option_turned a b = any_turned (is_option a) (is_option b)

whole_turned : (x y : Value) → is_whole (x ∷ y ∷ []) ≡ is_whole (y ∷ x ∷ [])
whole_turned x y = all_turned (is_present x) (is_present y)

misses_turned : (a b : DataType) (x y : Value)
    → misses (a ∷ b ∷ []) (x ∷ y ∷ []) ≡ misses (b ∷ a ∷ []) (y ∷ x ∷ [])
misses_turned a b x y = ap₂ (λ o w. o && not w) (option_turned a b) (whole_turned x y)

stretches_turned : (a b : DataType) → stretches (a ∷ b ∷ []) ≡ stretches (b ∷ a ∷ [])
stretches_turned a b = any_turned (is_longer a) (is_longer b)

-- ---- classes

class_turned : (c d : Class) → common_class (c ∷ d ∷ []) ≡ common_class (d ∷ c ∷ [])
class_turned None None = refl
class_turned None (Some m) = refl
class_turned (Some n) None = refl
class_turned (Some n) (Some m) = by (n == m) refl
  where
    by : (b : Bool) → (n == m) ≡ b
        → (if (n == m) && true then Some n else None) ≡ (if (m == n) && true then Some m else None)
    by true e =
        let same : n ≡ m = grind (arith, e) in
        ap₂ (λ p q. if p && true then Some q else None)
        (same_turned n m) same
    by false e =
        ap (λ p. if p && true then Some n else None) e
        ∙ sym (ap (λ p. if p && true then Some m else None) (sym (same_turned n m) ∙ e))

role_class_turned : (r s : Role)
    → common_class (flat_map role_class (r ∷ s ∷ []))
    ≡ common_class (flat_map role_class (s ∷ r ∷ []))
role_class_turned (listed c) (listed d) = class_turned c d
role_class_turned (listed c) stretched = refl
role_class_turned (listed c) repeated = refl
role_class_turned stretched (listed d) = refl
role_class_turned stretched stretched = refl
role_class_turned stretched repeated = refl
role_class_turned repeated (listed d) = refl
role_class_turned repeated stretched = refl
role_class_turned repeated repeated = refl

level_turned : (a b : DataType)
    → level_class false (a ∷ b ∷ []) ≡ level_class false (b ∷ a ∷ [])
level_turned a b =
    let s = stretches (present a ∷ present b ∷ []) in
    role_class_turned (role s (present a)) (role s (present b))
    ∙ ap (λ q. common_class (flat_map role_class (role q (present b) ∷ role q (present a) ∷ [])))
    (stretches_turned (present a) (present b))

shared_if : (b c o q : Bool) (d e : Class) (k m : Chain) → b ≡ c → o ≡ q → d ≡ e → k ≡ m
    → (if b then layer o d k else close o) ≡ (if c then layer q e m else close q)
shared_if b c o q d e k m f g h i =
    ap₂ (λ x y. if x then layer y d k else close y) f g
    ∙ ap₂ (λ x y. if c then layer q x y else close q) h i

pub shared_turned : (d : ℕ) (a b : DataType)
    → shared false to_leaves d (a ∷ b ∷ []) ≡ shared false to_leaves d (b ∷ a ∷ [])
shared_turned zero a b = ap close (option_turned a b)
shared_turned (suc d) a b =
    shared_if (opens (a ∷ b ∷ [])) (opens (b ∷ a ∷ [])) (some_option (a ∷ b ∷ []))
    (some_option (b ∷ a ∷ [])) (level_class false (a ∷ b ∷ [])) (level_class false (b ∷ a ∷ []))
    (shared false to_leaves d (item_types (a ∷ b ∷ [])))
    (shared false to_leaves d (item_types (b ∷ a ∷ []))) (opens_turned a b) (option_turned a b)
    (level_turned a b) (shared_turned d (item_of (present a)) (item_of (present b)))

pub wrong_turned : (d : ℕ) (a b : DataType)
    → is_wrong to_leaves d (a ∷ b ∷ []) ≡ is_wrong to_leaves d (b ∷ a ∷ [])
wrong_turned zero a b = ap not (all_turned (is_leaf (present a)) (is_leaf (present b)))
wrong_turned (suc d) a b =
    ap₂ (λ o w. if o then w else not (is_leaf (present a) && (is_leaf (present b) && true)))
    (opens_turned a b) (wrong_turned d (item_of (present a)) (item_of (present b)))
    ∙ ap (λ e. if opens (b ∷ a ∷ []) then is_wrong to_leaves d (item_types (b ∷ a ∷ [])) else not e)
    (all_turned (is_leaf (present a)) (is_leaf (present b)))

-- ---- rows

-- the parts of a row of two, the other way round
abbrev pub turn : Value → Value
turn v = row (value (part_at 1 v) (value (part_at 0 v) no_values))

pub equal_turned : (r s : Side)
    → equally_long (r ∷ s ∷ []) ≡ equally_long (s ∷ r ∷ [])
equal_turned (each vs) (each ws) = ap (λ b. b && true) (same_turned (length vs) (length ws))
equal_turned (each vs) (always w) = refl
equal_turned (always v) (each ws) = refl
equal_turned (always v) (always w) = refl

pub length_turned : (r s : Side) → equally_long (r ∷ s ∷ []) ≡ true
    → common_length (r ∷ s ∷ []) ≡ common_length (s ∷ r ∷ [])
length_turned (each vs) (each ws) e = same (length vs) (length ws) e
  where
    same : (n m : ℕ) → (n == m) && true ≡ true → n ≡ m
    same n m e = grind (arith, e)
length_turned (each vs) (always w) e = refl
length_turned (always v) (each ws) e = refl
length_turned (always v) (always w) e = refl

sides_turned : (a b : DataType) (x y : Value)
    → level_sides false (b ∷ a ∷ []) (y ∷ x ∷ [])
    ≡ side (role (stretches (present a ∷ present b ∷ [])) (present b)) y
    ∷ side (role (stretches (present a ∷ present b ∷ [])) (present a)) x ∷ []
sides_turned a b x y =
    ap (λ q. side (role q (present b)) y ∷ side (role q (present a)) x ∷ [])
    (sym (stretches_turned (present a) (present b)))

abbrev pub pairs_of : Side → Side → ℕ → List (List Value)
pairs_of r s n = map (λ k. side_at k r ∷ side_at k s ∷ []) (range_with_len 0 n)

pub any_same : (f g : List Value → Bool) (p q : ℕ → List Value) (ks : List ℕ)
    → ((k : ℕ) → f (p k) ≡ g (q k)) → list_any f (map p ks) ≡ list_any g (map q ks)
any_same f g p q [] e = refl
any_same f g p q (k ∷ ks) e = ap₂ (λ x y. x || y) (e k) (any_same f g p q ks e)

pub uneven_if : (b c : Bool) (x y : Bool) → b ≡ c → (b ≡ false → x ≡ y) → (b || x) ≡ (c || y)
uneven_if true c x y e h = ap (λ z. z || y) e
uneven_if false c x y e h = h refl ∙ ap (λ z. z || y) e

abbrev below_types : DataType → DataType → List DataType
below_types a b = item_types (a ∷ b ∷ [])

-- what two operands give to a level
module _ (a b : DataType) (x y : Value) where
  abbrev left : Side
  left = side (role (stretches (present a ∷ present b ∷ [])) (present a)) x

  abbrev right : Side
  right = side (role (stretches (present a ∷ present b ∷ [])) (present b)) y

  level_uneven : (d : ℕ)
      → ((v w : Value) → is_uneven false d (below_types a b) (v ∷ w ∷ [])
      ≡ is_uneven false d (below_types b a) (w ∷ v ∷ []))
      → (not (equally_long (left ∷ right ∷ []))
      || list_any (is_uneven false d (below_types a b)) (rows_of (left ∷ right ∷ [])))
      ≡ (differ false (b ∷ a ∷ []) (y ∷ x ∷ [])
      || list_any (is_uneven false d (below_types b a))
      (inner_rows false (b ∷ a ∷ []) (y ∷ x ∷ [])))
  level_uneven d ih =
      uneven_if (not (equally_long (left ∷ right ∷ []))) (not (equally_long (right ∷ left ∷ [])))
      (list_any (is_uneven false d (below_types a b)) (rows_of (left ∷ right ∷ [])))
      (list_any (is_uneven false d (below_types b a)) (rows_of (right ∷ left ∷ [])))
      (ap not (equal_turned left right))
      (λ e. ap (λ n. list_any (is_uneven false d (below_types a b)) (pairs_of left right n))
      (length_turned left right (not-false (equally_long (left ∷ right ∷ [])) e))
      ∙ any_same (is_uneven false d (below_types a b)) (is_uneven false d (below_types b a))
      (λ k. side_at k left ∷ side_at k right ∷ []) (λ k. side_at k right ∷ side_at k left ∷ [])
      (range_with_len 0 (common_length (right ∷ left ∷ [])))
      (λ k. ih (side_at k left) (side_at k right)))
      ∙ sym (ap (λ ss. not (equally_long ss)
      || list_any (is_uneven false d (below_types b a)) (rows_of ss)) (sides_turned a b x y))

pub uneven_turned : (d : ℕ) (a b : DataType) (x y : Value)
    → is_uneven false d (a ∷ b ∷ []) (x ∷ y ∷ []) ≡ is_uneven false d (b ∷ a ∷ []) (y ∷ x ∷ [])
uneven_turned zero a b x y = refl
uneven_turned (suc d) a b x y =
    ap₂ (λ o w. if o then w else false) (opens_turned a b)
    (ap₂ (λ m w. if m then false else w) (misses_turned a b x y)
    (level_uneven a b x y d
    (λ v w. uneven_turned d (item_of (present a)) (item_of (present b)) v w)))

-- ---- values

close_turned : (o w : Bool) (x y : Value)
    → (if o && not w then null else row (value y (value x no_values)))
    ≡ at_ends (close o) turn (if o && not w then null else row (value x (value y no_values)))
close_turned true true x y = refl
close_turned true false x y = refl
close_turned false w x y = refl

end_turned : (a b : DataType) (x y : Value)
    → (if misses (b ∷ a ∷ []) (y ∷ x ∷ []) then null else row (value y (value x no_values)))
    ≡ at_ends (close (some_option (a ∷ b ∷ []))) turn
    (if misses (a ∷ b ∷ []) (x ∷ y ∷ []) then null else row (value x (value y no_values)))
end_turned a b x y =
    ap (λ m. if m then null else row (value y (value x no_values))) (sym (misses_turned a b x y))
    ∙ close_turned (some_option (a ∷ b ∷ [])) (is_whole (x ∷ y ∷ [])) x y

pub in_list_null : (b : Bool) (f : Value → Value) (vs ws : List Value) → (b ≡ false → ws ≡ map f vs)
    → (if b then null else list (values_from ws))
    ≡ in_list f (if b then null else list (values_from vs))
in_list_null true f vs ws e = refl
in_list_null false f vs ws e =
    ap (λ us. list (values_from us)) (e refl ∙ sym (ap (map f) (value_list-from vs)))

pub rows_same : (P : List Value → Bool) (p q : ℕ → List Value) (F G : List Value → Value)
    (f : Value → Value) (ks : List ℕ)
    → ((k : ℕ) → P (p k) ≡ false → G (q k) ≡ f (F (p k))) → list_any P (map p ks) ≡ false
    → map G (map q ks) ≡ map f (map F (map p ks))
rows_same P p q F G f [] e h = refl
rows_same P p q F G f (k ∷ ks) e h =
    let n = or_parts (P (p k)) (list_any P (map p ks)) h in
    ap₂ (λ v vs. v ∷ vs) (e k n.0) (rows_same P p q F G f ks e n.1)

even_if : (b m : Bool) (x : Bool) → b ≡ true → m ≡ false
    → (if b then (if m then false else x) else false) ≡ false → x ≡ false
even_if true true x e f h = cc
even_if true false x e f h = h
even_if false m x e f h = cc

-- a level of two operands, from what the rows below come to
module _ (d : ℕ) (a b : DataType) (x y : Value)
    (ih : (v w : Value) → is_uneven false d (below_types a b) (v ∷ w ∷ []) ≡ false
    → paired_value false to_leaves d (below_types b a) (w ∷ v ∷ [])
    ≡ at_ends (shared false to_leaves d (below_types a b)) turn
    (paired_value false to_leaves d (below_types a b) (v ∷ w ∷ []))) where
  abbrev chain : Chain
  chain = shared false to_leaves d (below_types a b)

  abbrev one_way : List Value → Value
  one_way = paired_value false to_leaves d (below_types a b)

  abbrev other_way : List Value → Value
  other_way = paired_value false to_leaves d (below_types b a)

  abbrev l : Side
  l = left a b x y

  abbrev r : Side
  r = right a b x y

  rows_turned : (not (equally_long (l ∷ r ∷ []))
      || list_any (is_uneven false d (below_types a b)) (rows_of (l ∷ r ∷ []))) ≡ false
      → map other_way (rows_of (r ∷ l ∷ []))
      ≡ map (at_ends chain turn) (map one_way (rows_of (l ∷ r ∷ [])))
  rows_turned e =
      let n = or_parts (not (equally_long (l ∷ r ∷ [])))
      (list_any (is_uneven false d (below_types a b)) (rows_of (l ∷ r ∷ []))) e in
      ap (λ m. map other_way (pairs_of r l m))
      (sym (length_turned l r (not-false (equally_long (l ∷ r ∷ [])) n.0)))
      ∙ rows_same (is_uneven false d (below_types a b)) (λ k. side_at k l ∷ side_at k r ∷ [])
      (λ k. side_at k r ∷ side_at k l ∷ []) one_way other_way (at_ends chain turn)
      (range_with_len 0 (common_length (l ∷ r ∷ [])))
      (λ k f. ih (side_at k l) (side_at k r) f) n.1

  level_turned_value : (misses (a ∷ b ∷ []) (x ∷ y ∷ []) ≡ false
      → (not (equally_long (l ∷ r ∷ []))
      || list_any (is_uneven false d (below_types a b)) (rows_of (l ∷ r ∷ []))) ≡ false)
      → (if misses (b ∷ a ∷ []) (y ∷ x ∷ []) then null
      else list (values_from (map other_way (inner_rows false (b ∷ a ∷ []) (y ∷ x ∷ [])))))
      ≡ in_list (at_ends chain turn) (if misses (a ∷ b ∷ []) (x ∷ y ∷ []) then null
      else list (values_from (map one_way (inner_rows false (a ∷ b ∷ []) (x ∷ y ∷ [])))))
  level_turned_value e =
      ap₂ (λ m ss. if m then null else list (values_from (map other_way (rows_of ss))))
      (sym (misses_turned a b x y)) (sides_turned a b x y)
      ∙ in_list_null (misses (a ∷ b ∷ []) (x ∷ y ∷ [])) (at_ends chain turn)
      (map one_way (rows_of (l ∷ r ∷ []))) (map other_way (rows_of (r ∷ l ∷ [])))
      (λ m. rows_turned (e m))

  level_by : (o : Bool) → opens (a ∷ b ∷ []) ≡ o
      → is_uneven false (suc d) (a ∷ b ∷ []) (x ∷ y ∷ []) ≡ false
      → paired_value false to_leaves (suc d) (b ∷ a ∷ []) (y ∷ x ∷ [])
      ≡ at_ends (shared false to_leaves (suc d) (a ∷ b ∷ [])) turn
      (paired_value false to_leaves (suc d) (a ∷ b ∷ []) (x ∷ y ∷ []))
  level_by true o e =
      let p : opens (b ∷ a ∷ []) ≡ true = sym (opens_turned a b) ∙ o in
      rw (o, p) (level_turned_value
      (λ m. even_if (opens (a ∷ b ∷ [])) (misses (a ∷ b ∷ []) (x ∷ y ∷ [])) _ o m e))
  level_by false o e =
      let p : opens (b ∷ a ∷ []) ≡ false = sym (opens_turned a b) ∙ o in
      rw (o, p) (end_turned a b x y)

pub value_turned : (d : ℕ) (a b : DataType) (x y : Value)
    → is_uneven false d (a ∷ b ∷ []) (x ∷ y ∷ []) ≡ false
    → paired_value false to_leaves d (b ∷ a ∷ []) (y ∷ x ∷ [])
    ≡ at_ends (shared false to_leaves d (a ∷ b ∷ [])) turn
    (paired_value false to_leaves d (a ∷ b ∷ []) (x ∷ y ∷ []))
value_turned zero a b x y e = end_turned a b x y
value_turned (suc d) a b x y e =
    level_by d a b x y
    (λ v w f. value_turned d (item_of (present a)) (item_of (present b)) v w f)
    (opens (a ∷ b ∷ [])) refl e
