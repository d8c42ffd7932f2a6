-- Levels, classes and rows of three operands of which the last two are the same, and the values
-- there: as of the first two.
use Rattle.std.specs.Prelude.{◌≡◌, ℕ, zero, suc, ◌==◌, Bool, true, false, not, ◌&&◌, ◌||◌, List, []}
use Rattle.std.specs.Prelude.{◌∷◌, map, length, Some, None, refl, if◌then◌else◌}
use Rattle.std.specs.List.{AllByRecursion, flat_map, list_all, list_any, range_with_len}
use Rattle.std.proofs.Common.{ap, ap₂, ◌∙◌}
use Rattle.awk_base.proofs.Truths.{eq-refl}
use Rattle.awk_types.specs.DataType.{DataType}
use Rattle.awk_types.specs.Parts.{item_of}
use Rattle.awk_types.specs.Predicates.{is_leaf, is_list}
use Rattle.awk_types.specs.Simple.{in_list, is_option, present}
use Rattle.awk_types.specs.Value.{Value, null, list, row, value, no_values, values_from}
use Rattle.awk_columns.specs.Columns.{is_present, part_at}
use Rattle.awk_columns.specs.ListClass.{Class}
use Rattle.awk_pair_operands.specs.Paired.{to_depth, types_at_ends, paired_value, is_uneven}
use Rattle.awk_pair_sides.specs.Levels.{Role, listed, stretched, repeated, role, role_class, opens}
use Rattle.awk_pair_sides.specs.Levels.{common_class, is_class, is_longer, item_types, level_class}
use Rattle.awk_pair_sides.specs.Levels.{some_option, stretches}
use Rattle.awk_pair_sides.specs.Sides.{Side, each, always, common_length, equally_long, inner_rows}
use Rattle.awk_pair_sides.specs.Sides.{is_whole, level_sides, misses, rows_of, side, side_at}
use Rattle.awk_law_chains.proofs.Chains.{Chain, close, layer, at_ends, IsAt, closing}
use Rattle.awk_number_laws.proofs.LeafArrays.{shared}
use Rattle.awk_number_laws.proofs.LeafChoices.{twice, values_twice}
use Rattle.awk_number_laws.proofs.LeafTurned.{Anything, every, items_at, list_or_null}
use Rattle.awk_number_laws.proofs.TurnedLevels.{any_same, in_list_null}

-- ---- tests of two of which the second stands twice

pub any_twice : (a b : Bool) → (a || (b || (b || false))) ≡ (a || (b || false))
any_twice true b = refl
any_twice false true = refl
any_twice false false = refl

all_twice : (a b : Bool) → (a && (b && (b && true))) ≡ (a && (b && true))
all_twice false b = refl
all_twice true true = refl
all_twice true false = refl

and_twice : (a : Bool) → (a && (a && true)) ≡ (a && true)
and_twice true = refl
and_twice false = refl

abbrev pub pair_types : DataType → DataType → List DataType
pair_types c t = c ∷ t ∷ []

opens_twice : (c t : DataType) → opens (twice c t) ≡ opens (pair_types c t)
opens_twice c t = any_twice (is_list (present c)) (is_list (present t))

option_twice : (c t : DataType) → some_option (twice c t) ≡ some_option (pair_types c t)
option_twice c t = any_twice (is_option c) (is_option t)

misses_twice : (c t : DataType) (v w : Value)
    → misses (twice c t) (values_twice v w) ≡ misses (pair_types c t) (v ∷ w ∷ [])
misses_twice c t v w =
    ap₂ (λ o b. o && not b) (option_twice c t) (all_twice (is_present v) (is_present w))

stretches_twice : (c t : DataType) → stretches (twice c t) ≡ stretches (pair_types c t)
stretches_twice c t = any_twice (is_longer c) (is_longer t)

-- ---- classes

own_class : (d : Class) → (if is_class d d && true then d else None) ≡ d
own_class None = refl
own_class (Some n) = ap (λ b. if b && true then Some n else None) (eq-refl n)

role_class_twice : (r s : Role)
    → common_class (flat_map role_class (r ∷ s ∷ s ∷ []))
    ≡ common_class (flat_map role_class (r ∷ s ∷ []))
role_class_twice (listed c) (listed d) =
    ap (λ b. if b then c else None) (and_twice (is_class c d))
role_class_twice (listed c) stretched = refl
role_class_twice (listed c) repeated = refl
role_class_twice stretched (listed d) = own_class d
role_class_twice stretched stretched = refl
role_class_twice stretched repeated = refl
role_class_twice repeated (listed d) = own_class d
role_class_twice repeated stretched = refl
role_class_twice repeated repeated = refl

class_twice : (c t : DataType) → level_class false (twice c t) ≡ level_class false (pair_types c t)
class_twice c t =
    ap (λ s. common_class (flat_map role_class (role s (present c) ∷ role s (present t)
    ∷ role s (present t) ∷ []))) (stretches_twice (present c) (present t))
    ∙ role_class_twice (role (stretches (pair_types (present c) (present t))) (present c))
    (role (stretches (pair_types (present c) (present t))) (present t))

-- ---- what is shared

shared_if : (b c o q : Bool) (d e : Class) (k m : Chain) → b ≡ c → o ≡ q → d ≡ e → k ≡ m
    → (if b then layer o d k else close false) ≡ (if c then layer q e m else close false)
shared_if b c o q d e k m f g h i =
    ap₂ (λ x y. if x then layer y d k else close false) f g
    ∙ ap₂ (λ x y. if c then layer q x y else close false) h i

pub shared_twice : (n : ℕ) (c t : DataType)
    → shared false to_depth n (twice c t) ≡ shared false to_depth n (pair_types c t)
shared_twice zero c t = refl
shared_twice (suc n) c t =
    shared_if (opens (twice c t)) (opens (pair_types c t)) (some_option (twice c t))
    (some_option (pair_types c t)) (level_class false (twice c t))
    (level_class false (pair_types c t)) (shared false to_depth n (item_types (twice c t)))
    (shared false to_depth n (item_types (pair_types c t))) (opens_twice c t) (option_twice c t)
    (class_twice c t) (shared_twice n (item_of (present c)) (item_of (present t)))

closing_if : (b o : Bool) (c : Class) (k : Chain) → closing k ≡ false
    → closing (if b then layer o c k else close false) ≡ false
closing_if true o c k e = e
closing_if false o c k e = refl

pub never_closing : (n : ℕ) (ts : List DataType) → closing (shared false to_depth n ts) ≡ false
never_closing zero ts = refl
never_closing (suc n) ts =
    closing_if (opens ts) (some_option ts) (level_class false ts)
    (shared false to_depth n (item_types ts)) (never_closing n (item_types ts))

-- ---- the types at the ends

-- a test of what stands below, or at the level
by_opening : (f : List DataType → Bool) (a b : Bool) (ts us xs ys : List DataType) → a ≡ b
    → f ts ≡ f us → f xs ≡ f ys → f (if a then ts else xs) ≡ f (if b then us else ys)
by_opening f true b ts us xs ys e g h = g ∙ ap (λ a. f (if a then us else ys)) e
by_opening f false b ts us xs ys e g h = h ∙ ap (λ a. f (if a then us else ys)) e

abbrev pub all_leaves : List DataType → Bool
all_leaves ts = list_all is_leaf (map present ts)

pub leaves_twice : (n : ℕ) (c t : DataType)
    → all_leaves (types_at_ends to_depth n (twice c t))
    ≡ all_leaves (types_at_ends to_depth n (pair_types c t))
leaves_twice zero c t = all_twice (is_leaf (present c)) (is_leaf (present t))
leaves_twice (suc n) c t =
    by_opening all_leaves (opens (twice c t)) (opens (pair_types c t))
    (types_at_ends to_depth n (item_types (twice c t)))
    (types_at_ends to_depth n (item_types (pair_types c t))) (twice c t) (pair_types c t)
    (opens_twice c t) (leaves_twice n (item_of (present c)) (item_of (present t)))
    (all_twice (is_leaf (present c)) (is_leaf (present t)))

pub ends_twice : (n : ℕ) (c t : DataType)
    → some_option (types_at_ends to_depth n (twice c t))
    ≡ some_option (types_at_ends to_depth n (pair_types c t))
ends_twice zero c t = option_twice c t
ends_twice (suc n) c t =
    by_opening some_option (opens (twice c t)) (opens (pair_types c t))
    (types_at_ends to_depth n (item_types (twice c t)))
    (types_at_ends to_depth n (item_types (pair_types c t))) (twice c t) (pair_types c t)
    (opens_twice c t) (ends_twice n (item_of (present c)) (item_of (present t)))
    (option_twice c t)

-- ---- rows

-- a row of two with the second once more
abbrev pub doubled : Value → Value
doubled v =
    row (value (part_at 0 v) (value (part_at 1 v) (value (part_at 1 v) no_values)))

abbrev pub pair_at : Side → Side → ℕ → List Value
pair_at l r k = side_at k l ∷ side_at k r ∷ []

abbrev pub triple_at : Side → Side → ℕ → List Value
triple_at l r k = values_twice (side_at k l) (side_at k r)

pub equal_twice : (l r : Side) → equally_long (l ∷ r ∷ r ∷ []) ≡ equally_long (l ∷ r ∷ [])
equal_twice (each vs) (each ws) = and_twice (length vs == length ws)
equal_twice (each vs) (always w) = refl
equal_twice (always v) (each ws) = ap (λ b. b && true) (eq-refl (length ws))
equal_twice (always v) (always w) = refl

pub length_twice : (l r : Side) → common_length (l ∷ r ∷ r ∷ []) ≡ common_length (l ∷ r ∷ [])
length_twice (each vs) r = refl
length_twice (always v) (each ws) = refl
length_twice (always v) (always w) = refl

abbrev left : DataType → DataType → Value → Side
left c t v = side (role (stretches (pair_types (present c) (present t))) (present c)) v

abbrev right : DataType → DataType → Value → Side
right c t w = side (role (stretches (pair_types (present c) (present t))) (present t)) w

sides_twice : (c t : DataType) (v w : Value)
    → level_sides false (twice c t) (values_twice v w)
    ≡ left c t v ∷ right c t w ∷ right c t w ∷ []
sides_twice c t v w =
    ap (λ s. side (role s (present c)) v ∷ side (role s (present t)) w
    ∷ side (role s (present t)) w ∷ []) (stretches_twice (present c) (present t))

-- whether rows of two are uneven, from the rows below
rows_uneven : (f g : List Value → Bool) (l r : Side)
    → ((v w : Value) → f (values_twice v w) ≡ g (v ∷ w ∷ []))
    → (not (equally_long (l ∷ r ∷ r ∷ [])) || list_any f (rows_of (l ∷ r ∷ r ∷ [])))
    ≡ (not (equally_long (l ∷ r ∷ [])) || list_any g (rows_of (l ∷ r ∷ [])))
rows_uneven f g l r e =
    ap₂ (λ a b. not a || b) (equal_twice l r)
    (ap (λ n. list_any f (map (triple_at l r) (range_with_len 0 n))) (length_twice l r)
    ∙ any_same f g (triple_at l r) (pair_at l r)
    (range_with_len 0 (common_length (l ∷ r ∷ []))) (λ k. e (side_at k l) (side_at k r)))

pub uneven_twice : (n : ℕ) (c t : DataType) (v w : Value)
    → is_uneven false n (twice c t) (values_twice v w)
    ≡ is_uneven false n (pair_types c t) (v ∷ w ∷ [])
uneven_twice zero c t v w = refl
uneven_twice (suc n) c t v w =
    ap₂ (λ o b. if o then b else false) (opens_twice c t)
    (ap₂ (λ m b. if m then false else b) (misses_twice c t v w)
    (ap (λ ss. not (equally_long ss)
    || list_any (is_uneven false n (item_types (twice c t))) (rows_of ss)) (sides_twice c t v w)
    ∙ rows_uneven (is_uneven false n (item_types (twice c t)))
    (is_uneven false n (item_types (pair_types c t))) (left c t v) (right c t w)
    (λ x y. uneven_twice n (item_of (present c)) (item_of (present t)) x y)))

-- ---- values

each_doubled : (F G : List Value → Value) (f : Value → Value) (l r : Side) (ks : List ℕ)
    → ((v w : Value) → F (values_twice v w) ≡ f (G (v ∷ w ∷ [])))
    → map F (map (triple_at l r) ks) ≡ map f (map G (map (pair_at l r) ks))
each_doubled F G f l r [] e = refl
each_doubled F G f l r (k ∷ ks) e =
    ap₂ (λ x xs. x ∷ xs) (e (side_at k l) (side_at k r)) (each_doubled F G f l r ks e)

pub rows_doubled : (F G : List Value → Value) (f : Value → Value) (l r : Side)
    → ((v w : Value) → F (values_twice v w) ≡ f (G (v ∷ w ∷ [])))
    → map F (rows_of (l ∷ r ∷ r ∷ [])) ≡ map f (map G (rows_of (l ∷ r ∷ [])))
rows_doubled F G f l r e =
    ap (λ n. map F (map (triple_at l r) (range_with_len 0 n))) (length_twice l r)
    ∙ each_doubled F G f l r (range_with_len 0 (common_length (l ∷ r ∷ []))) e

by_open : (a b o : Bool) (c : Class) (k : Chain) (f : Value → Value) (v w x y : Value) → a ≡ b
    → v ≡ in_list (at_ends k f) w → x ≡ f y
    → (if a then v else x)
    ≡ at_ends (if b then layer o c k else close false) f (if b then w else y)
by_open true b o c k f v w x y q h e =
    h ∙ ap (λ a. at_ends (if a then layer o c k else close false) f (if a then w else y)) q
by_open false b o c k f v w x y q h e =
    e ∙ ap (λ a. at_ends (if a then layer o c k else close false) f (if a then w else y)) q

pub value_twice : (n : ℕ) (c t : DataType) (v w : Value)
    → paired_value false to_depth n (twice c t) (values_twice v w)
    ≡ at_ends (shared false to_depth n (pair_types c t)) doubled
    (paired_value false to_depth n (pair_types c t) (v ∷ w ∷ []))
value_twice zero c t v w = refl
value_twice (suc n) c t v w =
    let F = paired_value false to_depth n (item_types (twice c t)) in
    let G = paired_value false to_depth n (item_types (pair_types c t)) in
    let k = shared false to_depth n (item_types (pair_types c t)) in
    let m = misses (pair_types c t) (v ∷ w ∷ []) in
    by_open (opens (twice c t)) (opens (pair_types c t)) (some_option (pair_types c t))
    (level_class false (pair_types c t)) k doubled
    (if misses (twice c t) (values_twice v w) then null
    else list (values_from (map F (inner_rows false (twice c t) (values_twice v w)))))
    (if m then null
    else list (values_from (map G (inner_rows false (pair_types c t) (v ∷ w ∷ [])))))
    (row (values_from (values_twice v w))) (row (values_from (v ∷ w ∷ []))) (opens_twice c t)
    (ap₂ (λ b ss. if b then null else list (values_from (map F (rows_of ss))))
    (misses_twice c t v w) (sides_twice c t v w)
    ∙ in_list_null m (at_ends k doubled)
    (map G (inner_rows false (pair_types c t) (v ∷ w ∷ [])))
    (map F (rows_of (left c t v ∷ right c t w ∷ right c t w ∷ [])))
    (λ e. rows_doubled F G (at_ends k doubled) (left c t v) (right c t w)
    (λ x y. value_twice n (item_of (present c)) (item_of (present t)) x y)))
    refl

-- what is paired has the lists that are shared
level_at : (b : Bool) (k : Chain) (ts : List DataType) (vs ws : List Value)
    → AllByRecursion (IsAt k Anything) ws
    → IsAt (if b then layer (some_option ts) (level_class false ts) k else close false) Anything
    (if b then (if misses ts vs then null else list (values_from ws)) else row (values_from vs))
level_at true k ts vs ws h =
    (list_or_null (some_option ts) (is_whole vs) ws, items_at k (misses ts vs) ws h)
level_at false k ts vs ws h = tt

pub deep_at : (n : ℕ) (ts : List DataType) (vs : List Value)
    → IsAt (shared false to_depth n ts) Anything (paired_value false to_depth n ts vs)
deep_at zero ts vs = tt
deep_at (suc n) ts vs =
    level_at (opens ts) (shared false to_depth n (item_types ts)) ts vs
    (map (paired_value false to_depth n (item_types ts)) (inner_rows false ts vs))
    (every (shared false to_depth n (item_types ts))
    (paired_value false to_depth n (item_types ts)) (inner_rows false ts vs)
    (λ ws. deep_at n (item_types ts) ws))
