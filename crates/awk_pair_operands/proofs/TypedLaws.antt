-- What is paired of data of their types is of its type.
use Rattle.std.proofs.Common.{◌≡◌, ℕ, zero, suc, ◌+◌, ◌<◌, ◌==◌, Bool, true, false, not, ◌&&◌, ◌||◌}
use Rattle.std.proofs.Common.{refl, ap, arith, sym, subst, ◌∙◌}
use Rattle.std.specs.Prelude.{List, [], ◌∷◌, ◌++◌, map, length, Option, Some, None, Ok}
use Rattle.std.specs.Prelude.{if◌then◌else◌}
use Rattle.std.specs.List.{list_any, list_all, flat_map, range_with_len, AllByRecursion}
use Rattle.std.proofs.lemmas.Bool.{and_parts, not-false, or_parts}
use Rattle.awk_base.proofs.Every.{all-at}
use Rattle.awk_types.specs.DataType.{DataType, unknown, leaf, var, reg, rec, tup, opt, uni}
use Rattle.awk_types.specs.DataType.{types_from}
use Rattle.awk_types.specs.Datum.{Datum, arr, one}
use Rattle.awk_types.specs.Gives.{refused_or, ◌or◌}
use Rattle.awk_types.specs.Has.{Has, HasRow}
use Rattle.awk_types.specs.Parts.{item_of}
use Rattle.awk_types.specs.Simple.{present, option_if}
use Rattle.awk_types.specs.Value.{Value, int, truth, null, list, row, alt, value_list, values_from}
use Rattle.awk_types.specs.declared.fault.Fault.{Fault}
use Rattle.awk_types.proofs.Trees.{value_list-from}
use Rattle.awk_columns.specs.Columns.{is_present}
use Rattle.awk_columns.specs.ListClass.{Class, list_type}
use Rattle.awk_frames.specs.Framed.{IsFrame}
use Rattle.awk_frames.specs.Sizes.{sizes_refused}
use Rattle.awk_frames.proofs.FrameLaws.{sized_frame}
use Rattle.awk_pair_operands.specs.Answer.{single_or_fault, shared_shape, shared_ends}
use Rattle.awk_pair_operands.specs.Paired.{Reach, to_leaves, to_depth, end_type, end_value}
use Rattle.awk_pair_operands.specs.Paired.{paired_type, paired_value, is_uneven, any_uneven}
use Rattle.awk_pair_operands.specs.Pairs.{datum_side, single_value, typs, some_array, first_rows}
use Rattle.awk_pair_operands.specs.Pairs.{reach, below, pair_type, pair_values, are_uneven}
use Rattle.awk_pair_operands.specs.Pairs.{lengths_refused, type_refused}
use Rattle.awk_pair_operands.specs.Typed.{IsTyped, HasEach}
use Rattle.awk_pair_sides.proofs.LevelTypes.{presents-bare}
use Rattle.awk_pair_sides.specs.Levels.{listed, stretched, role, roles_by, roles, unless, stretches}
use Rattle.awk_pair_sides.specs.Levels.{item_types, opens, some_option, role_class, is_class}
use Rattle.awk_pair_sides.specs.Levels.{common_class, level_class}
use Rattle.awk_pair_sides.specs.Sides.{Side, each, always, side, sides, side_at, side_lengths}
use Rattle.awk_pair_sides.specs.Sides.{first_or_zero, all_same, common_length, equally_long}
use Rattle.awk_pair_sides.specs.Sides.{rows_of, level_sides, differ, inner_rows, misses, is_whole}

-- ---- rows of sides

-- what a side gives is of a type
abbrev IsSideOf : DataType → Side → Type 0
IsSideOf t (each vs) = AllByRecursion (Has t) vs
IsSideOf t (always v) = Has t v

abbrev AreSidesOf : List DataType → List Side → Type 0
AreSidesOf [] [] = Unit {0}
AreSidesOf (t ∷ ts) (s ∷ ss) = IsSideOf t s × AreSidesOf ts ss
AreSidesOf [] (s ∷ ss) = ⊥
AreSidesOf (t ∷ ts) [] = ⊥

row-has : (n k : ℕ) (ts : List DataType) (ss : List Side) → AreSidesOf ts ss
    → list_all (λ m. n == m) (flat_map side_lengths ss) ≡ true → k < n
    → HasEach ts (map (side_at k) ss)
row-has n k [] [] h e l = tt
row-has n k (t ∷ ts) (each vs ∷ ss) h e l =
    let both : ((n == length vs) ≡ true)
    × (list_all (λ m. n == m) (flat_map side_lengths ss) ≡ true) =
    and_parts (n == length vs) (list_all (λ m. n == m) (flat_map side_lengths ss)) e in
    let f : n ≡ length vs = grind (arith, both.0) in
    (all-at (Has t) vs k null h.0 (omega (arith, f, l)), row-has n k ts ss h.1 both.1 l)
row-has n k (t ∷ ts) (always v ∷ ss) h e l = (h.0, row-has n k ts ss h.1 e l)
row-has n k [] (s ∷ ss) h e l = absurd h
row-has n k (t ∷ ts) [] h e l = absurd h

all-first : (ns : List ℕ) → all_same ns ≡ true
    → list_all (λ m. first_or_zero ns == m) ns ≡ true
all-first [] e = refl
all-first (n ∷ ns) e = let f : (n == n) ≡ true = grind arith in rw f e

places-have : (P : List Value → Type 0) (f : ℕ → List Value) (a n : ℕ)
    → ((k : ℕ) → k < a + n → P (f k)) → AllByRecursion P (map f (range_with_len a n))
places-have P f a zero h = tt
places-have P f a (suc n) h =
    (h a (omega arith), places-have P f (a + 1) n (λ k l. h k (omega (arith, l))))

-- the rows of sides of one length
rows-have : (ts : List DataType) (ss : List Side) → AreSidesOf ts ss → equally_long ss ≡ true
    → AllByRecursion (HasEach ts) (rows_of ss)
rows-have ts ss h e =
    places-have (HasEach ts) (λ k. map (side_at k) ss) 0 (common_length ss)
    (λ k l. row-has (common_length ss) k ts ss h (all-first (flat_map side_lengths ss) e)
    (omega (arith, l)))

-- ---- the first rows

data-sides : (ds : List Datum) → AllByRecursion IsTyped ds
    → AreSidesOf (typs ds) (map datum_side ds)
data-sides [] h = tt
data-sides (arr t vs ∷ ds) h = (h.0, data-sides ds h.1)
data-sides (one t v ∷ ds) h = (h.0, data-sides ds h.1)

singles-have : (ds : List Datum) → AllByRecursion IsTyped ds → some_array ds ≡ false
    → HasEach (typs ds) (map single_value ds)
singles-have [] h e = tt
singles-have (arr t vs ∷ ds) h e = cc
singles-have (one t v ∷ ds) h e = (h.0, singles-have ds h.1 e)

first-have : (ds : List Datum) (b : Bool) → some_array ds ≡ b → AllByRecursion IsTyped ds
    → equally_long (map datum_side ds) ≡ true → AllByRecursion (HasEach (typs ds))
    (if b then rows_of (map datum_side ds) else map single_value ds ∷ [])
first-have ds true e h q = rows-have (typs ds) (map datum_side ds) (data-sides ds h) q
first-have ds false e h q = (singles-have ds h e, tt)

-- ---- a level

present-has : (t : DataType) (v : Value) → is_present v ≡ true → Has t v → Has (present t) v
present-has (opt t) null e h = cc
present-has (opt t) (int z) e h = h
present-has (opt t) (truth b) e h = h
present-has (opt t) (list ws) e h = h
present-has (opt t) (row ws) e h = h
present-has (opt t) (alt k w) e h = h
present-has unknown v e h = h
present-has (leaf p) v e h = h
present-has (var t) v e h = h
present-has (reg n t) v e h = h
present-has (rec ns ts) v e h = h
present-has (tup ts) v e h = h
present-has (uni ts) v e h = h

whole-have : (ts : List DataType) (vs : List Value) → is_whole vs ≡ true → HasEach ts vs
    → HasEach (map present ts) vs
whole-have [] [] e h = tt
whole-have (t ∷ ts) (v ∷ vs) e h =
    let both : (is_present v ≡ true) × (is_whole vs ≡ true) =
    and_parts (is_present v) (is_whole vs) e in
    (present-has t v both.0 h.0, whole-have ts vs both.1 h.1)
whole-have [] (v ∷ vs) e h = absurd h
whole-have (t ∷ ts) [] e h = absurd h

present-have : (ts : List DataType) (vs : List Value) (o w : Bool) → some_option ts ≡ o
    → is_whole vs ≡ w → o && not w ≡ false → HasEach ts vs → HasEach (map present ts) vs
present-have ts vs true true e f g h = whole-have ts vs f h
present-have ts vs true false e f g h = cc
present-have ts vs false w e f g h =
    subst (λ us. HasEach us vs) (sym (presents-bare ts e)) h

-- the lists of a type, or its one item
reg-side : (b : Bool) (n : ℕ) (t : DataType) (v : Value) → (b ≡ true → n ≡ 1) → Has (reg n t) v
    → IsSideOf t (side (if b then stretched else listed (Some n)) v)
reg-side true n t (list ws) e h =
    all-at (Has t) (value_list ws) 0 null h.1 (omega (arith, h.0, e refl))
reg-side false n t (list ws) e h = h.1
reg-side b n t (int z) e h = absurd h
reg-side b n t (truth c) e h = absurd h
reg-side b n t null e h = absurd h
reg-side b n t (row ws) e h = absurd h
reg-side b n t (alt k w) e h = absurd h

is-one : (s : Bool) (n : ℕ) → s && n == 1 ≡ true → n ≡ 1
is-one s n e = let both : (s ≡ true) × ((n == 1) ≡ true) = and_parts s (n == 1) e in
    grind (arith, both.1)

side-has : (s : Bool) (t : DataType) (v : Value) → Has t v
    → IsSideOf (item_of t) (side (role s t) v)
side-has s unknown v h = absurd h
side-has s (var t) (list ws) h = h
side-has s (var t) (int z) h = absurd h
side-has s (var t) (truth b) h = absurd h
side-has s (var t) null h = absurd h
side-has s (var t) (row ws) h = absurd h
side-has s (var t) (alt k w) h = absurd h
side-has s (reg n t) v h = reg-side (s && n == 1) n t v (is-one s n) h
side-has s (leaf p) v h = h
side-has s (rec ns ts) v h = h
side-has s (tup ts) v h = h
side-has s (opt t) v h = h
side-has s (uni ts) v h = h

sides-have : (keep s : Bool) (ts : List DataType) (vs : List Value) → HasEach ts vs
    → AreSidesOf (map item_of ts) (sides (roles_by keep s ts) vs)
sides-have keep s [] [] h = tt
sides-have keep s (t ∷ ts) (v ∷ vs) h =
    (side-has (unless keep s) t v h.0, sides-have false s ts vs h.1)
sides-have keep s [] (v ∷ vs) h = absurd h
sides-have keep s (t ∷ ts) [] h = absurd h

-- ---- the class of a level

same-class : (n m : ℕ) (rest : Bool) → is_class (Some n) (Some m) && rest ≡ true
    → (n ≡ m) × (rest ≡ true)
same-class n m rest e =
    let both : ((n == m) ≡ true) × (rest ≡ true) = and_parts (n == m) rest e in
    (grind (arith, both.0), both.1)

-- lists that are of a length where all are have it
reg-lengths : (b : Bool) (n m : ℕ) (t : DataType) (v : Value) (cs : List Class) (ls : List ℕ)
    → Has (reg m t) v
    → list_all (is_class (Some n)) (role_class (if b then stretched else listed (Some m)) ++ cs)
    ≡ true
    → (list_all (is_class (Some n)) cs ≡ true → ls ≡ map (λ c. n) cs)
    → side_lengths (side (if b then stretched else listed (Some m)) v) ++ ls
    ≡ map (λ c. n) (role_class (if b then stretched else listed (Some m)) ++ cs)
reg-lengths true n m t (list ws) cs ls h e f = f e
reg-lengths false n m t (list ws) cs ls h e f =
    let q = same-class n m (list_all (is_class (Some n)) cs) e in
    let s : length (value_list ws) ≡ n = omega (arith, h.0, q.0) in
    ap (λ k. k ∷ ls) s ∙ ap (λ ks. n ∷ ks) (f q.1)
reg-lengths b n m t (int z) cs ls h e f = absurd h
reg-lengths b n m t (truth c) cs ls h e f = absurd h
reg-lengths b n m t null cs ls h e f = absurd h
reg-lengths b n m t (row ws) cs ls h e f = absurd h
reg-lengths b n m t (alt k w) cs ls h e f = absurd h

class-lengths : (n : ℕ) (keep s : Bool) (ts : List DataType) (vs : List Value) → HasEach ts vs
    → list_all (is_class (Some n)) (flat_map role_class (roles_by keep s ts)) ≡ true
    → flat_map side_lengths (sides (roles_by keep s ts) vs)
    ≡ map (λ c. n) (flat_map role_class (roles_by keep s ts))
class-lengths n keep s [] [] h e = refl
class-lengths n keep s (unknown ∷ ts) (v ∷ vs) h e = absurd h.0
class-lengths n keep s (var t ∷ ts) (v ∷ vs) h e = cc
class-lengths n keep s (reg m t ∷ ts) (v ∷ vs) h e =
    reg-lengths (unless keep s && m == 1) n m t v (flat_map role_class (roles_by false s ts))
    (flat_map side_lengths (sides (roles_by false s ts) vs)) h.0 e
    (λ f. class-lengths n false s ts vs h.1 f)
class-lengths n keep s (leaf p ∷ ts) (v ∷ vs) h e = class-lengths n false s ts vs h.1 e
class-lengths n keep s (rec ns us ∷ ts) (v ∷ vs) h e = class-lengths n false s ts vs h.1 e
class-lengths n keep s (tup us ∷ ts) (v ∷ vs) h e = class-lengths n false s ts vs h.1 e
class-lengths n keep s (opt t ∷ ts) (v ∷ vs) h e = class-lengths n false s ts vs h.1 e
class-lengths n keep s (uni us ∷ ts) (v ∷ vs) h e = class-lengths n false s ts vs h.1 e
class-lengths n keep s [] (v ∷ vs) h e = absurd h
class-lengths n keep s (t ∷ ts) [] h e = absurd h

class-is : (c : Class) (cs : List Class) (n : ℕ) (b : Bool) → list_all (is_class c) cs ≡ b
    → (if b then c else None) ≡ Some n
    → (c ≡ Some n) × (list_all (is_class (Some n)) cs ≡ true)
class-is c cs n true e f = (f, subst (λ d. list_all (is_class d) cs ≡ true) f e)
class-is c cs n false e f = cc

-- the lists of a level of a size have that length
common-size : (n : ℕ) (cs : List Class) (ls : List ℕ) → common_class cs ≡ Some n
    → (list_all (is_class (Some n)) cs ≡ true → ls ≡ map (λ c. n) cs) → first_or_zero ls ≡ n
common-size n [] ls e f = cc
common-size n (c ∷ cs) ls e f =
    let q = class-is c cs n (list_all (is_class c) cs) refl e in
    let r : (n == n) ≡ true = grind arith in
    let all : list_all (is_class (Some n)) (c ∷ cs) ≡ true =
    ap (λ d. is_class (Some n) d && list_all (is_class (Some n)) cs) q.0 ∙ (rw (r, q.1) refl) in
    ap first_or_zero (f all)

level-length : (keep : Bool) (n : ℕ) (ts : List DataType) (vs : List Value)
    → HasEach (map present ts) vs → level_class keep ts ≡ Some n
    → common_length (level_sides keep ts vs) ≡ n
level-length keep n ts vs h e =
    common-size n (flat_map role_class (roles keep ts))
    (flat_map side_lengths (level_sides keep ts vs)) e
    (λ f. class-lengths n keep (stretches (map present ts)) (map present ts) vs h f)

length-places : (f : ℕ → List Value) (g : List Value → Value) (a n : ℕ)
    → length (map g (map f (range_with_len a n))) ≡ n
length-places f g a zero = refl
length-places f g a (suc n) = ap suc (length-places f g (a + 1) n)

-- ---- values

row-of : (ts : List DataType) (vs : List Value) → HasEach ts vs
    → Has (tup (types_from ts)) (row (values_from vs))
row-of ts vs h = subst (λ ws. HasRow (types_from ts) ws) (sym (value_list-from vs)) (parts ts vs h)
  where
    parts : (ts : List DataType) (vs : List Value) → HasEach ts vs → HasRow (types_from ts) vs
    parts [] [] h = tt
    parts (t ∷ ts) (v ∷ vs) h = (h.0, parts ts vs h.1)
    parts [] (v ∷ vs) h = absurd h
    parts (t ∷ ts) [] h = absurd h

row-option : (o w : Bool) (t : DataType) (vs : List Value)
    → (o && not w ≡ false → Has t (row (values_from vs)))
    → Has (option_if o t) (if o && not w then null else row (values_from vs))
row-option true true t vs f = f refl
row-option true false t vs f = tt
row-option false w t vs f = f refl

list-option : (o w : Bool) (t : DataType) (vs : List Value)
    → (o && not w ≡ false → Has t (list (values_from vs)))
    → Has (option_if o t) (if o && not w then null else list (values_from vs))
list-option true true t vs f = f refl
list-option true false t vs f = tt
list-option false w t vs f = f refl

end-has : (r : Reach) (ts : List DataType) (vs : List Value) → HasEach ts vs
    → Has (end_type r ts) (end_value r ts vs)
end-has to_depth ts vs h = row-of ts vs h
end-has to_leaves ts vs h =
    row-option (some_option ts) (is_whole vs) (tup (types_from (map present ts))) vs
    (λ e. row-of (map present ts) vs
    (present-have ts vs (some_option ts) (is_whole vs) refl refl e h))

list-of : (c : Class) (u : DataType) (ws : List Value)
    → ((n : ℕ) → c ≡ Some n → length ws ≡ n) → AllByRecursion (Has u) ws
    → Has (list_type c u) (list (values_from ws))
list-of None u ws l h = subst (λ vs. AllByRecursion (Has u) vs) (sym (value_list-from ws)) h
list-of (Some n) u ws l h =
    subst (λ vs. (length vs ≡ n) × AllByRecursion (Has u) vs) (sym (value_list-from ws))
    (l n refl, h)

values-have : (u : DataType) (ts : List DataType) (g : List Value → Value) (bad : List Value → Bool)
    (rows : List (List Value)) → ((vs : List Value) → HasEach ts vs → bad vs ≡ false → Has u (g vs))
    → AllByRecursion (HasEach ts) rows → list_any bad rows ≡ false
    → AllByRecursion (Has u) (map g rows)
values-have u ts g bad [] f h e = tt
values-have u ts g bad (vs ∷ rows) f h e =
    let both : (bad vs ≡ false) × (list_any bad rows ≡ false) =
    or_parts (bad vs) (list_any bad rows) e in
    (f vs h.0 both.0, values-have u ts g bad rows f h.1 both.1)

module _ (keep : Bool) where
  -- the lists of a level, from what the rows below come to
  level-has : (ts : List DataType) (vs : List Value) (u : DataType) (g : List Value → Value)
      (bad : List Value → Bool)
      → ((ws : List Value) → HasEach (item_types ts) ws → bad ws ≡ false → Has u (g ws))
      → HasEach (map present ts) vs
      → differ keep ts vs || list_any bad (inner_rows keep ts vs) ≡ false
      → Has (list_type (level_class keep ts) u) (list (values_from (map g (inner_rows keep ts vs))))
  level-has ts vs u g bad f h e =
      let both : (differ keep ts vs ≡ false) × (list_any bad (inner_rows keep ts vs) ≡ false) =
      or_parts (differ keep ts vs) (list_any bad (inner_rows keep ts vs)) e in
      let even : equally_long (level_sides keep ts vs) ≡ true =
      not-false (equally_long (level_sides keep ts vs)) both.0 in
      list-of (level_class keep ts) u (map g (inner_rows keep ts vs))
      (λ n c. length-places (λ k. map (side_at k) (level_sides keep ts vs)) g 0
      (common_length (level_sides keep ts vs)) ∙ level-length keep n ts vs h c)
      (values-have u (item_types ts) g bad (inner_rows keep ts vs) f
      (rows-have (item_types ts) (level_sides keep ts vs)
      (sides-have keep (stretches (map present ts)) (map present ts) vs h) even) both.1)

  by-level : (ts : List DataType) (vs : List Value) (b : Bool) (u e : DataType) (w : Value)
      (g : List Value → Value) (bad : List Value → Bool)
      → ((ws : List Value) → HasEach (item_types ts) ws → bad ws ≡ false → Has u (g ws))
      → Has e w → HasEach ts vs
      → (if b then (if misses ts vs then false
      else differ keep ts vs || list_any bad (inner_rows keep ts vs)) else false) ≡ false
      → Has (if b then option_if (some_option ts) (list_type (level_class keep ts) u) else e)
      (if b then (if misses ts vs then null
      else list (values_from (map g (inner_rows keep ts vs)))) else w)
  by-level ts vs false u e w g bad f end h q = end
  by-level ts vs true u e w g bad f end h q =
      list-option (some_option ts) (is_whole vs) (list_type (level_class keep ts) u)
      (map g (inner_rows keep ts vs))
      (λ m. level-has ts vs u g bad f
      (present-have ts vs (some_option ts) (is_whole vs) refl refl m h)
      (ap (λ c. if c then false else differ keep ts vs || list_any bad (inner_rows keep ts vs))
      (sym m) ∙ q))

  -- what a row of values of their types is paired to, where its lists are equally long
  pub value_has : (r : Reach) (d : ℕ) (ts : List DataType) (vs : List Value) → HasEach ts vs
      → is_uneven keep d ts vs ≡ false → Has (paired_type keep r d ts) (paired_value keep r d ts vs)
  value_has r zero ts vs h e = end-has r ts vs h
  value_has r (suc d) ts vs h e =
      by-level ts vs (opens ts) (paired_type keep r d (item_types ts)) (end_type r ts)
      (end_value r ts vs) (paired_value keep r d (item_types ts)) (is_uneven keep d (item_types ts))
      (λ ws g f. value_has r d (item_types ts) ws g f) (end-has r ts vs h) h e

  -- ---- data

  pub typed_pairs : (d : Option ℕ) (ds : List Datum) → AllByRecursion IsTyped ds
      → are_uneven keep d ds ≡ false
      → AllByRecursion (Has (pair_type keep d ds)) (pair_values keep d ds)
  typed_pairs d ds h e =
      let both : (not (equally_long (map datum_side ds)) ≡ false)
      × (any_uneven keep (below d ds) (typs ds) (first_rows ds) ≡ false) =
      or_parts (not (equally_long (map datum_side ds)))
      (any_uneven keep (below d ds) (typs ds) (first_rows ds)) e in
      values-have (pair_type keep d ds) (typs ds)
      (paired_value keep (reach d) (below d ds) (typs ds))
      (is_uneven keep (below d ds) (typs ds)) (first_rows ds)
      (λ vs g f. value_has (reach d) (below d ds) (typs ds) vs g f)
      (first-have ds (some_array ds) refl h
      (not-false (equally_long (map datum_side ds)) both.0)) both.1

  -- ---- what is answered where nothing is refused

  none-of : (f g : Option Fault) → f or g ≡ None → (f ≡ None) × (g ≡ None)
  none-of None g e = (refl, e)
  none-of (Some x) g e = cc

  none-refused : {A : Type 0} (f : Option Fault) (a b : A) → refused_or f a ≡ Ok b → f ≡ None
  none-refused None a b e = refl
  none-refused (Some x) a b e = cc

  even-of : (b : Bool) (x : Fault) → (if b then Some x else None) ≡ None → b ≡ false
  even-of true x e = cc
  even-of false x e = refl

  abbrev sizes : Option ℕ → List Datum → Option Fault
  sizes d ds = sizes_refused (pair_type keep d ds) (pair_values keep d ds)

  parts-none : (d : Option ℕ) (ds : List Datum) (b : Bool) → single_or_fault keep d ds ≡ Ok b
      → (lengths_refused keep d ds ≡ None) × (sizes d ds ≡ None)
  parts-none d ds b e =
      none-of (lengths_refused keep d ds) (sizes d ds)
      (none-of (type_refused d ds) (lengths_refused keep d ds or sizes d ds)
      (none-refused (type_refused d ds or (lengths_refused keep d ds or sizes d ds))
      (not (some_array ds)) b e)).1

  pub pairs_typed : (d : Option ℕ) (ds : List Datum) (b : Bool) → AllByRecursion IsTyped ds
      → single_or_fault keep d ds ≡ Ok b
      → AllByRecursion (Has (pair_type keep d ds)) (pair_values keep d ds)
  pairs_typed d ds b h e =
      typed_pairs d ds h (even-of (are_uneven keep d ds) _ (parts-none d ds b e).0)

  pub pairs_frame : (d : Option ℕ) (ds : List Datum) (b : Bool) → AllByRecursion IsTyped ds
      → single_or_fault keep d ds ≡ Ok b
      → IsFrame (shared_shape keep d ds) (length (shared_ends keep d ds))
  pairs_frame d ds b h e =
      sized_frame (pair_type keep d ds) (pair_values keep d ds) (pairs_typed d ds b h e)
      (parts-none d ds b e).1
