-- The column of each part of a type has values of that part.
use Rattle.std.proofs.Common.{◌≡◌, ◌<◌, ◌≤◌, ℕ, zero, suc, ◌-◌, ◌*◌, Bool, true, false, cond, List}
use Rattle.std.proofs.Common.{[], ◌∷◌, length, map, drop, get_or, refl, ap, arith, length-append}
use Rattle.std.specs.Prelude.{◌==◌}
use Rattle.std.specs.List.{AllByRecursion}
use Rattle.awk_base.proofs.Every.{all-append}
use Rattle.awk_types.specs.DataType.{DataType, unknown, var, reg, rec, tup, uni, DataTypes}
use Rattle.awk_types.specs.DataType.{no_types, type, type_list}
use Rattle.awk_types.specs.Parts.{IsAlternative}
use Rattle.awk_types.specs.Value.{Value, null, list, row, alt, values_from}
use Rattle.awk_types.specs.Has.{Has, HasRow, HasAlternative}
use Rattle.awk_types.proofs.Trees.{values_from-list}
use Rattle.awk_types.proofs.HasLaws.{tag_within}
use Rattle.awk_columns.specs.Columns.{list_items, joined_items, row_parts, part_at}
use Rattle.awk_columns.specs.Columns.{tag_of, given_to, alternative_values}
use Rattle.awk_readback.proofs.ValueLists.{map-all}

-- no value is of type unknown
pub none-unknown : (vs : List Value) → AllByRecursion (Has unknown) vs → length vs ≡ 0
none-unknown [] h = refl
none-unknown (v ∷ vs) h = absurd h.0

-- ---- lists

-- a list of items of a type
abbrev pub IsListOf : DataType → Value → Type 0
IsListOf t v = (list (values_from (list_items v)) ≡ v) × AllByRecursion (Has t) (list_items v)

pub var-list : (t : DataType) (v : Value) → Has (var t) v → IsListOf t v
var-list t (list vs) h = (ap list (values_from-list vs), h)
var-list t v h = absurd h

pub reg-list : (n : ℕ) (t : DataType) (v : Value) → Has (reg n t) v
    → IsListOf t v × (length (list_items v) ≡ n)
reg-list n t (list vs) h = ((ap list (values_from-list vs), h.1), h.0)
reg-list n t v h = absurd h

joined-has : (t : DataType) (vs : List Value) → AllByRecursion (IsListOf t) vs
    → AllByRecursion (Has t) (joined_items vs)
joined-has t [] h = tt
joined-has t (v ∷ vs) h =
    all-append (Has t) (list_items v) (joined_items vs) h.0.1 (joined-has t vs h.1)

pub vars-have : (t : DataType) (vs : List Value) → AllByRecursion (Has (var t)) vs
    → AllByRecursion (Has t) (joined_items vs)
vars-have t vs h = joined-has t vs (map-all (Has (var t)) (IsListOf t) (var-list t) vs h)

pub regs-have : (n : ℕ) (t : DataType) (vs : List Value) → AllByRecursion (Has (reg n t)) vs
    → AllByRecursion (Has t) (joined_items vs)
regs-have n t vs h =
    joined-has t vs (map-all (Has (reg n t)) (IsListOf t) (λ v x. (reg-list n t v x).0) vs h)

pub regs-length : (n : ℕ) (t : DataType) (vs : List Value) → AllByRecursion (Has (reg n t)) vs
    → length (joined_items vs) ≡ length vs * n
regs-length n t [] h = omega arith
regs-length n t (v ∷ vs) h =
    omega (
      arith,
      length-append (list_items v) (joined_items vs),
      (reg-list n t v h.0).1,
      regs-length n t vs h.1,
    )

-- ---- rows

-- the parts of a row from place k on are of these types
abbrev pub FieldsFrom : ℕ → DataTypes → Value → Type 0
FieldsFrom k ts v = HasRow ts (drop k (row_parts v))

pub field-at : (t : DataType) (ts : DataTypes) (ps : List Value) (k : ℕ)
    → HasRow (type t ts) (drop k ps)
    → Has t (get_or ps k null) × HasRow ts (drop (suc k) ps)
    × (drop k ps ≡ get_or ps k null ∷ drop (suc k) ps)
field-at t ts [] zero h = absurd h
field-at t ts [] (suc k) h = absurd h
field-at t ts (p ∷ ps) zero h = (h.0, h.1, refl)
field-at t ts (p ∷ ps) (suc k) h = field-at t ts ps k h

pub no-field : (ps : List Value) → HasRow no_types ps → ps ≡ []
no-field [] h = refl
no-field (p ∷ ps) h = absurd h

pub first-have : (k : ℕ) (t : DataType) (ts : DataTypes) (rows : List Value)
    → AllByRecursion (FieldsFrom k (type t ts)) rows → AllByRecursion (Has t) (map (part_at k) rows)
first-have k t ts [] h = tt
first-have k t ts (v ∷ vs) h = ((field-at t ts (row_parts v) k h.0).0, first-have k t ts vs h.1)

pub others-have : (k : ℕ) (t : DataType) (ts : DataTypes) (rows : List Value)
    → AllByRecursion (FieldsFrom k (type t ts)) rows
    → AllByRecursion (FieldsFrom (suc k) ts) rows
others-have k t ts [] h = tt
others-have k t ts (v ∷ vs) h = ((field-at t ts (row_parts v) k h.0).1, others-have k t ts vs h.1)

-- a row of these types
abbrev pub IsRowOf : DataTypes → Value → Type 0
IsRowOf ts v = (row (values_from (row_parts v)) ≡ v) × FieldsFrom 0 ts v

pub tup-row : (ts : DataTypes) (v : Value) → Has (tup ts) v → IsRowOf ts v
tup-row ts (row vs) h = (ap row (values_from-list vs), h)
tup-row ts v h = absurd h

pub rec-row : (ns : List (List ℕ)) (ts : DataTypes) (v : Value) → Has (rec ns ts) v → IsRowOf ts v
rec-row ns ts (row vs) h = (ap row (values_from-list vs), h)
rec-row ns ts v h = absurd h

pub tups-have : (ts : DataTypes) (vs : List Value) → AllByRecursion (Has (tup ts)) vs
    → AllByRecursion (FieldsFrom 0 ts) vs
tups-have ts vs h = map-all (Has (tup ts)) (FieldsFrom 0 ts) (λ v x. (tup-row ts v x).1) vs h

pub recs-have : (ns : List (List ℕ)) (ts : DataTypes) (vs : List Value)
    → AllByRecursion (Has (rec ns ts)) vs → AllByRecursion (FieldsFrom 0 ts) vs
recs-have ns ts vs h =
    map-all (Has (rec ns ts)) (FieldsFrom 0 ts) (λ v x. (rec-row ns ts v x).1) vs h

-- ---- unions

-- a value of an alternative from place k on is of its type
abbrev pub AlternativeFrom : ℕ → DataTypes → Value → Type 0
AlternativeFrom k ts (alt j w) = k ≤ j → HasAlternative ts (j - k) w
AlternativeFrom k ts v = Unit {0}

uni-alternative : (ts : DataTypes) (v : Value) → Has (uni ts) v
    → IsAlternative v × AlternativeFrom 0 ts v
uni-alternative ts (alt j w) h = (tt, λ l. let e : j - 0 ≡ j = omega arith in rw e h)
uni-alternative ts v h = absurd h

pub unis-have : (ts : DataTypes) (vs : List Value) → AllByRecursion (Has (uni ts)) vs
    → AllByRecursion (AlternativeFrom 0 ts) vs
unis-have ts vs h =
    map-all (Has (uni ts)) (AlternativeFrom 0 ts) (λ v x. (uni-alternative ts v x).1) vs h

pub unis-alternatives : (ts : DataTypes) (vs : List Value) → AllByRecursion (Has (uni ts)) vs
    → AllByRecursion IsAlternative vs
unis-alternatives ts vs h =
    map-all (Has (uni ts)) IsAlternative (λ v x. (uni-alternative ts v x).0) vs h

-- a tag is the place of an alternative
pub uni-tag : (ts : DataTypes) (v : Value) → Has (uni ts) v → tag_of v < length (type_list ts)
uni-tag ts (alt k v) h = tag_within ts k v h
uni-tag ts v h = absurd h

here-has : (k : ℕ) (t : DataType) (ts : DataTypes) (v : Value) → AlternativeFrom k (type t ts) v
    → AllByRecursion (Has t) (given_to k v)
here-has k t ts (alt j w) h = by (k == j) refl
  where
    by : (b : Bool) → (k == j) ≡ b → AllByRecursion (Has t) (cond b (w ∷ []) [])
    by true e =
        let same : k ≡ j = grind arith in
        let none : j - k ≡ 0 = omega arith in
        (rw none at (h (omega arith)), tt)
    by false e = tt
here-has k t ts v h = tt

pub alternative-have : (k : ℕ) (t : DataType) (ts : DataTypes) (vs : List Value)
    → AllByRecursion (AlternativeFrom k (type t ts)) vs
    → AllByRecursion (Has t) (alternative_values k vs)
alternative-have k t ts [] h = tt
alternative-have k t ts (v ∷ vs) h =
    all-append (Has t) (given_to k v) (alternative_values k vs) (here-has k t ts v h.0)
    (alternative-have k t ts vs h.1)

later-has : (k : ℕ) (t : DataType) (ts : DataTypes) (v : Value) → AlternativeFrom k (type t ts) v
    → AlternativeFrom (suc k) ts v
later-has k t ts (alt j w) h =
    λ l. let e : j - k ≡ suc (j - suc k) = omega arith in rw e at (h (omega arith))
later-has k t ts v h = tt

pub later-have : (k : ℕ) (t : DataType) (ts : DataTypes) (vs : List Value)
    → AllByRecursion (AlternativeFrom k (type t ts)) vs
    → AllByRecursion (AlternativeFrom (suc k) ts) vs
later-have k t ts vs h =
    map-all (AlternativeFrom k (type t ts)) (AlternativeFrom (suc k) ts) (later-has k t ts) vs h

none-given : (k j : ℕ) (v : Value) → k ≤ j → AlternativeFrom k no_types v → given_to j v ≡ []
none-given k j (alt i w) l h = by (j == i) refl
  where
    by : (b : Bool) → (j == i) ≡ b → cond b (w ∷ []) [] ≡ []
    by true e = absurd (h (grind arith))
    by false e = refl
none-given k j v l h = refl

-- behind the last alternative there is no value
pub none-left : (k j : ℕ) (vs : List Value) → k ≤ j
    → AllByRecursion (AlternativeFrom k no_types) vs → alternative_values j vs ≡ []
none-left k j [] l h = refl
none-left k j (v ∷ vs) l h = rw (none-given k j v l h.0, none-left k j vs l h.1) refl
