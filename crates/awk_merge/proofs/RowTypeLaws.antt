-- Types of rows unify to a type of rows.
use Rattle.std.proofs.Common.{◌≡◌, ◌<◌, ◌∷◌, [], suc, Bool, true, false, List, Option, Some, None}
use Rattle.std.proofs.Common.{ap, sym, subst, refl, map, length, arith}
use Rattle.std.specs.List.{AllByRecursion}
use Rattle.std.specs.Option.{option_map}
use Rattle.awk_types.specs.DataType.{DataType, unknown, leaf, var, reg, rec, tup, opt, uni}
use Rattle.awk_types.specs.Simple.{option_if}
use Rattle.awk_layout.specs.Datum.{datum_of}
use Rattle.awk_layout.specs.Typing.{array_type}
use Rattle.awk_layout.specs.declared.datum.Datum.{Datum}
use Rattle.awk_layout.specs.declared.datum.Datum.TheVariants.{Arr, One}
use Rattle.awk_unify.specs.Unify.{unification, options_or, joins_or_unions, rules}
use Rattle.awk_unify.specs.UnifyList.{UnificationList, one_further, unification_list}
use Rattle.awk_unify.specs.UnifyList.{unification_more}
use Rattle.awk_unify.proofs.DepthLaws.{unify_rules}
use Rattle.awk_unify.proofs.SimpleLaws.{equal_is}
use Rattle.awk_merge_operands.specs.Concatenate.{lists_type, rows_type, operand_type, operand_types}
use Rattle.awk_merge_operands.specs.Operands.{IsRowsType}
use Rattle.awk_merge_operands.specs.declared.operands.Axis.TheVariants.{Rows}
use Rattle.awk_merge_operands.proofs.OperandLaws.{before_is}

-- ---- the two forms of such a type

record IsOfRows (t : DataType) : Type 0 where
  optional : Bool
  item : DataType
  is : t ≡ option_if optional (var item)

rows_form : (t : DataType) → IsRowsType t → IsOfRows t
rows_form (var t) h = record { optional = false; item = t; is = refl }
rows_form (opt (var t)) h = record { optional = true; item = t; is = refl }
rows_form (opt unknown) h = absurd h
rows_form (opt (leaf p)) h = absurd h
rows_form (opt (reg n t)) h = absurd h
rows_form (opt (rec ns ts)) h = absurd h
rows_form (opt (tup ts)) h = absurd h
rows_form (opt (opt t)) h = absurd h
rows_form (opt (uni ts)) h = absurd h
rows_form unknown h = absurd h
rows_form (leaf p) h = absurd h
rows_form (reg n t) h = absurd h
rows_form (rec ns ts) h = absurd h
rows_form (tup ts) h = absurd h
rows_form (uni ts) h = absurd h

-- ---- two types

by_form : (o p : Bool) (a b : DataType)
    → IsRowsType (options_or unification (option_if o (var a)) (option_if p (var b))).typ
by_form false false a b = tt
by_form true false a b =
    equal_is (λ t. IsRowsType (opt t)) (var a) (var b) (joins_or_unions unification (var a) (var b))
    tt tt tt
by_form false true a b =
    equal_is (λ t. IsRowsType (opt t)) (var a) (var b) (joins_or_unions unification (var a) (var b))
    tt tt tt
by_form true true a b =
    equal_is (λ t. IsRowsType (opt t)) (var a) (var b) (joins_or_unions unification (var a) (var b))
    tt tt tt

options_rows : (a b : DataType) → IsRowsType a → IsRowsType b
    → IsRowsType (options_or unification a b).typ
options_rows a b h k =
    let f = rows_form a h in
    let g = rows_form b k in
    subst (λ t. IsRowsType (options_or unification t b).typ) (sym f.is)
    (subst (λ t. IsRowsType (options_or unification (option_if f.optional (var f.item)) t).typ)
    (sym g.is) (by_form f.optional g.optional f.item g.item))

rows_unify : (a b : DataType) → IsRowsType a → IsRowsType b → IsRowsType (unification a b).typ
rows_unify a b h k =
    subst (λ r. IsRowsType r.typ) (sym (unify_rules a b))
    (equal_is IsRowsType a b (options_or unification a b) h k (options_rows a b h k))

-- ---- several

rows_more : (u : UnificationList) (bs : List DataType) → IsRowsType u.typ
    → AllByRecursion IsRowsType bs → IsRowsType (unification_more u bs).typ
rows_more u [] h k = h
rows_more u (b ∷ bs) h k = rows_more (one_further u b) bs (rows_unify u.typ b h k.0) k.1

first_form : (o : Bool) (b : DataType)
    → IsRowsType (rules unification unknown (option_if o (var b))).typ
first_form false b = tt
first_form true b = tt

first_rows : (b : DataType) → IsRowsType b → IsRowsType (unification unknown b).typ
first_rows b h =
    let f = rows_form b h in
    subst (λ r. IsRowsType r.typ) (sym (unify_rules unknown b))
    (subst (λ t. IsRowsType (rules unification unknown t).typ) (sym f.is)
    (first_form f.optional f.item))

rows_list : (ts : List DataType) → 0 < length ts → AllByRecursion IsRowsType ts
    → IsRowsType (unification_list ts).typ
rows_list [] l h = absurd (omega (arith, l))
rows_list (t ∷ ts) l h =
    rows_more (one_further (record { typ = unknown; lifts = [] }) t) ts (first_rows t h.0) h.1

-- ---- operands

lists_are_rows : (t a : DataType) → lists_type t ≡ Some a → IsRowsType a × IsRowsType (opt a)
lists_are_rows unknown a e =
    let f : var unknown ≡ a = cc in subst (λ u. IsRowsType u × IsRowsType (opt u)) f (tt, tt)
lists_are_rows (var t) a e =
    let f : var t ≡ a = cc in subst (λ u. IsRowsType u × IsRowsType (opt u)) f (tt, tt)
lists_are_rows (reg n t) a e =
    let f : var t ≡ a = cc in subst (λ u. IsRowsType u × IsRowsType (opt u)) f (tt, tt)
lists_are_rows (leaf p) a e = absurd (cc)
lists_are_rows (rec ns ts) a e = absurd (cc)
lists_are_rows (tup ts) a e = absurd (cc)
lists_are_rows (opt t) a e = absurd (cc)
lists_are_rows (uni ts) a e = absurd (cc)

optional_rows : (o : Option DataType) (t a : DataType) → lists_type t ≡ o
    → option_map opt o ≡ Some a → IsRowsType a
optional_rows None t a e f = absurd (cc)
optional_rows (Some u) t a e f =
    let g : opt u ≡ a = cc in subst IsRowsType g (lists_are_rows t u e).1

are_rows : (t a : DataType) → rows_type t ≡ Some a → IsRowsType a
are_rows (opt t) a e = optional_rows (lists_type t) t a refl e
are_rows unknown a e = (lists_are_rows unknown a e).0
are_rows (leaf p) a e = (lists_are_rows (leaf p) a e).0
are_rows (var t) a e = (lists_are_rows (var t) a e).0
are_rows (reg n t) a e = (lists_are_rows (reg n t) a e).0
are_rows (rec ns ts) a e = (lists_are_rows (rec ns ts) a e).0
are_rows (tup ts) a e = (lists_are_rows (tup ts) a e).0
are_rows (uni ts) a e = (lists_are_rows (uni ts) a e).0

operand_rows : (d : Datum) (a : DataType) → operand_type Rows (datum_of d) ≡ Some a → IsRowsType a
operand_rows (Arr x) a e = are_rows (array_type x) a e
operand_rows (One x) a e = absurd (cc)

operands_rows : (ds : List Datum) (ts : List DataType)
    → operand_types Rows (map datum_of ds) ≡ Some ts
    → AllByRecursion IsRowsType ts × (length ts ≡ length ds)
operands_rows [] ts e =
    let f : [] ≡ ts = cc in subst (λ us. AllByRecursion IsRowsType us × (length us ≡ 0)) f
    (tt, refl)
operands_rows (d ∷ ds) ts e =
    let b = before_is (operand_type Rows (datum_of d)) (operand_types Rows (map datum_of ds)) ts
    e in
    let rest = operands_rows ds b.rest b.rest_is in
    subst (λ us. AllByRecursion IsRowsType us × (length us ≡ length (d ∷ ds))) (sym b.whole)
    ((operand_rows d b.first b.first_is, rest.0), ap suc rest.1)

-- rows are joined as rows
pub joined_are_rows : (ds : List Datum) (ts : List DataType) → 0 < length ds
    → operand_types Rows (map datum_of ds) ≡ Some ts → IsRowsType (unification_list ts).typ
joined_are_rows ds ts l e =
    let rows = operands_rows ds ts e in rows_list ts (omega (arith, l, rows.1)) rows.0
