-- How far the first of two data is lists, and what it ends at.
use Rattle.std.proofs.Common.{◌≡◌, ℕ, suc, ◌≤◌, not, refl, ap, arith, ◌∙◌, ◌+◌, sym}
use Rattle.std.specs.Prelude.{List, [], ◌∷◌, get_or, nat_lt, Some, None}
use Rattle.awk_types.specs.DataType.{DataType, unknown, leaf, var, reg, rec, tup, opt, uni, depth}
use Rattle.awk_types.specs.Datum.{Datum, arr, one, datum_type}
use Rattle.awk_types.specs.Limit.{limit}
use Rattle.awk_types.specs.Parts.{list_depth, is_record}
use Rattle.awk_types.specs.Simple.{present, IsSimple}
use Rattle.awk_types.proofs.PartLimits.{deep-by}
use Rattle.awk_layout.specs.Datum.{datum_of, kept}
use Rattle.awk_layout.specs.Layout.{Layout}
use Rattle.awk_layout.specs.Typing.{array_type}
use Rattle.awk_layout.specs.declared.datum.Datum as code
use Rattle.awk_layout.specs.declared.datum.Datum.TheVariants.{Arr, One}
use Rattle.awk_pair_operands.specs.Paired.{to_depth, types_at_ends}
use Rattle.awk_pair_operands.specs.Pairs.{below}
use Rattle.awk_pair_sides.specs.Levels.{item_types}
use Rattle.awk_put_field.specs.Ends.{ends_at_records}
use Rattle.awk_with_field.specs.WithField.{levels_of, beside, both, is_wrong}

-- the levels below the first rows
pub below-levels : (e v : Datum) → below (Some (levels_of e)) (both e v) ≡ list_depth (datum_type e)
below-levels (arr t vs) v = omega arith
below-levels (one t w) (arr u ws) = refl
below-levels (one t w) (one u z) = refl

-- what stands at the end of a first type
abbrev end_at : DataType → List DataType → DataType
end_at t ts = get_or (types_at_ends to_depth (list_depth t) (t ∷ ts)) 0 unknown

record-end : (t : DataType) (ts : List DataType) → IsSimple t
    → is_record (present (end_at t ts)) ≡ ends_at_records t
record-end unknown ts s = refl
record-end (leaf p) ts s = refl
record-end (rec ns us) ts s = refl
record-end (tup us) ts s = refl
record-end (uni us) ts s = refl
record-end (var t) ts s = record-end t (item_types ts) s
record-end (reg n t) ts s = record-end t (item_types ts) s
record-end (opt unknown) ts s = refl
record-end (opt (leaf p)) ts s = refl
record-end (opt (rec ns us)) ts s = refl
record-end (opt (tup us)) ts s = refl
record-end (opt (uni us)) ts s = refl
record-end (opt (var t)) ts s = record-end t (item_types ts) s.1
record-end (opt (reg n t)) ts s = record-end t (item_types ts) s.1
record-end (opt (opt t)) ts s = absurd cc

-- whether the first datum ends at a record is told by its type
pub wrong-told : (e v : Datum) → IsSimple (datum_type e)
    → is_wrong (levels_of e) (both e v) ≡ not (ends_at_records (datum_type e))
wrong-told e v s =
    ap (λ k. not (is_record (present (get_or (types_at_ends to_depth k
    (datum_type e ∷ datum_type (beside e v) ∷ [])) 0 unknown)))) (below-levels e v)
    ∙ ap not (record-end (datum_type e) (datum_type (beside e v) ∷ []) s)

-- no type has more lists than it is deep
lists-depth : (t : DataType) → list_depth t ≤ depth t
lists-depth unknown = omega arith
lists-depth (leaf p) = omega arith
lists-depth (var t) = omega (arith, lists-depth t)
lists-depth (reg n t) = omega (arith, lists-depth t)
lists-depth (rec ns ts) = omega arith
lists-depth (tup ts) = omega arith
lists-depth (opt t) = omega (arith, lists-depth t)
lists-depth (uni ts) = omega arith

pub few_lists : (t : DataType) → limit t ≡ None → list_depth t ≤ 60
few_lists t h =
    let f = deep-by (depth t) (nat_lt 60 (depth t)) _ refl h in
    omega (arith, lists-depth t, f)

-- ---- of data as they are kept

pub levels-arr : (d : code.Datum) (x : Layout) (t : DataType) (k : ℕ) → d ≡ Arr x
    → t ≡ array_type (kept d) → k ≡ list_depth t → k + 1 ≡ levels_of (datum_of d)
levels-arr d x t k e f g =
    let h : k ≡ list_depth (array_type x) =
    g ∙ ap list_depth (f ∙ ap (λ b. array_type (kept b)) e) in
    let m : k + 1 ≡ suc (list_depth (array_type x)) = omega (arith, h) in
    m ∙ ap (λ b. levels_of (datum_of b)) (sym e)

pub levels-one : (d : code.Datum) (x : Layout) (t : DataType) (k : ℕ) → d ≡ One x
    → t ≡ array_type (kept d) → k ≡ list_depth t → k ≡ levels_of (datum_of d)
levels-one d x t k e f g =
    g ∙ ap list_depth (f ∙ ap (λ b. array_type (kept b)) e)
    ∙ ap (λ b. levels_of (datum_of b)) (sym e)
