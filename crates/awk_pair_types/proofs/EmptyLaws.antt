-- A pairing of data without items: it has the type of one with items, and no fault.
use Rattle.std.proofs.Common.{◌≡◌, ℕ, suc, ◌==◌, ◌<◌, ◌≤◌, ◌+◌, Bool, true, false, not, refl}
use Rattle.std.proofs.Common.{ap, ap₂, sym, ◌∙◌, arith, take}
use Rattle.std.specs.Prelude.{List, [], ◌∷◌, ◌++◌, map, length, slice_get, slice_range}
use Rattle.std.specs.Prelude.{None, Some, Option, Result, Ok}
use Rattle.std.specs.List.{list_all, flat_map}
use Rattle.std.proofs.lemmas.List.{length-map, map-append, take_all}
use Rattle.awk_types.specs.DataType.{DataType, unknown, leaf, var, reg, rec, tup, opt, uni}
use Rattle.awk_types.specs.Datum.{Datum, arr, datum_type}
use Rattle.awk_types.specs.Gives.{Told, refused_or}
use Rattle.awk_types.specs.Value.{Value}
use Rattle.awk_types.specs.declared.fault.Fault.{Fault}
use Rattle.awk_base.proofs.Lists.{map-take-get}
use Rattle.awk_layout.proofs.ArrayItems.{length-array_items}
use Rattle.awk_layout.specs.Datum.{datum_of, kept}
use Rattle.awk_layout.specs.Layout.{Layout}
use Rattle.awk_layout.specs.Single.{own_datum}
use Rattle.awk_layout.specs.Typing.{array_type, array_items}
use Rattle.awk_layout.specs.declared.datum.Datum as code
use Rattle.awk_layout.specs.declared.datum.Datum.TheVariants.{Arr, One}
use Rattle.awk_layout.specs.declared.datum.Operand.{Operand}
use Rattle.awk_layout.specs.declared.datum.Operand.TheVariants as operand
use Rattle.awk_columns.specs.Columns.{part_at}
use Rattle.awk_columns.specs.Parts.{AreParts}
use Rattle.awk_open.specs.Opened.{AreLong}
use Rattle.awk_frames.specs.Shape.{Shape, ends, shape}
use Rattle.awk_frames.specs.Sizes.{levels_refused}
use Rattle.awk_pair_operands.specs.Answer.{shared_ends, shared_shape, single_or_fault}
use Rattle.awk_pair_operands.specs.First.{all_data}
use Rattle.awk_pair_operands.specs.Pairs.{typs, pair_type, pair_values, pair_refused, has_wrong_end}
use Rattle.awk_pair_operands.specs.Pairs.{first_rows, datum_side, some_array}
use Rattle.awk_pair_sides.specs.Sides.{equally_long, side_lengths}
use Rattle.awk_pair_types.specs.Emptied.{emptied, heights, height}
use Rattle.awk_pair_types.proofs.HeightLaws.{heights_push}

pub typs-emptied : (ds : List Datum) → typs (map emptied ds) ≡ typs ds
typs-emptied [] = refl
typs-emptied (d ∷ ds) = ap (λ ts. datum_type d ∷ ts) (typs-emptied ds)

-- ---- no rows

zero-lengths : (ds : List Datum)
    → list_all (λ m. 0 == m) (flat_map side_lengths (map datum_side (map emptied ds))) ≡ true
zero-lengths [] = refl
zero-lengths (d ∷ ds) = zero-lengths ds

even-emptied : (ds : List Datum) → equally_long (map datum_side (map emptied ds)) ≡ true
even-emptied [] = refl
even-emptied (d ∷ ds) = zero-lengths ds

rows-emptied : (ds : List Datum) → 0 < length ds → first_rows (map emptied ds) ≡ []
rows-emptied [] h = absurd (omega (arith, h))
rows-emptied (d ∷ ds) h = refl

pub values-emptied : (keep : Bool) (d : Option ℕ) (ds : List Datum) → 0 < length ds
    → pair_values keep d (map emptied ds) ≡ []
values-emptied keep d ds h = rw (rows-emptied ds h) refl

no-levels : (t : DataType) → levels_refused t [] ≡ None
no-levels unknown = refl
no-levels (leaf p) = refl
no-levels (var t) = no-levels t
no-levels (reg n t) = no-levels t
no-levels (rec ns ts) = refl
no-levels (tup ts) = refl
no-levels (opt t) = no-levels t
no-levels (uni ts) = refl

no-ends : (t : DataType) → ends t [] ≡ []
no-ends unknown = refl
no-ends (leaf p) = refl
no-ends (var t) = no-ends t
no-ends (reg n t) = no-ends t
no-ends (rec ns ts) = refl
no-ends (tup ts) = refl
no-ends (opt t) = no-ends t
no-ends (uni ts) = refl

pub ends-emptied : (keep : Bool) (d : Option ℕ) (ds : List Datum) → 0 < length ds
    → shared_ends keep d (map emptied ds) ≡ []
ends-emptied keep d ds h =
    ap (ends (pair_type keep d (map emptied ds))) (values-emptied keep d ds h)
    ∙ no-ends (pair_type keep d (map emptied ds))

-- a pairing of data without items is not refused, unless by their types
pub refused-emptied : (keep : Bool) (d : Option ℕ) (ds : List Datum) → 0 < length ds
    → has_wrong_end d (map emptied ds) ≡ false → pair_refused keep d (map emptied ds) ≡ None
refused-emptied keep d ds h e =
    rw (e, even-emptied ds, rows-emptied ds h) (no-levels (pair_type keep d (map emptied ds)))

-- ---- what operands without items are paired to

-- what tells a value tells no fault
pub none_told : {A : Type 0} (o : Option Fault) (said : Result A Fault) (x : A)
    → Told o said → said ≡ Ok x → o ≡ None
none_told None said x h e = refl
none_told (Some f) said x h e = absurd cc

module _ (keep : Bool) (d : Option ℕ) (xs ys : List Operand)
    (none : all_data ys ≡ map emptied (all_data xs)) (some : 0 < length (all_data xs)) where
  pub no_fault : (o : Option Fault) → has_wrong_end d (map emptied (all_data xs)) ≡ false
      → Told o (single_or_fault keep d (all_data ys)) → o ≡ None
  no_fault o right told =
      none_told o (single_or_fault keep d (all_data ys)) (not (some_array (all_data ys))) told
      (ap (λ f. refused_or f (not (some_array (all_data ys))))
      (ap (pair_refused keep d) none ∙ refused-emptied keep d (all_data xs) some right))

  pub no_shape : (s : Shape) → s ≡ shared_shape keep d (all_data ys)
      → s ≡ shape (pair_type keep d (map emptied (all_data xs))) []
  no_shape s h =
      h ∙ ap (shared_shape keep d) none
      ∙ ap (shape (pair_type keep d (map emptied (all_data xs))))
      (values-emptied keep d (all_data xs) some)

  pub no_rows : shared_ends keep d (all_data ys) ≡ []
  no_rows = ap (shared_ends keep d) none ∙ ends-emptied keep d (all_data xs) some

-- columns of the parts of no rows
pub no_columns : (k : ℕ) (vs : List Value) (xs : List Layout) → AreParts k vs xs → vs ≡ []
    → AreLong 0 xs
no_columns k vs [] h e = tt
no_columns k vs (x ∷ xs) h e = (
  sym (length-array_items x) ∙ ap length (h.0 ∙ ap (map (part_at k)) e),
  no_columns (suc k) vs xs h.1 e,
)

-- ---- operands without items

type-kept : (d : code.Datum) → array_type (kept d) ≡ datum_type (datum_of d)
type-kept (Arr x) = refl
type-kept (One x) = refl

pub emptied_is : (x : Operand) (d : code.Datum) (k y : Layout) → datum_of d ≡ own_datum x
    → k ≡ kept d → array_type y ≡ array_type k → array_items y ≡ slice_range (array_items k) 0 0
    → own_datum (operand.Of (Arr y)) ≡ emptied (own_datum x)
emptied_is x d k y is at typ items =
    ap₂ arr (typ ∙ ap array_type at ∙ type-kept d ∙ ap datum_type is) items

pub emptied_push : (xs ys zs : List Operand) (i : ℕ) (x y : Operand) → slice_get xs i ≡ Some x
    → zs ≡ ys ++ y ∷ [] → own_datum y ≡ emptied (own_datum x)
    → all_data ys ≡ map emptied (all_data (take i xs))
    → all_data zs ≡ map emptied (all_data (take (i + 1) xs))
emptied_push xs ys zs i x y at pushed is made =
    ap all_data pushed ∙ map-append own_datum ys (y ∷ [])
    ∙ ap (λ ds. ds ++ own_datum y ∷ []) made
    ∙ ap (λ d. map emptied (all_data (take i xs)) ++ d ∷ []) is
    ∙ sym (map-append emptied (all_data (take i xs)) (own_datum x ∷ []))
    ∙ ap (map emptied) (sym (map-take-get own_datum xs i x at))

pub emptied_all : (xs ys : List Operand) (i : ℕ) → length xs ≤ i
    → all_data ys ≡ map emptied (all_data (take i xs)) → all_data ys ≡ map emptied (all_data xs)
emptied_all xs ys i l h = h ∙ ap (λ zs. map emptied (all_data zs)) (take_all i xs l)

pub emptied_some : (xs ys : List Operand) → all_data ys ≡ map emptied (all_data xs)
    → 0 < length xs → 0 < length ys
emptied_some xs ys e h =
    omega (
      arith,
      sym (length-map ys own_datum) ∙ ap length e
          ∙ length-map (all_data xs) emptied ∙ length-map xs own_datum,
      h,
    )

pub data_some : (xs : List Operand) → 0 < length xs → 0 < length (all_data xs)
data_some xs h = omega (arith, length-map xs own_datum, h)

pub kept_type : (x : Operand) (d : code.Datum) (k : Layout) → datum_of d ≡ own_datum x
    → k ≡ kept d → array_type k ≡ datum_type (own_datum x)
kept_type x d k is at = ap array_type at ∙ type-kept d ∙ ap datum_type is

typs-push : (xs : List Operand) (i : ℕ) (x : Operand) → slice_get xs i ≡ Some x
    → typs (all_data (take (i + 1) xs))
    ≡ typs (all_data (take i xs)) ++ datum_type (own_datum x) ∷ []
typs-push xs i x at =
    ap typs (map-take-get own_datum xs i x at)
    ∙ map-append datum_type (all_data (take i xs)) (own_datum x ∷ [])

pub shallow_push : (xs : List Operand) (i : ℕ) (x : Operand) → slice_get xs i ≡ Some x
    → heights (typs (all_data (take i xs))) ≤ 60 → height (datum_type (own_datum x)) ≤ 60
    → heights (typs (all_data (take (i + 1) xs))) ≤ 60
shallow_push xs i x at h e =
    let p = heights_push (typs (all_data (take i xs))) (datum_type (own_datum x)) 60 h e in
    let q = ap heights (typs-push xs i x at) in
    omega (arith, p, q)

pub shallow_all : (xs : List Operand) (i : ℕ) → length xs ≤ i
    → heights (typs (all_data (take i xs))) ≤ 60 → heights (typs (all_data xs)) ≤ 60
shallow_all xs i l h =
    let q = ap (λ zs. heights (typs (all_data zs))) (take_all i xs l) in
    omega (arith, h, q)
