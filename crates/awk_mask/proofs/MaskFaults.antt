-- What is told of an array and a mask over it, in the order of the definition.
use Rattle.std.specs.Prelude.{◌≡◌, refl, Bool, true, false, map, Option, Some, None, Result, Ok}
use Rattle.std.specs.Prelude.{Err}
use Rattle.std.specs.Prelude.{option_map, List}
use Rattle.std.proofs.Common.{ap, ap₂, sym, ◌∙◌}
use Rattle.awk_types.specs.DataType.{DataType}
use Rattle.awk_types.specs.Datum.{Datum, arr}
use Rattle.awk_types.specs.Faults.{fault_of, limit_fault, wrong_unless}
use Rattle.awk_types.specs.Gives.{Told, refused_or, ◌or◌}
use Rattle.awk_types.specs.Limit.{Limit, limit, limit_told, within, depth_limit, size_limit}
use Rattle.awk_types.specs.Simple.{simple, simple_value}
use Rattle.awk_types.specs.Value.{Value}
use Rattle.awk_types.specs.declared.fault.Fault.{Fault}
use Rattle.awk_types.specs.declared.fault.Fault.TheVariants.{WrongType, NoMemory}
use Rattle.awk_types.specs.declared.limit.TypeFault.{TypeFault}
use Rattle.awk_types.specs.declared.limit.TypeFault.TheVariants as refused
use Rattle.awk_types.proofs.RefusalLaws.{refused_or-Ok, refused_or-Err, or-both, no_limit}
use Rattle.awk_layout.specs.Layout.{Layout}
use Rattle.awk_layout.specs.Typing.{array_type, array_items, array_datum}
use Rattle.awk_mask_pairs.specs.MaskTypes.{unsized, levels_refused}
use Rattle.awk_mask_pairs.specs.MaskValues.{masks, masked_type, masked_value, differs, in_pairs}
use Rattle.awk_mask_pairs.specs.MaskValues.{lists_differ}
use Rattle.awk_mask_pairs.proofs.UnsizedLaws.{type-unsized, value-unsized, differs-unsized}
use Rattle.awk_mask_pairs.proofs.UnsizedLaws.{levels-unsized, pairs-by, differ-by}
use Rattle.awk_mask.specs.MaskTypes.{IsJudged}
use Rattle.awk_mask.specs.MaskedArrays.{masked_array}
use Rattle.awk_mask.specs.PutMask.{types_refused, lengths_refused, put_mask_of}

-- ---- types

pub judged_none : (X : Type 0) (u t : DataType) → masks u t ≡ false
    → IsJudged {X = X} (types_refused u t) (Err WrongType)
judged_none X u t e = rw e (λ later d. refl)

pub judged_memory : (X : Type 0) (r : Option Fault) → IsJudged {X = X} r (Err NoMemory)
judged_memory X r = λ later d. tt

limit_passed : (X : Type 0) (u t : DataType) (l : Limit) → masks u t ≡ true
    → limit (simple (masked_type u t)) ≡ Some l → (later : Option Fault) (d : Datum)
    → refused_or (types_refused u t or later) d ≡ Err (limit_fault l)
limit_passed X u t l e h later d = rw (e, h) refl

pub judged_limited : (X : Type 0) (u t s : DataType) (why : TypeFault) (e : Fault)
    → masks u t ≡ true → s ≡ masked_type u t → Told (limit_told why) (within (simple s))
    → e ≡ fault_of why → IsJudged {X = X} (types_refused u t) (Err e)
judged_limited X u t s refused.Depth e m q h f =
    rw f (λ later d. limit_passed X u t depth_limit m
    (ap (λ s. limit (simple s)) (sym q)
    ∙ refused_or-Err (limit (simple s)) (simple s) depth_limit h) later d)
judged_limited X u t s refused.Size e m q h f =
    rw f (λ later d. limit_passed X u t size_limit m
    (ap (λ s. limit (simple s)) (sym q)
    ∙ refused_or-Err (limit (simple s)) (simple s) size_limit h) later d)
judged_limited X u t s refused.NoMemory e m q h f = rw f (λ later d. tt)

pub judged_within : (X : Type 0) (x : X) (u t s r : DataType) → masks u t ≡ true
    → s ≡ masked_type u t → within (simple s) ≡ Ok r → IsJudged {X = X} (types_refused u t) (Ok x)
judged_within X x u t s r m q h =
    ap₂ (λ b l. wrong_unless b or option_map limit_fault l) m
    (ap (λ s. limit (simple s)) (sym q) ∙ (refused_or-Ok (limit (simple s)) (simple s) r h).0)

pub ruleset judging = (judged_none, judged_memory, judged_limited, judged_within)

-- ---- an array and a mask of types that tell nothing

module _ (keep : Bool) (m x : Layout)
    (a : types_refused (array_type m) (array_type x) ≡ None) where
  pub are_masks : masks (array_type m) (array_type x) ≡ true
  are_masks =
      allowed (masks (array_type m) (array_type x))
      (or-both (wrong_unless (masks (array_type m) (array_type x)))
      (option_map limit_fault (limit (simple (masked_type (array_type m) (array_type x))))) a).0
    where
      allowed : (b : Bool) → wrong_unless b ≡ None → b ≡ true
      allowed true e = refl
      allowed false e = absurd cc

  type_within : limit (simple (masked_type (array_type m) (array_type x))) ≡ None
  type_within =
      no_limit (limit (simple (masked_type (array_type m) (array_type x))))
      (or-both (wrong_unless (masks (array_type m) (array_type x)))
      (option_map limit_fault (limit (simple (masked_type (array_type m) (array_type x))))) a).1

  abbrev made : List Value
  made = in_pairs (masked_value (array_type m) keep) (array_items m) (array_items x)

  abbrev result : Datum
  result = arr (simple (masked_type (array_type m) (array_type x)))
      (map (simple_value (masked_type (array_type m) (array_type x))) made)

  abbrev later : Option Fault
  later = lengths_refused (lists_differ (differs (array_type m)) (array_items m) (array_items x))
      or levels_refused (array_type m) made

  -- what is told after types
  pub told_array : put_mask_of (array_datum x) (array_datum m) keep ≡ masked_array m x keep
  told_array = ap (λ r. refused_or (r or later) result) a

  pub made_within : (r : Layout) → masked_array m x keep ≡ Ok (array_datum r)
      → limit (array_type r) ≡ None
  made_within r e =
      let same : result ≡ array_datum r = (refused_or-Ok later result (array_datum r) e).1 in
      let typ : simple (masked_type (array_type m) (array_type x)) ≡ array_type r = cc in
      ap limit (sym typ) ∙ type_within

-- ---- a mask whose lists are taken as of any length

module _ (keep : Bool) (m x w : Layout) (typ : array_type w ≡ unsized (array_type m))
    (items : array_items w ≡ array_items m) where
  abbrev told-by : Bool → Option Fault → DataType → List Value → Result Datum Fault
  told-by b o t vs = refused_or (lengths_refused b or o) (arr (simple t) (map (simple_value t) vs))

  same-made : in_pairs (masked_value (array_type w) keep) (array_items w) (array_items x)
      ≡ in_pairs (masked_value (array_type m) keep) (array_items m) (array_items x)
  same-made =
      ap₂ (λ u ms. in_pairs (masked_value u keep) ms (array_items x)) typ items
      ∙ pairs-by (masked_value (unsized (array_type m)) keep) (masked_value (array_type m) keep)
      (value-unsized (array_type m) keep) (array_items m) (array_items x)

  same-differ : lists_differ (differs (array_type w)) (array_items w) (array_items x)
      ≡ lists_differ (differs (array_type m)) (array_items m) (array_items x)
  same-differ =
      ap₂ (λ u ms. lists_differ (differs u) ms (array_items x)) typ items
      ∙ differ-by (differs (unsized (array_type m))) (differs (array_type m))
      (differs-unsized (array_type m)) (array_items m) (array_items x)

  same-type : masked_type (array_type w) (array_type x)
      ≡ masked_type (array_type m) (array_type x)
  same-type =
      ap (λ u. masked_type u (array_type x)) typ ∙ type-unsized (array_type m) (array_type x)

  same-levels : levels_refused (array_type w)
      (in_pairs (masked_value (array_type w) keep) (array_items w) (array_items x))
      ≡ levels_refused (array_type m)
      (in_pairs (masked_value (array_type m) keep) (array_items m) (array_items x))
  same-levels =
      ap₂ levels_refused typ same-made
      ∙ levels-unsized (array_type m)
      (in_pairs (masked_value (array_type m) keep) (array_items m) (array_items x))

  pub masked-unsized : masked_array w x keep ≡ masked_array m x keep
  masked-unsized =
      ap₂ (λ b o. told-by b o (masked_type (array_type w) (array_type x))
      (in_pairs (masked_value (array_type w) keep) (array_items w) (array_items x)))
      same-differ same-levels
      ∙ ap₂ (told-by (lists_differ (differs (array_type m)) (array_items m) (array_items x))
      (levels_refused (array_type m)
      (in_pairs (masked_value (array_type m) keep) (array_items m) (array_items x))))
      same-type same-made
