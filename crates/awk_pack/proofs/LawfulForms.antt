-- The packed form of a type within the limits is lawful.
use Rattle.std.proofs.Common.{◌≡◌, ◌≤◌, ℕ, suc, ◌+◌, Bool, true, false, cond, length, Some, None}
use Rattle.std.proofs.Common.{refl, ap, sym, subst, ◌∙◌, arith}
use Rattle.std.specs.Prelude.{nat_lt, ◌||◌}
use Rattle.std.proofs.lemmas.Bool.Decides.{nat_tests}
use Rattle.awk_types.specs.DataType.{DataType, unknown, leaf, var, reg, rec, tup, opt, uni}
use Rattle.awk_types.specs.DataType.{DataTypes, no_types, type, type_list, greatest, depth, nodes}
use Rattle.awk_types.specs.IsType.{IsType, AreTypes}
use Rattle.awk_types.specs.Limit.{depth_limit, size_limit, limit, width, widths}
use Rattle.awk_form.specs.FormTree.{FormTree}
use Rattle.awk_form.specs.Lawful.{IsLawful, AreLawful, count}
use Rattle.awk_pack.specs.PackedForm.{packed_form, packed_forms}

-- ---- as many contents as types

pub count-packed_forms : (k : ℕ) (ts : DataTypes)
    → count (packed_forms k ts) ≡ length (type_list ts)
count-packed_forms k no_types = refl
count-packed_forms k (type t ts) = ap suc (count-packed_forms (k + nodes t) ts)

pub length-widths : (ts : DataTypes) → length (widths ts) ≡ length (type_list ts)
length-widths no_types = refl
length-widths (type t ts) = ap suc (length-widths ts)

-- ---- the form

mutual
  pub lawful-packed_form : (k : ℕ) (t : DataType) → IsType t → width t ≤ 127
      → IsLawful (packed_form k t)
  lawful-packed_form k unknown h w = tt
  lawful-packed_form k (leaf p) h w = refl
  lawful-packed_form k (var t) h w = (refl, lawful-packed_form (suc k) t h w)
  lawful-packed_form k (reg n t) h w = lawful-packed_form (suc k) t h w
  lawful-packed_form k (rec ns ts) h w =
      ((h.0, h.1 ∙ sym (count-packed_forms (suc k) ts)), lawful-packed_forms (suc k) ts h.2 w)
  lawful-packed_form k (tup ts) h w = (tt, lawful-packed_forms (suc k) ts h w)
  lawful-packed_form k (opt t) h w =
      (refl, λ e. absurd (cc), lawful-packed_form (suc k) t h w)
  lawful-packed_form k (uni ts) h w =
      let counted = count-packed_forms (suc k) ts in (
        refl,
        omega (arith, counted, h.0),
        omega (arith, counted, length-widths ts),
        lawful-packed_forms (suc k) ts h.1 (omega arith),
      )

  lawful-packed_forms : (k : ℕ) (ts : DataTypes) → AreTypes ts → greatest (widths ts) ≤ 127
      → AreLawful (packed_forms k ts)
  lawful-packed_forms k no_types h w = tt
  lawful-packed_forms k (type t ts) h w = (
    lawful-packed_form k t h.0 (omega arith),
    lawful-packed_forms (k + nodes t) ts h.1
        (omega arith),
  )

-- ---- of a type within the limits

pub few-alternatives : (t : DataType) → limit t ≡ None → width t ≤ 127
few-alternatives t e =
    by (nat_lt 60 (depth t)) (nat_lt 65536 (nodes t)) (nat_lt 127 (width t)) refl e
  where
    by : (d n w : Bool) → nat_lt 127 (width t) ≡ w
        → cond d (Some depth_limit) (cond (n || w) (Some size_limit) None) ≡ None → width t ≤ 127
    by true n w f g = absurd (cc)
    by false true w f g = absurd (cc)
    by false false true f g = absurd (cc)
    by false false false f g = grind (arith, nat_tests)

pub lawful-form : (t : DataType) (f : FormTree) → f ≡ packed_form 0 t → IsType t → limit t ≡ None
    → IsLawful f
lawful-form t f e h l =
    subst IsLawful (sym e) (lawful-packed_form 0 t h (few-alternatives t l))
