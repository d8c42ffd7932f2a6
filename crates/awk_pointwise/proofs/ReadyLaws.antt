-- What the judged types of an operation tell of the numbers of its sides.
use Rattle.std.proofs.Common.{◌≡◌, List, refl, ap₂, sym, subst, ◌∙◌}
use Rattle.std.proofs.Common.{arith, inl, inr}
use Rattle.std.specs.Prelude.{ℤ, Bool, true, false, Option, Some, None}
use Rattle.std.specs.Prelude.{Result, Ok, if◌then◌else◌}
use Rattle.std.specs.List.{AllByRecursion}
use Rattle.std.proofs.lemmas.Int.{ints}
use Rattle.std.proofs.lemmas.Bool.{or_parts}
use Rattle.awk_base.proofs.Every.{all-impl}
use Rattle.awk_types.specs.declared.fault.Fault.{Fault}
use Rattle.awk_types.specs.declared.primitive.Primitive.{Primitive}
use Rattle.awk_types.specs.declared.primitive.Primitive.TheVariants as prim
use Rattle.awk_leaves.specs.LeafTypes.{overflows, number_type, comparison_type, truth_type}
use Rattle.awk_leaves.specs.LeafTypes.{are_alike, type_beside}
use Rattle.awk_leaves.specs.Table.{judged, one_overflows, binary_judged, joined_type}
use Rattle.awk_leaves.specs.Table.{literal_overflows}
use Rattle.awk_leaves.specs.declared.leaf_type.LeafType.{LeafType}
use Rattle.awk_leaves.specs.declared.leaf_type.LeafType.TheVariants.{Of, Unknown, Literal}
use Rattle.awk_leaves.specs.declared.operation.Binary.{Binary}
use Rattle.awk_leaves.specs.declared.operation.Binary.TheVariants.{Calculate, Test, Join}
use Rattle.awk_pointwise.specs.Numbers.{IsTyped, AreTyped, AreReady}
use Rattle.awk_pointwise.specs.Numbers.{IsInt64}
use Rattle.awk_pointwise.specs.Sides.{IsLeafNumber}
use Rattle.awk_pointwise.proofs.RangeLaws.{first_holds, second_holds, result_whole}

-- ---- what was judged

pub record IsJudged (o : Option Primitive) (past : Bool) (p : Primitive) : Type 0 where
  pub typed : o ≡ Some p
  pub fits : past ≡ false

pub judged_ok : (o : Option Primitive) (past : Bool) (p : Primitive) → judged o past ≡ Ok p
    → IsJudged o past p
judged_ok None past p e = absurd (cc)
judged_ok (Some q) true p e = absurd (cc)
judged_ok (Some q) false p e = record { typed = cc; fits = refl }

compared_truths : (alike : Bool) (p : Primitive)
    → (if alike then Some prim.Bool else None) ≡ Some p → p ≡ prim.Bool
compared_truths true p e = cc
compared_truths false p e = absurd (cc)

-- ---- truth values

one_int64 : (z : ℤ) → IsLeafNumber prim.Bool z → IsInt64 z
one_int64 z (inl e) = subst IsInt64 (sym e) (grind (arith, ints))
one_int64 z (inr e) = subst IsInt64 (sym e) (grind (arith, ints))

-- the numbers of truth values fit an i64
pub truths_int64 : (t : LeafType) (p : Primitive) (zs : List ℤ) → truth_type t ≡ Some p
    → AreTyped t zs → AllByRecursion IsInt64 zs
truths_int64 (Of prim.Bool) p zs e a = all-impl (IsTyped (Of prim.Bool)) IsInt64 zs one_int64 a
truths_int64 (Of prim.I8) p zs e a = absurd (cc)
truths_int64 (Of prim.I16) p zs e a = absurd (cc)
truths_int64 (Of prim.I32) p zs e a = absurd (cc)
truths_int64 (Of prim.I64) p zs e a = absurd (cc)
truths_int64 (Of prim.U8) p zs e a = absurd (cc)
truths_int64 (Of prim.U16) p zs e a = absurd (cc)
truths_int64 (Of prim.U32) p zs e a = absurd (cc)
truths_int64 (Of prim.U64) p zs e a = absurd (cc)
truths_int64 Unknown p zs e a =
    all-impl (IsTyped Unknown) IsInt64 zs (λ z h. absurd h) a
truths_int64 (Literal y) p zs e a = absurd (cc)

pub truths_bool : (t : LeafType) (p : Primitive) → truth_type t ≡ Some p → p ≡ prim.Bool
truths_bool (Of prim.Bool) p e = cc
truths_bool (Of prim.I8) p e = absurd (cc)
truths_bool (Of prim.I16) p e = absurd (cc)
truths_bool (Of prim.I32) p e = absurd (cc)
truths_bool (Of prim.I64) p e = absurd (cc)
truths_bool (Of prim.U8) p e = absurd (cc)
truths_bool (Of prim.U16) p e = absurd (cc)
truths_bool (Of prim.U32) p e = absurd (cc)
truths_bool (Of prim.U64) p e = absurd (cc)
truths_bool Unknown p e = cc
truths_bool (Literal y) p e = absurd (cc)

joined_ready : (t u : LeafType) (p : Primitive) (xs ys : List ℤ) (o : Option Primitive)
    → truth_type t ≡ o → joined_type t u ≡ Some p → AreTyped t xs → AreTyped u ys
    → (p ≡ prim.Bool) × AllByRecursion IsInt64 xs × AllByRecursion IsInt64 ys
joined_ready t u p xs ys None i e a b = absurd (cc)
joined_ready t u p xs ys (Some q) i e a b =
    let second : truth_type u ≡ Some p = cc in
    (truths_bool u p second, truths_int64 t q xs i a, truths_int64 u p ys second b)

-- ---- two sides

pub judged_same : (op : Binary) (s t u v : LeafType) (r : Result Primitive Fault) (p : Primitive)
    → s ≡ u → t ≡ v → r ≡ binary_judged op s t → r ≡ Ok p → binary_judged op u v ≡ Ok p
judged_same op s t u v r p e f g h = ap₂ (binary_judged op) (sym e) (sym f) ∙ sym g ∙ h

pub are_ready : (op : Binary) (t u : LeafType) (p : Primitive) (xs ys : List ℤ)
    → binary_judged op t u ≡ Ok p → AreTyped t xs → AreTyped u ys → AreReady op p xs ys
are_ready (Calculate op) t u p xs ys e a b =
    let j = judged_ok (number_type t u) (one_overflows t u) p e in
    let fit = or_parts (overflows t u) (overflows u t) j.fits in (
      result_whole t u p j.typed,
      first_holds t u p xs j.typed fit.0 a,
      second_holds t u p ys j.typed fit.1 b,
    )
are_ready (Test how) t u p xs ys e a b =
    let j = judged_ok (comparison_type t u) (literal_overflows (Test how) t u) p e in
    compared_truths (are_alike (type_beside t u) (type_beside u t)) p j.typed
are_ready (Join op) t u p xs ys e a b =
    let j = judged_ok (joined_type t u) false p e in
    joined_ready t u p xs ys (truth_type t) refl j.typed a b
