-- The rules of unifying, one by one, and the tests that choose among them.
use Rattle.std.proofs.Common.{◌≡◌, Bool, true, false, ◌||◌, refl, ap, ◌∙◌}
use Rattle.std.specs.Prelude.{Some, None, if◌then◌else◌}
use Rattle.awk_types.specs.DataType.{DataType, leaf, opt, rec, reg, tup, uni, unknown, var}
use Rattle.awk_types.specs.Simple.{is_option, present}
use Rattle.awk_types.specs.SameType.{same_type}
use Rattle.awk_unify.specs.Early.{as_it_is, early}
use Rattle.awk_unify.specs.Unification.{Unification}
use Rattle.awk_unify.specs.Unify.{equal_or_unknown, joined_or, joins_or_unions, bare, optional}
use Rattle.awk_unify.specs.Unify.{options_or, unification}
use Rattle.awk_types.specs.Predicates.{is_unknown}
use Rattle.awk_unify.proofs.DepthLaws.{unify_rules}
use Rattle.awk_unify.proofs.SameTypeLaws.{same_type-refl}

by_tests : (x y z : Bool) (a b r : Unification)
    → (if x then a else if y then b else if z then a else r) ≡ joined_or
    (if x then Some a else if y then Some b else if z then Some a else None) r
by_tests true y z a b r = refl
by_tests false true z a b r = refl
by_tests false false true a b r = refl
by_tests false false false a b r = refl

early_or : (a b : DataType) (r : Unification) → equal_or_unknown a b r ≡ joined_or (early a b) r
early_or a b r = by_tests (same_type a b) (is_unknown a) (is_unknown b) (as_it_is a) (as_it_is b) r

pub unified_early : (a b : DataType) (u : Unification) → early a b ≡ Some u → unification a b ≡ u
unified_early a b u e =
    unify_rules a b ∙ early_or a b _ ∙ ap (λ o. joined_or o (options_or unification a b)) e

later : (a b : DataType) → early a b ≡ None → unification a b ≡ options_or unification a b
later a b e =
    unify_rules a b ∙ early_or a b _ ∙ ap (λ o. joined_or o (options_or unification a b)) e

pub unified_optional : (a b : DataType) → early a b ≡ None → (is_option a || is_option b) ≡ true
    → unification a b ≡ optional (bare unification (present a) (present b))
unified_optional a b e f =
    later a b e ∙ ap (λ x. if x then optional (bare unification (present a) (present b)) else
    joins_or_unions unification a b) f

pub unified_later : (a b : DataType) → early a b ≡ None → (is_option a || is_option b) ≡ false
    → unification a b ≡ joins_or_unions unification a b
unified_later a b e f =
    later a b e ∙ ap (λ x. if x then optional (bare unification (present a) (present b)) else
    joins_or_unions unification a b) f

pub bare_early : (a b : DataType) (u : Unification) → early a b ≡ Some u → bare unification a b ≡ u
bare_early a b u e = early_or a b _ ∙ ap (λ o. joined_or o (joins_or_unions unification a b)) e

pub bare_later : (a b : DataType) → early a b ≡ None
    → bare unification a b ≡ joins_or_unions unification a b
bare_later a b e = early_or a b _ ∙ ap (λ o. joined_or o (joins_or_unions unification a b)) e

pub ruleset rule_laws = (unified_early, unified_optional, unified_later, bare_early, bare_later)

-- an unknown type gives way
pub early-unknown : (t : DataType) → early unknown t ≡ Some (as_it_is t)
early-unknown unknown = refl
early-unknown (leaf p) = refl
early-unknown (var t) = refl
early-unknown (reg n t) = refl
early-unknown (rec ns ts) = refl
early-unknown (tup ts) = refl
early-unknown (opt t) = refl
early-unknown (uni ts) = refl

-- a type and itself are one
pub early-same : (t : DataType) → early t t ≡ Some (as_it_is t)
early-same t =
    ap (λ (b : Bool). if b then Some (as_it_is t)
    else if is_unknown t then Some (as_it_is t)
    else if is_unknown t then Some (as_it_is t)
    else None) (same_type-refl t)
