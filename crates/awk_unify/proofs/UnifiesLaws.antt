-- What a call of unifying gives, by the laws.
use Rattle.std.proofs.Common.{◌≡◌, ◌∙◌, Ok, None, Option, ap, subst, sym}
use Rattle.awk_types.proofs.RefusalLaws.{refused_or-None}
use Rattle.awk_types.specs.DataType.{DataType}
use Rattle.awk_types.specs.Gives.{Told}
use Rattle.awk_types.specs.Limit.{Limit, limit, within}
use Rattle.awk_types.specs.Simple.{IsSimple, simple}
use Rattle.awk_unify.specs.Carry.{Carry}
use Rattle.awk_unify.specs.Unification.{Unification}
use Rattle.awk_unify.specs.Unifies.{IsCarriedInto, Unifies, within_type}
use Rattle.awk_unify.specs.Unify.{unification}
use Rattle.awk_unify.proofs.CarriedLaws.{Takes}
use Rattle.awk_unify.proofs.DepthLaws.{unify_rules}
use Rattle.awk_unify.proofs.LimitLaws.{within_is, within_none, within_told}
use Rattle.awk_unify.proofs.ScalarLaws.{scalar_stays}
use Rattle.awk_unify.proofs.SimpleLaws.{unify_simple}
use Rattle.awk_unify.proofs.TypeLaws.{unify_type}
use Rattle.awk_unify.proofs.TypingLaws.{unify_carries}

pub carried_into : (a : DataType) (f : Carry) (t : DataType) → Takes a f t → IsCarriedInto a f t
carried_into a f t h = record {
  values = λ v k. (h v k).1;
  scalars = λ v k. scalar_stays f v
      (h v k).0;
}

unifies_so : (a b : DataType) → IsSimple a → IsSimple b → Unifies a b (unification a b)
unifies_so a b x y = record {
  by_rules = unify_rules a b;
  is_type = λ s t. unify_type a b s t;
  is_simple = unify_simple a b x y;
  left_values = λ s t. carried_into a (unification a b).left (unification a b).typ
      (unify_carries a b s t x y).to_left;
  right_values = λ s t. carried_into b (unification a b).right (unification a b).typ
      (unify_carries a b s t x y).to_right;
}

-- the laws
pub unifies : (a b : DataType) (r : Unification) → IsSimple a → IsSimple b → r ≡ unification a b
    → Unifies a b r
unifies a b r x y e = subst (Unifies a b) (sym e) (unifies_so a b x y)

-- what passes no limit is what the two types unify to
pub unified_within : (a b t s : DataType) (f g : Carry) → IsSimple a → IsSimple b →
    record { typ = t; left = f; right = g } ≡ unification a b → within (simple t) ≡ Ok s →
    record { typ = s; left = f; right = g } ≡ unification a b
unified_within a b t s f g x y e h =
    let one : t ≡ (unification a b).typ = ap (λ r. r.typ) e in
    let same : s ≡ t = within_is t s (unification a b).typ (unify_simple a b x y) one h ∙ sym one in
    ap (λ z. record { typ = z; left = f; right = g }) same ∙ e

pub unified_gives : (a b t s : DataType) (f g : Carry) → IsSimple a → IsSimple b →
    record { typ = t; left = f; right = g } ≡ unification a b → within (simple t) ≡ Ok s →
    within_type (unification a b) ≡ Ok (record { typ = s; left = f; right = g })
unified_gives a b t s f g x y e h =
    let none : limit (unification a b).typ ≡ None = within_none t s (unification a b).typ
    (unify_simple a b x y) (ap (λ r. r.typ) e) h in
    refused_or-None (limit (unification a b).typ) (unification a b)
    (record { typ = s; left = f; right = g }) none (sym (unified_within a b t s f g x y e h))

-- and a limit is told that it passes
pub unified_told : (a b t : DataType) (f g : Carry) (o : Option Limit) → IsSimple a → IsSimple b →
    record { typ = t; left = f; right = g } ≡ unification a b → Told o (within (simple t)) → Told o
    (within_type (unification a b))
unified_told a b t f g o x y e h =
    within_told t (unification a b).typ o (unification a b) (unify_simple a b x y)
    (ap (λ r. r.typ) e) h
