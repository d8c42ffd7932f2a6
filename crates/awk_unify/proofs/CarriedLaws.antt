-- A value of one type, carried, is one of another: one carry after another, options.
use Rattle.std.proofs.Common.{◌≡◌, ◌≤◌, ◌∷◌, [], ℕ, List, subst, suc, sym, zero, ap, map, refl}
use Rattle.std.specs.Prelude.{None, Option, Some}
use Rattle.awk_unify.proofs.AfterLaws.{AllInPlace, Fits, InPlace, after_carries, carry_null}
use Rattle.awk_unify.proofs.AfterLaws.{fits_null}
use Rattle.awk_unify.specs.After.{after, afters, carry_by, each_after}
use Rattle.awk_unify.specs.Carry.{Carries, Carry, carried, carry, in_items, keep, no_carries}
use Rattle.awk_unify.specs.Carry.{to_alternatives, to_parts}
use Rattle.awk_unify.specs.Join.{Unifying}
use Rattle.awk_unify.specs.Unification.{Unification}
use Rattle.awk_types.proofs.SimpleLaws.{has_option}
use Rattle.awk_types.specs.DataType.{DataType, depth, opt}
use Rattle.awk_types.specs.Has.{Has}
use Rattle.awk_types.specs.IsType.{IsType}
use Rattle.awk_types.specs.Simple.{IsSimple, present}
use Rattle.awk_types.specs.Value.{Value, null}

abbrev pub Takes : DataType → Carry → DataType → Type 0
Takes a f t = (v : Value) → Has a v → Fits f v × Has t (carried f v)

pub record IsCarried (a b : DataType) (r : Unification) : Type 0 where
  pub to_left : Takes a r.left r.typ
  pub to_right : Takes b r.right r.typ
  pub in_place : InPlace r.left

abbrev pub IfJoins : DataType → DataType → Option Unification → Type 0
IfJoins a b None = Unit {0}
IfJoins a b (Some j) = IsCarried a b j

abbrev pub Good : ℕ → Unifying → Type 0
Good n u =
    (a b : DataType) → depth b ≤ n → IsType a → IsType b → IsSimple a → IsSimple b → IsCarried a b
    (u a b)

pub stays : (t : DataType) → Takes t keep t
stays t v h = (tt, h)

-- ---- one after another

abbrev KeepPlaces : List (Carry → Carry) → Type 0
KeepPlaces hs = (k : ℕ) (f : Carry) → InPlace f → InPlace (carry_by hs k f)

each_in_place : (hs : List (Carry → Carry)) (ps : List ℕ) (fs : Carries) → KeepPlaces hs
    → AllInPlace fs → AllInPlace (each_after hs ps fs)
each_in_place hs [] fs p q = tt
each_in_place hs (k ∷ ps) no_carries p q = tt
each_in_place hs (k ∷ ps) (carry f fs) p q = (p k f q.0, each_in_place hs ps fs p q.1)

mutual
  pub after_in_place : (g f : Carry) → InPlace g → InPlace f → InPlace (after g f)
  after_in_place keep f p q = q
  after_in_place (in_items g) keep p q = p
  after_in_place (in_items g) (in_items f) p q = after_in_place g f p q
  after_in_place (in_items g) (to_parts ps fs) p q = q
  after_in_place (in_items g) (to_alternatives ts fs) p q = q
  after_in_place (to_parts qs gs) keep p q = p
  after_in_place (to_parts qs gs) (in_items f) p q = q
  after_in_place (to_parts qs gs) (to_parts ps fs) p q =
      (q.0, each_in_place (afters gs) ps fs (by_in_place gs p.1) q.1)
  after_in_place (to_parts qs gs) (to_alternatives ts fs) p q = q
  after_in_place (to_alternatives us gs) keep p q = p
  after_in_place (to_alternatives us gs) (in_items f) p q = (by_in_place gs p 0 (in_items f) q, tt)
  after_in_place (to_alternatives us gs) (to_parts ps fs) p q =
      (by_in_place gs p 0 (to_parts ps fs) q, tt)
  after_in_place (to_alternatives us gs) (to_alternatives ts fs) p q =
      each_in_place (afters gs) ts fs (by_in_place gs p) q

  by_in_place : (gs : Carries) → AllInPlace gs → KeepPlaces (afters gs)
  by_in_place no_carries p k f q = q
  by_in_place (carry g gs) p zero f q = after_in_place g f p.0 q
  by_in_place (carry g gs) p (suc k) f q = by_in_place gs p.1 k f q

pub then_carries : (a m t : DataType) (f g : Carry) → InPlace g → Takes a f m → Takes m g t
    → Takes a (after g f) t
then_carries a m t f g p c d v h =
    let one : Fits f v × Has m (carried f v) = c v h in
    let two : Fits g (carried f v) × Has t (carried g (carried f v)) = d (carried f v) one.1 in
    let both : Fits (after g f) v × (carried (after g f) v ≡ carried g (carried f v)) =
    after_carries g f v p one.0 two.0 in
    (both.0, subst (Has t) (sym both.1) two.1)

-- ---- options

pub opt_carry : (a t : DataType) (f : Carry) → Takes (present a) f t → Takes a f (opt t)
opt_carry a t f c null h = (fits_null f, subst (Has (opt t)) (sym (carry_null f)) tt)
opt_carry (opt a) t f c v h = ((c v h).0, has_option t (carried f v) (c v h).1)
opt_carry a t f c v h = ((c v h).0, has_option t (carried f v) (c v h).1)

-- values that are kept stay
pub map-keep : (vs : List Value) → map (carried keep) vs ≡ vs
map-keep [] = refl
map-keep (v ∷ vs) = ap (λ ws. v ∷ ws) (map-keep vs)
