-- Two lifts are equal exactly where their parts are, and lifts that one more leaves.
use Rattle.std.proofs.Common.{◌≡◌, ◌↔◌, ℕ, List, [], ◌∷◌, Option, Some, None, map, option_map}
use Rattle.std.proofs.Common.{refl, sym, ap, ap₂, ◌∙◌}
use Rattle.awk_base.proofs.Truths.{same_as}
use Rattle.awk_unify.specs.After.{after}
use Rattle.awk_unify.specs.Carry.{Carry, carry_list, carries_from, to_parts, to_alternatives}
use Rattle.awk_unify.specs.View.{IsIdle, lift_of, lifts_of}
use Rattle.awk_unify.specs.declared.lift.Lift.{Lift, Parts, Alternatives}
use Rattle.awk_unify.specs.declared.lift.Lifts.{Lifts}
use Rattle.awk_unify.proofs.Views.{lift_of-Parts, lift_of-Alternatives}

pub carry_list-from : (fs : List Carry) → carry_list (carries_from fs) ≡ fs
carry_list-from [] = refl
carry_list-from (f ∷ fs) = ap (λ gs. f ∷ gs) (carry_list-from fs)

-- what stands beside the carries, and these
beside : Carry → List ℕ
beside (to_parts ps fs) = ps
beside (to_alternatives ts fs) = ts
beside f = []

within : Carry → List Carry
within (to_parts ps fs) = carry_list fs
within (to_alternatives ts fs) = carry_list fs
within f = []

to_parts-inj : (ps qs : List ℕ) (fs gs : List Carry)
    → to_parts ps (carries_from fs) ≡ to_parts qs (carries_from gs) → (ps ≡ qs) × (fs ≡ gs)
unfolding beside within
to_parts-inj ps qs fs gs e =
    (ap beside e, sym (carry_list-from fs) ∙ ap within e ∙ carry_list-from gs)

to_alternatives-inj : (ps qs : List ℕ) (fs gs : List Carry)
    → to_alternatives ps (carries_from fs) ≡ to_alternatives qs (carries_from gs)
    → (ps ≡ qs) × (fs ≡ gs)
unfolding beside within
to_alternatives-inj ps qs fs gs e =
    (ap beside e, sym (carry_list-from fs) ∙ ap within e ∙ carry_list-from gs)

pub parts_same : (f g : Lift) (ps qs : List ℕ) (fs gs : Lifts) {P : Type 0} → f ≡ Parts ps fs
    → g ≡ Parts qs gs → (P ↔ ((ps ≡ qs) × (lifts_of fs ≡ lifts_of gs)))
    → P ↔ (lift_of f ≡ lift_of g)
parts_same f g ps qs fs gs ef eg h =
    same_as (ap lift_of ef ∙ lift_of-Parts ps fs) (ap lift_of eg ∙ lift_of-Parts qs gs) (
      λ p. ap₂ (λ ks hs. to_parts ks (carries_from hs)) (h.0 p).0 (h.0 p).1,
      λ e. h.1 (to_parts-inj ps qs (lifts_of fs) (lifts_of gs) e),
    )

pub alternatives_same : (f g : Lift) (ps qs : List ℕ) (fs gs : Lifts) {P : Type 0}
    → f ≡ Alternatives ps fs → g ≡ Alternatives qs gs
    → (P ↔ ((ps ≡ qs) × (lifts_of fs ≡ lifts_of gs))) → P ↔ (lift_of f ≡ lift_of g)
alternatives_same f g ps qs fs gs ef eg h =
    same_as (ap lift_of ef ∙ lift_of-Alternatives ps fs)
    (ap lift_of eg ∙ lift_of-Alternatives qs gs) (
      λ p. ap₂ (λ ks hs. to_alternatives ks (carries_from hs)) (h.0 p).0 (h.0 p).1,
      λ e. h.1 (to_alternatives-inj ps qs (lifts_of fs) (lifts_of gs) e),
    )

-- ---- what is left as it is

some-inj : (a b : Carry) → Some a ≡ Some b → a ≡ b
some-inj a b e = cc

pub idle_same : (idle : Option Lift) (known g : Lift) {P : Type 0} → idle ≡ Some known
    → (P ↔ (lift_of known ≡ lift_of g)) → P ↔ (option_map lift_of idle ≡ Some (lift_of g))
idle_same idle known g e h = (
  λ p. ap (option_map lift_of) e ∙ ap Some (h.0 p),
  λ s. h.1 (some-inj _ _ (sym (ap (option_map lift_of) e) ∙ s)),
)

pub idle_leaves : (idle : Option Lift) (g : Carry) (fs : List Carry) → IsIdle idle fs
    → option_map lift_of idle ≡ Some g → map (after g) fs ≡ fs
idle_leaves None g fs h e = cc
idle_leaves (Some known) g fs h e = ap (λ x. map (after x) fs) (sym (some-inj _ _ e)) ∙ h
