-- The items of a list, each carried once into the type that all unify to.
use Rattle.std.proofs.Common.{◌≡◌, List, [], ◌∷◌, ◌++◌, map, refl, ap, ap₂, sym, ◌∙◌, append-nil}
use Rattle.std.proofs.Common.{append_assoc}
use Rattle.std.proofs.lemmas.List.{map-append}
use Rattle.std.specs.List.{AllByRecursion}
use Rattle.serde_json.specs.Data.{Items, no_items, item}
use Rattle.awk_types.specs.DataType.{DataType, unknown}
use Rattle.awk_types.specs.Has.{Has}
use Rattle.awk_types.specs.IsType.{IsType}
use Rattle.awk_types.specs.Simple.{IsSimple}
use Rattle.awk_types.specs.Value.{Value}
use Rattle.awk_unify.specs.After.{after}
use Rattle.awk_unify.specs.Carry.{Carry, carried, keep}
use Rattle.awk_unify.specs.Unify.{unification}
use Rattle.awk_unify.proofs.AfterLaws.{InPlace, after_carries}
use Rattle.awk_unify.proofs.CarriedLaws.{IsCarried, Takes, after_in_place, stays, then_carries}
use Rattle.awk_unify.proofs.SimpleLaws.{unify_simple}
use Rattle.awk_unify.proofs.TypeLaws.{unify_type}
use Rattle.awk_unify.proofs.TypingLaws.{unify_carries}
use Rattle.awk_plain.specs.Plain.{plain_type, plain_value, items_type, items_values}
use Rattle.awk_build.specs.Suffix.{Carriers, carriers, last_type, steps_from}
use Rattle.awk_plain.proofs.ItemLaws.{AreTyped, carried_each, types_of, values_of}
use Rattle.awk_plain.proofs.TypedLaws.{all_carried, all_push}

-- types as arrays have them, whatever the limits
abbrev pub IsLawful : DataType → Type 0
IsLawful b = IsType b × IsSimple b

abbrev pub AreLawful : List DataType → Type 0
AreLawful bs = AllByRecursion IsLawful bs

-- each carry takes the values of its type to the last one
abbrev pub AreTaken : List DataType → List Carry → DataType → Type 0
AreTaken [] [] t = Unit {0}
AreTaken (b ∷ bs) (f ∷ fs) t = Takes b f t × AreTaken bs fs t
AreTaken bs fs t = ⊥

pub record AreCarriers (t : DataType) (bs : List DataType) (s : Carriers) : Type 0 where
  pub in_place : InPlace s.so_far
  pub so_far : Takes t s.so_far (last_type t bs)
  pub each : AreTaken bs s.each (last_type t bs)
  pub lawful : IsLawful (last_type t bs)

pub are_carriers : (t : DataType) (bs : List DataType) → IsLawful t → AreLawful bs
    → AreCarriers t bs (carriers (steps_from t bs))
are_carriers t [] y a = record { in_place = tt; so_far = stays t; each = tt; lawful = y }
are_carriers t (b ∷ bs) y a =
    let r = unification t b in
    let c : IsCarried t b r = unify_carries t b y.0 a.0.0 y.1 a.0.1 in
    let rest : AreCarriers r.typ bs (carriers (steps_from r.typ bs)) =
    are_carriers r.typ bs (unify_type t b y.0 a.0.0, unify_simple t b y.1 a.0.1) a.1 in
    let g = (carriers (steps_from r.typ bs)).so_far in
    let last = last_type r.typ bs in
    record {
      in_place = after_in_place g r.left rest.in_place c.in_place;
      so_far = then_carries t r.typ last r.left g rest.in_place c.to_left rest.so_far;
      each = (
        then_carries b r.typ last r.right g rest.in_place c.to_right rest.so_far,
        rest.each,
      );
      lawful = rest.lawful;
    }

-- ---- the items of a list

-- the carries of the items of a list, from a type on
abbrev pub carriers_of : DataType → Items → Carriers
carriers_of t ds = carriers (steps_from t (types_of ds))

pub items_lawful : (ds : Items) → AreTyped ds → AreLawful (types_of ds)
items_lawful no_items a = tt
items_lawful (item d ds) a = ((a.0.0, a.0.1), items_lawful ds a.1)

-- what the types of the items unify to
pub last_type-items : (t : DataType) (ds : Items) → last_type t (types_of ds) ≡ items_type t ds
last_type-items t no_items = refl
last_type-items t (item d ds) = last_type-items (unification t (plain_type d)).typ ds

-- values of a type by two carries one after the other, and by one
twice : (t m u : DataType) (f g : Carry) (vs : List Value) → InPlace g → Takes t f m → Takes m g u
    → AllByRecursion (Has t) vs
    → map (carried g) (map (carried f) vs) ≡ map (carried (after g f)) vs
twice t m u f g [] p c e a = refl
twice t m u f g (v ∷ vs) p c e a =
    let one = c v a.0 in
    let both = after_carries g f v p one.0 (e (carried f v) one.1).0 in
    ap₂ (λ w ws. w ∷ ws) (sym both.1) (twice t m u f g vs p c e a.1)

pub kept : (vs : List Value) → vs ≡ map (carried keep) vs
kept [] = refl
kept (v ∷ vs) = ap (λ ws. v ∷ ws) (kept vs)

-- the values so far and those of the items, each by its carry
pub items_carried : (t : DataType) (vs : List Value) (ds : Items) → IsType t → IsSimple t
    → AllByRecursion (Has t) vs → AreTyped ds
    → items_values t vs ds
    ≡ map (carried (carriers_of t ds).so_far) vs
    ++ carried_each (carriers_of t ds).each (values_of ds)
items_carried t vs no_items y s h a =
    kept vs ∙ sym (append-nil (map (carried keep) vs))
items_carried t vs (item d ds) y s h a =
    let b = plain_type d in
    let v = plain_value d in
    let r = unification t b in
    let c : IsCarried t b r = unify_carries t b y a.0.0 s a.0.1 in
    let ty = unify_type t b y a.0.0 in
    let sy = unify_simple t b s a.0.1 in
    let rest : AreCarriers r.typ (types_of ds) (carriers_of r.typ ds) =
    are_carriers r.typ (types_of ds) (ty, sy) (items_lawful ds a.1) in
    let g = (carriers_of r.typ ds).so_far in
    let last = last_type r.typ (types_of ds) in
    let right = c.to_right v a.0.2 in
    let both =
    after_carries g r.right v rest.in_place right.0 (rest.so_far (carried r.right v) right.1).0 in
    let later = carried_each (carriers_of r.typ ds).each (values_of ds) in
    items_carried r.typ (map (carried r.left) vs ++ carried r.right v ∷ []) ds ty sy
    (all_push r.typ (map (carried r.left) vs) (carried r.right v)
    (all_carried t r.typ r.left vs c.to_left h) right.1) a.1
    ∙ ap (λ ws. ws ++ later)
    (map-append (carried g) (map (carried r.left) vs) (carried r.right v ∷ [])
    ∙ ap₂ (λ ws w. ws ++ w ∷ [])
    (twice t r.typ last r.left g vs rest.in_place c.to_left rest.so_far h) (sym both.1))
    ∙ append_assoc (map (carried (after g r.left)) vs) (carried (after g r.right) v ∷ []) later

-- the items of a list
pub list_carried : (ds : Items) → AreTyped ds
    → items_values unknown [] ds ≡ carried_each (carriers_of unknown ds).each (values_of ds)
list_carried ds a = items_carried unknown [] ds tt tt tt a
