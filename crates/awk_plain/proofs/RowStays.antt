-- Rows whose parts are carried to their own places, and stay.
use Rattle.std.proofs.Common.{◌≡◌, List, [], ◌∷◌, map, length, refl, ap, ap₂, ◌∙◌, suc}
use Rattle.awk_types.proofs.Trees.{values_from-list}
use Rattle.awk_types.specs.DataType.{DataType, DataTypes, Name, no_types, rec, type}
use Rattle.awk_types.specs.Has.{Has, HasRow}
use Rattle.awk_types.specs.Names.{AreDistinct}
use Rattle.awk_types.specs.Simple.{values_by}
use Rattle.awk_types.specs.Value.{Value, row, value_list, values_from}
use Rattle.awk_unify.proofs.AfterLaws.{in_order_same}
use Rattle.awk_unify.specs.Carries.{carry_at}
use Rattle.awk_unify.specs.Carry.{Carry, carried, carried_each, carries_from, in_order, to_parts}
use Rattle.awk_name_places.specs.Places.{place_in}
use Rattle.awk_unify.specs.FieldNames.{in_own, to_names}
use Rattle.awk_unify.specs.Places.{places}
use Rattle.awk_plain.proofs.OwnNames.{carries_itself, places_itself}

-- the values of a type stay
abbrev pub Stays : DataType → Carry → Type 0
Stays a f = (v : Value) → Has a v → carried f v ≡ v

abbrev pub EachStays : DataTypes → List Carry → Type 0
EachStays no_types [] = Unit {0}
EachStays (type a us) (f ∷ fs) = Stays a f × EachStays us fs
EachStays us fs = ⊥

parts_stay : (us : DataTypes) (fs : List Carry) (vs : List Value) → EachStays us fs → HasRow us vs
    → (values_by (carried_each (carries_from fs)) vs ≡ vs) × (length fs ≡ length vs)
parts_stay no_types [] [] s h = (refl, refl)
parts_stay no_types [] (v ∷ vs) s h = absurd h
parts_stay no_types (f ∷ fs) vs s h = absurd s
parts_stay (type a us) [] vs s h = absurd s
parts_stay (type a us) (f ∷ fs) [] s h = absurd h
parts_stay (type a us) (f ∷ fs) (v ∷ vs) s h =
    let rest = parts_stay us fs vs s.1 h.1 in
    (ap₂ (λ w ws. w ∷ ws) (s.0 v h.0) rest.0, ap suc rest.1)

pub row_stays : (ns : List Name) (us : DataTypes) (fs : List Carry) → EachStays us fs
    → Stays (rec ns us) (in_own fs)
row_stays ns us fs s (row vs) h =
    let each = parts_stay us fs (value_list vs) s h in
    ap (λ ws. row (values_from (in_order (places (length fs)) ws))) each.0
    ∙ ap (λ k. row (values_from (in_order (places k) (value_list vs)))) each.1
    ∙ ap (λ ws. row (values_from ws)) (in_order_same (value_list vs))
    ∙ ap row (values_from-list vs)
row_stays ns us fs s v h = absurd h

-- the same names in the same order
pub own_names : (ns : List Name) (fs : List Carry) → AreDistinct ns → length ns ≡ length fs
    → to_names ns ns fs ≡ in_own fs
own_names ns fs d l =
    ap (λ ps. to_parts ps (carries_from (map (λ m. carry_at fs (place_in ns m)) ns)))
    (places_itself ns d ∙ ap places l)
    ∙ ap (λ gs. to_parts (places (length fs)) (carries_from gs)) (carries_itself ns fs d l)
