-- In the places of the lists of a datum itself stand these lists.
use Rattle.std.specs.Prelude.{◌≡◌, ℕ, zero, suc, ◌-◌, ◌==◌, ℤ, pos, negsuc, Bool, true, false}
use Rattle.std.specs.Prelude.{List, [], ◌∷◌, ◌++◌, map, refl, if◌then◌else◌}
use Rattle.std.specs.List.{flat_map}
use Rattle.std.proofs.Common.{ap, ap₂, sym, ◌∙◌}
use Rattle.std.proofs.lemmas.List.{map-append}
use Rattle.std.proofs.lemmas.List.Concat.{flat_map-append}
use Rattle.awk_types.specs.DataType.{DataType, DataTypes, unknown, leaf, var, reg, rec, tup, opt}
use Rattle.awk_types.specs.DataType.{uni, no_types, type}
use Rattle.awk_types.specs.Datum.{Datum, arr, one}
use Rattle.awk_types.specs.Value.{Value, int, truth, null, list, row, alt}
use Rattle.awk_types.proofs.Trees.{value_list-from}
use Rattle.awk_columns.specs.Columns.{list_items, list_of, lists_among, row_parts}
use Rattle.awk_laws.specs.Axes.{TypedList, typed_list, lists_at, lists_in_parts}
use Rattle.awk_laws.specs.Axes.{lists_in_alternative, lists_of}
use Rattle.awk_laws.specs.InPlace.{alternative_in_place, in_place, parts_in_place, side_by_side}
use Rattle.awk_laws.specs.InPlace.{value_in_place}
use Rattle.awk_laws.proofs.AxisTypes.{lists_at-null}

abbrev items_of : List TypedList → List (List Value)
items_of ls = map (λ l. l.1) ls

list_typed : (t : DataType) (v : Value) → lists_among (v ∷ []) ≡ items_of (typed_list t v)
list_typed t (list vs) = refl
list_typed t (int z) = refl
list_typed t (truth b) = refl
list_typed t null = refl
list_typed t (row vs) = refl
list_typed t (alt j v) = refl

sides : (f : Value → Value → List Value) (ls : Value → List TypedList) (vs : List Value)
    → ((x : Value) → lists_among (f x x) ≡ items_of (ls x))
    → lists_among (side_by_side f vs vs) ≡ items_of (flat_map ls vs)
sides f ls [] e = refl
sides f ls (v ∷ vs) e =
    flat_map-append list_of (f v v) (side_by_side f vs vs)
    ∙ ap₂ (λ x y. x ++ y) (e v) (sides f ls vs e)
    ∙ sym (map-append (λ l. l.1) (ls v) (flat_map ls vs))

by_axis : (b : Bool) (t : DataType) (f : Value → Value → List Value) (ls : Value → List TypedList)
    (v : Value) → ((x : Value) → lists_among (f x x) ≡ items_of (ls x))
    → lists_among (if b then v ∷ [] else side_by_side f (list_items v) (list_items v))
    ≡ items_of (if b then typed_list t v else flat_map ls (list_items v))
by_axis true t f ls v e = list_typed t v
by_axis false t f ls v e = sides f ls (list_items v) e

-- of what is no alternative no list is told
no_alternative : (a : ℕ) (ts : DataTypes) → [] ≡ items_of (lists_in_alternative a ts 0 null)
no_alternative a no_types = refl
no_alternative a (type t ts) = ap items_of (sym (lists_at-null a t))

mutual
  lists_in_value : (a : ℕ) (t : DataType) (v : Value)
      → lists_among (value_in_place a t v v) ≡ items_of (lists_at a t v)
  lists_in_value a unknown v = refl
  lists_in_value a (leaf p) v = refl
  lists_in_value a (var t) v =
      by_axis (a == 0) t (value_in_place (a - 1) t) (lists_at (a - 1) t) v
      (λ x. lists_in_value (a - 1) t x)
  lists_in_value a (reg n t) v =
      by_axis (a == 0) t (value_in_place (a - 1) t) (lists_at (a - 1) t) v
      (λ x. lists_in_value (a - 1) t x)
  lists_in_value a (rec ns ts) v = lists_of_parts a ts (row_parts v)
  lists_in_value a (tup ts) v = lists_of_parts a ts (row_parts v)
  lists_in_value a (opt t) v = lists_in_value a t v
  lists_in_value a (uni ts) (alt j v) = lists_of_alternative a ts j v
  lists_in_value a (uni ts) (int z) = no_alternative a ts
  lists_in_value a (uni ts) (truth b) = no_alternative a ts
  lists_in_value a (uni ts) null = no_alternative a ts
  lists_in_value a (uni ts) (list vs) = no_alternative a ts
  lists_in_value a (uni ts) (row vs) = no_alternative a ts

  lists_of_parts : (a : ℕ) (ts : DataTypes) (vs : List Value)
      → lists_among (parts_in_place a ts vs vs) ≡ items_of (lists_in_parts a ts vs)
  lists_of_parts a no_types vs = refl
  lists_of_parts a (type t ts) [] = refl
  lists_of_parts a (type t ts) (v ∷ vs) =
      flat_map-append list_of (value_in_place a t v v) (parts_in_place a ts vs vs)
      ∙ ap₂ (λ x y. x ++ y) (lists_in_value a t v) (lists_of_parts a ts vs)
      ∙ sym (map-append (λ l. l.1) (lists_at a t v) (lists_in_parts a ts vs))

  lists_of_alternative : (a : ℕ) (ts : DataTypes) (j : ℕ) (v : Value)
      → lists_among (alternative_in_place a ts j v v) ≡ items_of (lists_in_alternative a ts j v)
  lists_of_alternative a no_types j v = refl
  lists_of_alternative a (type t ts) zero v = lists_in_value a t v
  lists_of_alternative a (type t ts) (suc j) v = lists_of_alternative a ts j v

pub lists_in_place : (axis : ℤ) (d : Datum)
    → lists_among (in_place axis d d) ≡ items_of (lists_of axis d)
lists_in_place (negsuc a) d = refl
lists_in_place (pos zero) (arr t vs) = ap (λ xs. xs ∷ []) (value_list-from vs)
lists_in_place (pos (suc a)) (arr t vs) =
    ap (λ ws. lists_among (side_by_side (value_in_place a t) vs ws)) (value_list-from vs)
    ∙ sides (value_in_place a t) (lists_at a t) vs (λ x. lists_in_value a t x)
lists_in_place (pos zero) (one t v) = lists_in_value zero t v
lists_in_place (pos (suc a)) (one t v) = lists_in_value (suc a) t v
