-- How a value of one type becomes one of another: the data of it, and what it does.
use Rattle.std.specs.Prelude.{◌==◌, ◌∷◌, [], ℕ, if◌then◌else◌, List, length, map, suc, zero}
use Rattle.awk_unify.specs.Places.{places}
use Rattle.awk_types.specs.Simple.{in_list, value_by, values_by}
use Rattle.awk_types.specs.Value.{Value, alt, null, row, value_list, values_from}

mutual
  pub data Carry : Type 0 where
    keep : Carry
    in_items : Carry → Carry
    to_parts : List ℕ → Carries → Carry
    to_alternatives : List ℕ → Carries → Carry

  pub data Carries : Type 0 where
    no_carries : Carries
    carry : Carry → Carries → Carries

abbrev pub carry_list : Carries → List Carry
carry_list no_carries = []
carry_list (carry f fs) = f ∷ carry_list fs

abbrev pub carries_from : List Carry → Carries
carries_from [] = no_carries
carries_from (f ∷ fs) = carry f (carries_from fs)

abbrev pub tag_at : List ℕ → ℕ → ℕ
tag_at [] k = 0
tag_at (t ∷ ts) zero = t
tag_at (t ∷ ts) (suc k) = tag_at ts k

-- the value whose place is j
abbrev pub at_place : ℕ → List ℕ → List Value → Value
at_place j (p ∷ ps) (v ∷ vs) = if p == j then v else at_place j ps vs
at_place j ps vs = null

-- each value at its place
abbrev pub in_order : List ℕ → List Value → List Value
in_order ps vs = map (λ j. at_place j ps vs) (places (length ps))

abbrev pub in_places : List ℕ → List (Value → Value) → Value → Value
in_places ps fs (row vs) = row (values_from (in_order ps (values_by fs (value_list vs))))
in_places ps fs v = v

-- null stays null; a value that is no alternative counts as that of a union of one
abbrev pub to_tags : List ℕ → List (Value → Value) → Value → Value
to_tags ts fs null = null
to_tags ts fs (alt k v) = alt (tag_at ts k) (value_by fs k v)
to_tags ts fs v = alt (tag_at ts 0) (value_by fs 0 v)

abbrev mutual
  pub carried : Carry → Value → Value
  carried keep v = v
  carried (in_items f) v = in_list (carried f) v
  carried (to_parts ps fs) v = in_places ps (carried_each fs) v
  carried (to_alternatives ts fs) v = to_tags ts (carried_each fs) v

  pub carried_each : Carries → List (Value → Value)
  carried_each no_carries = []
  carried_each (carry f fs) = carried f ∷ carried_each fs
