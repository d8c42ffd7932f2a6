-- Values: one tree for each, with no columns in it.
use Rattle.std.specs.Prelude.{ℕ, ℤ, Bool, List, [], ◌∷◌}

mutual
  pub data Value : Type 0 where
    int : ℤ → Value
    truth : Bool → Value
    null : Value
    list : Values → Value
    row : Values → Value
    alt : ℕ → Value → Value

  pub data Values : Type 0 where
    no_values : Values
    value : Value → Values → Values

-- values as a list, and back
abbrev pub value_list : Values → List Value
value_list no_values = []
value_list (value v vs) = v ∷ value_list vs

abbrev pub values_from : List Value → Values
values_from [] = no_values
values_from (v ∷ vs) = value v (values_from vs)
