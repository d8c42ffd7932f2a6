-- The type that is given, from the type that is made.
use Rattle.std.specs.Prelude.{◌≡◌, refl, true, false}
use Rattle.awk_types.specs.DataType.{DataType}
use Rattle.awk_columns.specs.ListClass.{Class, list_type}
use Rattle.awk_list_functions.specs.ListFunction.{Giving, lists, singles, made_type}
use Rattle.awk_list_functions.specs.ListFunction.{given_type, given_class, gives_lists}

pub given_list : (g : Giving) (c : Class) (t : DataType) → gives_lists g ≡ true
    → list_type (given_class g c) (made_type g t) ≡ given_type g c t
given_list (lists class typ items) c t h = refl
given_list (singles typ value) c t h = absurd (cc)

pub given_single : (g : Giving) (c : Class) (t : DataType) → gives_lists g ≡ false
    → made_type g t ≡ given_type g c t
given_single (lists class typ items) c t h = absurd (cc)
given_single (singles typ value) c t h = refl

pub ruleset given = (given_list, given_single)
