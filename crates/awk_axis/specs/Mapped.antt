-- What is made of an array: its items by a function, as items of a type.
use Rattle.std.specs.Prelude.{◌≡◌, List, [], ◌∷◌, Option}
use Rattle.std.specs.Prelude.{Some, None}
use Rattle.awk_lanes.specs.Column.{Column}
use Rattle.awk_lanes.specs.Places.{size_of}
use Rattle.awk_layout.specs.Layout.{Layout}
use Rattle.awk_layout.specs.Typing.{array_type, array_items}
use Rattle.awk_list_functions.specs.declared.causes.Spoil.{Spoil}
use Rattle.awk_list_functions.specs.declared.place.Reach.{Reach}
use Rattle.awk_list_functions.specs.Causes.{first_spoil}
use Rattle.awk_columns.specs.ListClass.{Class}
use Rattle.awk_list_functions.specs.ListFunction.{ListFunction, given_type}
use Rattle.awk_list_functions.specs.ListFunction.{given_value}
use Rattle.awk_list_functions.specs.Lift.{lifted_type, lifted_value}
use Rattle.awk_list_functions.specs.Spoils.{spoil_at}
use Rattle.awk_columns.specs.Lists.{items_at, all_items_at}
use Rattle.awk_axis.specs.declared.lift.Mapped.{Mapped}
use Rattle.awk_axis.specs.declared.lift.Mapped.TheVariants as mapped
use Rattle.awk_axis.specs.declared.lift.AllMapped.{AllMapped}
use Rattle.awk_axis.specs.declared.lift.AllMapped.TheVariants as all_mapped
use Rattle.awk_list_functions.specs.Made.{IsColumn, IsMapped}

-- the same as one node
abbrev pub IsAtAxis : ListFunction → Class → Column → Column → Layout → Mapped → Type 0
IsAtAxis f c s e y (mapped.Spoiled why) = f.spoil (array_type y) (all_items_at s e y) ≡ Some why
IsAtAxis f c s e y (mapped.Column z) =
    let t = array_type y in
    (f.spoil t (all_items_at s e y) ≡ None)
    × IsColumn (given_type f.giving c t) (λ i. given_value f.giving t (items_at s e y i))
    (size_of s) z

-- ---- an array

abbrev pub IsLifted : ListFunction → Reach → Layout → Mapped → Type 0
IsLifted f k x (mapped.Spoiled why) = spoil_at f k (array_type x) (array_items x) ≡ Some why
IsLifted f k x (mapped.Column y) =
    (spoil_at f k (array_type x) (array_items x) ≡ None)
    × IsMapped (lifted_type f.giving k (array_type x)) (lifted_value f.giving k (array_type x)) x y

-- ---- arrays, one after another

abbrev pub spoil_of_all : ListFunction → Reach → List Layout → Option Spoil
spoil_of_all f k [] = None
spoil_of_all f k (x ∷ xs) =
    first_spoil (spoil_at f k (array_type x) (array_items x)) (spoil_of_all f k xs)

abbrev pub AreMapped : ListFunction → Reach → List Layout → List Layout → Type 0
AreMapped f k [] [] = Unit {0}
AreMapped f k (x ∷ xs) (y ∷ ys) =
    IsMapped (lifted_type f.giving k (array_type x)) (lifted_value f.giving k (array_type x)) x y
    × AreMapped f k xs ys
AreMapped f k [] (y ∷ ys) = ⊥
AreMapped f k (x ∷ xs) [] = ⊥

abbrev pub AreLifted : ListFunction → Reach → List Layout → AllMapped → Type 0
AreLifted f k xs (all_mapped.Spoiled why) = spoil_of_all f k xs ≡ Some why
AreLifted f k xs (all_mapped.Columns ys) = (spoil_of_all f k xs ≡ None) × AreMapped f k xs ys
