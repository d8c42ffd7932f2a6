-- What is answered of one array, and of arrays one after another.
use Rattle.std.specs.Prelude.{◌≡◌, ⊤, ℕ, ◌<◌, Bool, true, false, List, [], ◌∷◌, ◌++◌, map}
use Rattle.std.specs.Prelude.{Option, Some, None, Result, Ok, Err}
use Rattle.std.specs.List.{list_any}
use Rattle.awk_types.specs.DataType.{DataType, leaf}
use Rattle.awk_types.specs.declared.fault.Fault.{Fault}
use Rattle.awk_types.specs.declared.fault.Fault.TheVariants as fault
use Rattle.awk_types.specs.declared.primitive.Primitive.{Primitive}
use Rattle.awk_lanes.specs.Column.{Column}
use Rattle.awk_layout.specs.Frames.{IsOnly}
use Rattle.awk_layout.specs.Item.{item}
use Rattle.awk_layout.specs.Kinds.{primitive_of}
use Rattle.awk_layout.specs.Layout.{Layout}
use Rattle.awk_layout.specs.Typing.{layout_type, array_type, array_items}
use Rattle.awk_layout.specs.Valid.{len}
use Rattle.awk_gather.specs.Arrays.{array_item}
use Rattle.awk_pointwise.specs.Sides.{lane_values}
use Rattle.awk_cast.specs.Cast.{cast_type, cast_value, is_large, overflows, told}
use Rattle.awk_cast.specs.Levels.{IsOver, AreBeside}
use Rattle.awk_cast.specs.declared.level.Level.{Level}
use Rattle.awk_cast.specs.declared.level.Level.TheVariants.{Whole, Over, Beside}
use Rattle.awk_cast.specs.declared.fault.CastFault.{CastFault}
use Rattle.awk_cast.specs.declared.fault.CastFault.TheVariants.{Size, Overflow, NoMemory}

-- ---- faults

abbrev pub fault_of : CastFault → Fault
fault_of Size = fault.Size
fault_of Overflow = fault.Overflow
fault_of NoMemory = fault.NoMemory

-- the only fault of leaves that is told is an overflow
abbrev pub leaf_fault : Fault → CastFault
leaf_fault fault.NoMemory = NoMemory
leaf_fault f = Overflow

-- a fault is told exactly; want of memory is free
abbrev pub IsTold : Option Fault → CastFault → Type 0
IsTold s NoMemory = ⊤
IsTold s Size = s ≡ Some fault.Size
IsTold s Overflow = s ≡ Some fault.Overflow

-- ---- one array

abbrev pub is_primitive : DataType → Bool
is_primitive (leaf p) = true
is_primitive t = false

-- y is x with each leaf in a primitive
pub record IsCast (p : Primitive) (x y : Layout) : Type 0 where
  pub size : len y ≡ len x
  pub typ : layout_type y ≡ cast_type p (array_type x)
  pub items : (i : ℕ) → i < len x → item y i ≡ cast_value p (array_type x) (array_item x i)

abbrev pub is_large_array : Layout → Bool
is_large_array x = is_large (array_type x) (array_items x)

abbrev pub array_overflows : Primitive → Layout → Bool
array_overflows p x = overflows p (array_type x) (array_items x)

abbrev pub told_of : Primitive → Layout → Option Fault
told_of p x = told (is_large_array x) (array_overflows p x)

abbrev pub IsAnswer : Primitive → Layout → Result Layout CastFault → Type 0
IsAnswer p x (Ok y) = (told_of p x ≡ None) × IsCast p x y
IsAnswer p x (Err e) = IsTold (told_of p x) e

-- an array without contents is cast, and every other one is taken apart
abbrev pub IsLevel : Primitive → Layout → Result Level CastFault → Type 0
IsLevel p x (Ok (Whole y)) = (told_of p x ≡ None) × IsCast p x y
IsLevel p x (Ok (Over c zs)) = IsOnly (IsOver x c) zs
IsLevel p x (Ok (Beside f ys)) = AreBeside x f ys
IsLevel p x (Err e) = IsTold (told_of p x) e

-- ---- arrays, one after another

abbrev pub AreCast : Primitive → List Layout → List Layout → Type 0
AreCast p [] [] = Unit {0}
AreCast p (x ∷ xs) (y ∷ ys) = IsCast p x y × AreCast p xs ys
AreCast p [] (y ∷ ys) = ⊥
AreCast p (x ∷ xs) [] = ⊥

abbrev pub told_of_all : Primitive → List Layout → Option Fault
told_of_all p xs = told (list_any is_large_array xs) (list_any (array_overflows p) xs)

abbrev pub AreAnswer : Primitive → List Layout → Result (List Layout) CastFault → Type 0
AreAnswer p xs (Ok ys) = (told_of_all p xs ≡ None) × AreCast p xs ys
AreAnswer p xs (Err e) = IsTold (told_of_all p xs) e

-- one more answer: its node is put behind the others, or an overflow is noted
abbrev pub IsTaken : Bool → List Layout → Result Layout CastFault → List Layout
    → Result Bool CastFault → Type 0
IsTaken past old (Ok y) new (Ok b) = (b ≡ past) × (new ≡ old ++ y ∷ [])
IsTaken past old (Ok y) new (Err e) = e ≡ NoMemory
IsTaken past old (Err Overflow) new (Ok b) = b ≡ true
IsTaken past old (Err Size) new (Ok b) = ⊥
IsTaken past old (Err NoMemory) new (Ok b) = ⊥
IsTaken past old (Err Overflow) new (Err e) = ⊥
IsTaken past old (Err Size) new (Err e) = e ≡ Size
IsTaken past old (Err NoMemory) new (Err e) = e ≡ NoMemory

-- ---- arrays of leaves, and whole arrays

-- the numbers or truth values of an array
pub record IsLaneOf (x : Layout) (c : Column) : Type 0 where
  pub typ : array_type x ≡ leaf (primitive_of c.kind)
  pub values : array_items x ≡ lane_values c

-- y is the array of x with each leaf in a primitive
pub record IsArrayOf (p : Primitive) (x y : Layout) : Type 0 where
  pub size : len y ≡ len x
  pub typ : array_type y ≡ cast_type p (array_type x)
  pub items : array_items y ≡ map (cast_value p (array_type x)) (array_items x)

abbrev pub IsMade : Primitive → Layout → Result Layout CastFault → Type 0
IsMade p x (Ok y) = (told_of p x ≡ None) × IsArrayOf p x y
IsMade p x (Err e) = IsTold (told_of p x) e
