-- Null under simplifying, and values under an option.
use Rattle.std.specs.Prelude.{refl, ◌≡◌}
use Rattle.std.proofs.Common.{sym}
use Rattle.awk_types.specs.DataType.{DataType, leaf, opt, rec, reg, tup, uni, unknown, var}
use Rattle.awk_types.specs.Value.{null, Value, alt, int, list, row, truth}
use Rattle.awk_types.specs.Simple.{simple_value, in_option}

-- null stays null
pub simple_value-null : (t : DataType) → simple_value t null ≡ null
simple_value-null unknown = refl
simple_value-null (leaf p) = refl
simple_value-null (var t) = refl
simple_value-null (reg n t) = refl
simple_value-null (rec ns ts) = refl
simple_value-null (tup ts) = refl
simple_value-null (opt t) = refl
simple_value-null (uni ts) = refl

-- under an option as without it, where null stays null
pub in_option-same : (f : Value → Value) → f null ≡ null → (v : Value) → in_option f v ≡ f v
in_option-same f e (int z) = refl
in_option-same f e (truth b) = refl
in_option-same f e null = sym e
in_option-same f e (list vs) = refl
in_option-same f e (row vs) = refl
in_option-same f e (alt k v) = refl

-- an option changes no value
pub in_option-simple : (t : DataType) (v : Value) → in_option (simple_value t) v ≡ simple_value t v
in_option-simple t null = sym (simple_value-null t)
in_option-simple t v = refl
