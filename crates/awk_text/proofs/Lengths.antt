-- No text is empty.
use Rattle.std.proofs.Common.{ℕ, zero, suc, ◌/◌, ◌%◌, ◌<◌, ◌==◌, Bool, true, false, List, [], ◌∷◌}
use Rattle.std.proofs.Common.{length, decimal, pos, negsuc, ℤ, if◌then◌else◌, arith}
use Rattle.std.specs.Fmt.{digits, digits_onto, digit_glyph}
use Rattle.std.specs.Fmt.{signed_decimal}
use Rattle.awk_json.specs.Text.{truth_text}
use Rattle.awk_types.specs.DataType.{DataType, unknown, leaf, var, reg, rec, tup, opt, uni}
use Rattle.awk_types.specs.DataType.{DataTypes, no_types, type}
use Rattle.awk_types.specs.Value.{Value, int, truth, null, alt}
use Rattle.awk_text.specs.ValueText.{leaf_text, value_text, alternative_text}
use Rattle.awk_types.specs.Has.{Has, HasAlternative}

either_some : (t : Bool) (xs ys : List ℕ) → 0 < length xs → 0 < length ys
    → 0 < length (if t then xs else ys)
either_some true xs ys h k = h
either_some false xs ys h k = k

-- digits come before what stands there
onto_more : (k base n : ℕ) (upper : Bool) (acc : List ℕ) → 0 < length acc
    → 0 < length (digits_onto k base upper n acc)
onto_more zero base n upper acc h = h
onto_more (suc k) base n upper acc h =
    let next : List ℕ = digit_glyph upper (n % base) ∷ acc in
    either_some (n / base == 0) next (digits_onto k base upper (n / base) next) (omega arith)
    (onto_more k base (n / base) upper next (omega arith))

decimal_some : (n : ℕ) → 0 < length (decimal n)
unfolding digits
decimal_some n =
    let next : List ℕ = digit_glyph false (n % 10) ∷ [] in
    either_some (n / 10 == 0) next (digits_onto 63 10 false (n / 10) next) (omega arith)
    (onto_more 63 10 (n / 10) false next (omega arith))

signed_some : (z : ℤ) → 0 < length (signed_decimal z)
signed_some (pos n) = decimal_some n
signed_some (negsuc n) = omega arith

truth_some : (b : Bool) → 0 < length (truth_text b)
truth_some true = omega arith
truth_some false = omega arith

pub leaf_some : (v : Value) → 0 < length (leaf_text v)
leaf_some (int z) = signed_some z
leaf_some (truth b) = truth_some b
leaf_some v = omega arith

mutual
  pub text_some : (t : DataType) (v : Value) → Has t v → 0 < length (value_text t v)
  text_some unknown v h = absurd h
  text_some (leaf p) v h = leaf_some v
  text_some (var t) v h = omega arith
  text_some (reg n t) v h = omega arith
  text_some (rec ns ts) v h = omega arith
  text_some (tup ts) v h = omega arith
  text_some (opt t) null h = omega arith
  text_some (opt t) v h = text_some t v h
  text_some (uni ts) (alt k v) h = alternative_some ts k v h
  text_some (uni ts) v h = absurd h

  pub alternative_some : (ts : DataTypes) (k : ℕ) (v : Value) → HasAlternative ts k v
      → 0 < length (alternative_text ts k v)
  alternative_some no_types k v h = absurd h
  alternative_some (type t ts) zero v h = text_some t v h
  alternative_some (type t ts) (suc k) v h = alternative_some ts k v h
