-- How long the base64 of bytes is.
use Rattle.std.proofs.Math.Nat.{mod-lt}
use Rattle.std.proofs.Common.{◌≡◌, ◌≤◌, ◌<◌, ◌-◌, ap, ◌∙◌, ℕ, zero, suc, ◌+◌, ◌*◌, ◌%◌, List, []}
use Rattle.std.proofs.Common.{◌∷◌, length, replicate, refl, arith, length-append}
use Rattle.base64.specs.Engines.{standard}
use Rattle.base64.specs.GeneralPurpose.{encode_of}
use Rattle.base64.specs.Rfc4648.{encode_symbols, padding_len}

-- four symbols for three bytes, and the rest
length-symbols : (t m : List ℕ) → 3 * length (encode_symbols t m) ≤ 4 * length m + 5
unfolding encode_symbols
length-symbols t [] = omega arith
length-symbols t (a ∷ []) = omega arith
length-symbols t (a ∷ b ∷ []) = omega arith
length-symbols t (a ∷ b ∷ c ∷ rest) = omega (arith, length-symbols t rest)

padding_few : (n : ℕ) → padding_len n ≤ 2
padding_few n = let few : padding_len n < 3 = mod-lt (3 - n % 3) (omega arith) in omega arith

length-padding : (n b : ℕ) → length (replicate n b) ≡ n
length-padding zero b = refl
length-padding (suc n) b = ap suc (length-padding n b)

pub length-encode_of : (m : List ℕ) → 3 * length (encode_of standard m) ≤ 4 * length m + 11
length-encode_of m =
    let all : length (encode_of standard m) ≡ length (encode_symbols standard.encode_table m) +
    padding_len (length m) =
    length-append (encode_symbols standard.encode_table m)
    (replicate (padding_len (length m)) 61) ∙ ap
    (λ k. length (encode_symbols standard.encode_table m) + k)
    (length-padding (padding_len (length m)) 61) in
    omega (arith, all, length-symbols standard.encode_table m, padding_few (length m))
