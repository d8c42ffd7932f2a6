-- The base64 of bytes ends no line.
use Rattle.std.proofs.Common.{◌≢◌, ℕ, zero, suc, List, [], ◌∷◌, length, replicate, slice_index}
use Rattle.std.proofs.Common.{refl}
use Rattle.base64.specs.Engines.{standard}
use Rattle.base64.specs.GeneralPurpose.{encode_of}
use Rattle.base64.specs.Rfc4648.{encode_group, encode_symbols, padding_len}
use Rattle.awk_edge.specs.Lines.{Unbroken}
use Rattle.awk_edge.proofs.LineLaws.{Unbroken-append}
use Rattle.awk_json.proofs.Lines.{literal-unbroken}

-- a symbol, or what is read past the last
symbol-unbroken : (t : List ℕ) → Unbroken t → (i : ℕ) → slice_index t i ≢ 10
symbol-unbroken [] u i = λ e. absurd (cc)
symbol-unbroken (x ∷ t) u zero = u.0
symbol-unbroken (x ∷ t) u (suc i) = symbol-unbroken t u.1 i

symbols-unbroken : (t : List ℕ) → Unbroken t → (m : List ℕ) → Unbroken (encode_symbols t m)
unfolding encode_symbols
symbols-unbroken t u [] = tt
symbols-unbroken t u (a ∷ []) = (symbol-unbroken t u _, (symbol-unbroken t u _, tt))
symbols-unbroken t u (a ∷ b ∷ []) =
    (symbol-unbroken t u _, (symbol-unbroken t u _, (symbol-unbroken t u _, tt)))
symbols-unbroken t u (a ∷ b ∷ c ∷ rest) =
    Unbroken-append (encode_group t a b c) (encode_symbols t rest) (
      symbol-unbroken t u _,
      (symbol-unbroken t u _, (symbol-unbroken t u _, (symbol-unbroken t u _, tt))),
    )
    (symbols-unbroken t u rest)

padding-unbroken : (n : ℕ) → Unbroken (replicate n 61)
padding-unbroken zero = tt
padding-unbroken (suc n) = ((λ e. absurd (cc)), padding-unbroken n)

pub encode_of-unbroken : (m : List ℕ) → Unbroken (encode_of standard m)
encode_of-unbroken m =
    Unbroken-append (encode_symbols standard.encode_table m) (replicate (padding_len (length m)) 61)
    (symbols-unbroken standard.encode_table (literal-unbroken standard.encode_table refl) m)
    (padding-unbroken (padding_len (length m)))
