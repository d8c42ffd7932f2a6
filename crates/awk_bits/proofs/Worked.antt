-- The definitions at worked examples.
use Rattle.std.proofs.Common.{◌≡◌, [], ◌∷◌, refl, true, false}
use Rattle.awk_bits.specs.Bits.{bits}

-- ---- the bits of the bytes 0x42 and 0xA0, read both ways

from_least : bits true (0x42 ∷ 0xA0 ∷ []) 0 16 ≡ false ∷ true ∷ false ∷ false ∷ false ∷ false ∷ true
    ∷ false ∷ false ∷ false ∷ false ∷ false ∷ false ∷ true ∷ false ∷ true ∷ []
from_least = refl

from_most : bits false (0x42 ∷ 0xA0 ∷ []) 0 16 ≡ false ∷ true ∷ false ∷ false ∷ false ∷ false ∷ true
    ∷ false ∷ true ∷ false ∷ true ∷ false ∷ false ∷ false ∷ false ∷ false ∷ []
from_most = refl

-- four bits from the seventh on
across_bytes : bits false (0x42 ∷ 0xA0 ∷ []) 6 4 ≡ true ∷ false ∷ true ∷ false ∷ []
across_bytes = refl
