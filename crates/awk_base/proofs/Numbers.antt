-- Products, greatest numbers and successors.
use Rattle.std.proofs.Common.{◌≤◌, ℕ, ◌*◌, arith, ◌≡◌, nat_cmp}
use Rattle.std.specs.Prelude.{max, suc}
use Rattle.std.specs.Ordering.{ord_max}
use Rattle.std.proofs.lemmas.Nat.{mul-le}

-- greater factors, greater products
pub times : (a b c d : ℕ) → a ≤ c → b ≤ d → a * b ≤ c * d
times a b c d h k = grind arith

pub times-le : (a b c : ℕ) → a ≤ b → a * c ≤ b * c
times-le a b c h = mul-le a c b c h (omega arith)

-- the greater of two, as code and as a definition
pub ord_max-nat : (a b : ℕ) → ord_max nat_cmp a b ≡ max a b
ord_max-nat a b = grind arith

pub suc-same : (m n : ℕ) → suc m ≡ suc n → m ≡ n
suc-same m n e = cc
