-- Steps against the bytes of texts.
use Rattle.std.proofs.Common.{◌≡◌, ℕ, suc, ◌+◌, ◌*◌, ◌<◌, ◌≤◌, List, length, subst, sym, arith}
use Rattle.std.proofs.Math.Nat.{mul-le-mul_left, mul-le-mul_right}

-- At r steps a byte: what was taken since the beginning, and what the rest of a text may take, is
-- within what the whole text may take.
pub record IsPaid (r begun now : ℕ) (left whole : List ℕ) : Type 0 where
  pub within : now + r * length left ≤ begun + r * length whole

pub paid_first : (r begun : ℕ) (left whole : List ℕ) → length left ≤ length whole
    → IsPaid r begun begun left whole
paid_first r begun left whole less = record { within = omega (arith, mul-le-mul_left r less) }

-- n bytes more, at no more steps each
pub paid_more : (r s n begun now later : ℕ) (left more whole : List ℕ)
    → IsPaid r begun now left whole
    → later ≤ now + s * n → s ≤ r → n + length more ≤ length left → IsPaid r begun later more whole
paid_more r s n begun now later left more whole p taken lower fits =
    let all : r * (n + length more) ≤ r * length left = mul-le-mul_left r fits in
    let sum : r * (n + length more) ≡ r * n + r * length more = omega arith in
    record { within = omega (arith, p.within, taken, all, sum, mul-le-mul_right n lower) }

-- a text one level down, after two steps
deeper_cost : (a b c g h n : ℕ) → b ≤ a + 2 → c ≤ b + 2 * (g * n) → g < h → 0 < n
    → c ≤ a + 2 * (h * n)
deeper_cost a b c g h n p q lower some =
    let all : suc g * n ≤ h * n = mul-le-mul_right n (let l : suc g ≤ h = omega arith in l) in
    let sum : suc g * n ≡ g * n + n = omega arith in
    omega (arith, all, sum)

pub deeper_text : (a b c g h : ℕ) (text told : List ℕ) → text ≡ told → b ≤ a + 2
    → c ≤ b + 2 * (g * length told) → g < h
    → 0 < length text → c ≤ a + 2 * (h * length text)
deeper_text a b c g h text told e p q lower some =
    deeper_cost a b c g h (length text) p (subst (λ z. c ≤ b + 2 * (g * length z)) (sym e) q) lower
    some

-- two steps for a text
pub leaf_cost : (a b h n : ℕ) → b ≤ a + 2 → 0 < h → 0 < n → b ≤ a + 2 * (h * n)
leaf_cost a b h n p high some = deeper_cost a b b 0 h n p (omega arith) high some

-- a step for each byte
pub flat_cost : (a b h n : ℕ) → 0 < h → b ≤ a + n → b ≤ a + 2 * (h * n)
flat_cost a b h n high p =
    let wide : 1 * n ≤ h * n = mul-le-mul_right n (let l : 1 ≤ h = omega arith in l) in
    omega (arith, wide, p)
