-- Quotients that need no division.
use Rattle.std.specs.Prelude.{◌≡◌, ℕ, ◌<◌, ◌/◌}
use Rattle.std.proofs.Common.{ap, sym, ◌∙◌}
use Rattle.std.proofs.Math.Nat.{div-one, div_self}

pub by_one : (n p : ℕ) → p ≡ 1 → n ≡ n / p
by_one n p e = sym (div-one n) ∙ ap (λ k. n / k) (sym e)

pub by_two : (n p : ℕ) → p ≡ 2 → n / 2 ≡ n / p
by_two n p e = ap (λ k. n / k) (sym e)

pub ruleset dividing = (by_one, by_two)

pub by_itself : (n p : ℕ) → 0 < p → p ≡ n → 1 ≡ n / p
by_itself n p o e = sym (div_self o) ∙ ap (λ k. k / p) e

pub ruleset sharing = (by_itself)
