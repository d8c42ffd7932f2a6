-- What std's comparisons tell of numbers.
use Rattle.std.specs.Prelude.{◌≡◌, refl, ℕ, ℤ, pos, int_lt, nat_lt, ◌==◌, Bool, true, false, cond}
use Rattle.std.specs.Ordering.{is_lt, int_cmp, nat_cmp}
use Rattle.std.specs.declared.cmp.Ordering.TheVariants.{Less, Equal, Greater}

int_less : (b c : Bool) → is_lt (cond b Less (cond c Greater Equal)) ≡ b
int_less true c = refl
int_less false true = refl
int_less false false = refl

nat_less : (b c : Bool) → is_lt (cond b Less (cond c Equal Greater)) ≡ b
nat_less true c = refl
nat_less false true = refl
nat_less false false = refl

pub int_cmp-first : (x y : ℤ) → is_lt (int_cmp x y) ≡ int_lt x y
int_cmp-first x y = int_less (int_lt x y) (int_lt y x)

pub nat_cmp-first : (x y : ℕ) → is_lt (nat_cmp x y) ≡ int_lt (pos x) (pos y)
nat_cmp-first x y = nat_less (nat_lt x y) (x == y)
