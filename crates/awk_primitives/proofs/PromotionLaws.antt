-- What two whole-number types promote to holds the numbers of both.
use Rattle.std.proofs.Common.{◌≡◌, Bool as Truth, true, ◌&&◌, refl, sym, subst, ℤ}
use Rattle.std.specs.Prelude.{Option, Some, None, ◌≤ℤ◌, T, IfSome}
use Rattle.std.proofs.lemmas.Bool.{and_parts}
use Rattle.std.proofs.lemmas.Int.{ints}
use Rattle.std.proofs.Common.{arith}
use lib.Signed.{le_z, le_z_yes}
use Rattle.awk_types.specs.declared.primitive.Primitive.{Primitive}
use Rattle.awk_types.specs.declared.primitive.Primitive.TheVariants.{Bool, I8, I16, I32, I64, U8}
use Rattle.awk_types.specs.declared.primitive.Primitive.TheVariants.{U16, U32, U64}
use Rattle.awk_types.specs.Has.{least_number, greatest_number}
use Rattle.awk_primitives.specs.Promotion.{promotion, HoldsAll}

abbrev is_wider : Primitive → Primitive → Truth
is_wider p r =
    le_z (least_number r) (least_number p) && le_z (greatest_number p) (greatest_number r)

-- each range is within the range of what is promoted to, if there is one
abbrev is_wider_than_both : Primitive → Primitive → Option Primitive → Truth
is_wider_than_both p q None = true
is_wider_than_both p q (Some r) = is_wider p r && is_wider q r

each_primitive : (P : Primitive → Type 0) → P Bool → P I8 → P I16 → P I32 → P I64 → P U8 → P U16
    → P U32 → P U64 → (p : Primitive) → P p
each_primitive P a b c d e f g h i Bool = a
each_primitive P a b c d e f g h i I8 = b
each_primitive P a b c d e f g h i I16 = c
each_primitive P a b c d e f g h i I32 = d
each_primitive P a b c d e f g h i I64 = e
each_primitive P a b c d e f g h i U8 = f
each_primitive P a b c d e f g h i U16 = g
each_primitive P a b c d e f g h i U32 = h
each_primitive P a b c d e f g h i U64 = i

abbrev Widens : Primitive → Primitive → Type 0
Widens p q = is_wider_than_both p q (promotion p q) ≡ true

widens : (p q : Primitive) → Widens p q
widens = each_primitive (λ p. (q : Primitive) → Widens p q)
    (each_primitive (Widens Bool) refl refl refl refl refl refl refl refl refl)
    (each_primitive (Widens I8) refl refl refl refl refl refl refl refl refl)
    (each_primitive (Widens I16) refl refl refl refl refl refl refl refl refl)
    (each_primitive (Widens I32) refl refl refl refl refl refl refl refl refl)
    (each_primitive (Widens I64) refl refl refl refl refl refl refl refl refl)
    (each_primitive (Widens U8) refl refl refl refl refl refl refl refl refl)
    (each_primitive (Widens U16) refl refl refl refl refl refl refl refl refl)
    (each_primitive (Widens U32) refl refl refl refl refl refl refl refl refl)
    (each_primitive (Widens U64) refl refl refl refl refl refl refl refl refl)

le_of_test : (a b : ℤ) → le_z a b ≡ true → a ≤ℤ b
le_of_test a b e = le_z_yes (subst T (sym e) tt)

le_z_trans : (a b c : ℤ) → a ≤ℤ b → b ≤ℤ c → a ≤ℤ c
le_z_trans a b c h k = omega (arith, ints)

holds_all : (p r : Primitive) → is_wider p r ≡ true → HoldsAll p r
holds_all p r e z h = (
  le_z_trans _ _ _ (le_of_test _ _ (and_parts _ _ e).0) h.0,
  le_z_trans _ _ _ h.1
      (le_of_test _ _ (and_parts _ _ e).1),
)

both_held : (p q : Primitive) (o : Option Primitive) → is_wider_than_both p q o ≡ true
    → IfSome o (λ r. HoldsAll p r × HoldsAll q r)
both_held p q None e = tt
both_held p q (Some r) e = (holds_all p r (and_parts _ _ e).0, holds_all q r (and_parts _ _ e).1)

pub promotion_holds : (p q : Primitive) → IfSome (promotion p q) (λ r. HoldsAll p r × HoldsAll q r)
promotion_holds p q = both_held p q (promotion p q) (widens p q)
