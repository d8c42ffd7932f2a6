-- One carry after another.
use Rattle.std.specs.Prelude.{◌∷◌, [], ℕ, List, map, suc, zero}
use Rattle.awk_unify.specs.Carry.{Carries, Carry, carry, in_items, keep, no_carries, tag_at}
use Rattle.awk_unify.specs.Carry.{to_alternatives, to_parts}

abbrev pub after_in_items : (Carry → Carry) → Carry → Carry → Carry
after_in_items h g keep = g
after_in_items h g (in_items f) = in_items (h f)
after_in_items h g f = f

abbrev pub carry_by : List (Carry → Carry) → ℕ → Carry → Carry
carry_by [] k f = f
carry_by (h ∷ hs) zero f = h f
carry_by (h ∷ hs) (suc k) f = carry_by hs k f

-- each lift, and then the one at its place
abbrev pub each_after : List (Carry → Carry) → List ℕ → Carries → Carries
each_after hs (p ∷ ps) (carry f fs) = carry (carry_by hs p f) (each_after hs ps fs)
each_after hs ps fs = no_carries

abbrev pub after_to_parts : List (Carry → Carry) → Carry → Carry → Carry
after_to_parts hs g keep = g
after_to_parts hs g (to_parts ps fs) = to_parts ps (each_after hs ps fs)
after_to_parts hs g f = f

abbrev pub after_to_alternatives : List ℕ → List (Carry → Carry) → Carry → Carry → Carry
after_to_alternatives us hs g keep = g
after_to_alternatives us hs g (to_alternatives ts fs) =
    to_alternatives (map (tag_at us) ts) (each_after hs ts fs)
after_to_alternatives us hs g f =
    to_alternatives (tag_at us 0 ∷ []) (carry (carry_by hs 0 f) no_carries)

-- `after g f` is f and then g, where g keeps the places of rows
abbrev mutual
  pub after : Carry → Carry → Carry
  after keep f = f
  after (in_items g) f = after_in_items (after g) (in_items g) f
  after (to_parts qs gs) f = after_to_parts (afters gs) (to_parts qs gs) f
  after (to_alternatives us gs) f = after_to_alternatives us (afters gs) (to_alternatives us gs) f

  pub afters : Carries → List (Carry → Carry)
  afters no_carries = []
  afters (carry g gs) = after g ∷ afters gs
