-- Truth values by their bytes.
use Rattle.std.specs.Prelude.{◌≡◌, refl, ℕ, ◌<◌, Bool, true, false, List, length, get_or}
use Rattle.std.specs.Prelude.{pos, if◌then◌else◌}
use Rattle.std.proofs.Common.{arith, ap, sym, ◌∙◌}
use Rattle.std.proofs.lemmas.List.{length-map, get_or-map}
use Rattle.awk_types.specs.Value.{truth}
use Rattle.awk_lanes.specs.declared.kind.Kind.TheVariants.{Bool as Truths}
use Rattle.awk_lanes.specs.Numbers.{element, is_nonzero}
use Rattle.awk_lanes.specs.Places.{at}
use Rattle.awk_lanes.specs.Words.{column, integers}
use Rattle.awk_layout.specs.Item.{leaf_value}

twice : (b : Bool) → truth b ≡ truth (is_nonzero (pos (if b then 1 else 0)))
twice true = refl
twice false = refl

pub byte_in : (bs : List ℕ) (i : ℕ) → i < length (integers bs) → i < length bs
byte_in bs i l = omega (arith, l, length-map bs pos)

-- a byte is shown as a truth value
pub truth_shown : (bs : List ℕ) (i : ℕ) (b : Bool) → i < length (integers bs)
    → b ≡ is_nonzero (pos (get_or bs i 0))
    → truth b ≡ leaf_value Truths (at (column Truths (integers bs)) i)
truth_shown bs i b l e =
    ap truth e ∙ twice (is_nonzero (pos (get_or bs i 0)))
    ∙ ap (λ z. leaf_value Truths (element Truths z))
    (sym (get_or-map pos bs i 0 (pos 0) (byte_in bs i l)))
