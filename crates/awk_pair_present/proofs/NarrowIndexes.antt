-- Indexes that count up, in 32 or 64 bits.
use Rattle.std.proofs.Common.{◌≡◌, ℕ, Bool, true, false, ap, sym, subst, ◌∙◌}
use Rattle.std.specs.Prelude.{List, nat_lt, if◌then◌else◌}
use Rattle.awk_types.specs.Value.{Value}
use Rattle.awk_lanes.specs.Column.{Column}
use Rattle.awk_lanes.specs.Places.{IsOptionKind}
use Rattle.awk_lanes.specs.declared.kind.Kind.TheVariants.{I32, I64}
use Rattle.awk_counts.specs.Narrow.{narrow_kind}
use Rattle.awk_frames.specs.Shape.{numbers_of}
use Rattle.awk_layout.specs.Layout.{Layout}
use Rattle.awk_open.specs.InOrder.{IsInOrder}
use Rattle.awk_open.specs.declared.opening.Opened.TheVariants.{Option as Optional}

option_if : (b : Bool) → IsOptionKind (if b then I32 else I64)
option_if true = tt
option_if false = tt

-- either kind is one of options
pub narrow_option : (n : ℕ) → IsOptionKind (narrow_kind n)
narrow_option n = option_if (nat_lt n 2147483648)

-- ---- the index of an option in order, which is of 64 bits

pub in_order_option : (vs : List Value) (j : Column) (y : Layout) → IsInOrder vs (Optional j y)
    → IsOptionKind j.kind
in_order_option vs j y h = subst (λ (k : Column). IsOptionKind k.kind) (sym h.0) tt

pub in_order_numbers : (vs : List Value) (j : Column) (y : Layout) → IsInOrder vs (Optional j y)
    → numbers_of j ≡ j
in_order_numbers vs j y h = ap numbers_of h.0 ∙ sym h.0
