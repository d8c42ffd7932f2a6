-- The text of a lane's number.
use Rattle.std.proofs.Common.{◌≡◌, ℕ, ◌+◌, ◌-◌, ◌<◌, ◌≤◌, ◌==◌, ◌++◌, length, true, false, ap, sym}
use Rattle.std.proofs.Common.{◌∙◌, refl, arith}
use Rattle.awk_lanes.specs.declared.kind.Kind.{Kind}
use Rattle.awk_lanes.specs.declared.kind.Kind.TheVariants.{Bool as Truths, I8, I16, I32, I64, U8}
use Rattle.awk_lanes.specs.declared.kind.Kind.TheVariants.{U16, U32, U64}
use Rattle.awk_lanes.specs.declared.kind.Num.{Num}
use Rattle.awk_lanes.specs.declared.kind.Num.TheVariants.{Int, Nat, Truth}
use Rattle.awk_lanes.specs.Column.{Column}
use Rattle.awk_lanes.specs.Numbers.{int_of, IsOf}
use Rattle.awk_lanes.specs.Places.{at}
use Rattle.awk_layout.specs.Item.{leaf_value}
use Rattle.awk_layout.specs.Layout.{flat}
use Rattle.awk_layout.specs.Shown.{value_of_num}
use Rattle.awk_json.specs.Text.{comma_before}
use Rattle.awk_text.specs.ValueText.{leaf_text}
use Rattle.awk_text.specs.LayoutText.{layout_text}
use Rattle.awk_text.proofs.Lengths.{leaf_some}
use Rattle.awk_text.proofs.Runs.{pieces, pieces_more}

number_value : (k : Kind) (n : Num) → IsOf k n → leaf_value k (int_of n) ≡ value_of_num n
number_value Truths (Truth true) h = refl
number_value Truths (Truth false) h = refl
number_value I8 (Int z) h = refl
number_value I16 (Int z) h = refl
number_value I32 (Int z) h = refl
number_value I64 (Int z) h = refl
number_value U8 (Nat n) h = refl
number_value U16 (Nat n) h = refl
number_value U32 (Nat n) h = refl
number_value U64 (Nat n) h = refl
number_value k n h = absurd h

pub number_text : (c : Column) (j : ℕ) (n : Num) → IsOf c.kind n → int_of n ≡ at c j
    → layout_text (flat c) j ≡ leaf_text (value_of_num n)
number_text c j n h e =
    ap (λ z. leaf_text (leaf_value c.kind z)) (sym e) ∙ ap leaf_text (number_value c.kind n h)

-- a run of a lane's numbers begins with the number before the rest of it
pub number_run : (c : Column) (first k stop : ℕ) (n : Num) → 0 < k → k ≤ stop → IsOf c.kind n
    → int_of n ≡ at c (k - 1)
    → pieces (layout_text (flat c)) first (k - 1) stop
    ≡ comma_before (k - 1 == first)
    ++ (leaf_text (value_of_num n) ++ pieces (layout_text (flat c)) first k stop)
number_run c first k stop n some within h e =
    let next : k - 1 + 1 ≡ k = omega arith in
    pieces_more (layout_text (flat c)) first (k - 1) stop (omega arith)
    ∙ ap
    (λ text. comma_before (k - 1 == first)
    ++ (text ++ pieces (layout_text (flat c)) first (k - 1 + 1) stop))
    (number_text c (k - 1) n h e)
    ∙ ap
    (λ j. comma_before (k - 1 == first)
    ++ (leaf_text (value_of_num n) ++ pieces (layout_text (flat c)) first j stop)) next

-- no text of a lane's number is empty
pub number_some : (c : Column) (k : ℕ) → 0 < length (layout_text (flat c) k)
number_some c k = leaf_some (leaf_value c.kind (at c k))
