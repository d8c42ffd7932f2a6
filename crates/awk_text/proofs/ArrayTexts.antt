-- The texts of an array's items are those that its layout has.
use Rattle.std.proofs.Common.{◌≡◌, ℕ, ◌-◌, ◌<◌, length, map, ap, ◌∙◌, arith}
use Rattle.std.specs.List.{range_with_len}
use Rattle.awk_json.specs.Text.{list_text}
use Rattle.awk_types.specs.Value.{Value}
use Rattle.awk_types.specs.Simple.{simple_value}
use Rattle.awk_layout.specs.Layout.{Layout}
use Rattle.awk_layout.specs.Valid.{len, IsValid}
use Rattle.awk_layout.specs.Numbered.{IsNumbered}
use Rattle.awk_layout.specs.Item.{item, items}
use Rattle.awk_layout.specs.Typing.{layout_type, array_type}
use Rattle.awk_form.specs.FormText.{Text}
use Rattle.awk_text.specs.ValueText.{value_text}
use Rattle.awk_text.specs.ArrayText.{item_text, array_text}
use Rattle.awk_text.specs.LayoutText.{layout_text, span_text}
use Rattle.awk_layout.proofs.TypedItems.{item_has}
use Rattle.awk_text.proofs.Lengths.{text_some}
use Rattle.std.proofs.lemmas.Simd.{map-map}
use Rattle.awk_base.proofs.Ranges.{map-same}
use Rattle.awk_text.proofs.SimpleTexts.{simple_text}

pub item_text-layout : (x : Layout) (i : ℕ) → IsValid x → IsNumbered x → i < len x
    → item_text x i ≡ layout_text x i
item_text-layout x i v w p = simple_text (layout_type x) (item x i) (item_has x i v w p)

pub array_text-span : (x : Layout) → IsValid x → IsNumbered x → array_text x ≡ span_text x 0 (len x)
array_text-span x v w =
    let shown : Value → Text = value_text (array_type x) in
    let carried : Value → Value = simple_value (layout_type x) in
    let all : ℕ = len x - 0 in
    let e : len x ≡ all = omega arith in
    ap list_text
    (map-map shown carried (items x) ∙ map-map (λ v. shown (carried v)) (item x)
    (range_with_len 0 (len x)) ∙ ap (λ n. map (item_text x) (range_with_len 0 n)) e
    ∙ map-same (item_text x) (layout_text x) 0 all
    (λ k p q. item_text-layout x k v w (omega arith)))

-- an item's text is not empty
pub item_some : (x : Layout) (i : ℕ) → IsValid x → IsNumbered x → i < len x
    → 0 < length (layout_text x i)
item_some x i v w p = text_some (layout_type x) (item x i) (item_has x i v w p)
