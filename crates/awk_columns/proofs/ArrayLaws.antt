-- Items of arrays by place, and runs of them.
use Rattle.std.specs.Prelude.{◌≡◌, ℕ, suc, zero, ◌<◌, refl, ◌∷◌, map, ℤ, pos, negsuc, ◌<ℤ◌}
use Rattle.std.proofs.Common.{arith, ap, sym, ◌∙◌, ◌+◌, ◌-◌}
use Rattle.std.proofs.lemmas.Int.{ints}
use Rattle.std.proofs.lemmas.Simd.{map-map}
use Rattle.std.specs.List.{range_with_len}
use Rattle.awk_types.specs.Value.{Value, null, list, value_list, values_from}
use Rattle.awk_types.specs.Simple.{simple_value, in_list, in_option}
use Rattle.awk_types.proofs.Trees.{values_from-list}
use Rattle.awk_types.proofs.NullLaws.{in_option-same}
use Rattle.awk_lanes.specs.Places.{option_place, place_at}
use Rattle.awk_lanes.specs.Column.{Column}
use Rattle.awk_layout.specs.Layout.{Layout, offset_lists}
use Rattle.awk_layout.specs.Valid.{len}
use Rattle.awk_layout.specs.Item.{item, run, at_option}
use Rattle.awk_layout.specs.Typing.{layout_type, array_items}
use Rattle.awk_gather.specs.Arrays.{array_item}

pub array_items-at : (x : Layout) → array_items x ≡ map (array_item x) (range_with_len 0 (len x))
array_items-at x = map-map (simple_value (layout_type x)) (item x) (range_with_len 0 (len x))

-- ---- runs

pub run_map : (f : Value → Value) (h : ℕ → Value) (a n : ℕ)
    → map f (value_list (run h a n)) ≡ value_list (run (λ k. f (h k)) a n)
run_map f h a zero = refl
run_map f h a (suc n) = ap (λ vs. f (h a) ∷ vs) (run_map f h (suc a) n)

pub run_in_list : (f : Value → Value) (h : ℕ → Value) (a n : ℕ)
    → in_list f (list (run h a n)) ≡ list (run (λ k. f (h k)) a n)
run_in_list f h a n = ap (λ vs. list (values_from vs)) (run_map f h a n)
    ∙ ap list (values_from-list (run (λ k. f (h k)) a n))

-- ---- options

pub option_item : (z : ℤ) (n : ℕ) → z <ℤ pos n
    → (sy : Value → Value) (it : ℕ → Value) (su g : Value → Value) (ac : ℕ → Value) → sy null ≡ null
    → su null ≡ null → g null ≡ null → ((k : ℕ) → k < n → sy (it k) ≡ su (g (ac k)))
    → in_option sy (at_option (option_place z) it) ≡ in_option su
    (in_option g (at_option (option_place z) ac))
option_item (pos k) n p sy it su g ac ny nu ng e =
    in_option-same sy ny (it k) ∙ e k (omega (arith, ints, p))
    ∙ sym (in_option-same su nu (in_option g (ac k)) ∙ ap su (in_option-same g ng (ac k)))
option_item (negsuc k) n p sy it su g ac ny nu ng e = refl

pub item-offset_lists : (o : Column) (x : Layout) (i : ℕ)
    → array_item (offset_lists o x) i ≡ list (run (array_item x) (place_at o i)
    (place_at o (i + 1) - place_at o i))
item-offset_lists o x i =
    run_in_list (simple_value (layout_type x)) (item x) (place_at o i)
    (place_at o (i + 1) - place_at o i)
