-- Single lists.
use Rattle.std.specs.Prelude.{◌≡◌, ℕ, ◌-◌}
use Rattle.std.proofs.Common.{arith, ap, ap₂, sym, ◌∙◌}
use Rattle.awk_types.specs.Value.{value_list}
use Rattle.awk_layout.proofs.Runs.{value_list-run}
use Rattle.awk_layout.specs.Item.{run}
use Rattle.awk_layout.specs.Layout.{Layout}
use Rattle.awk_layout.specs.Valid.{len}
use Rattle.awk_gather.specs.Arrays.{array_item}
use Rattle.awk_columns.proofs.ArrayLaws.{array_items-at}
use Rattle.awk_columns.specs.Lists.{Listed}
use Rattle.awk_jagged_rows.specs.Alone.{IsBetween, IsWhole}

pub whole : (x : Layout) (n m : ℕ) (l : Listed) → n ≡ 0 → m ≡ len x → IsBetween x n m l
    → IsWhole x l
whole x n m l e f h = record {
  size = h.size;
  content = h.content;
  list = h.list
      ∙ ap₂ (λ a b. value_list (run (array_item x) a (b - a))) e f
      ∙ ap (λ b. value_list (run (array_item x) 0 b)) (less (len x))
      ∙ value_list-run (array_item x) 0 (len x) ∙ sym (array_items-at x);
}
  where
    less : (k : ℕ) → k - 0 ≡ k
    less k = omega arith
