-- What the recursion over levels needs of its tests.
use Rattle.std.proofs.Common.{◌≡◌, ℕ, ◌<◌, ◌≤◌, Bool, false, ◌&&◌, refl, subst, sym}
use Rattle.std.proofs.Common.{◌∙◌}
use Rattle.std.specs.Prelude.{List, map, length}
use Rattle.std.specs.List.{range_with_len, list_any, flat_map}
use Rattle.std.proofs.lemmas.List.{length-map}
use Rattle.awk_types.specs.DataType.{DataType}
use Rattle.awk_types.specs.ItemLimit.{item_limit}
use Rattle.awk_layout.specs.Layout.{Layout}
use Rattle.awk_layout.specs.Typing.{array_type}
use Rattle.awk_pair_operands.specs.Paired.{Reach, to_leaves, to_depth, is_to_leaves, takes_nulls}
use Rattle.awk_pair_sides.proofs.RangeLaws.{length-range}
use Rattle.awk_pair_sides.specs.Levels.{some_option}
use Rattle.awk_pair_sides.specs.Rows.{row_at, rows_at}
use Rattle.awk_pair_sides.specs.Sides.{differ, inner_rows}

-- where there is no level, only leaves are without nulls
pub bare_end : (r : Reach) (d : ℕ) (ts : List DataType)
    → takes_nulls r d ts && some_option ts ≡ false → is_to_leaves r && some_option ts ≡ false
bare_end to_leaves d ts h = h
bare_end to_depth d ts h = refl

pub length-rows_at : (xs : List Layout) (n : ℕ) → length (rows_at xs n) ≡ n
length-rows_at xs n = length-map (range_with_len 0 n) (row_at xs) ∙ length-range 0 n

pub rows_few : (xs : List Layout) (n : ℕ) → n ≤ item_limit → length (rows_at xs n) ≤ item_limit
rows_few xs n h = subst (λ k. k ≤ item_limit) (sym (length-rows_at xs n)) h

-- there are too many rows below
pub large_of : (keep : Bool) (n : ℕ) (xs : List Layout)
    → (list_any (differ keep (map array_type xs)) (rows_at xs n) ≡ false)
    × (item_limit < length (flat_map (inner_rows keep (map array_type xs)) (rows_at xs n)))
    → item_limit < length (flat_map (inner_rows keep (map array_type xs)) (rows_at xs n))
large_of keep n xs h = h.1
