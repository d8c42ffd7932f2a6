-- The rows of arrays that have no null.
use Rattle.std.specs.Prelude.{◌≡◌, ℕ, ◌≤◌, false, List, map, filter}
use Rattle.awk_types.specs.Simple.{present}
use Rattle.awk_lanes.specs.Column.{Column}
use Rattle.awk_lanes.specs.declared.kind.Kind.TheVariants.{I64}
use Rattle.awk_layout.specs.Layout.{Layout}
use Rattle.awk_layout.specs.Typing.{array_type}
use Rattle.awk_open.specs.Opened.{AreLong}
use Rattle.awk_open.specs.declared.opening.Opened.{Opened}
use Rattle.awk_open.specs.declared.opening.Opened.TheVariants.{Option as Optional}
use Rattle.awk_pair_sides.specs.Levels.{some_option}
use Rattle.awk_pair_sides.specs.Rows.{rows_at, flags_index}
use Rattle.awk_pair_sides.specs.Sides.{is_whole}
use Rattle.awk_pair_present.specs.declared.numbers.OrderedOption.{OrderedOption}
use Rattle.awk_pair_present.specs.declared.present.PresentRows.{PresentRows}

-- the outermost kind that it is
abbrev pub opened_option : OrderedOption → Opened
opened_option r = Optional r.index r.content

-- ys are the rows of xs that have no null, with an index that counts these
pub record ArePresent (n : ℕ) (xs : List Layout) (j : Column) (m : ℕ) (ys : List Layout)
    : Type 0 where
  pub index : j ≡ record { kind = I64; items = flags_index 0 (map is_whole (rows_at xs n)) }
  pub few : m ≤ n
  pub types : map array_type ys ≡ map present (map array_type xs)
  pub bare : some_option (map array_type ys) ≡ false
  pub long : AreLong m ys
  pub rows : rows_at ys m ≡ filter is_whole (rows_at xs n)

abbrev pub IsPresentRows : ℕ → List Layout → PresentRows → Type 0
IsPresentRows n xs p = ArePresent n xs p.index p.count p.arrays
