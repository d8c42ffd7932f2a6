-- Histograms as rows of a layout.
use Rattle.std.specs.Prelude.{◌≡◌, ℕ, ◌*◌, ◌<◌, ◌^◌, List, [], ◌∷◌, Some}
use Rattle.awk_lanes.specs.Column.{Column}
use Rattle.awk_lanes.specs.Counted.{offsets_by}
use Rattle.awk_lanes.specs.Places.{size_of}
use Rattle.awk_layout.specs.Layout.{Layout, flat, offset_lists, rows, layouts_from}
use Rattle.awk_bins.specs.declared.bins.Binned.{Binned}
use Rattle.awk_hist.specs.Bins.{bin_names}

-- the fields of n rows, each with k counts, one below the first edge, one from the last on, and
-- nulls
abbrev pub bins_fields : ℕ → ℕ → Binned → Column → List Layout
bins_fields n k b nulls =
    offset_lists (offsets_by (λ i. k) n) (flat b.counts)
    ∷ flat b.under ∷ flat b.over ∷ flat nulls ∷ []

abbrev pub bins_layout : ℕ → ℕ → Binned → Column → Layout
bins_layout n k b nulls = rows (Some bin_names) n (layouts_from (bins_fields n k b nulls))

-- lanes for n rows
pub record AreOfSizes (b : Binned) (q : Column) (n k : ℕ) : Type 0 where
  pub counts : size_of b.counts ≡ n * k
  pub under : size_of b.under ≡ n
  pub over : size_of b.over ≡ n
  pub nulls : size_of q ≡ n
  pub few : n * k < 2 ^ 63
  pub fits : n < 2 ^ 63
