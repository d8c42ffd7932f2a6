-- How many numbers have so many edges that are no greater than they.
use Rattle.std.specs.Prelude.{ℕ, ◌+◌, ◌==◌, ℤ, int_le, List, length, map}
use Rattle.std.specs.List.{count_by, range_with_len}

-- how many edges are no greater than a number
abbrev pub edges_up_to : List ℤ → ℤ → ℕ
edges_up_to es z = count_by (λ e. int_le e z) es

-- how many numbers have j of them
abbrev pub tally : List ℤ → List ℤ → ℕ → ℕ
tally es zs j = count_by (λ z. edges_up_to es z == j) zs

-- for none of the edges, for one, and so on up to all
abbrev pub tallies : List ℤ → List ℤ → List ℕ
tallies es zs = map (tally es zs) (range_with_len 0 (length es + 1))
