-- The groups and the marks, one after another.
use Rattle.std.proofs.Common.{◌≡◌, ◌∙◌, ◌*◌, ℕ, List, length, ap}
use Rattle.std.specs.Prelude.{ℤ}
use Rattle.std.proofs.lemmas.List.FromFn.{length-map-range_with_len}
use Rattle.std.specs.Int.{cast_unsigned, w64}
use Rattle.std.specs.List.{flat_map, range_with_len}
use Rattle.awk_lanes.specs.Words.{low_bytes, low_groups, low_row}
use Rattle.awk_lanes.proofs.WordLaws.{flat_map-map}
use Rattle.awk_lanes.proofs.marked.marked_bytes.Goals as goal

flat_row : (w n : ℕ) (f : ℕ → ℤ) (gs : List (List ℕ)) (bytes : List ℕ)
    → bytes ≡ flat_map (λ b. b) gs → gs ≡ low_groups w n f → bytes ≡ low_row w n f
flat_row w n f gs bytes e d =
    e ∙ ap (λ (hs : List (List ℕ)). flat_map (λ b. b) hs) d ∙ flat_map-map _ (range_with_len 0 n)

row_length : (w n : ℕ) (f : ℕ → ℤ) (gs : List (List ℕ)) (m : ℕ)
    → m ≡ length gs * w → gs ≡ low_groups w n f → m ≡ n * w
row_length w n f gs m e d =
    e ∙ ap (λ k. k * w) (ap length d
    ∙ length-map-range_with_len (λ i. low_bytes w (cast_unsigned w64 (f i))) 0 n)

pub returns-clause-bytes : goal.returns-clause-bytes
returns-clause-bytes g c =
    flat_row g.row.W c.args.n (g.S.MarkedNumbers.at c.args.source.now) c.in_ok-groups.groups.now _
    c.as_flattened.ensures.value c.in_ok-groups.ensures.groups

pub returns-clause-size : goal.returns-clause-size
returns-clause-size g c =
    row_length g.row.W c.args.n (g.S.MarkedNumbers.at c.args.source.now) c.in_ok-groups.groups.now _
    c.as_flattened.ensures.len c.in_ok-groups.ensures.groups

pub returns-clause-marks : goal.returns-clause-marks
returns-clause-marks g c =
    flat_row 1 c.args.n (g.S.MarkedNumbers.mark c.args.source.now) c.in_ok-groups.marks.now _
    c.as_flattened-2.ensures.value c.in_ok-groups.ensures.marks

pub returns-clause-count : goal.returns-clause-count
returns-clause-count g c =
    row_length 1 c.args.n (g.S.MarkedNumbers.mark c.args.source.now) c.in_ok-groups.marks.now _
    c.as_flattened-2.ensures.len c.in_ok-groups.ensures.marks
