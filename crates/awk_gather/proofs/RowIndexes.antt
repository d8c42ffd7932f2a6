-- Places as an index over the rows of a record.
use Rattle.std.proofs.Common.{◌≡◌, ℕ, ◌<◌, ◌≤◌, arith, ap, ◌∙◌}
use Rattle.std.specs.Prelude.{pos}
use Rattle.std.proofs.lemmas.Bool.{le-ltb}
use Rattle.std.proofs.lemmas.List.{ext_get_or}
use Rattle.std.proofs.lemmas.List.FromFn.{length-map-range_with_len, get_or-map-range_with_len}
use Rattle.awk_lanes.specs.declared.kind.Kind.TheVariants.{U32, I64}
use Rattle.awk_lanes.specs.Column.{Column}
use Rattle.awk_lanes.specs.Places.{at, size_of}
use Rattle.awk_gather.specs.Arrays.{index_over}
use Rattle.awk_lanes.specs.Made.{lane_of}
use Rattle.awk_gather.proofs.GatheredArrays.{at-I64}

-- places below 2^32 as the same numbers in 32 bits
pub index_over-narrow : (n : ℕ) (p : Column) → p.kind ≡ I64 → n ≤ 4294967296
    → lane_of U32 (size_of p) (at p) ≡ index_over n p
index_over-narrow n p e h =
    rw (le-ltb 4294967296 n h) (ap (λ zs. record { kind = U32; items = zs })
    (ext_get_or (pos 0) _ _ (length-map-range_with_len (at p) 0 (size_of p)) (λ i l.
    let l' : i < size_of p = omega (arith, length-map-range_with_len (at p) 0 (size_of p)) in
    get_or-map-range_with_len (at p) 0 (size_of p) i i (pos 0) l' (omega arith) ∙ at-I64 p i e)))
