-- Parts from a start below a stop, and the groups of bytes that these are.
use Rattle.std.proofs.Common.{◌≡◌, ℕ, ◌+◌, ◌<◌, List, [], ◌∷◌, length, map}
use Rattle.std.proofs.Common.{get_or, refl, ap, sym, ◌∙◌, arith}
use Rattle.std.specs.Prelude.{ℤ, pos}
use Rattle.std.specs.List.{slice_range, range_with_len}
use Rattle.std.proofs.lemmas.List.{length-map, get_or-map}
use Rattle.std.proofs.lemmas.List.Edits.{get_or-between}
use Rattle.std.proofs.lemmas.List.FromFn.{fill_by_all}
use Rattle.awk_lanes.specs.Column.{Column}
use Rattle.awk_lanes.specs.Numbers.{number}
use Rattle.awk_lanes.specs.Places.{size_of, at, IsIndexKind}
use Rattle.awk_lanes.specs.declared.kind.Kind.TheVariants.{I64}
use Rattle.awk_lanes.proofs.PlaceLaws.{at-index}
use Rattle.awk_parts.specs.Lanes.{mask_byte, some_place}
use Rattle.awk_parts.specs.Spans.{end_at}

-- the numbers of a lane of offsets, each as an i64
pub offsets_wide : (c : Column) → IsIndexKind c.kind
    → map (at c) (range_with_len 0 (size_of c)) ≡ c.items
offsets_wide c h =
    sym (fill_by_all (at c) c.items (size_of c) (pos 0) refl (λ j l. sym (at-index c j h)))

pub some_there : (zs : List ℤ) → (length zs ≡ 0 → ⊥) → mask_byte (some_place zs) ≡ pos 1
some_there [] h = absurd (h refl)
some_there (z ∷ zs) h = refl

-- ---- the groups of a lane of offsets

module _ (c : Column) (gs : List (List ℕ)) (kind : IsIndexKind c.kind)
    (same : map (number I64) gs ≡ c.items) where
  pub ends-count : length gs ≡ size_of c
  ends-count = sym (length-map gs (number I64)) ∙ ap length same

  pub ends-at : (i : ℕ) → i < size_of c → end_at gs i ≡ at c i
  ends-at i l =
      sym (get_or-map (number I64) gs i [] (pos 0) (omega (arith, l, ends-count)))
      ∙ ap (λ zs. get_or zs i (pos 0)) same ∙ sym (at-index c i kind)

  -- of n parts between offsets
  pub starts-between : (n i : ℕ) → size_of c ≡ n + 1 → i < n
      → end_at (slice_range gs 0 n) i ≡ at c i
  starts-between n i e l =
      let k : 0 + i < n = omega (arith, l) in
      let z : 0 + i ≡ i = omega arith in
      ap (number I64) (get_or-between gs 0 n i [] k) ∙ ap (end_at gs) z
      ∙ ends-at i (omega (arith, e, l))

  pub stops-between : (n i : ℕ) → size_of c ≡ n + 1 → i < n
      → end_at (slice_range gs 1 (n + 1)) i ≡ at c (i + 1)
  stops-between n i e l =
      let k : 1 + i < n + 1 = omega (arith, l) in
      let z : 1 + i ≡ i + 1 = omega arith in
      ap (number I64) (get_or-between gs 1 (n + 1) i [] k) ∙ ap (end_at gs) z
      ∙ ends-at (i + 1) (omega (arith, e, l))

-- ---- the extreme of a part
