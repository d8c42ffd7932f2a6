-- Buffers under distinct keys lie in a container: the one that has these and no others.
use Rattle.std.proofs.Common.{◌≡◌, ℕ, false, cond, List, [], ◌∷◌, Some, refl, ap, ◌∙◌}
use Rattle.std.specs.Map.{lookup}
use Rattle.std.specs.Option.{ok_or}
use Rattle.std.specs.Str.{bytes_eq}
use Rattle.std.proofs.lemmas.Bool.{or_parts}
use Rattle.awk_types.specs.DataType.{Name}
use Rattle.awk_types.specs.Names.{AreDistinct, is_among, same_name}
use Rattle.awk_types.proofs.NameLaws.{same_name-refl}
use Rattle.awk_lanes.specs.Column.{Column}
use Rattle.awk_store.specs.declared.fault.BufferWhy.TheVariants.{Absent}
use Rattle.awk_text.specs.Buffers.{lane_bytes, keyed_bytes}
use Rattle.awk_readback.specs.ReadBack.{HasBuffers, holding}

-- a further buffer with another key hides none of them
held-later : (n : Name) (bytes : List ℕ) (all : List (Name × List ℕ)) (ks : List Name)
    (cs : List Column) → is_among n ks ≡ false → HasBuffers (holding all) (keyed_bytes ks cs)
    → HasBuffers (holding ((n, bytes) ∷ all)) (keyed_bytes ks cs)
held-later n bytes all [] cs e h = tt
held-later n bytes all (k ∷ ks) [] e h = tt
held-later n bytes all (k ∷ ks) (x ∷ cs) e h =
    let apart = or_parts (same_name k n) (is_among n ks) e in (
      (
        refl,
        ap (λ b. ok_or (cond b (Some bytes) (lookup (bytes_eq k) all)) Absent) apart.0 ∙ h.0.1,
      ),
      held-later n bytes all ks cs apart.1 h.1,
    )

pub distinct-held : (ks : List Name) (cs : List Column) → AreDistinct ks
    → HasBuffers (holding (keyed_bytes ks cs)) (keyed_bytes ks cs)
distinct-held [] cs d = tt
distinct-held (k ∷ ks) [] d = tt
distinct-held (k ∷ ks) (x ∷ cs) d = (
  (
    refl,
    ap (λ b. ok_or (cond b (Some (lane_bytes x)) (lookup (bytes_eq k) (keyed_bytes ks cs))) Absent)
        (same_name-refl k),
  ),
  held-later k (lane_bytes x) (keyed_bytes ks cs) ks cs d.0 (distinct-held ks cs d.1),
)
