-- Numbers in groups of eight bytes, of which some are kept.
use Rattle.std.specs.Prelude.{◌≡◌, refl, ℕ, List, ◌++◌, length, Bool, true, false, ℤ}
use Rattle.std.specs.Prelude.{if◌then◌else◌}
use Rattle.std.specs.Int.{cast_unsigned, w64}
use Rattle.std.proofs.Common.{sym, ◌∙◌, subst}
use Rattle.std.proofs.lemmas.List.{append-nil}
use Rattle.awk_lanes.specs.declared.kind.Kind.TheVariants.{I64}
use Rattle.awk_lanes.specs.Ranges.{IsNumber}
use Rattle.awk_lanes.specs.Words.{low_bytes}
use Rattle.awk_lanes.proofs.IndexLaws.{groups-more}
use Rattle.awk_select.specs.Kept.{AreGroups, kept}

pub groups_put : (keep : Bool) (gs new : List (List ℕ)) (b : List ℕ) (z : ℤ) → IsNumber I64 z
    → b ≡ low_bytes 8 (cast_unsigned w64 z) → new ≡ gs ++ kept keep b → AreGroups gs
    → AreGroups new
groups_put true gs new b z n e p h = groups-more gs new b z n e p h
groups_put false gs new b z n e p h = subst AreGroups (sym (p ∙ append-nil gs)) h

pub length-kept : (keep : Bool) (z : ℤ) → length (kept keep z) ≡ if keep then 1 else 0
length-kept true z = refl
length-kept false z = refl
