-- What is packed has a lane for each buffer of its form.
use Rattle.std.proofs.Common.{◌≡◌, Bool, true, false, List, Result, Ok, Err, subst}
use Rattle.std.specs.Prelude.{if◌then◌else◌}
use Rattle.awk_types.specs.DataType.{DataType}
use Rattle.awk_types.specs.Value.{Value}
use Rattle.awk_pack.specs.Canon.{Pack, is_too_large, packed, canon}
use Rattle.awk_pack.specs.declared.packed.PackFault.{PackFault}
use Rattle.awk_pack.specs.declared.packed.PackFault.TheVariants.{Size}
use Rattle.awk_text.specs.PackedText.{HasLanes}
use Rattle.awk_readback.proofs.BufferParts.{as-many}

has_lanes : (t : DataType) (vs : List Value) (p : Pack) (large : Bool)
    → ◌≡◌ {A = Result Pack PackFault} (if large then Err Size else Ok (packed t vs)) (Ok p)
    → HasLanes p
has_lanes t vs p true e = absurd (cc)
has_lanes t vs p false e = let same : packed t vs ≡ p = cc in subst HasLanes same (as-many 0 t vs)

pub HasLanes-canon : (t : DataType) (vs : List Value) (p : Pack) → canon t vs ≡ Ok p → HasLanes p
HasLanes-canon t vs p e = has_lanes t vs p (is_too_large t vs) e
