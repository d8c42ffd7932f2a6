-- Masks of bytes over numbers, opened.
use Rattle.std.proofs.Common.{◌≡◌, refl, subst, sym, ap, ◌∙◌}
use Rattle.std.specs.Prelude.{Bool}
use Rattle.awk_lanes.specs.Column.{Column}
use Rattle.awk_lanes.specs.Made.{lane_of}
use Rattle.awk_lanes.specs.Places.{size_of}
use Rattle.awk_lanes.specs.declared.kind.Kind.TheVariants.{I64}
use Rattle.awk_layout.specs.Layout.{Layout, flat, byte_masked}
use Rattle.awk_layout.specs.Valid.{len, IsValid}
use Rattle.awk_gather.specs.Peeled.{byte_index}
use Rattle.awk_gather.proofs.PeeledNodes.{peel_bare}
use Rattle.awk_open.specs.Opened.{IsOpened}
use Rattle.awk_open.specs.declared.opening.Opened.TheVariants.{Option as Optional}
use Rattle.awk_open.proofs.FirstIndexes.{all_of, masked_index, masked_peeled}
use Rattle.awk_open.proofs.OpenedArrays.{opened_option}
use Rattle.awk_pair_present.specs.Presence.{IsPresence}
use Rattle.awk_pair_present.specs.declared.presence.Presence.TheVariants.{Indexed}
use Rattle.awk_pair_present.proofs.PresenceLaws.{indexed_presence}

-- by the index that the mask stands for
pub masked_opened : (m c k : Column) (v : Bool) → IsValid (byte_masked m v (flat c))
    → k ≡ lane_of I64 (size_of m) (byte_index m v)
    → IsOpened (byte_masked m v (flat c)) (Optional k (flat c))
masked_opened m c k v h e =
    let x = byte_masked m v (flat c) in
    let j : Column = lane_of I64 (size_of m) (byte_index m v) in
    subst (λ (q : Column). IsOpened x (Optional q (flat c))) (sym e)
    (opened_option x (flat c) (flat c) (all_of x) j refl h.0
    (masked_peeled m v j x (flat c) (flat c) refl
    (peel_bare (flat c) j refl (masked_index m v x (flat c) refl h) tt))
    refl h.2 refl refl)

-- its items by those that are there
pub masked_presence : (x y z w : Layout) (m c k : Column) (v : Bool) → flat c ≡ z
    → byte_masked m v z ≡ w → w ≡ x → IsValid x → k ≡ lane_of I64 (size_of m) (byte_index m v)
    → y ≡ z → IsPresence (len x) x (Indexed k y)
masked_presence x y z w m c k v e f g h i a =
    let b : byte_masked m v (flat c) ≡ x = ap (byte_masked m v) e ∙ f ∙ g in
    subst (λ (q : Layout). IsPresence (len q) q (Indexed k y)) b
    (subst (λ (q : Layout). IsPresence (len (byte_masked m v (flat c)))
    (byte_masked m v (flat c)) (Indexed k q)) (e ∙ sym a)
    (indexed_presence (byte_masked m v (flat c)) k (flat c)
    (masked_opened m c k v (subst IsValid (sym b) h) i) refl))
