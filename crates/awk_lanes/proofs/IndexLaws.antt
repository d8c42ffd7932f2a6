-- Lanes of places that are made, in groups of as many bytes as each takes.
use Rattle.std.specs.Prelude.{◌≡◌, ℕ, suc, zero, ◌*◌, ◌/◌, List, [], ◌∷◌, ◌++◌}
use Rattle.std.specs.Prelude.{length, map, ℤ}
use Rattle.std.specs.List.{flat_map}
use Rattle.std.specs.Int.{cast_unsigned, w64}
use Rattle.std.proofs.Common.{arith, ap, ap₂, sym, ◌∙◌, subst}
use Rattle.std.proofs.lemmas.List.{length-map, map-append}
use Rattle.awk_lanes.specs.declared.kind.Kind.{Kind}
use Rattle.awk_lanes.specs.declared.kind.Kind.TheVariants.{I64}
use Rattle.awk_lanes.specs.Column.{Column}
use Rattle.awk_lanes.specs.Numbers.{width, number, numbers}
use Rattle.awk_lanes.specs.Making.{Making}
use Rattle.awk_lanes.specs.Ranges.{IsNumber, AreNumbers}
use Rattle.awk_lanes.specs.Words.{column, low_bytes}
use Rattle.awk_lanes.proofs.RangeLaws.{zero_number}
use Rattle.awk_lanes.proofs.WordLaws.{flat_map-map, number_low, numbers-low}
use Rattle.awk_lanes.specs.Groups.{groups_by}

abbrev AreGroups : Kind → List (List ℕ) → Type 0
AreGroups k gs =
    (gs ≡ groups_by (width k) (map (number k) gs)) × AreNumbers (column k (map (number k) gs))

are-more : (k : Kind) (zs : List ℤ) (z : ℤ) → AreNumbers (column k zs) → IsNumber k z
    → AreNumbers (column k (zs ++ z ∷ []))
are-more k [] z h n zero = n
are-more k [] z h n (suc i) = zero_number k
are-more k (x ∷ zs) z h n zero = h 0
are-more k (x ∷ zs) z h n (suc i) = are-more k zs z (λ j. h (suc j)) n i

kind_items-more : (k : Kind) (gs : List (List ℕ)) (b : List ℕ) (z : ℤ) → IsNumber k z
    → b ≡ low_bytes (width k) (cast_unsigned w64 z)
    → map (number k) (gs ++ b ∷ []) ≡ map (number k) gs ++ z ∷ []
kind_items-more k gs b z n e =
    map-append (number k) gs (b ∷ [])
    ∙ ap (λ u. map (number k) gs ++ u ∷ []) (ap (number k) e ∙ number_low k z n)

pub items-more : (gs : List (List ℕ)) (b : List ℕ) (z : ℤ) → IsNumber I64 z
    → b ≡ low_bytes 8 (cast_unsigned w64 z)
    → map (number I64) (gs ++ b ∷ []) ≡ map (number I64) gs ++ z ∷ []
items-more = kind_items-more I64

-- one more number of a kind
pub kind_groups-more : (k : Kind) (gs new : List (List ℕ)) (b : List ℕ) (z : ℤ) → IsNumber k z
    → b ≡ low_bytes (width k) (cast_unsigned w64 z) → new ≡ gs ++ b ∷ [] → AreGroups k gs
    → AreGroups k new
kind_groups-more k gs new b z n e p h =
    let items : map (number k) new ≡ map (number k) gs ++ z ∷ [] =
    ap (map (number k)) p ∙ kind_items-more k gs b z n e in (
      p ∙ ap₂ (λ hs c. hs ++ c ∷ []) h.0 e
          ∙ sym (ap (groups_by (width k)) items
          ∙ map-append (λ z. low_bytes (width k) (cast_unsigned w64 z)) (map (number k) gs)
          (z ∷ [])),
      subst (λ zs. AreNumbers (column k zs)) (sym items)
          (are-more k (map (number k) gs) z h.1 n),
    )

pub groups-more : (gs new : List (List ℕ)) (b : List ℕ) (z : ℤ) → IsNumber I64 z
    → b ≡ low_bytes 8 (cast_unsigned w64 z) → new ≡ gs ++ b ∷ [] → AreGroups I64 gs
    → AreGroups I64 new
groups-more = kind_groups-more I64

-- the lane of the numbers, whose bytes stand one after another
pub kind_joined : (k : Kind) (gs : List (List ℕ)) (room : ℕ) (flat : List ℕ) (m : Making)
    (r : Column) → record { kind = k; room = room; items = map (number k) gs } ≡ m
    → AreGroups k gs → flat ≡ flat_map (λ b. b) gs → length flat / width k ≡ length gs
    → r.kind ≡ k → r.items ≡ numbers k (length flat / width k) flat
    → r ≡ record { kind = k; items = m.items }
kind_joined k gs room flat m r v h f n q e =
    let zs : List ℤ = map (number k) gs in
    let count : length flat / width k ≡ length zs = n ∙ sym (length-map gs (number k)) in
    let items : numbers k (length flat / width k) flat ≡ zs =
    ap (λ j. numbers k j flat) count
    ∙ ap (numbers k (length zs)) (f ∙ ap (λ (hs : List (List ℕ)). flat_map (λ b. b) hs) h.0
    ∙ flat_map-map (λ z. low_bytes (width k) (cast_unsigned w64 z)) zs)
    ∙ numbers-low k zs h.1 in
    ap₂ (λ j us. record { kind = j; items = us }) q
    (e ∙ items ∙ ap (λ (w : Making). w.items) v)

pub joined : (gs : List (List ℕ)) (room : ℕ) (flat : List ℕ) (m : Making) (r : Column)
    → record { kind = I64; room = room; items = map (number I64) gs } ≡ m → AreGroups I64 gs
    → flat ≡ flat_map (λ b. b) gs → length flat ≡ length gs * 8 → r.kind ≡ I64
    → r.items ≡ numbers I64 (length flat / 8) flat → r ≡ record { kind = I64; items = m.items }
joined gs room flat m r v h f n q e =
    kind_joined I64 gs room flat m r v h f (omega (arith, n)) q e
