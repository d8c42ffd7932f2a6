-- Places in groups of eight bytes, while a lane of them is made.
use Rattle.std.specs.Prelude.{◌≡◌, refl, ℕ, ◌*◌, ◌/◌, ◌<◌, ◌^◌, List, [], ◌∷◌, ◌++◌, length, map}
use Rattle.std.specs.Prelude.{pos}
use Rattle.std.specs.Int.{cast_unsigned, w64}
use Rattle.std.specs.List.{flat_map}
use Rattle.std.proofs.Common.{arith, ap, sym, ◌∙◌}
use Rattle.std.proofs.lemmas.Int.{ints}
use Rattle.std.proofs.lemmas.List.{map-append}
use Rattle.awk_lanes.specs.declared.kind.Kind.TheVariants.{I64}
use Rattle.awk_lanes.specs.Column.{Column}
use Rattle.awk_lanes.specs.Numbers.{number, numbers, nat_of}
use Rattle.awk_lanes.specs.Ranges.{IsNumber}
use Rattle.awk_lanes.specs.Words.{column, integers, low_bytes}
use Rattle.awk_lanes.proofs.IndexLaws.{groups-more, items-more, joined}
use Rattle.awk_lanes.proofs.WordLaws.{number_low}
use Rattle.awk_places.specs.Groups.{place_in, AreGroups}

place_number : (k : ℕ) → k < 2 ^ 63 → IsNumber I64 (pos k)
place_number k h = (omega (arith, ints), omega (arith, ints, h))

-- one place more
pub places-more : (gs new : List (List ℕ)) (b : List ℕ) (k : ℕ) → k < 2 ^ 63
    → b ≡ low_bytes 8 (cast_unsigned w64 (pos k)) → new ≡ gs ++ b ∷ []
    → map place_in new ≡ map place_in gs ++ k ∷ []
places-more gs new b k n e p =
    ap (map place_in) p ∙ map-append place_in gs (b ∷ [])
    ∙ ap (λ z. map place_in gs ++ nat_of z ∷ [])
    (ap (number I64) e ∙ number_low I64 (pos k) (place_number k n))

pub groups_put : (gs new : List (List ℕ)) (b : List ℕ) (k : ℕ) → k < 2 ^ 63
    → b ≡ low_bytes 8 (cast_unsigned w64 (pos k)) → new ≡ gs ++ b ∷ [] → AreGroups gs
    → AreGroups new
groups_put gs new b k n e p h =
    let g = groups-more gs new b (pos k) (place_number k n) e p (h.0, h.1) in (
      g.0,
      g.1,
      ap integers (places-more gs new b k n e p)
          ∙ map-append (λ (j : ℕ). pos j) (map place_in gs) (k ∷ [])
          ∙ ap (λ zs. zs ++ pos k ∷ []) h.2
          ∙ sym (ap (map (number I64)) p ∙ items-more gs b (pos k) (place_number k n) e),
    )

-- the lane of the places, whose bytes stand one after another
pub places-joined : (gs : List (List ℕ)) (flat : List ℕ) (ks : List ℕ) (r : Column)
    → map place_in gs ≡ ks → AreGroups gs → flat ≡ flat_map (λ b. b) gs
    → length flat ≡ length gs * 8 → r.kind ≡ I64
    → r.items ≡ numbers I64 (length flat / 8) flat → r ≡ column I64 (integers ks)
places-joined gs flat ks r v h f n k e =
    joined gs 0 flat (record { kind = I64; room = 0; items = map (number I64) gs }) r refl
    (h.0, h.1) f n k e
    ∙ ap (column I64) (sym h.2 ∙ ap integers v)
