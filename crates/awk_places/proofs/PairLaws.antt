-- The last two places of tuples, after what is begun.
use Rattle.std.specs.Prelude.{◌≡◌, ℕ, ◌-◌, Bool, List, replicate}
use Rattle.std.specs.List.{flat_map}
use Rattle.std.proofs.Common.{ap₂, sym, ◌∙◌}
use Rattle.std.proofs.lemmas.List.Folds.{flat_map-map}
use Rattle.awk_places.specs.Begun.{reserved, again, places_of, pair_firsts, pair_seconds}
use Rattle.awk_places.specs.Places.{next_place, places_from}
use Rattle.awk_places.specs.declared.begun.Begun.{Begun}
use Rattle.awk_places.proofs.BegunLaws.{next_begun, last_place-next}
use Rattle.awk_places.proofs.FlatLaws.{flat-same}
use Rattle.awk_places.proofs.Paths.{one_place}

-- a place as often as one more may follow it
abbrev pub firsts_at : Bool → ℕ → ℕ → List ℕ
firsts_at rep stop k = replicate (stop - next_place rep k) k

-- the places that may follow a place
abbrev pub seconds_at : Bool → ℕ → ℕ → List ℕ
seconds_at rep stop k = places_from (next_place rep k) stop

abbrev pub pair_places : Bool → Begun → List ℕ
pair_places rep b = places_from b.least (b.stop - reserved rep 1)

pub pair_firsts-by : (rep : Bool) (b : Begun)
    → flat_map (firsts_at rep b.stop) (pair_places rep b) ≡ pair_firsts rep b
pair_firsts-by rep b =
    let ps : List ℕ = pair_places rep b in
    sym (flat_map-map (again rep 1) (next_begun rep b.stop) ps
    ∙ flat-same (λ k. again rep 1 (next_begun rep b.stop k)) (firsts_at rep b.stop)
    (λ k. ap₂ (λ n (j : ℕ). replicate n j) (one_place rep (b.stop - next_place rep k))
    (last_place-next rep k)) ps)

pub pair_seconds-by : (rep : Bool) (b : Begun)
    → flat_map (seconds_at rep b.stop) (pair_places rep b) ≡ pair_seconds rep b
pair_seconds-by rep b =
    sym (flat_map-map places_of (next_begun rep b.stop) (pair_places rep b))
