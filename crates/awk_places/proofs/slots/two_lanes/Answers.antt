use Rattle.std.proofs.Common.{◌≡◌, ◌+◌, ◌-◌, List, ℕ, map, ap, sym, ◌∙◌, arith}
use Rattle.std.specs.List.{range_with_len}
use Rattle.std.proofs.lemmas.List.Folds.{flat_map-map}
use Rattle.awk_lanes.specs.Places.{size_of}
use Rattle.awk_lanes.specs.Words.{column, integers}
use Rattle.awk_lanes.specs.declared.kind.Kind.TheVariants.{I64}
use Rattle.awk_places.specs.Begun.{first_begun, pair_firsts, pair_seconds}
use Rattle.awk_places.proofs.SlotLaws.{all_first, two_more}
use Rattle.awk_places.proofs.slots.two_lanes.Goals as goal

pub returns : goal.returns
returns g c =
    let rep = c.args.rising.replacement in
    let n = c.args.rising.slots in
    let s = c.args.firsts.now in
    let e = c.args.ends.now in
    let l : n ≡ 0 + 2 = omega (arith, c.requires.two) in
    let is : List ℕ = range_with_len 0 (size_of s) in
    two_more rep n 0 s e (map (first_begun s e) is) c.new-lanes.result c.push.new.self
    c.push-2.new.self c.in_ok-made.made.first c.in_ok-made.made.second c.requires.places l
    (all_first rep (n - 0) s e) c.new-lanes.ensures
    (c.in_ok-made.ensures.first ∙ ap (λ ks. column I64 (integers ks))
    (sym (flat_map-map (pair_firsts rep) (first_begun s e) is))) c.in_ok-push.ensures.ok
    (c.in_ok-made.ensures.second ∙ ap (λ ks. column I64 (integers ks))
    (sym (flat_map-map (pair_seconds rep) (first_begun s e) is))) c.in_ok-push-2.ensures.ok
