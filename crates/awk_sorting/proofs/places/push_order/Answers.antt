use Rattle.std.proofs.Common.{◌≡◌, ◌-◌, ◌++◌, ◌∙◌, ap, map, length, arith}
use Rattle.awk_sorting.specs.Cells.{keys_from, place_of}
use Rattle.awk_sorting.proofs.CellLaws.{order_told, keys_many}
use Rattle.awk_sorting.proofs.places.push_order.Goals as goal

pub push_places-requires-clause-room : goal.push_places-requires-clause-room
push_places-requires-clause-room g c =
    let r = c.args.ranks.now in
    let f = g.K.Number.number in
    let lane = g.R.Row.lane r.row.now in
    let index = g.R.Row.index r.row.now in
    let m = c.args.stop - c.args.start in
    let made : map f c.push_keys.new.keys.items
    ≡ keys_from r.up r.reach.least r.reach.last lane index c.args.start m =
    c.in_ok-push_keys.ensures
    ∙ ap (λ ks. map f ks ++ keys_from r.up r.reach.least r.reach.last lane index c.args.start m)
    c.clear.ensures.items in
    let many = keys_many f r.up r.reach.least r.reach.last lane index c.args.start m
    c.push_keys.new.keys.items c.sort_keys.new.keys.items made c.sort_keys.ensures in
    omega (arith, many, ap length c.deref.ensures.value, c.requires.fits)

pub returns-clause-items : goal.returns-clause-items
returns-clause-items g c =
    let r = c.args.ranks.now in
    let f = g.K.Number.number in
    let lane = g.R.Row.lane r.row.now in
    let index = g.R.Row.index r.row.now in
    let was = c.args.maker.now.items in
    let m = c.args.stop - c.args.start in
    let made : map f c.push_keys.new.keys.items
    ≡ keys_from r.up r.reach.least r.reach.last lane index c.args.start m =
    c.in_ok-push_keys.ensures
    ∙ ap (λ ks. map f ks ++ keys_from r.up r.reach.least r.reach.last lane index c.args.start m)
    c.clear.ensures.items in
    order_told f r.up r.reach.least r.reach.last lane index r.count c.args.start c.args.stop
    c.push_keys.new.keys.items c.sort_keys.new.keys.items was c.push_places.new.maker.items
    c.requires.ranked c.requires.order c.requires.within c.requires.few made
    c.sort_keys.ensures
    (c.push_places.ensures.items
    ∙ ap (λ ks. was ++ map place_of (map f ks)) c.deref.ensures.value)
