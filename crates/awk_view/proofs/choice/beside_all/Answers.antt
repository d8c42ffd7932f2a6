use Rattle.std.proofs.Common.{◌≡◌, true, get_or, sym, ap, ◌∙◌, arith}
use Rattle.awk_types.specs.Names.{is_among, place_of}
use Rattle.awk_base.proofs.Every.{all-get}
use Rattle.awk_layout.specs.Layout.{empty}
use Rattle.awk_view.specs.Choice.{beside}
use Rattle.awk_view.proofs.Beside.{get_or-get, pushed_next}
use Rattle.awk_view.proofs.ChoiceLayouts.{place_within}
use Rattle.awk_view.proofs.choice.beside_all.Goals as goal

pub get-requires-in-loop-i : goal.get-requires-in-loop-i
get-requires-in-loop-i c =
    let among = all-get (λ k. is_among k c.args.names.now ≡ true) c.args.wanted.now c.loop-i.i
    c.get.result.now c.get.ensures c.requires.among in
    let within = place_within c.get.result.now c.args.names.now among in
    let place : c.place_by-place.result ≡ place_of c.get.result.now c.args.names.now =
    c.place_by-place.ensures ∙ ap (λ k. place_of k c.args.names.now) c.as_str.ensures in
    omega (arith, c.requires.named)

pub loop-i-preserved : goal.loop-i-preserved
loop-i-preserved c =
    let place : c.place_by-place.result ≡ place_of c.get.result.now c.args.names.now =
    c.place_by-place.ensures ∙ ap (λ k. place_of k c.args.names.now) c.as_str.ensures in
    let node : c.in_ok-copy.field-0 ≡ beside empty c.get.result.now c.args.names.now
    c.args.contents.now =
    c.in_ok-copy.ensures ∙ sym (get_or-get c.args.contents.now c.place_by-place.result
    c.get-in-loop-i.result.now empty c.get-in-loop-i.ensures)
    ∙ ap (λ p. get_or c.args.contents.now p empty) place in
    pushed_next (λ k. beside empty k c.args.names.now c.args.contents.now) c.args.wanted.now
    c.loop-i.i c.get.result.now c.loop-i.made c.push.new.self c.in_ok-copy.field-0
    c.get.ensures c.in_ok-push.ensures.ok c.loop-i.invariant node
