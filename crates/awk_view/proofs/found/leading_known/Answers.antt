-- A name's place is beyond the last exactly where it is not there.
use Rattle.std.proofs.Common.{◌≡◌, true, false, length, ap, ◌∙◌, arith}
use Rattle.awk_types.specs.Names.{is_among, place_of}
use Rattle.awk_view.proofs.LeadingLaws.{among-beyond, among-within, leading-next, leading-stops}
use Rattle.awk_view.proofs.found.leading_known.Goals as goal

pub returns-then-place_by-len : goal.returns-then-place_by-len
returns-then-place_by-len c =
    let at : c.place_by.result ≡ place_of c.get.result.now c.args.own.now =
    c.place_by.ensures ∙ ap (λ k. place_of k c.args.own.now) c.as_str.ensures in
    let beyond : place_of c.get.result.now c.args.own.now ≡ length c.args.own.now =
    omega (arith, at, c.if-place_by-len.true, c.len.ensures) in
    leading-stops (λ n. is_among n c.args.own.now) c.args.wanted.now c.loop-i.i c.get.result.now
    c.get.ensures
    (among-beyond c.get.result.now c.args.own.now beyond) c.loop-i.invariant

pub loop-i-preserved : goal.loop-i-preserved
loop-i-preserved c =
    let at : c.place_by.result ≡ place_of c.get.result.now c.args.own.now =
    c.place_by.ensures ∙ ap (λ k. place_of k c.args.own.now) c.as_str.ensures in
    leading-next (λ n. is_among n c.args.own.now) c.args.wanted.now c.loop-i.i c.get.result.now
    c.get.ensures
    (among-within c.get.result.now c.args.own.now
    (λ e. omega (arith, e, at, c.if-place_by-len.false, c.len.ensures)))
    c.loop-i.invariant
