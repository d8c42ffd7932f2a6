use Rattle.std.proofs.Common.{◌≡◌, ap, arith, refl, sym, ◌∙◌}
use Rattle.awk_layout.specs.Laws.{len-fits}
use Rattle.awk_layout.specs.Valid.{len}
use Rattle.awk_padding.proofs.PadWhole.{unpadded_more, unpadded_done}
use Rattle.awk_padding.proofs.padded.are_unpadded.Goals as goal

pub span_or-span-requires-clause-small : goal.span_or-span-requires-clause-small
span_or-span-requires-clause-small c =
    omega (
      arith,
      c.loop-i.invariant.within,
      len-fits c.args.padded.now.lists.now.content c.content.ensures.lists.valid,
    )

pub loop-i-init : goal.loop-i-init
loop-i-init c = record {
  here = refl;
  within = omega arith;
  lists = λ k p q. absurd (omega (arith, p));
  lengths = λ k p. absurd (omega (arith, p));
}

pub overflow_add-place : goal.overflow_add-place
overflow_add-place c = omega (arith, c.if-span-place.false, c.span_or-span.ensures.small)

pub loop-i-preserved : goal.loop-i-preserved
loop-i-preserved c =
    let lists = c.args.padded.now.lists.now in
    let same : c.loop-i.place ≡ c.span_or-span.result.start =
    omega (arith, c.if-span-place.false) in
    let long : c.length_of-long.result ≡ c.span_or-span.result.length =
    omega (arith, c.if-long-span.false) in
    unpadded_more c.args.padded.now.padding.size c.args.padded.now.padding.clip lists.starts
    lists.stops (len lists.content) c.loop-i.place c.loop-i.i c.span_or-span.result.length
    c.loop-i.invariant c.span_or-span.ensures.length
    (λ q. same ∙ c.span_or-span.ensures.start (omega (arith, q, c.span_or-span.ensures.length)))
    (omega (arith, c.span_or-span.ensures.within, same)) (sym c.length_of-long.ensures ∙ long)

pub returns : goal.returns
returns c h =
    let lists = c.args.padded.now.lists.now in
    let last : c.loop-i.place ≡ c.len-whole.result = omega (arith, c.if-place-whole.false) in
    unpadded_done c.args.padded.now.padding.size c.args.padded.now.padding.clip lists.starts
    lists.stops (len lists.content) c.loop-i.place c.loop-i.i c.loop-i.invariant
    (omega (arith, c.loop-i-test.false, c.len-i-end.ensures.len))
    (last ∙ c.len-whole.ensures.len ∙ ap len c.content.ensures.content)
