use Rattle.std.proofs.Common.{◌+◌, length, drop, sym, ap, ap₂, ◌∙◌, arith, rules, Fits}
use Rattle.std.proofs.Common.{w64}
use Rattle.std.specs.Prelude.{pos, position, zip}
use Rattle.std.specs.Option.{option_map}
use Rattle.std.proofs.lemmas.List.{length-drop}
use Rattle.awk_kernels.specs.Kernels.{is_out_of_order}
use Rattle.awk_simd.proofs.Rests.{rest_is, position_later, position_within, zip-drop, zip_at}
use Rattle.awk_simd.proofs.Rests.{length-zip}
use Rattle.awk_simd.proofs.rest.first_out_of_order.Goals as goal

pub overflow_add-result : goal.overflow_add-result
overflow_add-result c =
    let a = c.args.starts.now in
    let b = c.args.stops.now in
    let n = c.args.passed in
    let found = sym c.in-Some.is ∙ c.first_out_of_order.ensures
    ∙ ap₂ (λ s t. position is_out_of_order (zip s t)) (rest_is n a) (rest_is n b)
    ∙ ap (position is_out_of_order) (zip-drop n a b c.requires.stops) in
    let within = position_within is_out_of_order (drop n (zip a b)) c.in-Some.i found in
    let long : Fits w64 (length a) = search rules in
    let size = length-zip a b c.requires.stops in
    record {
      fits = omega
          (arith, within, length-drop n (zip a b), size, c.requires.within, long.fits);
    }

pub returns-in-Some : goal.returns-in-Some
returns-in-Some c =
    let a = c.args.starts.now in
    let b = c.args.stops.now in
    let n = c.args.passed in
    ap (option_map (λ i. n + i))
    (sym c.in-Some.is ∙ c.first_out_of_order.ensures
    ∙ ap₂ (λ s t. position is_out_of_order (zip s t)) (rest_is n a) (rest_is n b)
    ∙ ap (position is_out_of_order) (zip-drop n a b c.requires.stops))
    ∙ sym (position_later is_out_of_order (zip a b) n (pos 0, pos 0)
    (omega (arith, length-zip a b c.requires.stops, c.requires.within))
    (λ k l. ap is_out_of_order
    (zip_at (pos 0) (pos 0) a b k (omega (arith, l, c.requires.within)) c.requires.stops)
    ∙ c.requires.passed k l))

pub returns-in-None : goal.returns-in-None
returns-in-None c =
    let a = c.args.starts.now in
    let b = c.args.stops.now in
    let n = c.args.passed in
    ap (option_map (λ i. n + i))
    (sym c.in-None.is ∙ c.first_out_of_order.ensures
    ∙ ap₂ (λ s t. position is_out_of_order (zip s t)) (rest_is n a) (rest_is n b)
    ∙ ap (position is_out_of_order) (zip-drop n a b c.requires.stops))
    ∙ sym (position_later is_out_of_order (zip a b) n (pos 0, pos 0)
    (omega (arith, length-zip a b c.requires.stops, c.requires.within))
    (λ k l. ap is_out_of_order
    (zip_at (pos 0) (pos 0) a b k (omega (arith, l, c.requires.within)) c.requires.stops)
    ∙ c.requires.passed k l))
