use Rattle.std.proofs.Common.{length, get_or, drop, sym, ap, ap₂, ◌∙◌}
use Rattle.std.proofs.Common.{arith, rules, Fits, w64}
use Rattle.std.specs.Prelude.{pos, Ok}
use Rattle.std.specs.Option.{option_map}
use Rattle.std.proofs.lemmas.Int.{to_z-of_z}
use Rattle.std.proofs.lemmas.List.{length-drop}
use Rattle.awk_kernels.specs.Operations.{leaf}
use Rattle.awk_kernels.specs.Kernels.{first_broken, leaves}
use Rattle.awk_kernels.proofs.PlaceLaws.{length-leaves}
use Rattle.awk_simd.proofs.Rests.{rest_is, zip2-drop, counted_on, broken_later, broken_within}
use Rattle.awk_simd.proofs.Rests.{all_made_by}
use Rattle.awk_simd.proofs.rest.arith.Goals as goal

pub overflow_add-result : goal.overflow_add-result
overflow_add-result c =
    let a = c.args.a.now in
    let b = c.args.b.now in
    let n = c.args.made in
    let all = leaves c.args.op c.args.lo c.args.hi a b in
    let e = rw
    (to_z-of_z w64 c.args.lo c.ranges.lo, to_z-of_z w64 c.args.hi c.ranges.hi)
    at c.arith_i64.ensures.broken in
    let found = sym c.in-Some.is ∙ e
    ∙ ap₂ (λ s t. first_broken (leaves c.args.op c.args.lo c.args.hi s t)) (rest_is n a)
    (rest_is n b)
    ∙ ap first_broken (zip2-drop (leaf c.args.op c.args.lo c.args.hi) n a b c.requires.b) in
    let within = broken_within (drop n all) c.in-Some.broken found in
    let long : Fits w64 (length a) = search rules in
    let size = length-leaves c.args.op c.args.lo c.args.hi a b c.requires.b in
    record { fits = omega (arith, within, length-drop n all, size, c.requires.within, long.fits) }

pub returns-in-Some-clause-broken : goal.returns-in-Some-clause-broken
returns-in-Some-clause-broken c =
    let a = c.args.a.now in
    let b = c.args.b.now in
    let n = c.args.made in
    let all = leaves c.args.op c.args.lo c.args.hi a b in
    let e = rw
    (to_z-of_z w64 c.args.lo c.ranges.lo, to_z-of_z w64 c.args.hi c.ranges.hi)
    at c.arith_i64.ensures.broken in
    ap (option_map (counted_on n))
    (sym c.in-Some.is ∙ e
    ∙ ap₂ (λ s t. first_broken (leaves c.args.op c.args.lo c.args.hi s t)) (rest_is n a)
    (rest_is n b)
    ∙ ap first_broken (zip2-drop (leaf c.args.op c.args.lo c.args.hi) n a b c.requires.b))
    ∙ sym (broken_later all n (pos 0)
    (omega (arith, length-leaves c.args.op c.args.lo c.args.hi a b c.requires.b, c.requires.within))
    (λ k l. (get_or c.args.out.now k (pos 0), c.requires.made k l)))

pub returns-in-None-clause-broken : goal.returns-in-None-clause-broken
returns-in-None-clause-broken c =
    let a = c.args.a.now in
    let b = c.args.b.now in
    let n = c.args.made in
    let all = leaves c.args.op c.args.lo c.args.hi a b in
    let e = rw
    (to_z-of_z w64 c.args.lo c.ranges.lo, to_z-of_z w64 c.args.hi c.ranges.hi)
    at c.arith_i64.ensures.broken in
    ap (option_map (counted_on n))
    (sym c.in-None.is ∙ e
    ∙ ap₂ (λ s t. first_broken (leaves c.args.op c.args.lo c.args.hi s t)) (rest_is n a)
    (rest_is n b)
    ∙ ap first_broken (zip2-drop (leaf c.args.op c.args.lo c.args.hi) n a b c.requires.b))
    ∙ sym (broken_later all n (pos 0)
    (omega (arith, length-leaves c.args.op c.args.lo c.args.hi a b c.requires.b, c.requires.within))
    (λ k l. (get_or c.args.out.now k (pos 0), c.requires.made k l)))

pub returns-in-None-clause-written : goal.returns-in-None-clause-written
returns-in-None-clause-written c = λ none.
    let a = c.args.a.now in
    let b = c.args.b.now in
    let n = c.args.made in
    let all = leaves c.args.op c.args.lo c.args.hi a b in
    let size = length-leaves c.args.op c.args.lo c.args.hi a b c.requires.b in
    let e = rw
    (to_z-of_z w64 c.args.lo c.ranges.lo, to_z-of_z w64 c.args.hi c.ranges.hi)
    at c.in-None.ensures.written in
    all_made_by (λ z. Ok z) all c.args.out.now c.arith_i64.new.out n (pos 0)
    (omega (arith, size, c.requires.within)) (omega (arith, size, c.requires.out)) c.requires.made
    (e none ∙ ap₂ (leaves c.args.op c.args.lo c.args.hi) (rest_is n a) (rest_is n b)
    ∙ zip2-drop (leaf c.args.op c.args.lo c.args.hi) n a b c.requires.b)
