use Rattle.std.proofs.Common.{length, get_or, map, drop, sym, ap, ap₂, ◌∙◌}
use Rattle.std.proofs.Common.{arith, rules, Fits, w64}
use Rattle.std.specs.Prelude.{pos, Ok}
use Rattle.std.specs.Option.{option_map}
use Rattle.std.proofs.lemmas.List.{length-drop, length-map, drop-map}
use Rattle.awk_kernels.specs.Operations.{leaf}
use Rattle.awk_kernels.specs.Kernels.{first_broken, leaves, nat_leaves}
use Rattle.awk_kernels.proofs.PlaceLaws.{length-leaves-nat}
use Rattle.awk_simd.proofs.Rests.{rest_is, zip2-drop, counted_on, broken_later, broken_within}
use Rattle.awk_simd.proofs.Rests.{all_made_by}
use Rattle.awk_simd.proofs.rest.arith_nat.Goals as goal

pub overflow_add-result : goal.overflow_add-result
overflow_add-result c =
    let a = c.args.a.now in
    let b = c.args.b.now in
    let n = c.args.made in
    let op = c.args.op in
    let hi = c.args.hi in
    let all = nat_leaves op hi a b in
    let same = length-map b pos ∙ c.requires.b ∙ sym (length-map a pos) in
    let found = sym c.in-Some.is ∙ c.arith_u64.ensures.broken
    ∙ ap₂ (λ s t. first_broken (nat_leaves op hi s t)) (rest_is n a) (rest_is n b)
    ∙ ap₂ (λ s t. first_broken (leaves op (pos 0) (pos hi) s t)) (sym (drop-map pos n a))
    (sym (drop-map pos n b))
    ∙ ap first_broken (zip2-drop (leaf op (pos 0) (pos hi)) n (map pos a) (map pos b) same) in
    let within = broken_within (drop n all) c.in-Some.broken found in
    let long : Fits w64 (length a) = search rules in
    let size = length-leaves-nat op (pos 0) (pos hi) a b c.requires.b in
    record { fits = omega (arith, within, length-drop n all, size, c.requires.within, long.fits) }

pub returns-in-Some-clause-broken : goal.returns-in-Some-clause-broken
returns-in-Some-clause-broken c =
    let a = c.args.a.now in
    let b = c.args.b.now in
    let n = c.args.made in
    let op = c.args.op in
    let hi = c.args.hi in
    let all = nat_leaves op hi a b in
    let same = length-map b pos ∙ c.requires.b ∙ sym (length-map a pos) in
    let size = length-leaves-nat op (pos 0) (pos hi) a b c.requires.b in
    ap (option_map (counted_on n))
    (sym c.in-Some.is ∙ c.arith_u64.ensures.broken
    ∙ ap₂ (λ s t. first_broken (nat_leaves op hi s t)) (rest_is n a) (rest_is n b)
    ∙ ap₂ (λ s t. first_broken (leaves op (pos 0) (pos hi) s t)) (sym (drop-map pos n a))
    (sym (drop-map pos n b))
    ∙ ap first_broken (zip2-drop (leaf op (pos 0) (pos hi)) n (map pos a) (map pos b) same))
    ∙ sym (broken_later all n (pos 0) (omega (arith, size, c.requires.within))
    (λ k l. (pos (get_or c.args.out.now k 0), c.requires.made k l)))

pub returns-in-None-clause-broken : goal.returns-in-None-clause-broken
returns-in-None-clause-broken c =
    let a = c.args.a.now in
    let b = c.args.b.now in
    let n = c.args.made in
    let op = c.args.op in
    let hi = c.args.hi in
    let all = nat_leaves op hi a b in
    let same = length-map b pos ∙ c.requires.b ∙ sym (length-map a pos) in
    let size = length-leaves-nat op (pos 0) (pos hi) a b c.requires.b in
    ap (option_map (counted_on n))
    (sym c.in-None.is ∙ c.arith_u64.ensures.broken
    ∙ ap₂ (λ s t. first_broken (nat_leaves op hi s t)) (rest_is n a) (rest_is n b)
    ∙ ap₂ (λ s t. first_broken (leaves op (pos 0) (pos hi) s t)) (sym (drop-map pos n a))
    (sym (drop-map pos n b))
    ∙ ap first_broken (zip2-drop (leaf op (pos 0) (pos hi)) n (map pos a) (map pos b) same))
    ∙ sym (broken_later all n (pos 0) (omega (arith, size, c.requires.within))
    (λ k l. (pos (get_or c.args.out.now k 0), c.requires.made k l)))

pub returns-in-None-clause-written : goal.returns-in-None-clause-written
returns-in-None-clause-written c = λ none.
    let a = c.args.a.now in
    let b = c.args.b.now in
    let n = c.args.made in
    let op = c.args.op in
    let hi = c.args.hi in
    let all = nat_leaves op hi a b in
    let same = length-map b pos ∙ c.requires.b ∙ sym (length-map a pos) in
    let size = length-leaves-nat op (pos 0) (pos hi) a b c.requires.b in
    all_made_by (λ z. Ok (pos z)) all c.args.out.now c.arith_u64.new.out n 0
    (omega (arith, size, c.requires.within)) (omega (arith, size, c.requires.out)) c.requires.made
    (c.in-None.ensures.written none
    ∙ ap₂ (λ s t. (nat_leaves op hi s t)) (rest_is n a) (rest_is n b)
    ∙ ap₂ (λ s t. (leaves op (pos 0) (pos hi) s t)) (sym (drop-map pos n a))
    (sym (drop-map pos n b))
    ∙ (zip2-drop (leaf op (pos 0) (pos hi)) n (map pos a) (map pos b) same))
