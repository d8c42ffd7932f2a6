use Rattle.std.proofs.Common.{◌≡◌, ◌+◌, ◌∷◌, ◌++◌, [], Some, None, length, map, slice_get, take}
use Rattle.std.proofs.Common.{sym, ap, ◌∙◌}
use Rattle.std.proofs.Common.{subst}
use Rattle.std.proofs.Math.Numerals.{add-one}
use Rattle.std.proofs.lemmas.List.{length-append, map-append}
use Rattle.awk_layout.specs.Datum.{datum_of}
use Rattle.awk_layout.specs.declared.datum.Operand.TheVariants.{Of}
use Rattle.awk_arguments.specs.Fit.{IsGiven}
use Rattle.awk_arguments.specs.Operand.{all_in, data_in}
use Rattle.awk_arguments.specs.OperandView.{shown_operands}
use Rattle.awk_arguments.proofs.DataLaws.{all_in-take, data_in-literal}
use Rattle.awk_arguments.proofs.operands.data.Goals as goal

pub unreachable-requires : goal.unreachable-requires
unreachable-requires c =
    let none : data_in (shown_operands c.args.operands.now) ≡ None =
    data_in-literal c.args.operands.now c.loop-k.k c.in-Literal.field-0
    (c.get.ensures.item ∙ ap Some c.in-Literal.is) in
    let given = subst (λ found. IsGiven found) none c.requires in
    cc

pub loop-k-preserved : goal.loop-k-preserved
loop-k-preserved c =
    let os = c.args.operands.now in
    let made = c.loop-k.made in
    let d = c.in_ok-copy-in-Of.field-0 in
    let same : c.get.result.now ≡ Of d
    = c.in-Of.is ∙ ap Of (sym c.in_ok-copy-in-Of.ensures) in
    let at : slice_get os c.loop-k.k ≡ Some (Of d) = c.get.ensures.item ∙ ap Some same in
    let pushed : c.push.new.self ≡ made ++ d ∷ [] = c.in_ok-push-in-Of.ensures.ok in
    let shown : map datum_of c.push.new.self ≡ map datum_of made ++ datum_of d ∷ []
    = ap (map datum_of) pushed ∙ map-append datum_of made (d ∷ []) in
    let next : all_in (shown_operands (take (c.loop-k.k + 1) os))
    ≡ Some (map datum_of c.push.new.self)
    = rw (add-one, shown)
    (all_in-take os c.loop-k.k d (map datum_of made) at c.loop-k.invariant.0) in
    let long : length c.push.new.self ≡ c.loop-k.k + 1
    = ap length pushed ∙ length-append made (d ∷ []) ∙ ap (λ n. n + 1) c.loop-k.invariant.1 in
    (next, long)
