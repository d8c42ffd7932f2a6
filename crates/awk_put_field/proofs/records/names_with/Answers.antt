use Rattle.std.proofs.Common.{◌≡◌, ◌<◌, ◌++◌, ◌∷◌, [], arith, sym, ap, ◌∙◌, length}
use Rattle.awk_types.specs.Names.{place_of as place_in}
use Rattle.awk_put_field.proofs.PutLaws.{named-new, named-old, place-within}
use Rattle.awk_put_field.proofs.records.names_with.Goals.{then-place-len+in_ok-new+in_ok-push}
use Rattle.awk_put_field.proofs.records.names_with.Goals.{else-place-len}
use Rattle.awk_put_field.proofs.records.names_with.Goals as goal

pub returns : goal.returns
returns c =
    let n = c.args.name.now in
    let ns = c.args.names.now in
    elim c.if-place-len.branch [
      | then-place-len+in_ok-new+in_ok-push w ↦
          let last : place_in n ns ≡ length ns =
          grind (arith, c.requires, c.len.ensures, w.if-place-len.true) in
          w.made-is ∙ w.in_ok-push.ensures.ok
          ∙ ap (λ zs. zs ++ w.in_ok-new.field-0 ∷ []) c.in_ok-made.ensures
          ∙ ap (λ m. ns ++ m ∷ []) w.in_ok-new.ensures ∙ sym (named-new n ns last)
      | else-place-len w ↦
          let among : place_in n ns < length ns =
          grind (arith, c.requires, c.len.ensures, w.if-place-len.false, place-within n ns) in
          w.made-is ∙ c.in_ok-made.ensures ∙ sym (named-old n ns among)
    ]
