use Rattle.std.proofs.Common.{◌≡◌, ◌+◌, ◌∙◌, ap, ap₂, sym, subst, arith}
use Rattle.std.specs.Prelude.{suc, map, Ok, Err, ◌<◌, ◌^◌}
use Rattle.awk_types.specs.DataType.{leaf}
use Rattle.awk_types.specs.Faults.{fault_told}
use Rattle.awk_types.specs.Gives.{Told}
use Rattle.awk_types.specs.Simple.{option_if}
use Rattle.awk_types.proofs.RefusalLaws.{Gives-Err}
use Rattle.awk_layout.specs.Kinds.{primitive_of, primitive_of-kind_of}
use Rattle.awk_layout.specs.Laws.{len-fits}
use Rattle.awk_layout.specs.Typing.{array_type, array_items}
use Rattle.awk_layout.specs.Valid.{len}
use Rattle.awk_pair_sides.specs.Levels.{some_option}
use Rattle.awk_pointwise.specs.Choice.{chosen_items}
use Rattle.awk_ends.specs.Columns.{data_before, ends_of}
use Rattle.awk_ends.proofs.LaneLaws.{column_is}
use Rattle.awk_choose.specs.Ends.{IsColumnEnd, IsEndAt, AreEndsAt, columns_said}
use Rattle.awk_choose.proofs.EndLaws.{ends-said, ends-judged, ends-present}
use Rattle.awk_choose.proofs.choosing.chosen_ends.Goals as goal

pub returns-in_err-chosen-clause-answer : goal.returns-in_err-chosen-clause-answer
returns-in_err-chosen-clause-answer g c =
    let a = c.args.a.now in
    let b = c.args.b.now in
    let ys = c.args.columns.now in
    let first = column_is ys 0 c.get-first.result.now c.get-first.ensures in
    let next : 1 + c.data_before.result ≡ suc (data_before a) =
    omega (arith, c.data_before.ensures) in
    let h : AreEndsAt a b ys c.in_ok-condition.condition c.in_ok-x.x c.in_ok-y.y = record {
      condition = subst (λ y. IsColumnEnd y c.in_ok-condition.condition) (sym first)
          c.in_ok-condition.ensures;
      first = c.in_ok-x.ensures;
      second = subst (λ k. IsEndAt b k ys c.in_ok-y.y) next c.in_ok-y.ensures;
    } in
    let size : c.len-n.result ≡ ends_of ys = c.len-n.ensures.len ∙ ap len (sym first) in
    let e = c.in_err-chosen.field-0.0 in
    let failed : c.from_residual-in_err-chosen.result ≡ Err e = grind arith in
    Gives-Err array_items fault_told c.from_residual-in_err-chosen.result e (columns_said a b ys)
    failed (subst (Told (fault_told e)) (ends-said a b ys c.in_ok-condition.condition c.in_ok-x.x
    c.in_ok-y.y h
    c.len-n.result size)
    c.in_err-chosen.ensures.answer)

pub chosen_node-requires-clause-fits : goal.chosen_node-requires-clause-fits
chosen_node-requires-clause-fits g c =
    subst (λ n. n < 2 ^ 63) (sym (c.in_ok-chosen.ensures.size ∙ c.len-n.ensures.len))
    (len-fits c.get-first.result.now c.len-n.ensures.valid)

pub chosen_node-requires-clause-present : goal.chosen_node-requires-clause-present
chosen_node-requires-clause-present g c o =
    let a = c.args.a.now in
    let b = c.args.b.now in
    let ys = c.args.columns.now in
    let first = column_is ys 0 c.get-first.result.now c.get-first.ensures in
    let next : 1 + c.data_before.result ≡ suc (data_before a) =
    omega (arith, c.data_before.ensures) in
    let h : AreEndsAt a b ys c.in_ok-condition.condition c.in_ok-x.x c.in_ok-y.y = record {
      condition = subst (λ y. IsColumnEnd y c.in_ok-condition.condition) (sym first)
          c.in_ok-condition.ensures;
      first = c.in_ok-x.ensures;
      second = subst (λ k. IsEndAt b k ys c.in_ok-y.y) next c.in_ok-y.ensures;
    } in
    let size : c.len-n.result ≡ ends_of ys = c.len-n.ensures.len ∙ ap len (sym first) in
    ends-present a b ys c.in_ok-condition.condition c.in_ok-x.x c.in_ok-y.y h
    c.len-n.result size
    (chosen_items c.in_ok-chosen.chosen) c.in_ok-chosen.ensures.answer
    (sym c.some_option.ensures ∙ o) c.requires.some c.requires.a c.requires.b

pub returns-clause-answer : goal.returns-clause-answer
returns-clause-answer g c =
    let a = c.args.a.now in
    let b = c.args.b.now in
    let ys = c.args.columns.now in
    let first = column_is ys 0 c.get-first.result.now c.get-first.ensures in
    let next : 1 + c.data_before.result ≡ suc (data_before a) =
    omega (arith, c.data_before.ensures) in
    let h : AreEndsAt a b ys c.in_ok-condition.condition c.in_ok-x.x c.in_ok-y.y = record {
      condition = subst (λ y. IsColumnEnd y c.in_ok-condition.condition) (sym first)
          c.in_ok-condition.ensures;
      first = c.in_ok-x.ensures;
      second = subst (λ k. IsEndAt b k ys c.in_ok-y.y) next c.in_ok-y.ensures;
    } in
    let size : c.len-n.result ≡ ends_of ys = c.len-n.ensures.len ∙ ap len (sym first) in
    sym (ends-said a b ys c.in_ok-condition.condition c.in_ok-x.x c.in_ok-y.y h
    c.len-n.result size)
    ∙ c.in_ok-chosen.ensures.answer ∙ ap (λ vs. Ok vs) (sym c.in_ok-node.ensures.items)

pub returns-clause-typ : goal.returns-clause-typ
returns-clause-typ g c p e =
    let a = c.args.a.now in
    let b = c.args.b.now in
    let ys = c.args.columns.now in
    let first = column_is ys 0 c.get-first.result.now c.get-first.ensures in
    let next : 1 + c.data_before.result ≡ suc (data_before a) =
    omega (arith, c.data_before.ensures) in
    let h : AreEndsAt a b ys c.in_ok-condition.condition c.in_ok-x.x c.in_ok-y.y = record {
      condition = subst (λ y. IsColumnEnd y c.in_ok-condition.condition) (sym first)
          c.in_ok-condition.ensures;
      first = c.in_ok-x.ensures;
      second = subst (λ k. IsEndAt b k ys c.in_ok-y.y) next c.in_ok-y.ensures;
    } in
    let size : c.len-n.result ≡ ends_of ys = c.len-n.ensures.len ∙ ap len (sym first) in
    c.in_ok-node.ensures.typ
    ∙ ap₂ (λ o k. option_if o (leaf (primitive_of k))) c.some_option.ensures
    (c.in_ok-chosen.ensures.kind p
    (ends-judged a b ys c.in_ok-condition.condition c.in_ok-x.x c.in_ok-y.y h
    c.len-n.result size p e))
    ∙ ap (λ q. option_if (some_option (map array_type ys)) (leaf q)) (primitive_of-kind_of p)
