use Rattle.std.proofs.Common.{◌∙◌, ap, sym, arith, refl, length}
use Rattle.std.proofs.lemmas.Option.{slice_get_read}
use Rattle.awk_types.specs.Predicates.{is_list}
use Rattle.awk_types.specs.Simple.{present}
use Rattle.awk_layout.specs.Typing.{array_type}
use Rattle.awk_pair_levels.specs.Shares.{share_column}
use Rattle.awk_pair_levels.proofs.ItemLaws.{opens_first}
use Rattle.awk_pair_sides.proofs.TestLaws.{any_next, any_found, any_end}
use Rattle.awk_pair_levels.proofs.items.opens_below.Goals as goal

pub loop-i-init : goal.loop-i-init
loop-i-init c = opens_first c.args.shares.now

pub returns-then-is_list : goal.returns-then-is_list
returns-then-is_list c =
    any_found (λ p. is_list (present (array_type (share_column p)))) c.args.shares.now c.loop-i.i
    c.index-shares-i.result _ (slice_get_read c.args.shares.now (length c.args.shares.now)
    c.loop-i.i
    c.index-shares-i.result refl (omega arith) c.index-shares-i.is)
    (ap (λ y. is_list (present (array_type y))) (sym c.column_of.ensures)
    ∙ ap (λ t. is_list (present t)) (sym c.typ.ensures.typ)
    ∙ ap is_list (sym c.present_type.ensures) ∙ sym c.is_list.ensures ∙ c.if-is_list.true)
    c.loop-i.invariant

pub loop-i-preserved : goal.loop-i-preserved
loop-i-preserved c =
    any_next (λ p. is_list (present (array_type (share_column p)))) c.args.shares.now c.loop-i.i
    c.index-shares-i.result _ (slice_get_read c.args.shares.now (length c.args.shares.now)
    c.loop-i.i
    c.index-shares-i.result refl (omega arith) c.index-shares-i.is)
    (ap (λ y. is_list (present (array_type y))) (sym c.column_of.ensures)
    ∙ ap (λ t. is_list (present t)) (sym c.typ.ensures.typ)
    ∙ ap is_list (sym c.present_type.ensures) ∙ sym c.is_list.ensures ∙ c.if-is_list.false)
    c.loop-i.invariant

pub returns : goal.returns
returns c =
    any_end (λ p. is_list (present (array_type (share_column p)))) c.args.shares.now c.loop-i.i _
    (omega (arith, c.loop-i-test.false)) c.loop-i.invariant
