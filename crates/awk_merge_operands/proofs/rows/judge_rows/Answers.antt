use Rattle.std.proofs.Common.{◌∙◌, None, Some, ap, ap₂, sym, arith}
use Rattle.std.specs.Prelude.{if◌then◌else◌}
use Rattle.awk_types.specs.Gives.{refused_or, ◌or◌}
use Rattle.awk_types.specs.ItemLimit.{too_many}
use Rattle.awk_types.specs.declared.fault.Fault.TheVariants.{Lengths}
use Rattle.awk_merge_operands.proofs.rows.judge_rows.Goals as goal
use Rattle.awk_types.proofs.ItemLimits.{over_limit, within_limit}

pub returns-then-not-are_long : goal.returns-then-not-are_long
returns-then-not-are_long c =
    ap (λ b. refused_or ((if b then None else Some Lengths) or too_many c.args.n) (tt {0}))
    (sym c.are_long.ensures ∙ c.if-not-are_long.true)

pub returns-then-n-gt-ITEM_LIMIT : goal.returns-then-n-gt-ITEM_LIMIT
returns-then-n-gt-ITEM_LIMIT c =
    ap₂ (λ b o. refused_or ((if b then None else Some Lengths) or o) (tt {0}))
    (sym c.are_long.ensures ∙ c.if-not-are_long.false)
    (over_limit c.args.n (omega (arith, c.if-n-gt-ITEM_LIMIT.true)))

pub returns : goal.returns
returns c =
    ap₂ (λ b o. refused_or ((if b then None else Some Lengths) or o) (tt {0}))
    (sym c.are_long.ensures ∙ c.if-not-are_long.false)
    (within_limit c.args.n (omega (arith, c.if-n-gt-ITEM_LIMIT.false)))
