use Rattle.std.proofs.Common.{◌∙◌, ◌++◌, ◌∷◌, [], ap, arith, sym}
use Rattle.serde_json.specs.View.{view}
use Rattle.awk_lanes.specs.Making.{Making}
use Rattle.awk_plain_columns.proofs.OptionColumns.{indexed_less, indexed_more}
use Rattle.awk_plain_columns.proofs.options.option_lane.Goals as goal

pub loop-i-preserved-then-not-is_there : goal.loop-i-preserved-then-not-is_there
loop-i-preserved-then-not-is_there c =
    let zs = c.loop-i.maker.items in (
      ap (λ (m : Making). m.room) c.push.ensures ∙ c.loop-i.invariant.0,
      indexed_less (λ v. view v.now) c.args.values.now c.loop-i.i c.loop-i.next
          c.index-values-i.result zs c.push.new.self.items (omega arith) c.index-values-i.is
          (sym c.if-not-is_there.ensures) c.loop-i.invariant.1
          (ap (λ (m : Making). m.items) c.push.ensures),
    )

pub loop-i-preserved : goal.loop-i-preserved
loop-i-preserved c =
    let zs = c.loop-i.maker.items in (
      ap (λ (m : Making). m.room) c.push-in-loop-i.ensures ∙ c.loop-i.invariant.0,
      indexed_more (λ v. view v.now) c.args.values.now c.loop-i.i c.loop-i.next
          c.index-values-i.result zs c.push-in-loop-i.new.self.items (omega arith)
          c.index-values-i.is (sym c.if-not-is_there.ensures) c.loop-i.invariant.1
          (ap (λ (m : Making). m.items) c.push-in-loop-i.ensures
          ∙ ap (λ z. zs ++ z ∷ []) c.number.ensures.number),
    )
