use Rattle.std.proofs.Common.{◌∙◌, ap, arith, map}
use Rattle.std.proofs.lemmas.List.{length-map}
use Rattle.serde_json.specs.View.{view}
use Rattle.awk_layout.specs.Typing.{array_items}
use Rattle.awk_plain.specs.Suits.{own_value}
use Rattle.awk_plain_columns.proofs.OptionColumns.{options_fit, options_made, options_size}
use Rattle.awk_plain_columns.proofs.options.option_column.Goals as goal

pub indexed_option-requires-clause-length : goal.indexed_option-requires-clause-length
indexed_option-requires-clause-length g c =
    let xs = c.args.values.now in
    omega (
      arith,
      options_size (map (λ v. own_value (view v.now)) xs) c.in_ok-index.index
          c.in_ok-index.ensures,
      length-map xs (λ v. own_value (view v.now)),
    )

pub indexed_option-requires-clause-valid : goal.indexed_option-requires-clause-valid
indexed_option-requires-clause-valid g c =
    options_fit (map (λ v. own_value (view v.now)) c.args.values.now) c.in_ok-index.index
    c.in_ok-content.content.value c.in_ok-index.ensures
    (ap array_items c.in_ok-content.ensures.ok ∙ c.requires.items)

pub returns-clause-items : goal.returns-clause-items
returns-clause-items g c =
    options_made (map (λ v. own_value (view v.now)) c.args.values.now) c.in_ok-index.index
    c.in_ok-content.content.value c.indexed_option.result c.in_ok-index.ensures
    (ap array_items c.in_ok-content.ensures.ok ∙ c.requires.items) c.indexed_option.ensures.node
