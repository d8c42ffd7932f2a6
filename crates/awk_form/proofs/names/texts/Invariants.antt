use Rattle.std.proofs.Common.{◌≡◌, ◌++◌, drop, option_map}
use Rattle.serde_json.specs.View.{items_view}
use Rattle.awk_form.specs.Node.{texts_of}
use Rattle.awk_form.proofs.names.texts.Given as goal

-- the texts so far, and those of the rest
abbrev pub invariant-loop-item : goal.invariant-loop-item
invariant-loop-item l = texts_of (items_view l.item-items) ≡ option_map (λ ts. l.names ++ ts)
    (texts_of (items_view (drop l.item-index l.item-items)))
