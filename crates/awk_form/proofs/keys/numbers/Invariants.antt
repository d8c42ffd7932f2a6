use Rattle.std.proofs.Common.{◌≡◌, ◌++◌, drop, option_map}
use Rattle.serde_json.specs.View.{items_view}
use Rattle.awk_form.specs.Node.{numbers_of}
use Rattle.awk_form.proofs.keys.numbers.Given as goal

-- the numbers so far, and those of the rest
abbrev pub invariant-loop-item : goal.invariant-loop-item
invariant-loop-item l = numbers_of (items_view l.item-items) ≡ option_map (λ ns. l.dims ++ ns)
    (numbers_of (items_view (drop l.item-index l.item-items)))
