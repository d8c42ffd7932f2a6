use Rattle.std.proofs.Common.{◌≡◌, ℕ, length, ap, ap₂, sym, subst, ◌∙◌, get_or}
use Rattle.std.specs.Prelude.{pos, IfOk}
use Rattle.awk_lanes.specs.Column.{Column}
use Rattle.awk_lanes.specs.Ranges.{IsNumber, AreNumbers}
use Rattle.awk_lanes.specs.Words.{column}
use Rattle.awk_kernels.specs.Kernels.{chosen}
use Rattle.awk_layout.specs.Kinds.{kind_of}
use Rattle.awk_pointwise.specs.Numbers.{word_numbers}
use Rattle.awk_pointwise.proofs.SelectLaws.{leaves_int64, chosen_ranged}
use Rattle.awk_pointwise.proofs.selection.selected_ints.Goals as goal

pub ints-requires : goal.ints-requires
ints-requires g c =
    leaves_int64 c.args.prim (word_numbers c.args.sides.0) c.requires.other c.requires.a

pub ints-requires-2 : goal.ints-requires-2
ints-requires-2 g c =
    leaves_int64 c.args.prim (word_numbers c.args.sides.1) c.requires.other c.requires.b

pub lane_of_numbers-requires : goal.lane_of_numbers-requires
lane_of_numbers-requires g c =
    let p = c.args.prim in
    let ms = c.args.mask.now in
    subst (λ k. (i : ℕ) → IsNumber k (get_or c.deref-3.result.now i (pos 0)))
    (sym c.kind_of.ensures) (subst (λ zs. AreNumbers (column (kind_of p) zs))
    (sym (c.deref-3.ensures.value ∙ c.in_ok-numbers.ensures
    ∙ ap₂ (chosen ms) (c.deref.ensures.value ∙ c.in_ok-a.ensures)
    (c.deref-2.ensures.value ∙ c.in_ok-b.ensures)))
    (chosen_ranged p ms (word_numbers c.args.sides.0) (word_numbers c.args.sides.1) c.requires.a
    c.requires.b))

pub select_ints-requires-clause-first : goal.select_ints-requires-clause-first
select_ints-requires-clause-first g c =
    ap length (c.deref.ensures.value ∙ c.in_ok-a.ensures) ∙ c.requires.first

pub select_ints-requires-clause-second : goal.select_ints-requires-clause-second
select_ints-requires-clause-second g c =
    ap length (c.deref-2.ensures.value ∙ c.in_ok-b.ensures) ∙ c.requires.second

pub returns : goal.returns
returns g c =
    subst (λ (q : Column). IfOk c.lane_of_numbers.result (λ r. r ≡ q))
    (ap₂ column c.kind_of.ensures (c.deref-3.ensures.value ∙ c.in_ok-numbers.ensures
    ∙ ap₂ (chosen c.args.mask.now) (c.deref.ensures.value ∙ c.in_ok-a.ensures)
    (c.deref-2.ensures.value ∙ c.in_ok-b.ensures))) c.lane_of_numbers.ensures
