use Rattle.std.proofs.Common.{◌∙◌, ◌+◌, ◌*◌, ◌<◌, ℕ, Some, ap, refl, sym, arith}
use Rattle.awk_lanes.specs.Places.{size_of}
use Rattle.awk_merge_operands.specs.Operands.{list_place}
use Rattle.awk_merge_operands.proofs.ListPlaceLaws.{cell, place_within, indexes_all, index_has}
use Rattle.awk_merge.proofs.joining_rows.RowEndsItems.item.Goals as goal

pub end_at-requires-clause-index : goal.end_at-requires-clause-index
end_at-requires-clause-index g c =
    let n : ℕ = size_of c.args.self.now.rows.now in
    let row : c.in-Some.row < n =
    place_within (Some c.args.self.now.rows.now) n n c.args.i c.in-Some.row
    (refl, c.requires.ready.1) c.requires.within (sym c.option_place.ensures ∙ c.in-Some.is) in
    rw c.len.ensures.len
    (index_has c.args.self.now.index.now (c.args.self.now.k * n) (c.args.j * n + c.in-Some.row)
    (indexes_all c.args.self.now.index.now (c.args.self.now.k * n)
    (size_of c.args.self.now.ends.now) c.requires.ready.2)
    (cell n c.args.self.now.k c.in-Some.row c.args.j row c.requires.item))

pub end_at-requires-clause-within : goal.end_at-requires-clause-within
end_at-requires-clause-within g c p e =
    let n : ℕ = size_of c.args.self.now.rows.now in
    let row : c.in-Some.row < n =
    place_within (Some c.args.self.now.rows.now) n n c.args.i c.in-Some.row
    (refl, c.requires.ready.1) c.requires.within (sym c.option_place.ensures ∙ c.in-Some.is) in
    place_within c.args.self.now.index.now (c.args.self.now.k * n)
    (size_of c.args.self.now.ends.now) (c.args.j * n + c.in-Some.row) p c.requires.ready.2
    (cell n c.args.self.now.k c.in-Some.row c.args.j row c.requires.item)
    (ap (λ m. list_place c.args.self.now.index.now (c.args.j * m + c.in-Some.row))
    (sym c.len.ensures.len) ∙ e)

pub overflow_add-j : goal.overflow_add-j
overflow_add-j g c =
    let n : ℕ = size_of c.args.self.now.rows.now in
    let row : c.in-Some.row < n =
    place_within (Some c.args.self.now.rows.now) n n c.args.i c.in-Some.row
    (refl, c.requires.ready.1) c.requires.within (sym c.option_place.ensures ∙ c.in-Some.is) in
    let here = cell n c.args.self.now.k c.in-Some.row c.args.j row c.requires.item in
    rw c.len.ensures.len (omega (arith, here, c.requires.ready.0))
