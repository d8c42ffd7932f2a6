use Rattle.std.proofs.Common.{◌≡◌, ◌*◌, ◌/◌, List, length, map, ap, sym, ◌∙◌, arith}
use Rattle.std.specs.Prelude.{ℤ}
use Rattle.std.specs.Simd.{first_chunks}
use Rattle.awk_lanes.specs.Column.{Column}
use Rattle.awk_lanes.specs.Numbers.{number, numbers, width}
use Rattle.awk_lanes.specs.Places.{size_of}
use Rattle.awk_lanes.specs.declared.kind.Kind.{Kind}
use Rattle.awk_lanes.proofs.NumberParts.{map-number_all}
use Rattle.awk_nullable.proofs.group_cells.cells_of.Goals as goal

pub narrow_bytes-requires : goal.narrow_bytes-requires
narrow_bytes-requires g c e =
    let wide : 8 ≡ _ = sym (ap width (sym c.requires.kind ∙ e)) ∙ c.requires.width in
    absurd (omega (arith, wide, c.requires.short))

pub returns : goal.returns
returns g c =
    let k = g.C.Cell.kind in
    let lane = c.args.lane.now in
    let b = c.narrow_bytes.result.now in
    let e : lane.kind ≡ k = c.requires.kind in
    let with_items : List ℤ → Column = λ zs. record { kind = k; items = zs } in
    let with_kind : Kind → Column = λ q. record { kind = q; items = lane.items } in
    let size : length b ≡ size_of lane * width k =
    c.narrow_bytes.ensures.size ∙ ap (λ q. size_of lane * width q) e in
    let same : numbers k (size_of lane) b ≡ lane.items =
    ap (λ q. numbers q (size_of lane) b) (sym e) ∙ c.narrow_bytes.ensures.numbers in
    let items : map (number k) c.as_chunks.result.0.now ≡ lane.items =
    ap (map (number k)) c.as_chunks.ensures.front
    ∙ ap (λ w. map (number k) (first_chunks w (length b / w) b)) (sym c.requires.width)
    ∙ map-number_all k (size_of lane) b lane.items size same in
    ap with_items items ∙ ap with_kind (sym e)
