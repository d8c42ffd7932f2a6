-- The groups, one after another, are read as the numbers.
use Rattle.std.proofs.Common.{ap, ap₂, sym, ◌∙◌, ◌*◌, ◌/◌, ◌<◌, arith, length, List, ℕ}
use Rattle.std.proofs.Common.{mul-div_cancel}
use Rattle.std.specs.List.{flat_map}
use Rattle.std.specs.Prelude.{vec_capacity}
use Rattle.awk_lanes.specs.Numbers.{numbers, width}
use Rattle.awk_lanes.specs.declared.kind.Kind.{Kind}
use Rattle.awk_lanes.specs.declared.kind.Kind.TheVariants.{Bool as Truths, I8, I16, I32, I64}
use Rattle.awk_lanes.specs.declared.kind.Kind.TheVariants.{U8, U16, U32, U64}
use Rattle.awk_lanes.proofs.IndexLaws.{kind_joined}
use Rattle.awk_lanes.proofs.group_maker.GroupMaker.finish.Goals as goal

width-some : (k : Kind) → 0 < width k
width-some Truths = omega arith
width-some I8 = omega arith
width-some I16 = omega arith
width-some I32 = omega arith
width-some I64 = omega arith
width-some U8 = omega arith
width-some U16 = omega arith
width-some U32 = omega arith
width-some U64 = omega arith

pub returns : goal.returns
returns g c =
    let kind = g.T.NumberType.kind in
    let gs = c.self.inside.groups.items in
    let flat = c.as_flattened.result.now in
    kind_joined kind gs (vec_capacity c.self.inside.groups) flat c.args.self c.new.result
    c.self.view_is (c.self.invariant.2, c.self.invariant.3)
    (c.as_flattened.ensures.value
    ∙ ap (λ (hs : List (List ℕ)). flat_map (λ b. b) hs) c.into_bump_slice-groups.ensures)
    (ap (λ n. n / width kind) (c.as_flattened.ensures.len
    ∙ ap₂ (λ (hs : List (List ℕ)) w. length hs * w) c.into_bump_slice-groups.ensures
    (sym c.self.invariant.0))
    ∙ mul-div_cancel (length gs) (width-some kind))
    (c.new.ensures.kind ∙ c.kind.ensures)
    (c.new.ensures.items
    ∙ ap (λ k. numbers k (length flat / width k) flat) c.kind.ensures)
