-- The bytes of a part are whole, and their numbers are the part of the numbers.
use Rattle.std.proofs.Common.{◌≡◌, ◌≤◌, ◌-◌, ◌*◌, length, List, slice_range, ℕ, sym, ap, ◌∙◌, arith}
use Rattle.std.proofs.Common.{refl}
use Rattle.std.proofs.lemmas.Nat.{mul-le}
use Rattle.awk_lanes.specs.Column.{Column}
use Rattle.awk_lanes.specs.Cut.{cut_of}
use Rattle.awk_lanes.specs.Numbers.{width, numbers}
use Rattle.awk_lanes.proofs.NumberParts.{opened, length-part, numbers-slice_range}
use Rattle.awk_lanes.proofs.NumberParts.{AreBytes-slice_range}
use Rattle.std.specs.Prelude.{ℤ}
use Rattle.awk_lanes.specs.declared.kind.Kind.{Kind}
use Rattle.awk_lanes.proofs.byte_lane.ByteLane.cut.Goals as goal

pub part-requires-clause-within : goal.part-requires-clause-within
part-requires-clause-within g c =
    let o = opened _ _ _ _ c.self.view_is in
    let f = mul-le c.args.hi (width c.self.inside.kind) c.self.inside.count
    (width c.self.inside.kind) (omega arith) (omega arith) in
    omega (arith, c.self.invariant.0)

pub invariant_of-result : goal.invariant_of-result
invariant_of-result g c =
    let o = opened _ _ _ _ c.self.view_is in
    let f = mul-le c.args.hi (width c.self.inside.kind) c.self.inside.count
    (width c.self.inside.kind) (omega arith) (omega arith) in
    let within : c.args.hi * width c.self.inside.kind ≤ length c.self.inside.bytes.now = omega
    (arith, c.self.invariant.0) in (
      length-part c.self.inside.bytes.now c.args.lo c.args.hi (width c.self.inside.kind)
          c.requires.order within ∙ sym (ap length c.part.ensures),
      rw c.part.ensures
          (AreBytes-slice_range c.self.inside.bytes.now (c.args.lo * width c.self.inside.kind)
          (c.args.hi * width c.self.inside.kind) c.self.invariant.1),
    )

pub returns-clause-value : goal.returns-clause-value
returns-clause-value g c =
    let o = opened _ _ _ _ c.self.view_is in
    cut_is c.self.inside.kind _ _ _ c.args.lo c.args.hi
    (ap (numbers c.self.inside.kind (c.args.hi - c.args.lo)) c.part.ensures ∙
    numbers-slice_range c.self.inside.kind c.self.inside.count c.self.inside.bytes.now c.args.lo
    c.args.hi c.requires.order (omega arith)) c.self.view_is
  where
    cut_is : (k : Kind) (xs ys : List ℤ) (v : Column) (lo hi : ℕ) → xs ≡ slice_range ys lo hi →
        record { kind = k; items = ys } ≡ v → record { kind = k; items = xs } ≡ cut_of v lo hi
    cut_is k xs ys v lo hi e f = rw (e, ← f) refl
