-- The bits of a part lie within its bytes, and are the part of the bits.
use Rattle.std.proofs.Common.{◌≡◌, ◌+◌, ◌/◌, length, slice_range, ap, ◌∙◌, List, Bool, arith}
use Rattle.std.proofs.Common.{length-drop}
use Rattle.awk_bits.proofs.BitParts.{opened_len, bits-slice_range}
use Rattle.awk_bits.proofs.bits.Bits.cut.Goals as goal

pub bytes_from-first-requires : goal.bytes_from-first-requires
bytes_from-first-requires g c =
    let n : c.self.inside.n ≡ length c.args.self.now = opened_len _ _ _ _ _ c.self.view_is in
    omega (arith, c.self.invariant)

pub invariant_of-result : goal.invariant_of-result
invariant_of-result g c =
    let n : c.self.inside.n ≡ length c.args.self.now = opened_len _ _ _ _ _ c.self.view_is in
    rw (c.bytes_from-first.ensures.bytes, c.bytes_from-first.ensures.place)
    (omega (
      arith,
      c.self.invariant,
      length-drop ((c.self.inside.first + c.args.lo) / 8)
          c.self.inside.bytes.now,
    ))

pub returns-clause-value : goal.returns-clause-value
returns-clause-value g c =
    let n : c.self.inside.n ≡ length c.args.self.now = opened_len _ _ _ _ _ c.self.view_is in
    rw (c.bytes_from-first.ensures.bytes, c.bytes_from-first.ensures.place)
    (bits-slice_range c.self.inside.lsb_order c.self.inside.bytes.now c.self.inside.first
    c.self.inside.n c.args.lo c.args.hi c.requires.order (omega arith)
    ∙ ap (λ (v : List Bool). slice_range v c.args.lo c.args.hi) c.self.view_is)
