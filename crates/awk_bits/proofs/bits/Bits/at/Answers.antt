-- The bit at a place lies within the bytes, and is that of the view.
use Rattle.std.proofs.Common.{◌≡◌, length, get_or, false, sym, ap, ◌∙◌, List, Bool, arith}
use Rattle.awk_bits.proofs.BitParts.{opened_len, get_or-bits}
use Rattle.awk_bits.proofs.bits.Bits.at.Goals as goal

pub bit_at-requires : goal.bit_at-requires
bit_at-requires g c =
    let n : c.self.inside.n ≡ length c.args.self.now = opened_len _ _ _ _ _ c.self.view_is in
    omega (arith, c.self.invariant)

pub returns-clause-value : goal.returns-clause-value
returns-clause-value g c =
    let n : c.self.inside.n ≡ length c.args.self.now = opened_len _ _ _ _ _ c.self.view_is in
    c.bit_at.ensures
    ∙ sym (get_or-bits c.self.inside.lsb_order c.self.inside.bytes.now c.self.inside.first
    c.self.inside.n c.args.i (omega arith))
    ∙ ap (λ (v : List Bool). get_or v c.args.i false) c.self.view_is
