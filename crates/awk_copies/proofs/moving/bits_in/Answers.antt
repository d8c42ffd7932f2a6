use Rattle.std.proofs.Common.{◌*◌, ◌++◌, ◌∷◌, [], ap₂, sym, ◌∙◌, arith}
use Rattle.std.proofs.lemmas.List.FromFn.{map-range_with_len_more}
use Rattle.awk_copies.specs.Moved.{eight}
use Rattle.awk_copies.proofs.MovedBits.{bits_same, bytes_length}
use Rattle.awk_copies.proofs.moving.bits_in.Goals as goal

pub loop-k-preserved : goal.loop-k-preserved
loop-k-preserved g c =
    c.in_ok-push.ensures.items ∙ ap₂ (λ xs x. xs ++ x ∷ []) c.loop-k.invariant c.eight.ensures
    ∙ sym (map-range_with_len_more (λ k. eight c.args.bits.now (8 * k)) 0 c.loop-k.k c.loop-k.k
    (omega arith))

pub new-requires : goal.new-requires
new-requires g c =
    omega (
      arith,
      bytes_length c.args.bits.now c.into_bump_slice.result.now c.loop-k.k
          (c.into_bump_slice.ensures ∙ c.loop-k.invariant),
      c.loop-k-test.false,
    )

pub returns : goal.returns
returns g c =
    c.new.ensures
    ∙ bits_same c.args.bits.now c.into_bump_slice.result.now c.len-length.result c.loop-k.k
    c.len-length.ensures (omega (arith, c.loop-k-test.false, c.loop-k.auto.k-end))
    (c.into_bump_slice.ensures ∙ c.loop-k.invariant)
