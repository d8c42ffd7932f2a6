use Rattle.std.proofs.Common.{[], ◌∷◌, ◌++◌, ap, sym, ◌∙◌, subst, arith}
use Rattle.awk_store.specs.Buffers.{Buffers, IsNew}
use Rattle.awk_load_line.proofs.RawLaws.{IsPartedSoFar, parted_start, next_is_new, next_is_whole}
use Rattle.awk_load_line.proofs.RawLaws.{parted_more, parted_all}
use Rattle.awk_load_line.proofs.raw.raw_store.Goals as goal

pub loop-i-init : goal.loop-i-init
loop-i-init c = record {
  so_far = subst (λ (s : Buffers). IsPartedSoFar c.args.parts.now c.args.raw.now s.held 0
      c.args.raw.now)
      (sym c.empty-store.ensures)
      (parted_start c.args.parts.now c.args.raw.now c.requires.apart c.requires.whole);
  counted = c.len-i-end.ensures;
}

pub front_of-requires : goal.front_of-requires
front_of-requires c = record {
  within = next_is_whole c.get-part.result.now c.get-part.ensures c.loop-i.invariant.so_far;
}

pub add-requires : goal.add-requires
add-requires c =
    subst (IsNew c.loop-i.store.held) (sym c.as_str.ensures)
    (next_is_new c.get-part.result.now c.get-part.ensures c.loop-i.invariant.so_far)

pub loop-i-preserved : goal.loop-i-preserved
loop-i-preserved c =
    let part = c.get-part.result.now in
    let bytes = c.front_of.result.0.now in
    let held = c.loop-i.store.held in
    record {
      so_far = parted_more part bytes c.front_of.result.1.now c.add.new.self.held
          c.get-part.ensures c.front_of.ensures.front c.front_of.ensures.rest
          (ap (λ (s : Buffers). s.held.texts) c.in_ok-add.ensures.added)
          (ap (λ (s : Buffers). s.held.raws) c.in_ok-add.ensures.added
          ∙ ap (λ k. held.raws ++ (k, bytes) ∷ []) c.as_str.ensures)
          c.loop-i.invariant.so_far;
      counted = c.loop-i.invariant.counted;
    }

pub returns : goal.returns
returns c =
    parted_all (omega (arith, c.loop-i.invariant.counted, c.loop-i.auto.i-end, c.loop-i-test.false))
    c.loop-i.invariant.so_far
