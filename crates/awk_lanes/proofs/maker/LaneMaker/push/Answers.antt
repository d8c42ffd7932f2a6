-- There is room for one more number, and its bytes are read as that number.
use Rattle.std.proofs.Common.{◌≡◌, ℕ, ◌+◌, List, [], ◌∷◌, ◌++◌, length, sym, ap, ◌∙◌, refl, arith}
use Rattle.std.specs.Prelude.{ℤ}
use Rattle.std.proofs.lemmas.Nat.{row_fits}
use Rattle.awk_lanes.specs.declared.kind.Kind.{Kind}
use Rattle.awk_lanes.specs.Making.{Making, with_item}
use Rattle.awk_lanes.specs.Numbers.{width, numbers, int_of}
use Rattle.awk_lanes.proofs.NumberParts.{length-numbers, numbers-append, number-bytes_of}
use Rattle.awk_lanes.proofs.maker.LaneMaker.push.Goals as goal

pub put-requires-clause-room : goal.put-requires-clause-room
put-requires-clause-room c =
    let n : c.self.inside.made ≡ length c.args.self.now.items = sym (length-numbers _ _ _) ∙ ap
    (λ (v : Making). length v.items) c.self.view_is in
    let r : c.self.inside.room ≡ c.args.self.now.room = ap (λ (v : Making). v.room)
    c.self.view_is in
    let f = row_fits c.self.inside.made (width c.self.inside.kind) c.self.inside.room
    (width c.self.inside.kind) (omega arith) (omega arith) in
    omega (arith, c.self.invariant.0, c.self.invariant.1, c.self.invariant.2)

pub returns : goal.returns
returns c =
    let k : c.self.inside.kind ≡ c.args.self.now.kind = ap (λ (v : Making). v.kind)
    c.self.view_is in
    pushed_is c.self.inside.kind c.self.inside.room _ _ c.args.self.now (int_of c.args.x)
    (ap (numbers c.self.inside.kind (c.self.inside.made + 1)) c.put.ensures.items
    ∙ numbers-append c.self.inside.kind c.self.inside.made c.self.inside.bytes.items _
    c.self.invariant.0
    ∙ ap (λ (z : ℤ). numbers c.self.inside.kind c.self.inside.made c.self.inside.bytes.items ++ z ∷
    []) (number-bytes_of c.self.inside.kind c.args.x (rw k c.requires.kind)))
    c.self.view_is
  where
    pushed_is : (k : Kind) (r : ℕ) (xs ys : List ℤ) (m : Making) (z : ℤ) → xs ≡ ys ++ z ∷ [] →
        record { kind = k; room = r; items = ys } ≡ m → record { kind = k; room = r; items = xs } ≡
        with_item m z
    pushed_is k r xs ys m z e f = rw (e, ← f) refl
