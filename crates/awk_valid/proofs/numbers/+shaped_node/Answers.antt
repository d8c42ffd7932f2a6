-- The shape from the next place on has the sizes and the numbers that are left.
use Rattle.std.proofs.Common.{◌≤◌, ◌*◌, ◌+◌, drop, length, ◌∙◌, arith}
use Rattle.awk_layout.specs.Layout.{flat}
use Rattle.awk_valid.proofs.ShapeLaws.{shape-few, shape-left, numbers-next, content-len, lists-over}
use Rattle.awk_valid.proofs.numbers.+shaped_node.Goals as goal

pub overflow_mul-n : goal.overflow_mul-n
overflow_mul-n g t c =
    let inner = c.args.inner.now in
    let m = c.get-size.result.now in
    let few =
    shape-few (c.args.n * m) (drop (c.args.place + 1) inner)
    (shape-left c.args.n c.args.place m inner c.get-size.ensures c.requires.few) in
    omega (arith, few)

pub shaped_node-requires : goal.shaped_node-requires
shaped_node-requires g t c κs within =
    let inner = c.args.inner.now in
    let m = c.get-size.result.now in
    let below : c.args.place + 1 ≤ length inner = omega arith in (
      omega arith,
      (
        within,
        (
          below,
          (
            shape-left c.args.n c.args.place m inner c.get-size.ensures c.requires.few,
            numbers-next _ c.args.place c.args.n m inner c.get-size.ensures c.requires.numbers,
          ),
        ),
      ),
    )

pub regular-requires-clause-length : goal.regular-requires-clause-length
regular-requires-clause-length g t c =
    let few = shape-few c.args.n (drop c.args.place c.args.inner.now) c.requires.few in
    omega (arith, few)

pub regular-requires-clause-valid : goal.regular-requires-clause-valid
regular-requires-clause-valid g t c =
    let inner = c.args.inner.now in
    let m = c.get-size.result.now in
    let more = numbers-next _ c.args.place c.args.n m inner c.get-size.ensures c.requires.numbers in
    let made =
    content-len (c.args.n * m) (drop (c.args.place + 1) inner)
    (flat c.args.lane) _ c.in_ok-new.field-0.value c.in_ok-new.ensures.ok
    c.in_ok-content.ensures.node more in
    omega (arith, made)

pub returns-clause-node : goal.returns-clause-node
returns-clause-node g t c =
    c.regular.ensures.node
    ∙ lists-over c.args.n c.args.place c.get-size.result.now c.args.inner.now
    (flat c.args.lane) _ _ c.get-size.ensures c.in_ok-new.ensures.ok
    c.in_ok-content.ensures.node
