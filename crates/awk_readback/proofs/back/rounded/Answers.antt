use Rattle.awk_layout.specs.Typing.{array_type, array_items}
use Rattle.awk_pack.specs.Shown.{packed_of}
use Rattle.awk_readback.proofs.BackLaws.{first-fails, load-fails, again-fails, comes-back}
use Rattle.awk_readback.proofs.back.rounded.Goals as goal

pub load_packed-requires : goal.load_packed-requires
load_packed-requires g c = record { lawful = c.in_ok-first.ensures.lawful }

pub returns-in_err-first-clause-round : goal.returns-in_err-first-clause-round
returns-in_err-first-clause-round g c =
    first-fails (array_type c.args.x.now) (array_items c.args.x.now) c.args.store.now.held
    c.from_residual.result c.in_err-first.field-0.0
    c.from_residual.ensures.1 c.in_err-first.ensures.packed

pub returns-in_err-array-clause-round : goal.returns-in_err-array-clause-round
returns-in_err-array-clause-round g c =
    load-fails (array_type c.args.x.now) (array_items c.args.x.now) c.args.store.now.held
    c.from_residual-in_err-array.result (packed_of c.in_ok-first.first)
    c.in_err-array.field-0.0 c.in_ok-first.ensures.packed
    c.from_residual-in_err-array.ensures.1 c.in_err-array.ensures.denoted

pub returns-in_err-again-clause-round : goal.returns-in_err-again-clause-round
returns-in_err-again-clause-round g c =
    again-fails (array_type c.args.x.now) (array_items c.args.x.now) c.args.store.now.held
    c.from_residual-in_err-again.result (packed_of c.in_ok-first.first) c.in_ok-array.array
    c.in_err-again.field-0.0 c.in_ok-first.ensures.packed
    c.from_residual-in_err-again.ensures.1 c.in_ok-array.ensures.denoted
    c.in_err-again.ensures.packed

pub returns-clause-round : goal.returns-clause-round
returns-clause-round g c =
    comes-back (array_type c.args.x.now) (array_items c.args.x.now) c.args.store.now.held
    (packed_of c.in_ok-first.first) (packed_of c.in_ok-again.again) c.in_ok-array.array
    c.in_ok-first.ensures.packed c.in_ok-array.ensures.denoted c.in_ok-again.ensures.packed
