use Rattle.awk_layout.specs.Typing.{array_type, array_items}
use Rattle.awk_readback.proofs.BackLaws.{gives-held}
use Rattle.awk_readback.proofs.back.there_and_back.Goals as goal

pub returns-clause-back : goal.returns-clause-back
returns-clause-back g c = λ held.
    gives-held (array_type c.args.x.now) (array_items c.args.x.now) c.args.store.now.held
    c.typ-typ.ensures.lawful c.len-len.ensures.items held c.rounded.result c.rounded.ensures.round
