use Rattle.std.proofs.Common.{sym, arith}
use Rattle.awk_query.specs.declared.reading.Reading.TheVariants.{Two}
use Rattle.awk_framing.proofs.Asked.{raw_asked-first, raw_asked-one}
use Rattle.awk_framing.proofs.FramingLaws.{raw_asked-line}
use Rattle.awk_framing.proofs.need.raw_need.Goals as goal

pub returns-in-First : goal.returns-in-First
returns-in-First c = rw c.in-First.is (sym (raw_asked-first c.args.bytes.now), omega arith)

pub returns-in-One : goal.returns-in-One
returns-in-One c = rw c.in-One.is (sym (raw_asked-one c.args.bytes.now), omega arith)

pub returns-in-Two : goal.returns-in-Two
returns-in-Two c =
    rw (c.in-Two.is, raw_asked-line Two c.args.bytes.now c.requires.not_blank)
    c.need_of_two.ensures
