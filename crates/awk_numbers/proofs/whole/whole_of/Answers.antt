use Rattle.std.proofs.Common.{ap, sym, ◌∙◌, map}
use Rattle.awk_lanes.specs.Numbers.{number}
use Rattle.awk_lanes.specs.declared.kind.Kind.TheVariants as kind
use Rattle.awk_numbers.proofs.PartLaws.{cells_all, truths_all}
use Rattle.awk_numbers.proofs.whole.whole_of.Goals as goal

pub returns-in-Bool : goal.returns-in-Bool
returns-in-Bool g c = record {
  numbers = truths_all c.args.lane.now c.in_ok-bytes.bytes.now (sym c.kind.ensures ∙ c.in-Bool.is)
      c.in_ok-bytes.ensures.size c.in_ok-bytes.ensures.numbers;
}

pub returns-in-I8 : goal.returns-in-I8
returns-in-I8 g c = record {
  numbers = ap (map (number kind.I8)) c.as_chunks.ensures.front
      ∙ cells_all kind.I8 c.args.lane.now c.in_ok-bytes.bytes.now
      (sym c.kind.ensures ∙ c.in-I8.is) (λ e. cc)
      c.in_ok-bytes.ensures.size c.in_ok-bytes.ensures.numbers;
}

pub returns-in-I16 : goal.returns-in-I16
returns-in-I16 g c = record {
  numbers = ap (map (number kind.I16)) c.as_chunks-in-I16.ensures.front
      ∙ cells_all kind.I16 c.args.lane.now c.in_ok-bytes.bytes.now
      (sym c.kind.ensures ∙ c.in-I16.is) (λ e. cc)
      c.in_ok-bytes.ensures.size c.in_ok-bytes.ensures.numbers;
}

pub returns-in-I32 : goal.returns-in-I32
returns-in-I32 g c = record {
  numbers = ap (map (number kind.I32)) c.as_chunks-in-I32.ensures.front
      ∙ cells_all kind.I32 c.args.lane.now c.in_ok-bytes.bytes.now
      (sym c.kind.ensures ∙ c.in-I32.is) (λ e. cc)
      c.in_ok-bytes.ensures.size c.in_ok-bytes.ensures.numbers;
}

pub returns-in-I64 : goal.returns-in-I64
returns-in-I64 g c = record {
  numbers = ap (map (number kind.I64)) c.as_chunks-in-I64.ensures.front
      ∙ cells_all kind.I64 c.args.lane.now c.in_ok-bytes.bytes.now
      (sym c.kind.ensures ∙ c.in-I64.is) (λ e. cc)
      c.in_ok-bytes.ensures.size c.in_ok-bytes.ensures.numbers;
}

pub returns-in-U8 : goal.returns-in-U8
returns-in-U8 g c = record {
  numbers = ap (map (number kind.U8)) c.as_chunks-in-U8.ensures.front
      ∙ cells_all kind.U8 c.args.lane.now c.in_ok-bytes.bytes.now
      (sym c.kind.ensures ∙ c.in-U8.is) (λ e. cc)
      c.in_ok-bytes.ensures.size c.in_ok-bytes.ensures.numbers;
}

pub returns-in-U16 : goal.returns-in-U16
returns-in-U16 g c = record {
  numbers = ap (map (number kind.U16)) c.as_chunks-in-U16.ensures.front
      ∙ cells_all kind.U16 c.args.lane.now c.in_ok-bytes.bytes.now
      (sym c.kind.ensures ∙ c.in-U16.is) (λ e. cc)
      c.in_ok-bytes.ensures.size c.in_ok-bytes.ensures.numbers;
}

pub returns-in-U32 : goal.returns-in-U32
returns-in-U32 g c = record {
  numbers = ap (map (number kind.U32)) c.as_chunks-in-U32.ensures.front
      ∙ cells_all kind.U32 c.args.lane.now c.in_ok-bytes.bytes.now
      (sym c.kind.ensures ∙ c.in-U32.is) (λ e. cc)
      c.in_ok-bytes.ensures.size c.in_ok-bytes.ensures.numbers;
}

pub returns-in-U64 : goal.returns-in-U64
returns-in-U64 g c = record {
  numbers = ap (map (number kind.U64)) c.as_chunks-in-U64.ensures.front
      ∙ cells_all kind.U64 c.args.lane.now c.in_ok-bytes.bytes.now
      (sym c.kind.ensures ∙ c.in-U64.is) (λ e. cc)
      c.in_ok-bytes.ensures.size c.in_ok-bytes.ensures.numbers;
}
