-- The buffers of a load line are texts, or bytes under distinct keys, and a values line has a list.
use Rattle.std.proofs.Common.{◌+◌, length, subst, arith}
use Rattle.serde_json.specs.View.{view, members_view}
use Rattle.awk_lengths.specs.LineBytes.{text_len}
use Rattle.awk_query.specs.AllowedLine.{IsAllowedLine}
use Rattle.awk_query.specs.Line.{keys_of, texts, parts}
use Rattle.awk_query.specs.LineView.{line_view}
use Rattle.awk_types.proofs.DistinctLaws.{AreDistinct-true}
use Rattle.awk_load_line.specs.LoadCost.{form_width}
use Rattle.awk_load_line.proofs.LoadLaws.{load_cost-bytes}
use Rattle.awk_load_line.proofs.ReadLaws.{are_texts-holds}
use Rattle.awk_framing.specs.Listed.{IsListed}
use Rattle.awk_session.proofs.reply.reply_line.Goals as goal

pub bind_texts-requires : goal.bind_texts-requires
bind_texts-requires g c = record {
  texts = are_texts-holds (members_view c.in-Load.buffers.entries)
      (subst (λ l. IsAllowedLine (line_view l)) c.in-Load.is c.requires.allowed);
}

pub bind_raw-requires : goal.bind_raw-requires
bind_raw-requires g c = record {
  apart = AreDistinct-true (keys_of c.in-LoadRaw.parts)
      (subst (λ l. IsAllowedLine (line_view l)) c.in-LoadRaw.is c.requires.allowed);
}

pub bind_values-requires : goal.bind_values-requires
bind_values-requires g c = record {
  listed = subst (λ l. IsListed (line_view l)) c.in-Values.is c.requires.listed;
}

pub returns-in-Load-clause-cost : goal.returns-in-Load-clause-cost
returns-in-Load-clause-cost g c =
    let here = text_len (texts (members_view c.in-Load.buffers.entries)) in
    let more = load_cost-bytes (form_width (view c.in-Load.form)) here
    (here + length c.args.raw.now) (omega arith) in
    rw c.in-Load.is (omega (arith, c.bind_texts.ensures.cost, more))

pub returns-in-LoadRaw-clause-cost : goal.returns-in-LoadRaw-clause-cost
returns-in-LoadRaw-clause-cost g c =
    let all = length c.args.raw.now in
    let more = load_cost-bytes (form_width (view c.in-LoadRaw.form)) all
    (text_len (parts c.in-LoadRaw.parts) + all) (omega arith) in
    rw c.in-LoadRaw.is (omega (arith, c.bind_raw.ensures.cost, more))
