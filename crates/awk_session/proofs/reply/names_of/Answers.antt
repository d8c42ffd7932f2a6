use Rattle.std.proofs.Common.{◌≡◌, length, take, ap, sym, ◌∙◌, arith}
use Rattle.std.proofs.lemmas.List.{length-map}
use Rattle.std.proofs.Math.Seq.{take-length}
use Rattle.awk_types.specs.DataType.{Name}
use Rattle.awk_base.proofs.Lists.{take-get}
use Rattle.awk_layout.specs.Datum.{datum_of}
use Rattle.awk_layout.specs.declared.datum.Datum.{Datum}
use Rattle.awk_eval.specs.Bindings.{names}
use Rattle.awk_session.proofs.DenotedLaws.{names-each}
use Rattle.awk_session.proofs.reply.names_of.Goals as goal

pub loop-i-preserved : goal.loop-i-preserved
loop-i-preserved c = record {
  names = c.in_ok-push.ensures.ok ∙ rw (c.in_ok-new.ensures, c.loop-i.invariant.names)
      (sym (take-get (names c.args.env.now) c.loop-i.i c.name_at.result.now c.name_at.ensures));
  counted = c.loop-i.invariant.counted;
}

pub returns : goal.returns
returns c =
    let ns = names c.args.env.now in
    let all : c.loop-i.i ≡ length ns =
    omega (
      arith,
      c.loop-i.invariant.counted,
      c.loop-i.auto.i-end,
      c.loop-i-test.false,
      length-map c.args.env.now (λ (v : Name × Datum). v.0),
    ) in
    c.loop-i.invariant.names ∙ ap (λ k. take k ns) all ∙ take-length ns
    ∙ sym (names-each datum_of c.args.env.now)
