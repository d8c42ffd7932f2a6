use Rattle.std.proofs.lemmas.Result.{IfOk-weaker}
use Rattle.awk_open.proofs.OpenedContents.{opened_inner}
use Rattle.awk_open.proofs.outermost.opened.Goals as goal

pub returns : goal.returns
returns g c = record {
  opened = c.opened_any.ensures.opened;
  inner =
      IfOk-weaker c.opened_any.result _ _ (λ r h. opened_inner c.args.x.now r
      c.typ.ensures.lawful.is_simple h) c.opened_any.ensures.opened;
}
