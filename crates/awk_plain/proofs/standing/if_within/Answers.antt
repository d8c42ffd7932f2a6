use Rattle.std.proofs.Common.{◌∙◌, ap, sym}
use Rattle.awk_types.proofs.RefusalLaws.{refused_or-Ok}
use Rattle.awk_types.specs.Limit.{limit}
use Rattle.awk_types.specs.View.{typ_of}
use Rattle.awk_plain.proofs.standing.if_within.Goals as goal

pub returns-in-Ok-clause-same : goal.returns-in-Ok-clause-same
returns-in-Ok-clause-same c =
    let t = typ_of c.args.typ in
    sym (refused_or-Ok (limit t) t (typ_of c.in-Ok.judged) c.in-Ok.ensures).1

pub returns-in-Ok-clause-within : goal.returns-in-Ok-clause-within
returns-in-Ok-clause-within c =
    let t = typ_of c.args.typ in
    let is = refused_or-Ok (limit t) t (typ_of c.in-Ok.judged) c.in-Ok.ensures in
    ap limit (sym is.1) ∙ is.0
