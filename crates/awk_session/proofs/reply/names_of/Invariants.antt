use Rattle.std.proofs.Common.{◌≡◌, length, take}
use Rattle.awk_eval.specs.Bindings.{names}
use Rattle.awk_session.proofs.reply.names_of.Given as goal

-- the first names are copied
abbrev pub invariant-loop-i : goal.invariant-loop-i
invariant-loop-i l = record {
  names : l.names ≡ take l.i (names l.env);
  counted : l.count ≡ length l.env;
}
