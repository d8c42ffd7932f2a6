use Rattle.std.proofs.Common.{◌++◌, [], codes, map, Some, arith, refl, sym, ap, ◌∙◌}
use Rattle.awk_json.proofs.Joins.{stops_at, joins_first, joins_next, joins_stop, joins_stop_in}
use Rattle.awk_json.proofs.Joins.{joins_last}
use Rattle.awk_json.specs.Text.{quoted, comma_joined}
use Rattle.awk_base.proofs.Left.{map_left, map_left_at, map_none}
use Rattle.awk_form.proofs.write.write_names.Goals as goal

pub returns-in_err-put-clause-bytes : goal.returns-in_err-put-clause-bytes
returns-in_err-put-clause-bytes g c =
    stops_at _ (codes "[") (comma_joined (map quoted c.args.names.now) ++ codes "]")
    c.in_err-put.ensures.bytes (grind arith)

pub loop-i-init : goal.loop-i-init
loop-i-init g c = record {
  joins = joins_first _ (codes "[") (map quoted c.args.names.now) (codes "]")
      c.in_ok-put.ensures.bytes;
  flushes = grind arith;
  later = omega (arith, c.in_ok-put.ensures.cause.later);
}

pub returns-in_err-write_comma-clause-bytes : goal.returns-in_err-write_comma-clause-bytes
returns-in_err-write_comma-clause-bytes g c =
    joins_stop c.loop-i.invariant.joins
    (map_left quoted c.args.names.now c.loop-i.i _ [] (omega arith) refl)
    c.in_err-write_comma.ensures.bytes (grind arith)

pub returns-in_err-write_text-clause-bytes : goal.returns-in_err-write_text-clause-bytes
returns-in_err-write_text-clause-bytes g c =
    let left = map_left_at quoted c.args.names.now c.loop-i.i c.as_str.result.now
    (c.get.ensures ∙ ap Some (sym c.as_str.ensures)) in
    joins_stop_in c.loop-i.invariant.joins left c.in_ok-write_comma.ensures.bytes
    c.in_err-write_text.ensures.bytes (grind arith)

pub loop-i-preserved : goal.loop-i-preserved
loop-i-preserved g c =
    let v = c.loop-i.invariant in
    let left = map_left_at quoted c.args.names.now c.loop-i.i c.as_str.result.now
    (c.get.ensures ∙ ap Some (sym c.as_str.ensures)) in
    record {
      joins = joins_next v.joins left c.in_ok-write_comma.ensures.bytes
          c.in_ok-write_text.ensures.bytes;
      flushes = c.write_text.ensures.flushes ∙ c.write_comma.ensures.flushes ∙ v.flushes;
      later =
          omega (
            arith,
            v.later,
            c.write_comma.ensures.cause.later,
            c.write_text.ensures.cause.later,
          );
    }

pub returns-clause-bytes : goal.returns-clause-bytes
returns-clause-bytes g c = joins_last c.loop-i.invariant.joins
    (map_none quoted c.args.names.now c.loop-i.i (omega arith)) c.put-2.ensures.bytes
