use Rattle.std.proofs.Common.{◌≡◌, ◌++◌, codes, decimal, map, arith, refl, ◌∙◌}
use Rattle.awk_json.proofs.Joins.{stops_at, joins_first, joins_next, joins_stop, joins_stop_in}
use Rattle.awk_json.proofs.Joins.{joins_last}
use Rattle.awk_json.specs.Text.{comma_joined}
use Rattle.awk_base.proofs.Left.{map_left, map_none}
use Rattle.awk_form.proofs.write.write_numbers.Goals as goal

pub returns-in_err-put-clause-bytes : goal.returns-in_err-put-clause-bytes
returns-in_err-put-clause-bytes g c =
    stops_at _ (codes "[") (comma_joined (map decimal c.args.numbers.now) ++ codes "]")
    c.in_err-put.ensures.bytes (grind arith)

pub loop-n-init : goal.loop-n-init
loop-n-init g c =
    let same : c.deref-n-items.result.now ≡ c.args.numbers.now = cc in
    record {
      joins =
          rw same
          (joins_first _ (codes "[") (map decimal c.args.numbers.now) (codes "]")
          c.in_ok-put.ensures.bytes);
      flushes = grind arith;
      later = omega (arith, c.in_ok-put.ensures.cause.later);
    }

pub returns-in_err-write_comma-clause-bytes : goal.returns-in_err-write_comma-clause-bytes
returns-in_err-write_comma-clause-bytes g c =
    joins_stop c.loop-n.invariant.joins
    (map_left decimal c.deref-n-items.result.now c.loop-n.n-index _ 0 (omega arith) refl)
    c.in_err-write_comma.ensures.bytes (grind arith)

pub returns-in_err-write_number-clause-bytes : goal.returns-in_err-write_number-clause-bytes
returns-in_err-write_number-clause-bytes g c =
    joins_stop_in c.loop-n.invariant.joins
    (map_left decimal c.deref-n-items.result.now c.loop-n.n-index _ 0 (omega arith) refl)
    c.in_ok-write_comma.ensures.bytes c.in_err-write_number.ensures.bytes (grind arith)

pub loop-n-preserved : goal.loop-n-preserved
loop-n-preserved g c =
    let v = c.loop-n.invariant in
    record {
      joins =
          joins_next v.joins
          (map_left decimal c.deref-n-items.result.now c.loop-n.n-index _ 0 (omega arith) refl)
          c.in_ok-write_comma.ensures.bytes c.in_ok-write_number.ensures.bytes;
      flushes = c.write_number.ensures.flushes ∙ c.write_comma.ensures.flushes ∙ v.flushes;
      later =
          omega (
            arith,
            v.later,
            c.write_comma.ensures.cause.later,
            c.write_number.ensures.cause.later,
          );
    }

pub returns-clause-bytes : goal.returns-clause-bytes
returns-clause-bytes g c = joins_last c.loop-n.invariant.joins
    (map_none decimal c.deref-n-items.result.now c.loop-n.n-index (omega arith))
    c.put-2.ensures.bytes
