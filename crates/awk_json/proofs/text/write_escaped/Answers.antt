use Rattle.std.proofs.Common.{arith, ◌++◌, ◌+◌, drop, get_or, slice_range, refl, ap, ◌∙◌, sym}
use Rattle.std.proofs.Common.{append_assoc}
use Rattle.awk_base.proofs.Lists.{part_none}
use Rattle.awk_json.specs.Text.{escape, escaped_all}
use Rattle.awk_json.proofs.Escapes.{plain_on, special_next, last_part}
use Rattle.awk_json.proofs.Puts.{stops, goes}
use Rattle.awk_json.proofs.text.write_escaped.Goals as goal

pub returns-in_err-put-clause-bytes : goal.returns-in_err-put-clause-bytes
returns-in_err-put-clause-bytes g c =
    stops (goes c.loop-i.invariant.put c.in_err-put.ensures.bytes _ refl refl) (grind arith)
    (escaped_all (drop c.loop-i.i c.args.bytes.now))
    (rw c.loop-i.invariant.whole (simp append_assoc))

pub returns-in_err-write_escape-clause-bytes : goal.returns-in_err-write_escape-clause-bytes
returns-in_err-write_escape-clause-bytes g c =
    let next = special_next c.args.bytes.now c.loop-i.i (omega arith) (grind arith) in
    stops (goes (goes c.loop-i.invariant.put c.in_ok-put.ensures.bytes _ refl refl)
    c.in_err-write_escape.ensures.bytes _ refl refl) (grind arith)
    (escaped_all (drop (c.loop-i.i + 1) c.args.bytes.now))
    (rw (c.loop-i.invariant.whole, next) (simp append_assoc))

pub loop-i-preserved-then-not-is_special : goal.loop-i-preserved-then-not-is_special
loop-i-preserved-then-not-is_special g c = record {
  ordered = omega (arith, c.loop-i.invariant.ordered);
  done = c.loop-i.invariant.done;
  put = c.loop-i.invariant.put;
  whole =
      c.loop-i.invariant.whole ∙ ap (λ z. c.loop-i.invariant.done ++ z)
      (sym (plain_on c.args.bytes.now c.loop-i.start c.loop-i.i c.loop-i.invariant.ordered
      (omega arith) (grind arith)));
  flushes = c.loop-i.invariant.flushes;
  later = c.loop-i.invariant.later;
}

pub loop-i-preserved : goal.loop-i-preserved
loop-i-preserved g c =
    let bytes = c.args.bytes.now in
    let i = c.loop-i.i in
    let next = special_next bytes i (omega arith) (grind arith) in
    let none = part_none bytes (i + 1) in
    record {
      ordered = omega arith;
      done =
          c.loop-i.invariant.done ++ slice_range bytes c.loop-i.start i ++ escape
          (get_or bytes i 0);
      put =
          goes (goes c.loop-i.invariant.put c.in_ok-put.ensures.bytes _ refl refl)
          c.in_ok-write_escape.ensures.bytes _ refl (simp append_assoc);
      whole = rw (c.loop-i.invariant.whole, next, none) (simp append_assoc);
      flushes = c.write_escape.ensures.flushes ∙ c.put.ensures.flushes ∙ c.loop-i.invariant.flushes;
      later =
          omega (
            arith,
            c.loop-i.invariant.later,
            c.put.ensures.cause.later,
            c.write_escape.ensures.cause.later,
          );
    }

pub returns-clause-bytes : goal.returns-clause-bytes
returns-clause-bytes g c =
    let last = last_part c.args.bytes.now c.loop-i.start c.loop-i.i (omega arith) in
    goes c.loop-i.invariant.put c.put-2.ensures.bytes _ refl
    (rw (c.loop-i.invariant.whole, last) (simp append_assoc))
