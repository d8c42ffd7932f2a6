use Rattle.std.proofs.Common.{◌≡◌, ◌+◌, ◌-◌, ◌++◌, ℕ, List, take, drop, codes, refl, ◌∙◌, arith}
use Rattle.std.proofs.Common.{length}
use Rattle.std.proofs.lemmas.List.{take_all, length-drop}
use Rattle.awk_json.proofs.Joins.{stops_at}
use Rattle.awk_json.specs.Text.{comma_joined}
use Rattle.awk_layout.specs.Layout.{flat}
use Rattle.awk_text.specs.LayoutText.{layout_text}
use Rattle.awk_text.proofs.NumberTexts.{number_some}
use Rattle.awk_text.proofs.Places.{texts_from, places_first, places_last, paid_start}
use Rattle.awk_text.proofs.Runs.{places_run, places_stop_run, paid_run}
use Rattle.awk_text.proofs.numbers.write_numbers.Goals as goal

pub returns-in_err-put-clause-bytes : goal.returns-in_err-put-clause-bytes
returns-in_err-put-clause-bytes g c =
    let texts = texts_from (layout_text (flat c.args.lane.now)) c.args.lo c.args.hi in
    stops_at _ (codes "[") (comma_joined texts ++ codes "]") c.in_err-put.ensures.bytes
    (grind arith)

pub loop-j-init : goal.loop-j-init
loop-j-init g c =
    let f = layout_text (flat c.args.lane.now) in
    record {
      from = omega arith;
      within = omega arith;
      places = places_first _ _ (codes "[") f c.args.lo c.args.hi (codes "]") refl
          c.in_ok-put.ensures.bytes;
      flushes = grind arith;
      later = omega (arith, c.in_ok-put.ensures.cause.later);
      cost = paid_start 1 c.args.steps.now _ (codes "[") f c.args.lo c.args.hi (codes "]") refl;
    }

-- the last bytes of a room of 252
last_bytes : (room : List ℕ) (start : ℕ) → length room ≡ 252
    → take (252 - start) (drop start room) ≡ drop start room
last_bytes room start long =
    take_all (252 - start) (drop start room) (simp length-drop (omega arith))

pub returns-in_err-put-2-clause-bytes : goal.returns-in_err-put-2-clause-bytes
returns-in_err-put-2-clause-bytes g c =
    places_stop_run (layout_text (flat c.args.lane.now)) c.args.lo c.loop-j.j
    (c.loop-j.j + c.min.result) c.args.hi _ c.loop-j.invariant.places (omega arith)
    (omega arith) (omega arith)
    (last_bytes c.set_run-start.new.room c.set_run-start.result (omega arith)
    ∙ c.set_run-start.ensures.text) c.in_err-put-2.ensures.bytes (grind arith)

pub returns-in_err-put-2-clause-cost : goal.returns-in_err-put-2-clause-cost
returns-in_err-put-2-clause-cost g c =
    let f = layout_text (flat c.args.lane.now) in
    let paid = paid_run _ _ c.set_run-start.new.steps f c.args.lo c.loop-j.j
    (c.loop-j.j + c.min.result) c.args.hi (codes "]") _ (number_some c.args.lane.now)
    c.loop-j.invariant.cost
    (omega arith) (omega arith) (omega arith) (omega arith) in
    omega (arith, paid.within)

pub loop-j-preserved : goal.loop-j-preserved
loop-j-preserved g c =
    let v = c.loop-j.invariant in
    let f = layout_text (flat c.args.lane.now) in
    let stop = c.loop-j.j + c.min.result in
    record {
      from = omega arith;
      within = omega arith;
      places = places_run f c.args.lo c.loop-j.j stop c.args.hi _ v.places (omega arith)
          (omega arith) (omega arith)
          (last_bytes c.set_run-start.new.room c.set_run-start.result (omega arith)
          ∙ c.set_run-start.ensures.text) c.in_ok-put-2.ensures.bytes;
      flushes = c.put-in-loop-j.ensures.flushes ∙ v.flushes;
      later = omega (arith, v.later, c.put-in-loop-j.ensures.cause.later);
      cost = paid_run _ _ _ f c.args.lo c.loop-j.j stop c.args.hi (codes "]") _
          (number_some c.args.lane.now) v.cost (omega arith) (omega arith) (omega arith)
          (omega arith);
    }

pub returns-clause-bytes : goal.returns-clause-bytes
returns-clause-bytes g c =
    places_last (layout_text (flat c.args.lane.now)) c.args.lo c.loop-j.j c.args.hi
    c.loop-j.invariant.places (omega arith) c.put-2.ensures.bytes
