use Rattle.std.proofs.Common.{min, ◌≡◌, ◌≤◌, ◌<◌, ◌+◌, ◌-◌, ◌%◌, ◌++◌, ℕ, List, [], length, take}
use Rattle.std.proofs.Common.{drop, refl, sym, ap, ◌∙◌, arith, inl, inr, ◌⊎◌, append-nil}
use Rattle.std.proofs.Common.{append_assoc, take-append-drop}
use Rattle.std.proofs.lemmas.List.{take_all, length-take-le}
use Rattle.std.proofs.lemmas.Bool.{cases_lt}
use lib.Seq.{take-add}
use Rattle.base64.specs.Engines.{standard}
use Rattle.base64.specs.GeneralPurpose.{encode_of}
use Rattle.base64.proofs.EngineFacts.{encode_of-append, encode_of-nil}
use Rattle.awk_json.proofs.Puts.{stops, goes}
use Rattle.awk_edge.proofs.Known.{Appends-none}
use Rattle.awk_text.proofs.encoded.write_base64.Goals as goal

-- whole groups of three, and what stands behind them
apart : (bytes : List ℕ) (done : ℕ) → done % 3 ≡ 0 → done ≤ length bytes
    → encode_of standard bytes ≡ encode_of standard (take done bytes) ++ encode_of standard
    (drop done bytes)
apart bytes done whole within =
    let front : length (take done bytes) % 3 ≡ 0 = rw (length-take-le done bytes within) whole in
    ap (encode_of standard) (sym (take-append-drop done bytes)) ∙ encode_of-append standard
    (take done bytes) (drop done bytes) front

-- some of the text, and what stands behind it
behind : (bytes : List ℕ) (done : ℕ) → (done % 3 ≡ 0) ⊎ (done ≡ length bytes) → done ≤ length bytes
    → (more : List ℕ) × (encode_of standard bytes ≡ encode_of standard (take done bytes) ++ more)
behind bytes done (inl whole) within =
    (encode_of standard (drop done bytes), apart bytes done whole within)
behind bytes done (inr all) within = (
  [],
  ap (encode_of standard) (sym (take_all done bytes (omega arith)))
      ∙ sym (append-nil (encode_of standard (take done bytes))),
)

-- the same of a part
next_chunk : (bytes : List ℕ) (n done : ℕ) → done % 3 ≡ 0 → done + n ≤ length bytes
    → encode_of standard (take (n + done) bytes)
    ≡ encode_of standard (take done bytes) ++ encode_of standard
    (take (n + done - done) (drop done bytes))
next_chunk bytes n done whole within =
    let sum : n + done ≡ done + n = omega arith in
    let back : n + done - done ≡ n = omega arith in
    let front : length (take done bytes) % 3 ≡ 0 =
    rw (length-take-le done bytes (omega (arith, within))) whole in
    rw (
      back,
      sum,
      take-add done n bytes,
      encode_of-append standard (take done bytes)
          (take n (drop done bytes)) front,
    ) refl

unfinished : (done size : ℕ) → done < size → (done % 3 ≡ 0) ⊎ (done ≡ size) → done % 3 ≡ 0
unfinished done size l (inl h) = h
unfinished done size l (inr h) = absurd (omega arith)

groups_left : (n done size : ℕ) → n ≡ min (size - done) 768 → done < size → done % 3 ≡ 0
    → ((n + done) % 3 ≡ 0) ⊎ (n + done ≡ size)
groups_left n done size e l whole =
    elim (cases_lt 768 (size - done))
    [ inl long ↦ inl (omega arith) | inr short ↦ inr (omega arith) ]

pub loop-done-init : goal.loop-done-init
loop-done-init g c = record {
  put =
      record {
        gone = [];
        rest = c.args.out.now.held;
        appends =
            Appends-none (g.K.Sink.written c.args.sink.now);
        all =
            rw (encode_of-nil standard) (append-nil c.args.out.now.held);
        held = refl;
        is_open =
            c.requires.open;
      };
  within = omega arith;
  groups = inl refl;
  flushes = refl;
  later = omega arith;
}

pub returns-in_err-write_chunk-clause-bytes : goal.returns-in_err-write_chunk-clause-bytes
returns-in_err-write_chunk-clause-bytes g c =
    let v = c.loop-done.invariant in
    let bytes = c.args.bytes.now in
    let done = c.loop-done.done in
    let n = c.min.result in
    let whole = unfinished done (length bytes) c.loop-done-test.true v.groups in
    let within : done + n ≤ length bytes = omega (arith, c.min.ensures, c.loop-done-test.true) in
    let part = next_chunk bytes n done whole within in
    let more =
    behind bytes (n + done)
    (groups_left n done (length bytes) c.min.ensures c.loop-done-test.true whole)
    (omega (arith, within)) in
    stops (goes v.put c.in_err-write_chunk.ensures.bytes _ refl refl) (grind arith) more.0
    (ap (λ z. c.args.out.now.held ++ z) (more.1 ∙ ap (λ z. z ++ more.0) part)
    ∙ simp append_assoc)

pub loop-done-preserved : goal.loop-done-preserved
loop-done-preserved g c =
    let v = c.loop-done.invariant in
    let bytes = c.args.bytes.now in
    let done = c.loop-done.done in
    let n = c.min.result in
    let whole = unfinished done (length bytes) c.loop-done-test.true v.groups in
    let within : done + n ≤ length bytes = omega (arith, c.min.ensures, c.loop-done-test.true) in
    let part = next_chunk bytes n done whole within in
    record {
      put = goes v.put c.in_ok-write_chunk.ensures.bytes _ refl
          (rw part
          (sym
          (append_assoc c.args.out.now.held (encode_of standard (take done bytes))
          (encode_of standard (take (n + done - done) (drop done bytes))))));
      within = omega (arith, within);
      groups = groups_left n done (length bytes) c.min.ensures c.loop-done-test.true whole;
      flushes = c.write_chunk.ensures.flushes ∙ v.flushes;
      later = omega (arith, v.later, c.write_chunk.ensures.cause.later);
    }
