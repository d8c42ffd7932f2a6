use Rattle.std.proofs.Common.{◌≡◌, ℕ, ◌<◌, ◌≤◌, List, ◌+◌, ◌-◌, ◌==◌, ◌++◌, codes, length, drop}
use Rattle.std.proofs.Common.{refl, ap, sym, ◌∙◌, arith}
use Rattle.std.proofs.lemmas.List.{drop-set, drop_all}
use Rattle.std.proofs.Math.ListN.{set}
use Rattle.awk_layout.specs.Layout.{flat}
use Rattle.awk_layout.specs.Shown.{value_of_num}
use Rattle.awk_json.specs.Text.{comma_before}
use Rattle.awk_text.specs.ValueText.{leaf_text}
use Rattle.awk_text.specs.LayoutText.{layout_text}
use Rattle.awk_text.proofs.NumberTexts.{number_run}
use Rattle.awk_text.proofs.Runs.{pieces, pieces_none}
use Rattle.awk_text.proofs.numbers.set_run.Goals as goal

pub loop-k-init : goal.loop-k-init
loop-k-init g c = record {
  ahead = omega arith;
  fits = omega arith;
  within = omega arith;
  text = drop_all 252 c.args.room.now (omega (arith, c.told-room))
      ∙ sym (pieces_none (layout_text (flat c.args.lane.now)) c.args.first c.args.stop);
  cost = omega arith;
}

-- a comma is set before what stands there
comma_set : (room tail whole : List ℕ) (start : ℕ) → 0 < start → start ≤ length room
    → drop start room ≡ tail → whole ≡ codes "," ++ tail
    → drop (start - 1) (set room (start - 1) 44) ≡ whole
comma_set room tail whole start some within e all =
    let back : start - 1 + 1 ≡ start = omega arith in
    rw (drop-set room (start - 1) 44 (omega arith), back, e, all) refl

pub loop-k-preserved-then-k-first : goal.loop-k-preserved-then-k-first
loop-k-preserved-then-k-first g c =
    let k = c.loop-k.k in
    let w = c.set_leaf-start in
    let leaf = leaf_text (value_of_num c.at.result) in
    let whole = number_run c.args.lane.now c.args.first k c.args.stop c.at.result (omega arith)
    (omega arith) c.at.ensures.kind c.at.ensures.number in
    let later : comma_before (k - 1 == c.args.first) ≡ codes "," = grind arith in
    let tail = w.ensures.text ∙ ap (λ z. leaf ++ z) c.loop-k.invariant.text in
    record {
      ahead = omega arith;
      fits = omega arith;
      within = omega arith;
      text = comma_set w.new.room _ _ w.result (omega arith) (omega (arith, c.told-room)) tail
          (whole
          ∙ ap
          (λ z. z
          ++ (leaf ++ pieces (layout_text (flat c.args.lane.now)) c.args.first k c.args.stop))
          later);
      cost = omega arith;
    }
