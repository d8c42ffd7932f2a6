use Rattle.std.proofs.Common.{◌≡◌, ◌+◌, ◌-◌, ◌≤◌, ◌++◌, ap, subst, sym, ◌∙◌}
use Rattle.std.proofs.Common.{length, map, take, drop, arith}
use Rattle.std.specs.Prelude.{pos, get_or}
use Rattle.std.specs.List.{slice_range}
use Rattle.std.proofs.lemmas.List.{take_at}
use Rattle.std.proofs.lemmas.List.Edits.{length-between}
use Rattle.awk_numbers.proofs.PartLaws.{slice_range-map}
use Rattle.awk_parts.specs.Windows.{AreSums}
use Rattle.awk_parts.proofs.WindowLaws.{sums_from}
use Rattle.awk_parts.proofs.windows.RunningSums.fill.Goals as goal

pub returns-then-stop-first : goal.returns-then-stop-first
returns-then-stop-first g c =
    let f = g.C.Cell.number in
    let gs = c.args.groups.now in
    let a = c.args.first in
    let b = c.args.stop in
    let v = c.args.self.now.sums in
    let n = c.write_sums-self.result in
    let out = c.write_sums-self.new.out in
    let size : length out ≡ v.len =
    c.write_sums-self.ensures.length ∙ c.as_mut_slice.ensures.len in
    let items : take v.len (out ++ drop (length out) v.items) ≡ out =
    take_at out (drop (length out) v.items) v.len size in
    let few : n ≤ (b - a) + 1 = omega (
      arith,
      c.write_sums-self.ensures.most,
      length-between gs a b c.if-stop-numbers.true,
    ) in
    let made : AreSums (slice_range (map f gs) a b) n out =
    subst (λ zs. AreSums zs n out) (sym (slice_range-map f gs a b)) c.write_sums-self.ensures.sums
    in
    record {
      room =
          omega (arith, few, size, ap length items, c.if-stop-first.true, c.len-room.ensures);
      sums = λ k l. ap (λ ys. get_or ys k (pos 0)) items
          ∙ sums_from (map f gs) a b n out few made k l;
    }
