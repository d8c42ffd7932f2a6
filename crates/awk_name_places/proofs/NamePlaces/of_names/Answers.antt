-- One key more is one name more, and one that is a key already comes twice.
use Rattle.std.proofs.Common.{◌∙◌, ap, sym, take, List, ℕ, [], ◌∷◌, ◌++◌, Some, not, arith}
use Rattle.std.proofs.lemmas.List.{take_all}
use Rattle.awk_types.specs.Names.{are_distinct}
use Rattle.awk_types.proofs.DistinctLaws.{distinct-more, repeated}
use Rattle.awk_base.proofs.Lists.{take-get}
use Rattle.awk_name_places.proofs.PlaceLaws.{keys-among, keys-more}
use Rattle.awk_name_places.proofs.NamePlaces.of_names.Goals as goal

pub returns-then-not-branch-clause-distinct : goal.returns-then-not-branch-clause-distinct
returns-then-not-branch-clause-distinct c =
    repeated c.args.names.now c.loop-i.i c.as_str.result.now
    (c.get.ensures ∙ ap Some (sym c.as_str.ensures))
    (keys-among c.as_str.result.now c.loop-i.set.keys (take c.loop-i.i c.args.names.now)
    c.in_ok-insert.field-0 c.loop-i.invariant.keys c.in_ok-insert.ensures.added
    ∙ ap not c.if-not-branch.true)

pub loop-i-preserved : goal.loop-i-preserved
loop-i-preserved c =
    let names = c.args.names.now in
    let i = c.loop-i.i in
    let name = c.as_str.result.now in
    let at = take-get names i name (c.get.ensures ∙ ap Some (sym c.as_str.ensures)) in
    record {
      end = c.loop-i.invariant.end;
      keys =
          keys-more c.loop-i.set.keys c.insert.new.self.keys c.as_str.result c.in_ok-insert.field-0
          c.if-not-branch.false c.in_ok-insert.ensures.added c.in_ok-insert.ensures.keys
          ∙ ap (λ (ns : List (List ℕ)). ns ++ name ∷ []) c.loop-i.invariant.keys ∙ sym at;
      distinct =
          ap are_distinct at
          ∙ distinct-more (take i names) name c.loop-i.invariant.distinct
          (keys-among name c.loop-i.set.keys (take i names) c.in_ok-insert.field-0
          c.loop-i.invariant.keys c.in_ok-insert.ensures.added
          ∙ ap not c.if-not-branch.false);
    }

pub returns-clause-distinct : goal.returns-clause-distinct
returns-clause-distinct c =
    sym c.loop-i.invariant.distinct
    ∙ ap are_distinct
    (take_all c.loop-i.i c.args.names.now
    (omega (arith, c.loop-i-test.false, c.loop-i.invariant.end)))
