-- One key more is the name of one field more, and one that is a key already comes twice.
use Rattle.std.proofs.Common.{◌≡◌, ◌+◌, ◌∙◌, ap, sym, take, List, ℕ, [], ◌∷◌, ◌++◌, Some, not}
use Rattle.std.proofs.Common.{option_map, arith}
use Rattle.std.proofs.lemmas.List.{take-map, take_all}
use Rattle.std.proofs.lemmas.Option.{slice_get-map}
use Rattle.awk_types.specs.Names.{are_distinct, is_among}
use Rattle.awk_types.specs.View.{field_of, fields_of, names_of}
use Rattle.awk_types.proofs.DistinctLaws.{distinct-more, repeated}
use Rattle.awk_base.proofs.Lists.{map-take-get}
use Rattle.awk_types.proofs.Views.{name_out}
use Rattle.awk_name_places.proofs.PlaceLaws.{keys-among, keys-more}
use Rattle.awk_name_places.proofs.NamePlaces.of_fields.Goals as goal

pub returns-then-not-branch-clause-distinct : goal.returns-then-not-branch-clause-distinct
returns-then-not-branch-clause-distinct c =
    let fields = fields_of c.args.fields.now in
    repeated (names_of fields) c.loop-i.i c.as_str.result.now
    (slice_get-map (λ f. f.name) fields c.loop-i.i
    ∙ ap (option_map (λ f. f.name)) c.get.ensures.item
    ∙ ap Some (name_out c.get.result.now ∙ sym c.as_str.ensures))
    (ap (is_among c.as_str.result.now) (take-map (λ f. f.name) c.loop-i.i fields)
    ∙ keys-among c.as_str.result.now c.loop-i.names.keys (names_of (take c.loop-i.i fields))
    c.in_ok-insert.field-0 c.loop-i.invariant.keys c.in_ok-insert.ensures.added
    ∙ ap not c.if-not-branch.true)

pub loop-i-preserved : goal.loop-i-preserved
loop-i-preserved c =
    let fields = fields_of c.args.fields.now in
    let i = c.loop-i.i in
    let name = c.as_str.result.now in
    let at : names_of (take (i + 1) fields) ≡ names_of (take i fields) ++ name ∷ [] =
    map-take-get (λ f. f.name) fields i (field_of c.get.result.now) c.get.ensures.item
    ∙ ap (λ (n : List ℕ). names_of (take i fields) ++ n ∷ [])
    (name_out c.get.result.now ∙ sym c.as_str.ensures) in
    record {
      end = c.loop-i.invariant.end;
      keys =
          keys-more c.loop-i.names.keys c.insert.new.self.keys c.as_str.result
          c.in_ok-insert.field-0 c.if-not-branch.false c.in_ok-insert.ensures.added
          c.in_ok-insert.ensures.keys
          ∙ ap (λ (ns : List (List ℕ)). ns ++ name ∷ []) c.loop-i.invariant.keys ∙ sym at;
      distinct =
          ap are_distinct at
          ∙ distinct-more (names_of (take i fields)) name c.loop-i.invariant.distinct
          (keys-among name c.loop-i.names.keys (names_of (take i fields)) c.in_ok-insert.field-0
          c.loop-i.invariant.keys c.in_ok-insert.ensures.added
          ∙ ap not c.if-not-branch.false);
    }

pub returns-clause-distinct : goal.returns-clause-distinct
returns-clause-distinct c =
    sym c.loop-i.invariant.distinct
    ∙ ap (λ fs. are_distinct (names_of fs))
    (take_all c.loop-i.i (fields_of c.args.fields.now)
    (omega (arith, c.loop-i-test.false, c.loop-i.invariant.end)))
