use Rattle.std.proofs.Common.{arith, ◌≡◌, ◌+◌, ◌∙◌, take, drop, ap, ap₂, slice_get, sym}
use Rattle.std.proofs.lemmas.Result.{IfOk-weaker}
use Rattle.awk_types.specs.Simple.{alternatives}
use Rattle.awk_types.specs.View.{field_of, fields_of, names_of, typ_of, typs_of}
use Rattle.awk_name_places.specs.Places.{place_in}
use Rattle.awk_types.proofs.Views.{name_out}
use Rattle.awk_unify.specs.Insert.{ahead, joined_first}
use Rattle.awk_unify.specs.Join.{join_by, join_records, tup_join}
use Rattle.awk_unify.specs.Merge.{insert, insert_all, start, merged}
use Rattle.awk_unify.specs.Unification.{Placed, PlacedAll}
use Rattle.awk_unify.specs.View.{found_of, parts_of, placed_of, placed_all_of, unified_of}
use Rattle.awk_unify.specs.Unify.{unification}
use Rattle.awk_unify.proofs.NamePlaces.{typ_out}
use Rattle.awk_unify.proofs.PartsLaws.{fields_last, fields_length, fields_next, fields_none}
use Rattle.awk_unify.proofs.PartsLaws.{parts_last, parts_next}
use Rattle.awk_unify.proofs.InsertLaws.{passed, found, put_in}
use Rattle.awk_unify.proofs.Steps.{early_found, bare_found, join_found, join_none}
use Rattle.awk_unify.proofs.Steps.{tuples_of_one_length, tuples_of_other_lengths, records_join}
use Rattle.awk_unify.proofs.Steps.{merged_union}
use Rattle.awk_unify.proofs.unifying.+unify.Goals as goal

pub bare_unified-returns-in-Some : goal.bare_unified-returns-in-Some
bare_unified-returns-in-Some t c =
    bare_found c.in_ok-found.field-0 c.in-Some.found (typ_of c.args.a.now) (typ_of c.args.b.now)
    c.in_ok-found.ensures c.in-Some.is

pub unified-returns-in-Some : goal.unified-returns-in-Some
unified-returns-in-Some t c =
    early_found c.in_ok-found.field-0 c.in-Some.found (typ_of c.args.a.now) (typ_of c.args.b.now)
    c.in_ok-found.ensures c.in-Some.is

pub inserted-returns-in-Some : goal.inserted-returns-in-Some
inserted-returns-in-Some t c =
    let all : Placed = insert (join_by unification) (typs_of c.args.ts.now) (typ_of c.args.b.now) in
    let found_here : ahead (take c.loop-i.i (typs_of c.args.ts.now))
    (joined_first (unified_of c.in-Some.j) (drop (c.loop-i.i + 1) (typs_of c.args.ts.now))) ≡
    all =
    found (join_by unification) (typs_of c.args.ts.now) (typ_of c.args.b.now) c.loop-i.i
    (typ_of c.get.result.now) (unified_of c.in-Some.j) all c.get.ensures.item
    (join_found c.in_ok-j.field-0 c.in-Some.j
    (join_by unification (typ_of c.get.result.now) (typ_of c.args.b.now)) c.in_ok-j.ensures
    c.in-Some.is) c.loop-i.invariant in
    IfOk-weaker c.widened.result (λ p. placed_of p ≡ ahead (take c.loop-i.i (typs_of c.args.ts.now))
    (joined_first (unified_of c.in-Some.j) (drop (c.loop-i.i + 1) (typs_of c.args.ts.now))))
    (λ p. placed_of p ≡ all) (λ p e. e ∙ found_here) c.widened.ensures

pub inserted-loop-i-preserved : goal.inserted-loop-i-preserved
inserted-loop-i-preserved t c =
    passed (join_by unification) (typs_of c.args.ts.now) (typ_of c.args.b.now) c.loop-i.i
    (typ_of c.get.result.now) (insert (join_by unification) (typs_of c.args.ts.now)
    (typ_of c.args.b.now)) c.get.ensures.item (join_none c.in_ok-j.field-0
    (join_by unification (typ_of c.get.result.now) (typ_of c.args.b.now)) c.in_ok-j.ensures
    c.in_default.is) c.loop-i.invariant

pub inserted_each-loop-i-preserved : goal.inserted_each-loop-i-preserved
inserted_each-loop-i-preserved t c =
    put_in (join_by unification) _ _ _ _ _ c.loop-i.i _ c.get.ensures.item c.in_ok-placed.ensures
    c.in_ok-made.ensures c.loop-i.invariant

pub joined-returns-in_ok-unified_parts-in-Tup-Tup :
    goal.joined-returns-in_ok-unified_parts-in-Tup-Tup
joined-returns-in_ok-unified_parts-in-Tup-Tup t c =
    let joins : tup_join (parts_of c.in_ok-unified_parts-in-Tup-Tup.field-0) ≡ join_by unification
    (typ_of c.args.a.now) (typ_of c.args.b.now) =
    tuples_of_one_length c.args.a.now c.args.b.now c.in-Tup-Tup.xs c.in-Tup-Tup.ys
    (parts_of c.in_ok-unified_parts-in-Tup-Tup.field-0) c.in-Tup-Tup.is-0 c.in-Tup-Tup.is-1
    (omega (arith, c.if-len.true, c.len.ensures, c.len-in-Tup-Tup.ensures))
    c.in_ok-unified_parts-in-Tup-Tup.ensures in
    IfOk-weaker c.tuples.result (λ o. found_of o ≡ tup_join
    (parts_of c.in_ok-unified_parts-in-Tup-Tup.field-0))
    (λ o. found_of o ≡ join_by unification (typ_of c.args.a.now) (typ_of c.args.b.now))
    (λ o e. e ∙ joins) c.tuples.ensures

pub joined-returns-else-len : goal.joined-returns-else-len
joined-returns-else-len t c =
    tuples_of_other_lengths _ _ _ _ c.in-Tup-Tup.is-0 c.in-Tup-Tup.is-1
    (λ h. omega (arith, h, c.if-len.false, c.len.ensures, c.len-in-Tup-Tup.ensures))

pub joined-returns-in-Rec-Rec : goal.joined-returns-in-Rec-Rec
joined-returns-in-Rec-Rec t c =
    let joins : join_records unification (fields_of c.in-Rec-Rec.xs) (fields_of c.in-Rec-Rec.ys) ≡
    join_by unification (typ_of c.args.a.now) (typ_of c.args.b.now) =
    records_join c.args.a.now c.args.b.now c.in-Rec-Rec.xs c.in-Rec-Rec.ys c.in-Rec-Rec.is-0
    c.in-Rec-Rec.is-1 in
    IfOk-weaker c.joined_records.result (λ o. found_of o ≡ join_records unification
    (fields_of c.in-Rec-Rec.xs) (fields_of c.in-Rec-Rec.ys))
    (λ o. found_of o ≡ join_by unification (typ_of c.args.a.now) (typ_of c.args.b.now))
    (λ o e. e ∙ joins) c.joined_records.ensures

pub merged-returns-in_ok-inserted_each-in-Uni : goal.merged-returns-in_ok-inserted_each-in-Uni
merged-returns-in_ok-inserted_each-in-Uni t c =
    let all : PlacedAll = insert_all (join_by unification)
    (start (alternatives (typ_of c.args.a.now))) (alternatives (typ_of c.args.b.now)) in
    let is : placed_all_of c.in_ok-inserted_each-in-Uni.field-0 ≡ all =
    merged_union (join_by unification) (typ_of c.args.a.now) c.args.b.now c.in-Uni.bs
    (typs_of c.in_ok-alternatives_of.field-0) (placed_all_of c.in_ok-start.start)
    (placed_all_of c.in_ok-inserted_each-in-Uni.field-0) c.in_ok-inserted_each-in-Uni.ensures
    c.in_ok-start.ensures c.in_ok-alternatives_of.ensures c.in-Uni.is in
    IfOk-weaker c.of_placed.result (λ u. unified_of u ≡ merged
    (placed_all_of c.in_ok-inserted_each-in-Uni.field-0)) (λ u. unified_of u ≡ merged all)
    (λ u e. e ∙ ap merged is) c.of_placed.ensures

-- ---- parts and fields

pub unified_parts-loop-i-preserved : goal.unified_parts-loop-i-preserved
unified_parts-loop-i-preserved t c =
    parts_next unification _ _ _ (typs_of c.args.xs.now) (typs_of c.args.ys.now) c.loop-i.i _ _ _
    c.get.ensures.item c.get-in-loop-i.ensures.item c.in_ok-unified.ensures c.in_ok-push.ensures
    c.loop-i.invariant

pub unified_parts-returns : goal.unified_parts-returns
unified_parts-returns t c =
    parts_last unification _ _ (typs_of c.args.xs.now) (typs_of c.args.ys.now) c.loop-i.i
    (omega (
      arith,
      c.loop-i-test.false,
      c.loop-i.auto.i-end,
      c.min-i-end.ensures,
      c.len.ensures,
      c.len-2.ensures,
    )) c.loop-i.invariant

pub unified_fields-returns-then-k-len : goal.unified_fields-returns-then-k-len
unified_fields-returns-then-k-len t c =
    let at : c.place_by-k.result ≡ place_in (names_of (fields_of c.args.ys.now))
    (field_of c.get-field.result.now).name =
    c.place_by-k.ensures.at ∙ ap (place_in (names_of (fields_of c.args.ys.now)))
    (sym (name_out c.get-field.result.now)) in
    fields_none unification (parts_of c.loop-i.made) _ (fields_of c.args.xs.now)
    (fields_of c.args.ys.now) c.loop-i.i (field_of c.get-field.result.now)
    c.get-field.ensures.item (omega (arith, at, c.if-k-len.true, c.len.ensures))
    c.loop-i.invariant

pub unified_fields-loop-i-preserved : goal.unified_fields-loop-i-preserved
unified_fields-loop-i-preserved t c =
    let at : c.place_by-k.result ≡ place_in (names_of (fields_of c.args.ys.now))
    (field_of c.get-field.result.now).name =
    c.place_by-k.ensures.at ∙ ap (place_in (names_of (fields_of c.args.ys.now)))
    (sym (name_out c.get-field.result.now)) in
    fields_next unification _ _ _ (fields_of c.args.xs.now) (fields_of c.args.ys.now) c.loop-i.i
    (field_of c.get-field.result.now) (field_of c.get.result.now) _ c.get-field.ensures.item
    (ap (slice_get (fields_of c.args.ys.now)) (sym at) ∙ c.get.ensures.item)
    (c.in_ok-unified.ensures ∙ ap₂ unification (sym (typ_out c.get-field.result.now))
    (sym (typ_out c.get.result.now))) c.in_ok-push.ensures c.loop-i.invariant

pub unified_fields-returns : goal.unified_fields-returns
unified_fields-returns t c =
    fields_last unification (parts_of c.loop-i.made) _ (fields_of c.args.xs.now)
    (fields_of c.args.ys.now) c.loop-i.i (omega
    (arith, c.loop-i-test.false, c.loop-i.auto.i-end, c.len-i-end.ensures)) c.loop-i.invariant

pub joined_records-records-requires : goal.joined_records-records-requires
joined_records-records-requires t c =
    fields_length unification (fields_of c.args.xs.now) (fields_of c.args.ys.now)
    c.in_ok-unified_fields.field-0 c.in_ok-unified_fields.ensures
