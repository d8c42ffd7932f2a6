use Rattle.std.proofs.Common.{◌≡◌, ◌+◌, ◌*◌, take, drop}
use Rattle.awk_types.specs.View.{fields_of, typ_of, typs_of}
use Rattle.awk_types.specs.declared.typ.Typ.{size-Typ}
use Rattle.awk_types.specs.declared.typ.Typs.{size-Typs}
use Rattle.awk_unify.specs.Insert.{ahead}
use Rattle.awk_types.specs.declared.typ.Fields.{size-Fields}
use Rattle.awk_unify.proofs.PartsLaws.{and_behind, behind}
use Rattle.awk_unify.specs.Join.{join_by, unify_fields, unify_parts}
use Rattle.awk_unify.specs.Merge.{insert, insert_all}
use Rattle.awk_unify.specs.Unify.{unification}
use Rattle.awk_unify.specs.View.{parts_of, placed_all_of}
use Rattle.awk_unify.proofs.unifying.+unify.Given as goal

abbrev pub decreases-joined : goal.decreases-joined
decreases-joined l = 8 * size-Typ l.b.now

abbrev pub decreases-inserted : goal.decreases-inserted
decreases-inserted l = 8 * size-Typ l.b.now + 1

abbrev pub decreases-inserted_each : goal.decreases-inserted_each
decreases-inserted_each l = 8 * size-Typs l.bs.now + 1

abbrev pub decreases-merged : goal.decreases-merged
decreases-merged l = 8 * size-Typ l.b.now + 2

abbrev pub decreases-joined_or_merged : goal.decreases-joined_or_merged
decreases-joined_or_merged l = 8 * size-Typ l.b.now + 3

abbrev pub decreases-bare_unified : goal.decreases-bare_unified
decreases-bare_unified l = 8 * size-Typ l.b.now + 4

abbrev pub decreases-unified : goal.decreases-unified
decreases-unified l = 8 * size-Typ l.b.now + 5

abbrev pub decreases-unified_parts : goal.decreases-unified_parts
decreases-unified_parts l = 8 * size-Typs l.ys.now

abbrev pub decreases-joined_records : goal.decreases-joined_records
decreases-joined_records l = 8 * size-Fields l.ys.now + 1

abbrev pub decreases-unified_fields : goal.decreases-unified_fields
decreases-unified_fields l = 8 * size-Fields l.ys.now

-- what is made, and what is still to come behind it
abbrev pub invariant-unified_parts-loop-i : goal.invariant-unified_parts-loop-i
invariant-unified_parts-loop-i l =
    let rest = unify_parts unification (drop l.i (typs_of l.xs)) (drop l.i (typs_of l.ys)) in
    behind (parts_of l.made) rest ≡ unify_parts unification (typs_of l.xs) (typs_of l.ys)

abbrev pub invariant-unified_fields-loop-i : goal.invariant-unified_fields-loop-i
invariant-unified_fields-loop-i l =
    let rest = unify_fields unification (drop l.i (fields_of l.xs)) (fields_of l.ys) in
    and_behind (parts_of l.made) rest ≡ unify_fields unification (fields_of l.xs) (fields_of l.ys)

abbrev pub invariant-inserted-loop-i : goal.invariant-inserted-loop-i
invariant-inserted-loop-i l =
    ahead (take l.i (typs_of l.ts)) (insert (join_by unification) (drop l.i (typs_of l.ts))
    (typ_of l.b)) ≡ insert (join_by unification) (typs_of l.ts) (typ_of l.b)

abbrev pub invariant-inserted_each-loop-i : goal.invariant-inserted_each-loop-i
invariant-inserted_each-loop-i l =
    insert_all (join_by unification) (placed_all_of l.made) (drop l.i (typs_of l.bs)) ≡ insert_all
    (join_by unification) (placed_all_of l.fn.start) (typs_of l.bs)
