-- The carry that a `Lift` is, and what the structs of unifying are.
use Rattle.std.specs.Prelude.{◌≡◌, ◌<◌, List, Option, Some, None, map}
use Rattle.awk_types.specs.View.{typ_of, typs_of}
use Rattle.awk_unify.specs.After.{after}
use Rattle.awk_unify.specs.Carry.{Carry, keep, in_items, to_parts, to_alternatives, carries_from}
use Rattle.awk_unify.specs.Unification as spec
use Rattle.awk_unify.specs.Unification.{Unification}
use Rattle.awk_unify.specs.declared.lift.Lift.{Lift, size-Lift}
use Rattle.awk_unify.specs.declared.lift.Lifts.{Lifts, size-Lifts}
use Rattle.awk_unify.specs.declared.lift.Lift.TheOpen.{Lift-F, Lifts-F}
use Rattle.awk_unify.specs.declared.lift.Lift.TheFolds.{fold-Lift, fold-Lifts}
use Rattle.awk_unify.specs.UnifyList.{UnificationList}
use Rattle.awk_unify.specs.declared.several.SoFar.{SoFar}
use Rattle.awk_unify.specs.declared.several.UnifiedAll.{UnifiedAll}
use Rattle.awk_unify.specs.declared.unified.Unified.{Unified}
use Rattle.awk_unify.specs.declared.parts.Parts.{Parts}
use Rattle.awk_unify.specs.declared.placed.Placed.{Placed}
use Rattle.awk_unify.specs.declared.placed.PlacedAll.{PlacedAll}

abbrev pub lift_step : Lift-F Carry (List Carry) → Carry
lift_step Lift-F.Same = keep
lift_step (Lift-F.Items f) = in_items f.value
lift_step (Lift-F.Parts places parts) = to_parts places (carries_from parts)
lift_step (Lift-F.Alternatives tags parts) = to_alternatives tags (carries_from parts)

abbrev pub lifts_step : Lifts-F Carry (List Carry) → List Carry
lifts_step f = f.items.items

abbrev pub lift_of : Lift → Carry
lift_of = fold-Lift Carry (List Carry) lift_step lifts_step

abbrev pub lifts_of : Lifts → List Carry
lifts_of = fold-Lifts Carry (List Carry) lift_step lifts_step

-- a lift that `get` hands out is smaller than the list: a recursion may go into it
abbrev pub LiftBelow : Lift → Lifts → Type 0
LiftBelow f fs = size-Lift f < size-Lifts fs

abbrev pub unified_of : Unified → Unification
unified_of u = record { typ = typ_of u.typ; left = lift_of u.left; right = lift_of u.right }

abbrev pub found_of : Option Unified → Option Unification
found_of None = None
found_of (Some u) = Some (unified_of u)

abbrev pub placed_of : Placed → spec.Placed
placed_of p =
    record { typs = typs_of p.typs; kept = lifts_of p.kept; tag = p.tag; put = lift_of p.put }

abbrev pub placed_all_of : PlacedAll → spec.PlacedAll
placed_all_of p =
    record { typs = typs_of p.typs; kept = lifts_of p.kept; tags = p.tags; puts = lifts_of p.puts }

abbrev pub parts_of : Parts → spec.Unifications
parts_of p = record { typs = typs_of p.typs; lefts = lifts_of p.lefts; rights = lifts_of p.rights }

abbrev pub parts_found : Option Parts → Option spec.Unifications
parts_found None = None
parts_found (Some p) = Some (parts_of p)

abbrev pub all_of : UnifiedAll → UnificationList
all_of u = record { typ = typ_of u.typ; lifts = lifts_of u.lifts }

abbrev pub so_far_of : SoFar → UnificationList
so_far_of s = record { typ = typ_of s.typ; lifts = lifts_of s.kept.lifts }

-- where a lift is known, it leaves each of these
abbrev pub IsIdle : Option Lift → List Carry → Type 0
IsIdle None fs = Unit {0}
IsIdle (Some g) fs = map (after (lift_of g)) fs ≡ fs
