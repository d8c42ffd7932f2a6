-- Each plain value is of its type, which is simple.
use Rattle.std.proofs.Common.{◌≡◌, suc, List, [], ◌∷◌, ◌++◌, length, map, refl, ap, sym, ◌∙◌, subst}
use Rattle.std.specs.List.{AllByRecursion}
use Rattle.serde_json.specs.Data.{Data, null, boolean, number, string, array, object, Items}
use Rattle.serde_json.specs.Data.{no_items, item, Members, no_members, member}
use Rattle.awk_types.specs.DataType.{DataType, unknown, types_from}
use Rattle.awk_types.specs.Has.{Has, HasRow}
use Rattle.awk_types.specs.IsType.{IsType, AreTypes}
use Rattle.awk_types.specs.Simple.{IsSimple, AreSimple}
use Rattle.awk_types.specs.Value.{Value}
use Rattle.awk_types.proofs.Trees.{value_list-from, type_list-from}
use Rattle.awk_unify.specs.Carry.{Carry, carried}
use Rattle.awk_unify.specs.Unify.{unification}
use Rattle.awk_unify.proofs.CarriedLaws.{IsCarried, Takes}
use Rattle.awk_unify.proofs.SimpleLaws.{unify_simple}
use Rattle.awk_unify.proofs.TypeLaws.{unify_type}
use Rattle.awk_unify.proofs.TypingLaws.{unify_carries}
use Rattle.awk_plain.specs.Plain.{plain_type, plain_value, items_type, items_values, names_in}
use Rattle.awk_plain.specs.Plain.{member_types, member_values}
use Rattle.awk_plain.specs.IsPlain.{IsPlain, ArePlain, HavePlain}
use Rattle.awk_plain.proofs.ItemLaws.{AreTyped}

names_count : (ms : Members) → length (names_in ms) ≡ length (member_types ms)
names_count no_members = refl
names_count (member key d ms) = ap suc (names_count ms)

pub all_carried : (t s : DataType) (f : Carry) (vs : List Value) → Takes t f s
    → AllByRecursion (Has t) vs → AllByRecursion (Has s) (map (carried f) vs)
all_carried t s f [] c a = tt
all_carried t s f (v ∷ vs) c a = ((c v a.0).1, all_carried t s f vs c a.1)

pub all_push : (t : DataType) (vs : List Value) (v : Value) → AllByRecursion (Has t) vs → Has t v
    → AllByRecursion (Has t) (vs ++ v ∷ [])
all_push t [] v a h = (h, tt)
all_push t (w ∷ vs) v a h = (a.0, all_push t vs v a.1 h)

mutual
  pub plain_typed : (d : Data) → IsPlain d → IsType (plain_type d) × IsSimple (plain_type d)
      × Has (plain_type d) (plain_value d)
  plain_typed null p = (tt, (refl, tt), tt)
  plain_typed (boolean b) p = (tt, tt, tt)
  plain_typed (number n) p = (tt, tt, p)
  plain_typed (string s) p = absurd p
  plain_typed (array ds) p =
      let h = items_typed unknown [] ds tt tt tt p in (
        h.0,
        h.1,
        subst (AllByRecursion (Has (items_type unknown ds)))
            (sym (value_list-from (items_values unknown [] ds))) h.2,
      )
  plain_typed (object ms) p =
      let h = members_typed ms p.1 in (
        (p.0, names_count ms ∙ ap length (sym (type_list-from (member_types ms))), h.0),
        h.1,
        subst
            (HasRow (types_from (member_types ms))) (sym (value_list-from (member_values ms))) h.2,
      )

  -- items behind those so far
  pub items_typed : (t : DataType) (vs : List Value) (ds : Items) → IsType t → IsSimple t
      → AllByRecursion (Has t) vs → ArePlain ds → IsType (items_type t ds)
      × IsSimple (items_type t ds) × AllByRecursion (Has (items_type t ds)) (items_values t vs ds)
  items_typed t vs no_items y s a p = (y, s, a)
  items_typed t vs (item d ds) y s a p =
      let b = plain_type d in
      let one = plain_typed d p.0 in
      let r = unification t b in
      let c : IsCarried t b r = unify_carries t b y one.0 s one.1 in
      items_typed r.typ (map (carried r.left) vs ++ carried r.right (plain_value d) ∷ []) ds
      (unify_type t b y one.0) (unify_simple t b s one.1)
      (all_push r.typ (map (carried r.left) vs) (carried r.right (plain_value d))
      (all_carried t r.typ r.left vs c.to_left a) (c.to_right (plain_value d) one.2).1) p.1

  pub members_typed : (ms : Members) → HavePlain ms → AreTypes (types_from (member_types ms))
      × AreSimple (types_from (member_types ms))
      × HasRow (types_from (member_types ms)) (member_values ms)
  members_typed no_members p = (tt, tt, tt)
  members_typed (member key d ms) p =
      let one = plain_typed d p.0 in
      let rest = members_typed ms p.1 in
      ((one.0, rest.0), (one.1, rest.1), (one.2, rest.2))

pub are_typed : (ds : Items) → ArePlain ds → AreTyped ds
are_typed no_items p = tt
are_typed (item d ds) p = (plain_typed d p.0, are_typed ds p.1)
