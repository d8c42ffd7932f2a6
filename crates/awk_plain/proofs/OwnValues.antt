-- What is of a type as it stands has a value of it, and that is its plain value.
use Rattle.std.proofs.Common.{◌≡◌, List, [], ◌∷◌, ◌++◌, map, true, refl, ap, ap₂, sym, ◌∙◌, subst}
use Rattle.std.proofs.Common.{append-nil, append_assoc}
use Rattle.std.specs.Prelude.{◌&&◌}
use Rattle.std.specs.List.{AllByRecursion}
use Rattle.serde_json.specs.Data.{Data, null, boolean, number, string, array, object, Items}
use Rattle.serde_json.specs.Data.{no_items, item, Members, no_members, member}
use Rattle.std.proofs.lemmas.Bool.{and_parts}
use Rattle.awk_types.proofs.SimpleLaws.{each_stays, has_option}
use Rattle.awk_types.proofs.Trees.{value_list-from}
use Rattle.awk_types.specs.DataType.{DataType, Name, unknown, leaf, var, rec, opt, types_from}
use Rattle.awk_types.specs.Has.{Has, HasRow}
use Rattle.awk_types.specs.IsType.{IsType}
use Rattle.awk_types.specs.Names.{same_name}
use Rattle.awk_types.specs.Parts.{is_record, names_of_fields, types_of_fields}
use Rattle.awk_types.specs.Simple.{AreSimple, IsSimple, is_option, present}
use Rattle.awk_types.specs.Value as values
use Rattle.awk_types.specs.Value.{Value, int, truth, list, row, values_from}
use Rattle.awk_types.specs.declared.primitive.Primitive.TheVariants.{I64, Bool as Truths}
use Rattle.awk_unify.proofs.CarriedLaws.{IsCarried}
use Rattle.awk_unify.proofs.SimpleLaws.{unify_simple}
use Rattle.awk_unify.proofs.TypeLaws.{unify_type}
use Rattle.awk_unify.proofs.TypingLaws.{unify_carries}
use Rattle.awk_unify.specs.Carry.{carried}
use Rattle.awk_unify.specs.Unify.{unification}
use Rattle.awk_plain.specs.IsPlain.{ArePlain, HavePlain, IsPlain}
use Rattle.awk_plain.specs.Plain.{items_values, member_values, number_in, plain_type, plain_value}
use Rattle.awk_plain.specs.Plain.{with_one}
use Rattle.awk_plain.specs.Suits.{all_suit, is_int64, is_of, is_of_lists, item_of, members_suit}
use Rattle.awk_plain.specs.Suits.{own_parts, own_value, own_values, suits}
use Rattle.awk_plain.proofs.BelowLaws.{IsBelow, unknown_below}
use Rattle.awk_plain.proofs.JoinLaws.{Joined, joined}
use Rattle.awk_plain.proofs.SuitLaws.{of_lists, of_prim, of_records, part_simple, suits_below}
use Rattle.awk_plain.proofs.TypeLaws.{plain_simple}
use Rattle.awk_plain.proofs.TypedLaws.{all_carried, all_push, plain_typed}

-- ---- the value is of the type

of_present : (t : DataType) (v : Value) → Has (present t) v → Has t v
of_present (opt t) v h = has_option t v h
of_present t v h = h

of_part : (t u : DataType) (v : Value) → present t ≡ u → Has u v → Has t v
of_part t u v e h = of_present t v (subst (λ w. Has w v) (sym e) h)

null_of : (t : DataType) → is_option t ≡ true → Has t values.null
null_of (opt t) e = tt
null_of t e = cc

mutual
  pub own_typed : (t : DataType) (d : Data) → IsPlain d → suits t d ≡ true → Has t (own_value d)
  own_typed t null p e = null_of t e
  own_typed t (boolean b) p e =
      of_part t (leaf Truths) (truth b) (of_prim Truths (present t) e) tt
  own_typed t (number n) p e =
      of_part t (leaf I64) (int (number_in n))
      (of_prim I64 (present t) (and_parts (is_of I64 (present t)) (is_int64 n) e).0) p
  own_typed t (string c) p e = absurd p
  own_typed t (array ds) p e =
      let u = item_of (present t) in
      let f = and_parts (is_of_lists (present t)) (all_suit u ds) e in
      of_part t (var u) (list (values_from (own_values ds))) (of_lists (present t) f.0)
      (subst (AllByRecursion (Has u)) (sym (value_list-from (own_values ds)))
      (own_items_typed u ds p f.1))
  own_typed t (object ms) p e =
      let ns = names_of_fields (present t) in
      let ts = types_of_fields (present t) in
      let f = and_parts (is_record (present t)) (members_suit ns ts ms) e in
      of_part t (rec ns (types_from ts)) (row (values_from (own_parts ms)))
      (of_records (present t) f.0)
      (subst (HasRow (types_from ts)) (sym (value_list-from (own_parts ms)))
      (own_parts_typed ns ts ms p.1 f.1))

  pub own_items_typed : (t : DataType) (ds : Items) → ArePlain ds → all_suit t ds ≡ true
      → AllByRecursion (Has t) (own_values ds)
  own_items_typed t no_items p e = tt
  own_items_typed t (item d ds) p e =
      let f = and_parts (suits t d) (all_suit t ds) e in
      (own_typed t d p.0 f.0, own_items_typed t ds p.1 f.1)

  own_parts_typed : (ns : List Name) (ts : List DataType) (ms : Members) → HavePlain ms
      → members_suit ns ts ms ≡ true → HasRow (types_from ts) (own_parts ms)
  own_parts_typed [] [] no_members p e = tt
  own_parts_typed [] [] (member key d ms) p e = absurd (cc)
  own_parts_typed [] (t ∷ ts) ms p e = absurd (cc)
  own_parts_typed (n ∷ ns) [] ms p e = absurd (cc)
  own_parts_typed (n ∷ ns) (t ∷ ts) no_members p e = absurd (cc)
  own_parts_typed (n ∷ ns) (t ∷ ts) (member key d ms) p e =
      let f = and_parts (same_name n key) (suits t d && members_suit ns ts ms) e in
      let g = and_parts (suits t d) (members_suit ns ts ms) f.1 in
      (own_typed t d p.0 g.0, own_parts_typed ns ts ms p.1 g.1)

-- ---- and the plain value

mutual
  pub own_is : (t : DataType) (d : Data) → IsSimple t → IsPlain d → suits t d ≡ true
      → plain_value d ≡ own_value d
  own_is t null s p e = refl
  own_is t (boolean b) s p e = refl
  own_is t (number n) s p e = refl
  own_is t (string c) s p e = refl
  own_is t (array ds) s p e =
      let u = item_of (present t) in
      let f = and_parts (is_of_lists (present t)) (all_suit u ds) e in
      let g : present t ≡ var u = of_lists (present t) f.0 in
      ap (λ vs. list (values_from vs))
      (own_items_are u unknown [] ds (part_simple t (var u) s g) tt tt (unknown_below u) tt p f.1)
  own_is t (object ms) s p e =
      let ns = names_of_fields (present t) in
      let ts = types_of_fields (present t) in
      let f = and_parts (is_record (present t)) (members_suit ns ts ms) e in
      let g : present t ≡ rec ns (types_from ts) = of_records (present t) f.0 in
      ap (λ vs. row (values_from vs))
      (own_parts_are ns ts ms (part_simple t (rec ns (types_from ts)) s g) p.1 f.1)

  -- behind values of a type below
  pub own_items_are : (u t : DataType) (vs : List Value) (ds : Items) → IsSimple u → IsSimple t
      → IsType t → IsBelow u t → AllByRecursion (Has t) vs → ArePlain ds → all_suit u ds ≡ true
      → items_values t vs ds ≡ vs ++ own_values ds
  own_items_are u t vs no_items s x y h a p e = sym (append-nil vs)
  own_items_are u t vs (item d ds) s x y h a p e =
      let f = and_parts (suits u d) (all_suit u ds) e in
      let b = plain_type d in
      let v = plain_value d in
      let r = unification t b in
      let one = plain_typed d p.0 in
      let j : Joined u t b r =
      joined u t b s x (plain_simple d) one.0 h (suits_below u d s p.0 f.0) in
      let c : IsCarried t b r = unify_carries t b y one.0 x one.1 in
      let same : with_one r vs v ≡ vs ++ own_value d ∷ [] =
      ap₂ (λ ws w. ws ++ w ∷ []) (each_stays t (carried r.left) j.left vs a)
      (j.right v one.2 ∙ own_is u d s p.0 f.0) in
      ap (λ ws. items_values r.typ ws ds) same
      ∙ own_items_are u r.typ (vs ++ own_value d ∷ []) ds s (unify_simple t b x one.1)
      (unify_type t b y one.0) j.typ
      (subst (AllByRecursion (Has r.typ)) same
      (all_push r.typ (map (carried r.left) vs) (carried r.right v)
      (all_carried t r.typ r.left vs c.to_left a) (c.to_right v one.2).1)) p.1 f.1
      ∙ append_assoc vs (own_value d ∷ []) (own_values ds)

  own_parts_are : (ns : List Name) (ts : List DataType) (ms : Members)
      → AreSimple (types_from ts) → HavePlain ms → members_suit ns ts ms ≡ true
      → member_values ms ≡ own_parts ms
  own_parts_are [] [] no_members s p e = refl
  own_parts_are [] [] (member key d ms) s p e = absurd (cc)
  own_parts_are [] (t ∷ ts) ms s p e = absurd (cc)
  own_parts_are (n ∷ ns) [] ms s p e = absurd (cc)
  own_parts_are (n ∷ ns) (t ∷ ts) no_members s p e = absurd (cc)
  own_parts_are (n ∷ ns) (t ∷ ts) (member key d ms) s p e =
      let f = and_parts (same_name n key) (suits t d && members_suit ns ts ms) e in
      let g = and_parts (suits t d) (members_suit ns ts ms) f.1 in
      ap₂ (λ v vs. v ∷ vs) (own_is t d s.0 p.0 g.0) (own_parts_are ns ts ms s.1 p.1 g.1)

-- the items of a list
pub list_own : (t : DataType) (ds : Items) → IsSimple t → ArePlain ds → all_suit t ds ≡ true
    → items_values unknown [] ds ≡ own_values ds
list_own t ds s p e = own_items_are t unknown [] ds s tt tt (unknown_below t) tt p e
