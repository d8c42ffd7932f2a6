-- What is of a type as it stands: its type is below that one, and no limit is passed in it.
use Rattle.std.proofs.Common.{◌≡◌, List, [], ◌∷◌, true, false, refl, ap, sym}
use Rattle.std.proofs.Common.{◌∙◌, subst, None, arith}
use Rattle.std.specs.Prelude.{◌&&◌}
use Rattle.std.specs.List.{AllByRecursion}
use Rattle.std.proofs.lemmas.Grind.{common_steps}
use Rattle.serde_json.specs.Data.{Data, null, boolean, number, string, array, object}
use Rattle.serde_json.specs.Data.{Items, no_items, item, Members, no_members, member}
use Rattle.std.proofs.lemmas.Bool.{and_parts}
use Rattle.awk_types.proofs.NameLaws.{same_name_is}
use Rattle.awk_types.proofs.RefusalLaws.{or-None}
use Rattle.awk_unify.proofs.SameTypeLaws.{same_primitive_is}
use Rattle.awk_types.proofs.SimpleLaws.{present_simple}
use Rattle.awk_types.proofs.Trees.{types_from-list}
use Rattle.awk_types.specs.DataType.{DataType, Name, unknown, leaf, var, reg, rec, tup}
use Rattle.awk_types.specs.DataType.{opt, uni, types_from}
use Rattle.awk_types.specs.Gives.{◌or◌}
use Rattle.awk_types.specs.Limit.{limit}
use Rattle.awk_types.specs.Names.{same_name}
use Rattle.awk_types.specs.Parts.{is_record, names_of_fields, types_of_fields}
use Rattle.awk_types.specs.Simple.{AreSimple, IsSimple, is_option, present}
use Rattle.awk_types.specs.declared.primitive.Primitive.{Primitive}
use Rattle.awk_types.specs.declared.primitive.Primitive.TheVariants.{I64, Bool as Truths}
use Rattle.awk_types.proofs.PartLimits.{present_within, within_var, bounds, within_bounds}
use Rattle.awk_plain.specs.IsPlain.{ArePlain, HavePlain, IsPlain}
use Rattle.awk_plain.specs.Plain.{first_limit, items_made, items_type, member_types, members_made}
use Rattle.awk_plain.specs.Plain.{names_in, one_more, plain_type, types_made}
use Rattle.awk_plain.specs.Suits.{all_suit, is_int64, is_of, is_of_lists, item_of, members_suit}
use Rattle.awk_plain.specs.Suits.{suits}
use Rattle.awk_plain.proofs.BelowLaws.{AreBelow, IsBelow, below_itself, below_within, unknown_below}
use Rattle.awk_plain.proofs.JoinLaws.{Joined, joined}
use Rattle.awk_plain.proofs.TypeLaws.{limit_item, limit_last, limit_member, plain_simple}
use Rattle.awk_plain.proofs.TypedLaws.{plain_typed}
use Rattle.awk_unify.proofs.SimpleLaws.{unify_simple}
use Rattle.awk_unify.specs.Unify.{unification}

-- ---- the part of a type that a value is of

pub of_prim : (p : Primitive) (t : DataType) → is_of p t ≡ true → t ≡ leaf p
of_prim p (leaf q) e = ap leaf (same_primitive_is q p e)
of_prim p t e = cc

pub of_lists : (t : DataType) → is_of_lists t ≡ true → t ≡ var (item_of t)
of_lists (var t) e = refl
of_lists t e = cc

pub of_records : (t : DataType) → is_record t ≡ true
    → t ≡ rec (names_of_fields t) (types_from (types_of_fields t))
of_records (rec ns ts) e = ap (rec ns) (sym (types_from-list ts))
of_records t e = cc

-- what is below the type without its option is below it
present_above : (t a : DataType) → is_option a ≡ false → IsBelow (present t) a → IsBelow t a
present_above (opt t) unknown e h = h
present_above (opt t) (leaf p) e h = h
present_above (opt t) (var a) e h = h
present_above (opt t) (reg n a) e h = h
present_above (opt t) (rec ns us) e h = h
present_above (opt t) (tup us) e h = h
present_above (opt t) (opt a) e h = cc
present_above (opt t) (uni us) e h = h
present_above unknown a e h = h
present_above (leaf p) a e h = h
present_above (var t) a e h = h
present_above (reg n t) a e h = h
present_above (rec ns ts) a e h = h
present_above (tup ts) a e h = h
present_above (uni ts) a e h = h

in_present : (t u a : DataType) → present t ≡ u → is_option a ≡ false → IsBelow u a
    → IsBelow t a
in_present t u a e f h = present_above t a f (subst (λ v. IsBelow v a) (sym e) h)

null_below : (t : DataType) → is_option t ≡ true → IsBelow t (opt unknown)
null_below (opt t) e = unknown_below t
null_below t e = cc

pub part_simple : (t u : DataType) → IsSimple t → present t ≡ u → IsSimple u
part_simple t u s e = subst IsSimple e (present_simple t s)

-- ---- types

mutual
  pub suits_below : (t : DataType) (d : Data) → IsSimple t → IsPlain d → suits t d ≡ true
      → IsBelow t (plain_type d)
  suits_below t null s p e = null_below t e
  suits_below t (boolean b) s p e =
      in_present t (leaf Truths) (leaf Truths) (of_prim Truths (present t) e) refl refl
  suits_below t (number n) s p e =
      in_present t (leaf I64) (leaf I64)
      (of_prim I64 (present t) (and_parts (is_of I64 (present t)) (is_int64 n) e).0) refl refl
  suits_below t (string c) s p e = absurd p
  suits_below t (array ds) s p e =
      let u = item_of (present t) in
      let f = and_parts (is_of_lists (present t)) (all_suit u ds) e in
      let g : present t ≡ var u = of_lists (present t) f.0 in
      in_present t (var u) (plain_type (array ds)) g refl
      (items_below u unknown ds (part_simple t (var u) s g) tt (unknown_below u) p f.1)
  suits_below t (object ms) s p e =
      let ns = names_of_fields (present t) in
      let ts = types_of_fields (present t) in
      let f = and_parts (is_record (present t)) (members_suit ns ts ms) e in
      let g : present t ≡ rec ns (types_from ts) = of_records (present t) f.0 in
      in_present t (rec ns (types_from ts)) (plain_type (object ms)) g refl
      (members_below ns ts ms (part_simple t (rec ns (types_from ts)) s g) p.1 f.1)

  pub items_below : (u t : DataType) (ds : Items) → IsSimple u → IsSimple t → IsBelow u t
      → ArePlain ds → all_suit u ds ≡ true → IsBelow u (items_type t ds)
  items_below u t no_items s x h p e = h
  items_below u t (item d ds) s x h p e =
      let f = and_parts (suits u d) (all_suit u ds) e in
      let b = plain_type d in
      let j : Joined u t b (unification t b) =
      joined u t b s x (plain_simple d) (plain_typed d p.0).0 h (suits_below u d s p.0 f.0) in
      items_below u (one_more t b) ds s (unify_simple t b x (plain_simple d)) j.typ p.1 f.1

  pub members_below : (ns : List Name) (ts : List DataType) (ms : Members)
      → AreSimple (types_from ts) → HavePlain ms → members_suit ns ts ms ≡ true
      → (names_in ms ≡ ns) × AreBelow (types_from ts) (types_from (member_types ms))
  members_below [] [] no_members s p e = (refl, tt)
  members_below [] [] (member key d ms) s p e = absurd (cc)
  members_below [] (t ∷ ts) ms s p e = absurd (cc)
  members_below (n ∷ ns) [] ms s p e = absurd (cc)
  members_below (n ∷ ns) (t ∷ ts) no_members s p e = absurd (cc)
  members_below (n ∷ ns) (t ∷ ts) (member key d ms) s p e =
      let f = and_parts (same_name n key) (suits t d && members_suit ns ts ms) e in
      let g = and_parts (suits t d) (members_suit ns ts ms) f.1 in
      let rest = members_below ns ts ms s.1 p.1 g.1 in (
        ap (λ k. k ∷ names_in ms) (sym (same_name_is n key f.0)) ∙ ap (λ ks. n ∷ ks) rest.0,
        (suits_below t d s.0 p.0 g.0, rest.1),
      )

-- what is of a type as it stands adds nothing to it
pub suits_adds : (t : DataType) (d : Data) → IsSimple t → IsPlain d → suits t d ≡ true
    → one_more t (plain_type d) ≡ t
suits_adds t d s p e =
    (joined t t (plain_type d) s s (plain_simple d) (plain_typed d p).0 (below_itself t)
    (suits_below t d s p e)).whole refl

-- ---- limits

part_within : (t u : DataType) → present t ≡ u → limit t ≡ None → limit u ≡ None
part_within t u e l = ap limit (sym e) ∙ present_within t l

abbrev AreWithin : List DataType → Type 0
AreWithin ts = AllByRecursion (λ t. limit t ≡ None) ts

first_part : (ns : List Name) (t : DataType) (ts : List DataType)
    → limit (rec ns (types_from (t ∷ ts))) ≡ None → limit t ≡ None
first_part ns t ts l =
    let b = bounds (rec ns (types_from (t ∷ ts))) l in
    within_bounds t (record {
      depth = omega (arith, b.depth);
      nodes = grind (arith, common_steps, b.nodes);
      width = omega (arith, b.width);
    })

rest_parts : (ns : List Name) (t : DataType) (ts : List DataType)
    → limit (rec ns (types_from (t ∷ ts))) ≡ None → limit (rec ns (types_from ts)) ≡ None
rest_parts ns t ts l =
    let b = bounds (rec ns (types_from (t ∷ ts))) l in
    within_bounds (rec ns (types_from ts)) (record {
      depth = omega (arith, b.depth);
      nodes = grind (arith, common_steps, b.nodes);
      width = omega (arith, b.width);
    })

parts_within : (ns : List Name) (ts : List DataType) → limit (rec ns (types_from ts)) ≡ None
    → AreWithin ts
parts_within ns [] l = tt
parts_within ns (t ∷ ts) l =
    (first_part ns t ts l, parts_within ns ts (rest_parts ns t ts l))

mutual
  pub suits_within : (t : DataType) (d : Data) → IsSimple t → limit t ≡ None → IsPlain d
      → suits t d ≡ true → first_limit (types_made d) ≡ None
  suits_within t null s l p e = refl
  suits_within t (boolean b) s l p e = refl
  suits_within t (number n) s l p e = refl
  suits_within t (string c) s l p e = absurd p
  suits_within t (array ds) s l p e =
      let u = item_of (present t) in
      let f = and_parts (is_of_lists (present t)) (all_suit u ds) e in
      let g : present t ≡ var u = of_lists (present t) f.0 in
      limit_last (items_made unknown ds) (plain_type (array ds))
      ∙ or-None (first_limit (items_made unknown ds)) (limit (plain_type (array ds)))
      (items_within u unknown ds (part_simple t (var u) s g)
      (within_var u (part_within t (var u) g l)) tt (unknown_below u) p f.1)
      ∙ below_within t (plain_type (array ds)) (suits_below t (array ds) s p e) l
  suits_within t (object ms) s l p e =
      let ns = names_of_fields (present t) in
      let ts = types_of_fields (present t) in
      let f = and_parts (is_record (present t)) (members_suit ns ts ms) e in
      let g : present t ≡ rec ns (types_from ts) = of_records (present t) f.0 in
      limit_last (members_made ms) (plain_type (object ms))
      ∙ or-None (first_limit (members_made ms)) (limit (plain_type (object ms)))
      (members_within ns ts ms (part_simple t (rec ns (types_from ts)) s g)
      (parts_within ns ts (part_within t (rec ns (types_from ts)) g l)) p.1 f.1)
      ∙ below_within t (plain_type (object ms)) (suits_below t (object ms) s p e) l

  items_within : (u t : DataType) (ds : Items) → IsSimple u → limit u ≡ None → IsSimple t
      → IsBelow u t → ArePlain ds → all_suit u ds ≡ true → first_limit (items_made t ds) ≡ None
  items_within u t no_items s l x h p e = refl
  items_within u t (item d ds) s l x h p e =
      let f = and_parts (suits u d) (all_suit u ds) e in
      let b = plain_type d in
      let j : Joined u t b (unification t b) =
      joined u t b s x (plain_simple d) (plain_typed d p.0).0 h (suits_below u d s p.0 f.0) in
      let rest = first_limit (items_made (one_more t b) ds) in
      limit_item t d ds
      ∙ or-None (first_limit (types_made d)) (limit (one_more t b) or rest)
      (suits_within u d s l p.0 f.0)
      ∙ or-None (limit (one_more t b)) rest (below_within u (one_more t b) j.typ l)
      ∙ items_within u (one_more t b) ds s l (unify_simple t b x (plain_simple d)) j.typ p.1 f.1

  members_within : (ns : List Name) (ts : List DataType) (ms : Members)
      → AreSimple (types_from ts) → AreWithin ts → HavePlain ms
      → members_suit ns ts ms ≡ true → first_limit (members_made ms) ≡ None
  members_within [] [] no_members s l p e = refl
  members_within [] [] (member key d ms) s l p e = absurd (cc)
  members_within [] (t ∷ ts) ms s l p e = absurd (cc)
  members_within (n ∷ ns) [] ms s l p e = absurd (cc)
  members_within (n ∷ ns) (t ∷ ts) no_members s l p e = absurd (cc)
  members_within (n ∷ ns) (t ∷ ts) (member key d ms) s l p e =
      let f = and_parts (same_name n key) (suits t d && members_suit ns ts ms) e in
      let g = and_parts (suits t d) (members_suit ns ts ms) f.1 in
      limit_member key d ms
      ∙ or-None (first_limit (types_made d)) (first_limit (members_made ms))
      (suits_within t d s.0 l.0 p.0 g.0)
      ∙ members_within ns ts ms s.1 l.1 p.1 g.1
