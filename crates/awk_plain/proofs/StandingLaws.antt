-- Values that are of their own type as they stand: no fault is told of them.
use Rattle.std.proofs.Common.{◌≡◌, List, [], ◌∷◌, Bool, true, false, refl}
use Rattle.std.proofs.Common.{ap, ap₂, sym, ◌∙◌, subst, Option, Some, None, Result, Ok, Err}
use Rattle.std.specs.Prelude.{◌&&◌, IfOk, IfSome}
use Rattle.serde_json.specs.Data.{Data, null, boolean, number, string, array, object}
use Rattle.serde_json.specs.Data.{Items, no_items, item, Members, no_members, member}
use Rattle.std.proofs.lemmas.Bool.{and_parts}
use Rattle.awk_types.specs.DataType.{DataType, Name, unknown, var}
use Rattle.awk_types.specs.Limit.{limit}
use Rattle.awk_types.specs.Names.{same_name}
use Rattle.awk_types.specs.Parts.{is_record, names_of_fields, types_of_fields}
use Rattle.awk_types.specs.Simple.{IsSimple, present}
use Rattle.awk_types.specs.declared.primitive.Primitive.TheVariants.{I64}
use Rattle.awk_unify.proofs.SimpleLaws.{unify_simple}
use Rattle.awk_plain.specs.IsPlain.{ArePlain, IsPlain}
use Rattle.awk_plain.specs.Plain.{all_pass, fits, is_whole, items_pass, items_type, members_pass}
use Rattle.awk_plain.specs.Plain.{one_more, plain_fault, plain_type}
use Rattle.awk_plain.specs.Standing.{Stands}
use Rattle.awk_plain.specs.Suits.{all_suit, is_int64, is_of, is_of_lists, item_of}
use Rattle.awk_plain.specs.Suits.{members_suit, suits}
use Rattle.awk_plain.proofs.SuitLaws.{suits_adds, suits_within}
use Rattle.awk_plain.proofs.TypeLaws.{plain_simple}

-- ---- no text, and whole numbers that fit int64

-- a test and another one
pub record Pass (a b : Bool) : Type 0 where
  pub whole : a ≡ true
  pub small : b ≡ true

and_true : (a b : Bool) → a ≡ true → b ≡ true → (a && b) ≡ true
and_true a b p q = ap₂ (λ x y. x && y) p q

pass_both : (a b c d : Bool) → Pass a b → Pass c d → Pass (a && c) (b && d)
pass_both a b c d p q =
    record { whole = and_true a c p.whole q.whole; small = and_true b d p.small q.small }

mutual
  pub suits_pass : (t : DataType) (d : Data) → suits t d ≡ true
      → Pass (all_pass is_whole false d) (all_pass fits true d)
  suits_pass t null e = record { whole = refl; small = refl }
  suits_pass t (boolean b) e = record { whole = refl; small = refl }
  suits_pass t (number n) e =
      let f = and_parts (is_whole n) (fits n) (and_parts (is_of I64 (present t)) (is_int64 n)
      e).1 in
      record { whole = f.0; small = f.1 }
  suits_pass t (string s) e = absurd (cc)
  suits_pass t (array ds) e =
      let u = item_of (present t) in
      all_suit_pass u ds (and_parts (is_of_lists (present t)) (all_suit u ds) e).1
  suits_pass t (object ms) e =
      let ns = names_of_fields (present t) in
      let ts = types_of_fields (present t) in
      members_suit_pass ns ts ms (and_parts (is_record (present t)) (members_suit ns ts ms) e).1

  all_suit_pass : (t : DataType) (ds : Items) → all_suit t ds ≡ true
      → Pass (items_pass is_whole false ds) (items_pass fits true ds)
  all_suit_pass t no_items e = record { whole = refl; small = refl }
  all_suit_pass t (item d ds) e =
      let f = and_parts (suits t d) (all_suit t ds) e in
      pass_both (all_pass is_whole false d) (all_pass fits true d) (items_pass is_whole false ds)
      (items_pass fits true ds) (suits_pass t d f.0) (all_suit_pass t ds f.1)

  members_suit_pass : (ns : List Name) (ts : List DataType) (ms : Members)
      → members_suit ns ts ms ≡ true
      → Pass (members_pass is_whole false ms) (members_pass fits true ms)
  members_suit_pass [] [] no_members e = record { whole = refl; small = refl }
  members_suit_pass [] [] (member key d ms) e = absurd (cc)
  members_suit_pass [] (t ∷ ts) ms e = absurd (cc)
  members_suit_pass (n ∷ ns) [] ms e = absurd (cc)
  members_suit_pass (n ∷ ns) (t ∷ ts) no_members e = absurd (cc)
  members_suit_pass (n ∷ ns) (t ∷ ts) (member key d ms) e =
      let f = and_parts (same_name n key) (suits t d && members_suit ns ts ms) e in
      let g = and_parts (suits t d) (members_suit ns ts ms) f.1 in
      pass_both (all_pass is_whole false d) (all_pass fits true d) (members_pass is_whole false ms)
      (members_pass fits true ms) (suits_pass t d g.0) (members_suit_pass ns ts ms g.1)

pub stands_free : (t : DataType) (d : Data) → Stands t d → plain_fault d ≡ None
stands_free t d s =
    let p = suits_pass t d s.suited in
    let simple : IsSimple t = subst IsSimple (sym s.typ) (plain_simple d) in
    rw (p.whole, p.small, suits_within t d simple s.within s.plain s.suited) refl

-- ---- one item after another

-- the type so far, the items that are left, and those that are of it as they stand if these are
pub record AreSettled (ds : Items) (t : DataType) (left rest : Items) : Type 0 where
  pub typ : items_type unknown ds ≡ items_type t left
  pub simple : IsSimple t
  pub suited : all_suit t rest ≡ all_suit t left
  pub plain : ArePlain left → ArePlain rest

pub none_settled : (ds : Items) → AreSettled ds unknown ds ds
none_settled ds = record { typ = refl; simple = tt; suited = refl; plain = λ p. p }

pub suited_next : (t : DataType) (d : Data) (ds : Items) → suits t d ≡ true
    → all_suit t (item d ds) ≡ all_suit t ds
suited_next t d ds e = ap (λ b. b && all_suit t ds) e

pub settled_suits : (ds : Items) (t : DataType) (d : Data) (left rest : Items)
    → AreSettled ds t (item d left) rest → IsPlain d → suits t d ≡ true
    → AreSettled ds t left rest
settled_suits ds t d left rest s p e = record {
  typ = s.typ ∙ ap (λ u. items_type u left) (suits_adds t d s.simple p e);
  simple = s.simple;
  suited = s.suited ∙ suited_next t d left e;
  plain = λ q. s.plain (p, q);
}

pub settled_joins : (ds : Items) (t u : DataType) (d : Data) (left rest : Items)
    → AreSettled ds t (item d left) rest → u ≡ one_more t (plain_type d) → IsPlain d
    → suits u d ≡ true → AreSettled ds u left (item d left)
settled_joins ds t u d left rest s same p e = record {
  typ = s.typ ∙ ap (λ v. items_type v left) (sym same);
  simple = subst IsSimple (sym same) (unify_simple t (plain_type d) s.simple (plain_simple d));
  suited = suited_next u d left e;
  plain = λ q. (p, q);
}

pub settled_all : (ds : Items) (t : DataType) (rest : Items) → AreSettled ds t no_items rest
    → (t ≡ items_type unknown ds) × ArePlain rest × (all_suit t rest ≡ true)
settled_all ds t rest s = (sym s.typ, s.plain tt, s.suited)

-- ---- a list

pub list_stands : (t u : DataType) (ds : Items) → t ≡ items_type unknown ds → ArePlain ds
    → all_suit t ds ≡ true → u ≡ var t → limit u ≡ None → Stands u (array ds)
list_stands t u ds e p s f l = record {
  typ = f ∙ ap var e;
  plain = p;
  suited = ap (λ v. suits v (array ds)) f ∙ s;
  within = l;
}

pub list_simple : (t u : DataType) (ds : Items) → t ≡ items_type unknown ds → u ≡ var t
    → IsSimple u
list_simple t u ds e f = subst IsSimple (sym (f ∙ ap var e)) (plain_simple (array ds))

-- ---- what a call answers by two clauses, if it is something

pub some_both : {A E : Type 0} (r : Result (Option A) E) (P Q R : A → Type 0)
    → ((x : A) → P x → Q x → R x) → IfOk r (λ o. IfSome o P) → IfOk r (λ o. IfSome o Q)
    → IfOk r (λ o. IfSome o R)
some_both (Ok (Some x)) P Q R f p q = f x p q
some_both (Ok None) P Q R f p q = tt
some_both (Err e) P Q R f p q = tt
