-- What is known of each part of a value that makes no fault, and of the names of an object.
use Rattle.std.proofs.Common.{◌≡◌, List, [], ◌∷◌, Bool, true, false, None, option_map, String}
use Rattle.std.proofs.Common.{Global, Less, string_bytes, string_cmp, nat_cmp, is_eq, bytes_eq}
use Rattle.std.proofs.Common.{refl, ap, sym, ◌∙◌}
use Rattle.std.specs.List.{AllByRecursion}
use Rattle.std.specs.List.Sorted.{IsStrictlySortedBy}
use Rattle.std.specs.Cmp.Lexicographic.{slice_cmp}
use Rattle.std.specs.Map.{keys_of}
use Rattle.std.proofs.lemmas.Map.Text.{is_eq-slice_cmp}
use Rattle.serde_json.proofs.Views.{Entry}
use Rattle.serde_json.specs.Data.{Data, null, boolean, number, string, array, object}
use Rattle.serde_json.specs.Data.{Items, no_items, item, Members, no_members, member}
use Rattle.serde_json.specs.View.{members_view}
use Rattle.std.proofs.lemmas.Bool.{and_parts}
use Rattle.awk_types.specs.DataType.{DataType, unknown, var, rec, types_from}
use Rattle.awk_types.specs.Faults.{limit_fault}
use Rattle.awk_types.specs.Gives.{◌or◌}
use Rattle.awk_types.specs.Limit.{limit}
use Rattle.awk_types.specs.Names.{AreDistinct, is_among, same_name}
use Rattle.awk_types.specs.declared.fault.Fault.{Fault}
use Rattle.awk_types.specs.declared.fault.Fault.TheVariants.{WrongType, Overflow}
use Rattle.awk_types.proofs.NameLaws.{same_name-refl, same_name_apart}
use Rattle.awk_types.proofs.RefusalLaws.{or-both, no_limit}
use Rattle.awk_plain.specs.IsPlain.{IsJudged, AreJudged, HaveJudged}
use Rattle.awk_plain.specs.Plain.{all_pass, items_pass, members_pass, is_whole, fits, plain_type}
use Rattle.awk_plain.specs.Plain.{items_type, member_types, names_in, one_more, types_made}
use Rattle.awk_plain.specs.Plain.{items_made, members_made, first_limit, plain_fault}
use Rattle.awk_plain.specs.Plain.{refused_unless}
use Rattle.awk_plain.proofs.TypeLaws.{limit_last, limit_item, limit_member}

mutual
  pub judged : (d : Data) → all_pass is_whole false d ≡ true → all_pass fits true d ≡ true
      → first_limit (types_made d) ≡ None → IsJudged d
  judged null w f l = tt
  judged (boolean b) w f l = tt
  judged (number n) w f l = (w, f)
  judged (string s) w f l = absurd (cc)
  judged (array ds) w f l =
      let t = items_type unknown ds in
      let p = or-both (first_limit (items_made unknown ds)) (limit (var t))
      (sym (limit_last (items_made unknown ds) (var t)) ∙ l) in
      (p.1, are_judged unknown ds w f p.0)
  judged (object ms) w f l =
      let t = rec (names_in ms) (types_from (member_types ms)) in
      let p = or-both (first_limit (members_made ms)) (limit t)
      (sym (limit_last (members_made ms) t) ∙ l) in
      (p.1, have_judged ms w f p.0)

  pub are_judged : (t : DataType) (ds : Items) → items_pass is_whole false ds ≡ true
      → items_pass fits true ds ≡ true → first_limit (items_made t ds) ≡ None → AreJudged ds
  are_judged t no_items w f l = tt
  are_judged t (item d ds) w f l =
      let u = one_more t (plain_type d) in
      let a = and_parts (all_pass is_whole false d) (items_pass is_whole false ds) w in
      let b = and_parts (all_pass fits true d) (items_pass fits true ds) f in
      let p = or-both (first_limit (types_made d)) (limit u or first_limit (items_made u ds))
      (sym (limit_item t d ds) ∙ l) in
      let q = or-both (limit u) (first_limit (items_made u ds)) p.1 in
      (judged d a.0 b.0 p.0, are_judged u ds a.1 b.1 q.1)

  pub have_judged : (ms : Members) → members_pass is_whole false ms ≡ true
      → members_pass fits true ms ≡ true → first_limit (members_made ms) ≡ None → HaveJudged ms
  have_judged no_members w f l = tt
  have_judged (member key d ms) w f l =
      let a = and_parts (all_pass is_whole false d) (members_pass is_whole false ms) w in
      let b = and_parts (all_pass fits true d) (members_pass fits true ms) f in
      let p = or-both (first_limit (types_made d)) (first_limit (members_made ms))
      (sym (limit_member key d ms) ∙ l) in
      (judged d a.0 b.0 p.0, have_judged ms a.1 b.1 p.1)

passed : (b : Bool) (f : Fault) → refused_unless b f ≡ None → b ≡ true
passed true f e = refl
passed false f e = absurd (cc)

-- a value without a fault is judged
pub fault_free : (d : Data) → plain_fault d ≡ None → IsJudged d
fault_free d e =
    let whole = refused_unless (all_pass is_whole false d) WrongType in
    let small = refused_unless (all_pass fits true d) Overflow in
    let limits = option_map limit_fault (first_limit (types_made d)) in
    let p = or-both whole (small or limits) e in
    let q = or-both small limits p.1 in
    judged d (passed (all_pass is_whole false d) WrongType p.0)
    (passed (all_pass fits true d) Overflow q.0) (no_limit (first_limit (types_made d)) q.1)

-- ---- the names of an object

-- a text before another is another name
apart : (k l : String Global) → string_cmp k l ≡ Less
    → same_name (string_bytes l) (string_bytes k) ≡ false
apart k l e =
    let bs = string_bytes k in
    same_name_apart (string_bytes l) bs (λ same.
    let equal : is_eq (slice_cmp nat_cmp bs (string_bytes l)) ≡ true =
    is_eq-slice_cmp bs (string_bytes l) ∙ ap (bytes_eq bs) same ∙ same_name-refl bs in
    let less : false ≡ true = ap is_eq (sym e) ∙ equal in
    cc)

first_apart : (k : String Global) (es : List Entry)
    → AllByRecursion (λ l. string_cmp k l ≡ Less) (keys_of es)
    → is_among (string_bytes k) (names_in (members_view es)) ≡ false
first_apart k [] h = refl
first_apart k (e ∷ es) h = rw (apart k e.0 h.0) (first_apart k es h.1)

-- no name stands twice
pub names_distinct : (es : List Entry) → IsStrictlySortedBy string_cmp (keys_of es)
    → AreDistinct (names_in (members_view es))
unfolding IsStrictlySortedBy
names_distinct [] h = tt
names_distinct (e ∷ es) h = (first_apart e.0 es h.0, names_distinct es h.1)
