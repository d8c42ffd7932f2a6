-- Arrays of values made one after another: those of a list and those of an object.
use Rattle.std.proofs.Common.{◌≡◌, List, [], ◌∷◌, ◌++◌, map, length, refl, ap, ap₂, sym, subst}
use Rattle.std.proofs.Common.{◌∙◌, Some, None, suc}
use Rattle.serde_json.specs.Data.{Data, object, Items, no_items, item, Members, no_members, member}
use Rattle.awk_types.specs.DataType.{Name, unknown, rec, types_from}
use Rattle.awk_types.specs.Limit.{limit}
use Rattle.awk_types.specs.Names.{AreDistinct}
use Rattle.awk_types.specs.Value.{row, values_from}
use Rattle.awk_layout.specs.Layout.{Layout, layouts_from}
use Rattle.awk_layout.specs.Typing.{array_type, array_items}
use Rattle.awk_layout.specs.Valid.{AllReach, AreNames}
use Rattle.awk_gather.specs.Arrays.{array_item}
use Rattle.awk_unify.specs.Carry.{Carry, carried}
use Rattle.awk_plain.specs.IsPlain.{ArePlain, HavePlain}
use Rattle.awk_plain.specs.Plain.{plain_value, items_type, member_types, member_values, names_in}
use Rattle.awk_plain.proofs.ItemLaws.{carried_each, types_of, values_of}
use Rattle.awk_plain.proofs.TypedLaws.{are_typed}
use Rattle.awk_build.specs.Built.{IsArrayOf, IsArrayOfItems, AreArraysOf, AreFieldsOf}
use Rattle.awk_build.specs.Joined.{items_by, joined_type, joined_items}
use Rattle.awk_build.specs.Suffix.{carriers, last_type, steps_from}
use Rattle.awk_build.proofs.SingleLaws.{first_of, one_long}
use Rattle.awk_build.proofs.SuffixLaws.{carriers_of, last_type-items, list_carried}

-- ---- lists

pub arrays_more : (ds : Items) (xs : List Layout) (d : Data) (left : Items) (x : Layout)
    → AreArraysOf ds xs (item d left) → IsArrayOf d x → AreArraysOf ds (xs ++ x ∷ []) left
arrays_more ds [] d left x h p =
    subst (λ es. AreArraysOf es (x ∷ []) left) (sym h) (p, refl)
arrays_more no_items (y ∷ xs) d left x h p = absurd h
arrays_more (item e es) (y ∷ xs) d left x h p = (h.0, arrays_more es xs d left x h.1 p)

arrays_plain : (ds : Items) (xs : List Layout) → AreArraysOf ds xs no_items → ArePlain ds
arrays_plain ds [] h = subst ArePlain (sym h) tt
arrays_plain no_items (x ∷ xs) h = absurd h
arrays_plain (item d ds) (x ∷ xs) h = (h.0.plain, arrays_plain ds xs h.1)

arrays_types : (ds : Items) (xs : List Layout) → AreArraysOf ds xs no_items
    → map array_type xs ≡ types_of ds
arrays_types ds [] h = ap types_of (sym h)
arrays_types no_items (x ∷ xs) h = absurd h
arrays_types (item d ds) (x ∷ xs) h = ap₂ (λ t ts. t ∷ ts) h.0.typ (arrays_types ds xs h.1)

none_carried : (fs : List Carry) → items_by fs [] ≡ carried_each fs []
none_carried [] = refl
none_carried (f ∷ fs) = refl

arrays_items : (fs : List Carry) (ds : Items) (xs : List Layout) → AreArraysOf ds xs no_items
    → items_by fs xs ≡ carried_each fs (values_of ds)
arrays_items fs ds [] h =
    none_carried fs ∙ ap (λ es. carried_each fs (values_of es)) (sym h)
arrays_items fs no_items (x ∷ xs) h = absurd h
arrays_items [] (item d ds) (x ∷ xs) h = refl
arrays_items (f ∷ fs) (item d ds) (x ∷ xs) h =
    ap₂ (λ us vs. us ++ vs) (ap (map (carried f)) h.0.items) (arrays_items fs ds xs h.1)

-- what the arrays of the items unify to
items_typed : (ds : Items) (xs : List Layout) → AreArraysOf ds xs no_items
    → joined_type xs ≡ items_type unknown ds
items_typed ds xs h = ap (last_type unknown) (arrays_types ds xs h) ∙ last_type-items unknown ds

pub items_within : (ds : Items) (xs : List Layout) → AreArraysOf ds xs no_items
    → limit (items_type unknown ds) ≡ None → limit (joined_type xs) ≡ None
items_within ds xs h l = ap limit (items_typed ds xs h) ∙ l

pub items_made : (ds : Items) (xs : List Layout) (x : Layout) → AreArraysOf ds xs no_items
    → array_type x ≡ joined_type xs → array_items x ≡ joined_items xs → IsArrayOfItems ds x
items_made ds xs x h e f =
    let plain = arrays_plain ds xs h in
    record {
      plain = plain;
      typ = e ∙ items_typed ds xs h;
      items =
          f
          ∙ ap (λ ts. items_by (carriers (steps_from unknown ts)).each xs) (arrays_types ds xs h)
          ∙ arrays_items (carriers_of unknown ds).each ds xs h
          ∙ sym (list_carried ds (are_typed ds plain));
    }

-- ---- objects

pub fields_more : (ms : Members) (xs : List Layout) (key : Name) (d : Data) (left : Members)
    (x : Layout) → AreFieldsOf ms xs (member key d left) → IsArrayOf d x
    → AreFieldsOf ms (xs ++ x ∷ []) left
fields_more ms [] key d left x h p =
    subst (λ ns. AreFieldsOf ns (x ∷ []) left) (sym h) (p, refl)
fields_more no_members (y ∷ xs) key d left x h p = absurd h
fields_more (member k e ms) (y ∷ xs) key d left x h p =
    (h.0, fields_more ms xs key d left x h.1 p)

fields_plain : (ms : Members) (xs : List Layout) → AreFieldsOf ms xs no_members → HavePlain ms
fields_plain ms [] h = subst HavePlain (sym h) tt
fields_plain no_members (x ∷ xs) h = absurd h
fields_plain (member key d ms) (x ∷ xs) h = (h.0.plain, fields_plain ms xs h.1)

fields_types : (ms : Members) (xs : List Layout) → AreFieldsOf ms xs no_members
    → map array_type xs ≡ member_types ms
fields_types ms [] h = ap member_types (sym h)
fields_types no_members (x ∷ xs) h = absurd h
fields_types (member key d ms) (x ∷ xs) h =
    ap₂ (λ t ts. t ∷ ts) h.0.typ (fields_types ms xs h.1)

fields_values : (ms : Members) (xs : List Layout) → AreFieldsOf ms xs no_members
    → map (λ x. array_item x 0) xs ≡ member_values ms
fields_values ms [] h = ap member_values (sym h)
fields_values no_members (x ∷ xs) h = absurd h
fields_values (member key d ms) (x ∷ xs) h =
    ap₂ (λ v vs. v ∷ vs) (first_of x (plain_value d) h.0.items) (fields_values ms xs h.1)

pub fields_reach : (ms : Members) (xs : List Layout) → AreFieldsOf ms xs no_members
    → AllReach 1 (layouts_from xs)
fields_reach ms [] h = tt
fields_reach no_members (x ∷ xs) h = absurd h
fields_reach (member key d ms) (x ∷ xs) h =
    (one_long x (plain_value d) h.0.items, fields_reach ms xs h.1)

fields_count : (ms : Members) (xs : List Layout) → AreFieldsOf ms xs no_members
    → length (names_in ms) ≡ length xs
fields_count ms [] h = ap (λ ns. length (names_in ns)) h
fields_count no_members (x ∷ xs) h = absurd h
fields_count (member key d ms) (x ∷ xs) h = ap suc (fields_count ms xs h.1)

pub fields_named : (ms : Members) (names : List Name) (xs : List Layout) → names ≡ names_in ms
    → AreDistinct (names_in ms) → AreFieldsOf ms xs no_members → AreNames (Some names) (length xs)
fields_named ms names xs e a h =
    subst (λ ns. AreNames (Some ns) (length xs)) (sym e) (fields_count ms xs h, a)

row_typed : (ms : Members) (names : List Name) (xs : List Layout) → names ≡ names_in ms
    → AreFieldsOf ms xs no_members
    → rec names (types_from (map array_type xs)) ≡ rec (names_in ms) (types_from (member_types ms))
row_typed ms names xs e h = ap₂ (λ ns ts. rec ns (types_from ts)) e (fields_types ms xs h)

pub row_within : (ms : Members) (names : List Name) (xs : List Layout) → names ≡ names_in ms
    → AreFieldsOf ms xs no_members
    → limit (rec (names_in ms) (types_from (member_types ms))) ≡ None
    → limit (rec names (types_from (map array_type xs))) ≡ None
row_within ms names xs e h l = ap limit (row_typed ms names xs e h) ∙ l

pub row_made : (ms : Members) (names : List Name) (xs : List Layout) (y : Layout)
    → names ≡ names_in ms → AreDistinct (names_in ms) → AreFieldsOf ms xs no_members
    → array_type y ≡ rec names (types_from (map array_type xs))
    → array_items y ≡ row (values_from (map (λ x. array_item x 0) xs)) ∷ []
    → IsArrayOf (object ms) y
row_made ms names xs y e a h t i = record {
  plain = (a, fields_plain ms xs h);
  typ = t ∙ row_typed ms names xs e h;
  items = i ∙ ap (λ vs. row (values_from vs) ∷ []) (fields_values ms xs h);
}
