-- The types of plain values are simple, and the limits of what is made before a type come first.
use Rattle.std.proofs.Common.{◌≡◌, ℕ, List, [], ◌∷◌, ◌++◌, map}
use Rattle.std.proofs.Common.{refl, ap, sym, ◌∙◌}
use Rattle.serde_json.specs.Data.{Data, null, boolean, number, string, array, object}
use Rattle.serde_json.specs.Data.{Items, no_items, item, Members, no_members, member}
use Rattle.awk_types.specs.DataType.{DataType, unknown, types_from}
use Rattle.awk_types.specs.Gives.{◌or◌}
use Rattle.awk_types.specs.Limit.{limit}
use Rattle.awk_types.specs.Simple.{IsSimple, AreSimple}
use Rattle.awk_types.specs.View.{names_of, types_of}
use Rattle.awk_types.proofs.RefusalLaws.{or-assoc, or-last}
use Rattle.awk_unify.proofs.SimpleLaws.{unify_simple}
use Rattle.awk_plain.specs.Plain.{plain_type, items_type, member_types, names_in, one_more}
use Rattle.awk_plain.specs.Plain.{types_made, items_made, members_made, first_limit}
use Rattle.awk_plain.specs.Types.{fields_in}

-- ---- simple types

mutual
  pub plain_simple : (d : Data) → IsSimple (plain_type d)
  plain_simple null = (refl, tt)
  plain_simple (boolean b) = tt
  plain_simple (number n) = tt
  plain_simple (string s) = tt
  plain_simple (array ds) = items_simple unknown ds tt
  plain_simple (object ms) = members_simple ms

  pub items_simple : (t : DataType) (ds : Items) → IsSimple t → IsSimple (items_type t ds)
  items_simple t no_items s = s
  items_simple t (item d ds) s =
      items_simple (one_more t (plain_type d)) ds
      (unify_simple t (plain_type d) s (plain_simple d))

  pub members_simple : (ms : Members) → AreSimple (types_from (member_types ms))
  members_simple no_members = tt
  members_simple (member key d ms) = (plain_simple d, members_simple ms)

-- ---- fields

pub names-fields : (ms : Members) → names_of (fields_in ms) ≡ names_in ms
names-fields no_members = refl
names-fields (member key d ms) = ap (λ ns. key ∷ ns) (names-fields ms)

pub types-fields : (ms : Members) → types_of (fields_in ms) ≡ types_from (member_types ms)
types-fields ms = ap types_from (typs ms)
  where
    typs : (ms : Members) → map (λ f. f.typ) (fields_in ms) ≡ member_types ms
    typs no_members = refl
    typs (member key d ms) = ap (λ ts. plain_type d ∷ ts) (typs ms)

-- ---- limits

pub first_limit-append : (ts us : List DataType)
    → first_limit (ts ++ us) ≡ (first_limit ts or first_limit us)
first_limit-append [] us = refl
first_limit-append (t ∷ ts) us =
    ap (λ l. limit t or l) (first_limit-append ts us)
    ∙ sym (or-assoc (limit t) (first_limit ts) (first_limit us))

-- what is made last is judged last
pub limit_last : (ts : List DataType) (t : DataType)
    → first_limit (ts ++ t ∷ []) ≡ (first_limit ts or limit t)
limit_last ts t =
    first_limit-append ts (t ∷ []) ∙ ap (λ l. first_limit ts or l) (or-last (limit t))

-- one more item
pub limit_item : (t : DataType) (d : Data) (ds : Items)
    → first_limit (items_made t (item d ds))
    ≡ (first_limit (types_made d) or (limit (one_more t (plain_type d))
    or first_limit (items_made (one_more t (plain_type d)) ds)))
limit_item t d ds =
    first_limit-append (types_made d)
    (one_more t (plain_type d) ∷ items_made (one_more t (plain_type d)) ds)

-- one more member
pub limit_member : (key : List ℕ) (d : Data) (ms : Members)
    → first_limit (members_made (member key d ms))
    ≡ (first_limit (types_made d) or first_limit (members_made ms))
limit_member key d ms = first_limit-append (types_made d) (members_made ms)
