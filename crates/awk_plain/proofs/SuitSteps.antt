-- One field after another against the members of an object.
use Rattle.std.proofs.Common.{◌≡◌, ℕ, zero, suc, ◌+◌, ◌≤◌, List, [], ◌∷◌, map, length, Bool, true}
use Rattle.std.proofs.Common.{false, refl, ap, ◌∙◌, Some, arith, drop, slice_get}
use Rattle.std.specs.Prelude.{◌&&◌, ◌==◌}
use Rattle.serde_json.specs.Data.{Data, Members, no_members, member, object}
use Rattle.awk_base.proofs.Lists.{drop-get}
use Rattle.awk_types.proofs.Trees.{type_list-from}
use Rattle.awk_types.specs.DataType.{DataType, Name, rec}
use Rattle.awk_types.specs.Names.{same_name}
use Rattle.awk_types.specs.Parts.{is_record, names_of_fields, types_of_fields}
use Rattle.awk_types.specs.Simple.{present}
use Rattle.awk_types.specs.View.{NamedType, names_of, types_of}
use Rattle.awk_plain.specs.Suits.{fields_suit, members_suit, suits}

pub fields_next : (fs : List NamedType) (i : ℕ) (f : NamedType) (key : Name) (d : Data)
    (ms : Members) → slice_get fs i ≡ Some f
    → fields_suit (drop i fs) (member key d ms)
    ≡ (same_name f.name key && (suits f.typ d && fields_suit (drop (i + 1) fs) ms))
fields_next fs i f key d ms e =
    ap (λ gs. fields_suit gs (member key d ms)) (drop-get fs i f e)

pub fields_end : (fs : List NamedType) (i : ℕ) → i ≤ length fs
    → fields_suit (drop i fs) no_members ≡ (i == length fs)
fields_end [] zero h = refl
fields_end [] (suc i) h = absurd (omega (arith, h))
fields_end (f ∷ fs) zero h = some_left (length fs)
  where
    some_left : (n : ℕ) → false ≡ (0 == suc n)
    some_left n = grind arith
fields_end (f ∷ fs) (suc i) h = fields_end fs i (omega (arith, h)) ∙ same i (length fs)
  where
    same : (i n : ℕ) → (i == n) ≡ (suc i == suc n)
    same i n = grind arith

-- an object against the fields of a record
pub record_suits : (t : DataType) (fs : List NamedType) (ms : Members)
    → present t ≡ rec (names_of fs) (types_of fs) → suits t (object ms) ≡ fields_suit fs ms
record_suits t fs ms e =
    ap (λ u. is_record u && members_suit (names_of_fields u) (types_of_fields u) ms) e
    ∙ ap (λ ts. members_suit (names_of fs) ts ms) (type_list-from (map (λ f. f.typ) fs))

-- a member that suits, or does not
pub next_suits : (a b c : Bool) → (a && b) ≡ true → (a && (b && c)) ≡ c
next_suits true b c e = ap (λ x. x && c) e
next_suits false b c e = absurd (cc)

pub next_fails : (a b c : Bool) → (a && b) ≡ false → (a && (b && c)) ≡ false
next_fails true b c e = ap (λ x. x && c) e
next_fails false b c e = refl
