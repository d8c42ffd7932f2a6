-- The array of the items of a list that are of their type as they stand.
use Rattle.std.proofs.Common.{◌≡◌, List, [], map, true, ap, ap₂, sym, subst, ◌∙◌, Option, None}
use Rattle.std.proofs.Common.{Ok, Some}
use Rattle.std.specs.Prelude.{IfSome}
use Rattle.serde_json.specs.Data.{Data, Items, array}
use Rattle.serde_json.specs.View.{items_view, view}
use Rattle.serde_json.specs.declared.value.Value as json
use Rattle.awk_types.specs.DataType.{DataType, unknown, var}
use Rattle.awk_types.specs.Datum.{arr}
use Rattle.awk_types.specs.Gives.{refused_or}
use Rattle.awk_types.specs.Limit.{limit}
use Rattle.awk_types.specs.Simple.{IsSimple}
use Rattle.awk_types.specs.View.{typ_of}
use Rattle.awk_types.specs.declared.typ.Typ.{Typ}
use Rattle.awk_types.proofs.PartLimits.{within_var}
use Rattle.awk_layout.specs.Array.{IsArrayType}
use Rattle.awk_layout.specs.Layout.{Layout}
use Rattle.awk_layout.specs.Typing.{array_datum, array_type, array_items}
use Rattle.awk_plain.proofs.OwnValues.{list_own}
use Rattle.awk_plain.proofs.TypedLaws.{items_typed}
use Rattle.awk_plain.specs.IsPlain.{ArePlain}
use Rattle.awk_plain.specs.Plain.{from_values, items_type, plain_array, plain_fault}
use Rattle.awk_plain.specs.Standing.{Stands}
use Rattle.awk_plain.specs.Suits.{all_suit, is_of_lists, item_of, own_value, own_values, suits}
use Rattle.awk_plain_columns.proofs.SuitedLaws.{data_view, own_list}
use Rattle.awk_build.specs.Built.{IsArrayOfItems}

own_of_views : (vs : List json.Value) → map own_value (map view vs) ≡ own_values (items_view vs)
own_of_views vs = sym (own_list (items_view vs) ∙ ap (map own_value) (data_view vs))

pub items_lawful : (ds : Items) (t : DataType) → t ≡ items_type unknown ds → ArePlain ds
    → limit (items_type unknown ds) ≡ None → IsArrayType t
items_lawful ds t e p l =
    let h = items_typed unknown [] ds tt tt tt p in
    subst IsArrayType (sym e) (record { is_type = h.0; is_simple = h.1; within_limits = l })

pub suited_made : (vs : List json.Value) (t : DataType) (x : Layout)
    → t ≡ items_type unknown (items_view vs) → ArePlain (items_view vs)
    → all_suit t (items_view vs) ≡ true → array_type x ≡ t
    → array_items x ≡ map own_value (map view vs) → IsArrayOfItems (items_view vs) x
suited_made vs t x e p s f g =
    let ds = items_view vs in
    let simple : IsSimple t =
    subst IsSimple (sym e) (items_typed unknown [] ds tt tt tt p).1 in
    record {
      plain = p;
      typ = f ∙ e;
      items = g ∙ own_of_views vs ∙ sym (list_own t ds simple p s);
    }

-- ---- a list that is of its type as it stands

pub standing_some : (o : Option Typ) (r : Typ) (vs ws : List json.Value) → o ≡ Some r → vs ≡ ws
    → IfSome o (λ t. Stands (typ_of t) (array (items_view vs)))
    → Stands (typ_of r) (array (items_view ws))
standing_some o r vs ws e f h =
    subst (λ us. Stands (typ_of r) (array (items_view us))) f
    (subst (λ p. IfSome p (λ t. Stands (typ_of t) (array (items_view vs)))) e h)

pub standing_item : (t u : DataType) (ds : Items) → Stands t (array ds) → t ≡ var u
    → u ≡ items_type unknown ds
standing_item t u ds s e = ap item_of (sym e ∙ s.typ)

pub standing_suited : (t u : DataType) (ds : Items) → Stands t (array ds) → t ≡ var u
    → all_suit u ds ≡ true
standing_suited t u ds s e = sym (ap (λ v. suits v (array ds)) e) ∙ s.suited

pub standing_lawful : (t u : DataType) (ds : Items) → Stands t (array ds) → t ≡ var u
    → IsArrayType u
standing_lawful t u ds s e =
    items_lawful ds u (standing_item t u ds s e) s.plain
    (within_var (items_type unknown ds) (ap limit (sym s.typ) ∙ s.within))

pub standing_lists : (t : DataType) (ds : Items) → Stands t (array ds) → is_of_lists t ≡ true
standing_lists t ds s = ap is_of_lists s.typ

-- and its array, where no fault is told
pub array_given : (d : Data) (ds : Items) (x : Layout) → d ≡ array ds
    → plain_fault (array ds) ≡ None → IsArrayOfItems ds x → from_values d ≡ Ok (array_datum x)
array_given d ds x v f a =
    ap from_values v ∙ ap (λ o. refused_or o (plain_array (array ds))) f
    ∙ ap₂ (λ t vs. Ok (arr t vs)) (sym a.typ) (sym a.items)
