-- Picks row by row, one after another.
use Rattle.std.specs.Prelude.{◌≡◌, Bool, true, false, List, Option, Some, None, Result, Ok, Err}
use Rattle.std.specs.Prelude.{refl, if◌then◌else◌}
use Rattle.std.proofs.Common.{ap, ap₂, sym, ◌∙◌}
use Rattle.std.proofs.lemmas.Option.{same_Some}
use Rattle.awk_types.specs.DataType.{DataType}
use Rattle.awk_types.specs.Datum.{Datum, arr}
use Rattle.awk_types.specs.Faults.{limit_refused}
use Rattle.awk_types.specs.Gives.{refused_or, ◌or◌}
use Rattle.awk_types.specs.Parts.{list_depth}
use Rattle.awk_types.specs.Simple.{IsSimple, simple}
use Rattle.awk_types.specs.Value.{Value}
use Rattle.awk_types.specs.declared.fault.Fault.{Fault}
use Rattle.awk_types.specs.declared.fault.Fault.TheVariants.{Index, Lengths, WrongType}
use Rattle.awk_types.proofs.RefusalLaws.{refused_or-Ok, or-both}
use Rattle.awk_jagged.specs.Jagged.{are_uneven, fault_if, is_jagged, jagged_of, lacks_places}
use Rattle.awk_jagged.specs.Jagged.{pick_type, picked_as, picked_items, size_refused}
use Rattle.awk_law_chains.specs.Arrays.{picks_by_place}
use Rattle.awk_laws.proofs.JaggedComposed.{composes}
use Rattle.awk_laws.proofs.JaggedTwice.{Fits}

pub record IsJagged (t u : DataType) (vs ws : List Value) (d : Datum) : Type 0 where
  pub jagged : is_jagged u ≡ true
  pub typ : DataType
  pub types : pick_type u t ≡ Some typ
  pub fits : Fits u vs ws
  pub is : arr (simple typ) (picked_items u vs ws) ≡ d

no_fault : (why : Fault) (b : Bool) → fault_if why b ≡ None → b ≡ false
no_fault why false e = refl
no_fault why true e = cc

pub jagged_given : (t u : DataType) (vs ws : List Value) (d : Datum)
    → jagged_of (arr t vs) (arr u ws) ≡ Ok d → IsJagged t u vs ws d
jagged_given t u vs ws d e = by (is_jagged u) refl e
  where
    typed : (m : Option DataType) → is_jagged u ≡ true → pick_type u t ≡ m
        → picked_as m u vs ws ≡ Ok d → IsJagged t u vs ws d
    typed None f g e = cc
    typed (Some r) f g e =
        let x = fault_if Lengths (are_uneven u vs ws) in
        let y = fault_if Index (lacks_places u vs ws) in
        let z = size_refused u (picked_items u vs ws) in
        let k = refused_or-Ok (limit_refused (simple r) or (x or (y or z)))
        (arr (simple r) (picked_items u vs ws)) d e in
        let a = or-both (limit_refused (simple r)) (x or (y or z)) k.0 in
        let b = or-both x (y or z) a.1 in
        record {
          jagged = f;
          typ = r;
          types = g;
          fits = record {
            even = no_fault Lengths (are_uneven u vs ws) b.0;
            within = no_fault Index (lacks_places u vs ws) (or-both y z b.1).0;
          };
          is = k.1;
        }

    by : (b : Bool) → is_jagged u ≡ b
        → (if b then picked_as (pick_type u t) u vs ws else Err WrongType) ≡ Ok d
        → IsJagged t u vs ws d
    by false f e = cc
    by true f e = typed (pick_type u t) f refl e

-- what is picked of a type, unless its size or its type is refused
abbrev outcome : DataType → Option Fault → List Value → Result Datum Fault
outcome r size rs = refused_or (limit_refused r or size) (arr r rs)

fitting : (t u r : DataType) (vs ws : List Value) → is_jagged u ≡ true → pick_type u t ≡ Some r
    → Fits u vs ws → jagged_of (arr t vs) (arr u ws)
    ≡ outcome (simple r) (size_refused u (picked_items u vs ws)) (picked_items u vs ws)
fitting t u r vs ws j e h =
    let rs = picked_items u vs ws in
    ap₂ (λ b o. if b then picked_as o u vs ws else Err WrongType) j e
    ∙ ap₂ (λ a b. refused_or
    (limit_refused (simple r)
    or (fault_if Lengths a or (fault_if Index b or size_refused u rs))) (arr (simple r) rs))
    h.even h.within

pub jagged_twice : (t u w : DataType) (vs is js : List Value) (picked index : Datum) → IsSimple u
    → IsSimple w → picks_by_place u ≡ true → list_depth u ≡ list_depth w
    → jagged_of (arr t vs) (arr u is) ≡ Ok picked → jagged_of (arr u is) (arr w js) ≡ Ok index
    → jagged_of picked (arr w js) ≡ jagged_of (arr t vs) index
jagged_twice t u w vs is js picked index s z p d e f =
    let a = jagged_given t u vs is picked e in
    let b = jagged_given u w is js index f in
    let k = composes w z u b.typ s p d b.types in
    let h = k.both t a.typ a.types in
    let ys = picked_items u vs is in
    let ks = picked_items w is js in
    let rs = picked_items (simple k.typ) vs ks in
    ap (λ x. jagged_of x (arr w js)) (sym a.is)
    ∙ fitting (simple a.typ) w h.one ys js b.jagged h.first (k.first vs is js a.fits b.fits)
    ∙ ap₂ (λ x xs. outcome x (size_refused w xs) xs) h.same (k.items vs is js)
    ∙ ap (λ o. outcome (simple h.other) o rs) (k.sizes rs)
    ∙ sym (fitting t (simple k.typ) h.other vs ks (k.jagged b.jagged) h.second
    (k.second vs is js a.fits b.fits))
    ∙ ap (λ r. jagged_of (arr t vs) (arr (simple r) ks))
    (same_Some k.typ b.typ (sym k.types ∙ b.types))
    ∙ ap (jagged_of (arr t vs)) b.is
