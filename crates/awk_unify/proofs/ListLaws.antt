-- Several types, unified from the left.
use Rattle.std.proofs.Common.{◌≡◌, ◌∙◌, ◌+◌, ◌≤◌, ◌∷◌, ◌++◌, [], ℕ, List, Ok, Option, Some, ap}
use Rattle.std.proofs.Common.{append_assoc, drop, length, refl, map, slice_get, subst, sym}
use Rattle.std.proofs.lemmas.List.{append-nil, drop_all}
use Rattle.awk_base.proofs.Lists.{drop-get}
use Rattle.awk_types.proofs.RefusalLaws.{refused_or-None}
use Rattle.awk_types.specs.DataType.{DataType, types_from, unknown}
use Rattle.awk_types.specs.Gives.{Told}
use Rattle.awk_types.specs.Has.{Has}
use Rattle.awk_types.specs.IsType.{AreTypes, IsType}
use Rattle.awk_types.specs.Limit.{Limit, limit, within}
use Rattle.awk_types.specs.Simple.{AreSimple, IsSimple, simple}
use Rattle.awk_types.specs.Value.{Value}
use Rattle.awk_unify.specs.After.{after}
use Rattle.awk_unify.specs.Carry.{Carry, carried}
use Rattle.awk_unify.specs.Unify.{unification}
use Rattle.awk_unify.specs.UnifyList.{AreCarriedInto, AreCarriedOn, carried_on, UnificationList}
use Rattle.awk_unify.specs.UnifyList.{UnifiesAll, one_further, unification_list, unification_more}
use Rattle.awk_unify.specs.UnifyList.{within_list}
use Rattle.awk_unify.proofs.AfterLaws.{InPlace, after_carries}
use Rattle.awk_unify.proofs.CarriedLaws.{IsCarried, Takes, then_carries}
use Rattle.awk_unify.proofs.LimitLaws.{within_is, within_none, within_told}
use Rattle.awk_unify.proofs.SimpleLaws.{unify_simple}
use Rattle.awk_unify.proofs.TypeLaws.{unify_type}
use Rattle.awk_unify.proofs.TypingLaws.{unify_carries}
use Rattle.awk_unify.proofs.UnifiesLaws.{carried_into}

abbrev AllCarry : List DataType → List Carry → DataType → Type 0
AllCarry [] [] t = Unit {0}
AllCarry (a ∷ firsts) (f ∷ fs) t = Takes a f t × AllCarry firsts fs t
AllCarry firsts fs t = ⊥

carried_further : (firsts : List DataType) (fs : List Carry) (m t : DataType) (g : Carry)
    → InPlace g → Takes m g t → AllCarry firsts fs m → AllCarry firsts (map (after g) fs) t
carried_further [] [] m t g p c h = tt
carried_further [] (f ∷ fs) m t g p c h = absurd h
carried_further (a ∷ firsts) [] m t g p c h = absurd h
carried_further (a ∷ firsts) (f ∷ fs) m t g p c h =
    (then_carries a m t f g p h.0 c, carried_further firsts fs m t g p c h.1)

carried_one : (firsts : List DataType) (fs : List Carry) (b t : DataType) (f : Carry)
    → AllCarry firsts fs t → Takes b f t → AllCarry (firsts ++ b ∷ []) (fs ++ f ∷ []) t
carried_one [] [] b t f h c = (c, tt)
carried_one [] (g ∷ fs) b t f h c = absurd h
carried_one (a ∷ firsts) [] b t f h c = absurd h
carried_one (a ∷ firsts) (g ∷ fs) b t f h c = (h.0, carried_one firsts fs b t f h.1 c)

more_type : (u : UnificationList) (bs : List DataType) → IsType u.typ → AreTypes (types_from bs)
    → IsType (unification_more u bs).typ
more_type u [] s t = s
more_type u (b ∷ bs) s t = more_type (one_further u b) bs (unify_type u.typ b s t.0) t.1

more_simple : (u : UnificationList) (bs : List DataType) → IsSimple u.typ
    → AreSimple (types_from bs) → IsSimple (unification_more u bs).typ
more_simple u [] s t = s
more_simple u (b ∷ bs) s t = more_simple (one_further u b) bs (unify_simple u.typ b s t.0) t.1

more_carries : (done : List DataType) (u : UnificationList) (bs : List DataType) → IsType u.typ
    → IsSimple u.typ → AreTypes (types_from bs) → AreSimple (types_from bs)
    → AllCarry done u.lifts u.typ
    → AllCarry (done ++ bs) (unification_more u bs).lifts (unification_more u bs).typ
more_carries done u [] y s z x h = subst (λ ts. AllCarry ts u.lifts u.typ) (sym (append-nil done)) h
more_carries done u (b ∷ bs) y s z x h =
    let r : IsCarried u.typ b (unification u.typ b) = unify_carries u.typ b y z.0 s x.0 in
    let next : AllCarry (done ++ b ∷ []) (one_further u b).lifts (one_further u b).typ = carried_one
    done _ b _ _ (carried_further done u.lifts u.typ (unification u.typ b).typ
    (unification u.typ b).left r.in_place r.to_left h) r.to_right in
    subst (λ ts. AllCarry ts (unification_more u (b ∷ bs)).lifts (unification_more u (b ∷ bs)).typ)
    (append_assoc done (b ∷ []) bs)
    (more_carries (done ++ b ∷ []) (one_further u b) bs (unify_type u.typ b y z.0)
    (unify_simple u.typ b s x.0) z.1 x.1 next)

all_carried : (ts : List DataType) (fs : List Carry) (t : DataType) → AllCarry ts fs t
    → AreCarriedInto ts fs t
all_carried [] [] t h = tt
all_carried [] (f ∷ fs) t h = absurd h
all_carried (a ∷ firsts) [] t h = absurd h
all_carried (a ∷ firsts) (f ∷ fs) t h = (carried_into a f t h.0, all_carried firsts fs t h.1)

-- ---- step after step

-- the values of the first types are carried on, and those of the others too
abbrev AreOnward : List DataType → List Carry → DataType → List DataType → List Carry → Type 0
AreOnward [] [] t bs hs = AreCarriedOn t bs hs
AreOnward (a ∷ firsts) (f ∷ fs) t bs (h ∷ hs) =
    ((v : Value) → Has a v → carried h v ≡ carried_on t bs (carried f v))
    × AreOnward firsts fs t bs hs
AreOnward firsts fs t bs hs = ⊥

onward_end : (firsts : List DataType) (fs : List Carry) (t : DataType) → AllCarry firsts fs t
    → AreOnward firsts fs t [] fs
onward_end [] [] t h = tt
onward_end [] (f ∷ fs) t h = absurd h
onward_end (a ∷ firsts) [] t h = absurd h
onward_end (a ∷ firsts) (f ∷ fs) t h = (λ v k. refl, onward_end firsts fs t h.1)

onward_step : (firsts : List DataType) (fs : List Carry) (m b : DataType) (bs : List DataType)
    (hs : List Carry) → InPlace (unification m b).left
    → Takes m (unification m b).left (unification m b).typ → AllCarry firsts fs m
    → AreOnward (firsts ++ b ∷ [])
    (map (after (unification m b).left) fs ++ (unification m b).right ∷ [])
    (unification m b).typ bs hs → AreOnward firsts fs m (b ∷ bs) hs
onward_step [] [] m b bs [] p c h x = absurd x
onward_step [] [] m b bs (k ∷ hs) p c h x = x
onward_step [] (f ∷ fs) m b bs hs p c h x = absurd h
onward_step (a ∷ firsts) [] m b bs hs p c h x = absurd h
onward_step (a ∷ firsts) (f ∷ fs) m b bs [] p c h x = absurd x
onward_step (a ∷ firsts) (f ∷ fs) m b bs (k ∷ hs) p c h x =
    let g = (unification m b).left in (
      λ v l. x.0 v l ∙ ap (carried_on (unification m b).typ bs)
          (after_carries g f v p (h.0 v l).0 (c (carried f v) (h.0 v l).1).0).1,
      onward_step firsts fs m b bs hs p c h.1 x.1,
    )

more_onward : (done : List DataType) (u : UnificationList) (bs : List DataType) → IsType u.typ
    → IsSimple u.typ → AreTypes (types_from bs) → AreSimple (types_from bs)
    → AllCarry done u.lifts u.typ
    → AreOnward done u.lifts u.typ bs (unification_more u bs).lifts
more_onward done u [] y s z x h = onward_end done u.lifts u.typ h
more_onward done u (b ∷ bs) y s z x h =
    let r : IsCarried u.typ b (unification u.typ b) = unify_carries u.typ b y z.0 s x.0 in
    let next : AllCarry (done ++ b ∷ []) (one_further u b).lifts (one_further u b).typ =
    carried_one done _ b _ _ (carried_further done u.lifts u.typ (unification u.typ b).typ
    (unification u.typ b).left r.in_place r.to_left h) r.to_right in
    onward_step done u.lifts u.typ b bs (unification_more u (b ∷ bs)).lifts r.in_place r.to_left h
    (more_onward (done ++ b ∷ []) (one_further u b) bs (unify_type u.typ b y z.0)
    (unify_simple u.typ b s x.0) z.1 x.1 next)

pub list_simple : (ts : List DataType) → AreSimple (types_from ts)
    → IsSimple (unification_list ts).typ
list_simple ts x = more_simple _ ts tt x

unifies_list : (ts : List DataType) → UnifiesAll ts (unification_list ts)
unifies_list ts = record {
  from_left = refl;
  is_type = λ z. more_type _ ts tt z;
  is_simple = λ x. list_simple ts x;
  values = λ z x. all_carried ts _ _ (more_carries [] _ ts tt tt z x tt);
  steps = λ z x. more_onward [] (record { typ = unknown; lifts = [] }) ts tt tt z x tt;
}

-- the laws
pub unifies_all : (ts : List DataType) (u : UnificationList) → u ≡ unification_list ts
    → UnifiesAll ts u
unifies_all ts u e = subst (UnifiesAll ts) (sym e) (unifies_list ts)

-- ---- the limits

pub list_within : (ts : List DataType) (t s : DataType) (fs : List Carry) → AreSimple
    (types_from ts) → record { typ = t; lifts = fs } ≡ unification_list ts → within (simple t) ≡ Ok
    s → record { typ = s; lifts = fs } ≡ unification_list ts
list_within ts t s fs x e h =
    let one : t ≡ (unification_list ts).typ = ap (λ r. r.typ) e in
    let same : s ≡ t = within_is t s (unification_list ts).typ (list_simple ts x) one h ∙ sym one in
    ap (λ z. record { typ = z; lifts = fs }) same ∙ e

pub list_gives : (ts : List DataType) (t s : DataType) (fs : List Carry) → AreSimple (types_from ts)
    → record { typ = t; lifts = fs } ≡ unification_list ts → within (simple t) ≡ Ok s
    → within_list (unification_list ts) ≡ Ok (record { typ = s; lifts = fs })
list_gives ts t s fs x e h =
    refused_or-None (limit (unification_list ts).typ) (unification_list ts)
    (record { typ = s; lifts = fs }) (within_none t s (unification_list ts).typ
    (list_simple ts x) (ap (λ r. r.typ) e) h) (sym (list_within ts t s fs x e h))

pub list_told : (ts : List DataType) (t : DataType) (fs : List Carry) (o : Option Limit) → AreSimple
    (types_from ts) → record { typ = t; lifts = fs } ≡ unification_list ts → Told o
    (within (simple t)) → Told o (within_list (unification_list ts))
list_told ts t fs o x e h =
    within_told t (unification_list ts).typ o (unification_list ts) (list_simple ts x)
    (ap (λ r. r.typ) e) h

-- ---- the loop

pub list_next : (u v all : UnificationList) (ts : List DataType) (i : ℕ) (t : DataType)
    → slice_get ts i ≡ Some t → v ≡ one_further u t → unification_more u (drop i ts) ≡ all
    → unification_more v (drop (i + 1) ts) ≡ all
list_next u v all ts i t e f h =
    ap (λ x. unification_more x (drop (i + 1) ts)) f ∙ sym
    (ap (unification_more u) (drop-get ts i t e)) ∙ h

pub list_last : (u all : UnificationList) (ts : List DataType) (i : ℕ) → length ts ≤ i
    → unification_more u (drop i ts) ≡ all → u ≡ all
list_last u all ts i l h = sym (ap (unification_more u) (drop_all i ts l)) ∙ h
