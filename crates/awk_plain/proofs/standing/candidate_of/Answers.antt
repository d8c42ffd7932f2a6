use Rattle.std.proofs.Common.{◌≡◌, ◌+◌, arith, drop, refl, subst, sym, true}
use Rattle.std.specs.Prelude.{IfSome}
use Rattle.std.proofs.lemmas.List.{drop_all}
use Rattle.serde_json.specs.Data.{item, no_items}
use Rattle.serde_json.specs.View.{items_view, view}
use Rattle.awk_types.specs.View.{typ_of}
use Rattle.awk_plain.proofs.StandingLaws.{AreSettled, none_settled, settled_all, settled_joins}
use Rattle.awk_plain.proofs.StandingLaws.{settled_suits}
use Rattle.awk_plain.proofs.TypeSteps.{item_next, typ_of-Unknown}
use Rattle.awk_plain.specs.IsPlain.{IsPlain}
use Rattle.awk_plain.specs.Plain.{one_more, plain_type}
use Rattle.awk_plain.specs.Suits.{suits}
use Rattle.awk_plain.proofs.standing.candidate_of.Goals as goal

pub loop-i-init : goal.loop-i-init
loop-i-init c =
    let ds = items_view c.args.items.now in
    (omega arith, subst (λ t. AreSettled ds t ds ds) (sym typ_of-Unknown) (none_settled ds))

pub joined_type-requires : goal.joined_type-requires
joined_type-requires c = c.loop-i.invariant.1.simple

pub loop-i-preserved-then-suits : goal.loop-i-preserved-then-suits
loop-i-preserved-then-suits c =
    let vs = c.args.items.now in
    let t = typ_of c.loop-i.typ in
    let i = c.loop-i.i in
    let v = c.index-items-i.result in
    let left = items_view (drop (i + 1) vs) in
    let rest = items_view (drop c.loop-i.from vs) in
    let here : AreSettled (items_view vs) t (item (view v) left) rest =
    subst (λ ds. AreSettled (items_view vs) t ds rest)
    (item_next vs i v (omega arith) c.index-items-i.is) c.loop-i.invariant.1 in (
      c.loop-i.invariant.0,
      settled_suits (items_view vs) t (view v) left rest here (c.if-suits.ensures.plain refl)
          (sym c.if-suits.ensures.value),
    )

pub loop-i-preserved : goal.loop-i-preserved
loop-i-preserved c =
    let vs = c.args.items.now in
    let t = typ_of c.loop-i.typ in
    let i = c.loop-i.i in
    let v = c.index-items-i.result in
    let left = items_view (drop (i + 1) vs) in
    let rest = items_view (drop c.loop-i.from vs) in
    let u = typ_of c.in-Some.joined in
    let same : items_view (drop i vs) ≡ item (view v) left =
    item_next vs i v (omega arith) c.index-items-i.is in
    let here : AreSettled (items_view vs) t (item (view v) left) rest =
    subst (λ ds. AreSettled (items_view vs) t ds rest) same c.loop-i.invariant.1 in
    let typ : u ≡ one_more t (plain_type (view v)) =
    subst (λ o. IfSome o (λ r. typ_of r ≡ one_more t (plain_type (view v)))) c.in-Some.is
    c.in_ok-joined.ensures.typ in
    let plain : IsPlain (view v) =
    subst (λ o. IfSome o (λ r. IsPlain (view v))) c.in-Some.is c.in_ok-joined.ensures.plain in
    let suited : suits u (view v) ≡ true =
    subst (λ o. IfSome o (λ r. suits (typ_of r) (view v) ≡ true)) c.in-Some.is
    c.in_ok-joined.ensures.suited in (
      omega arith,
      subst (AreSettled (items_view vs) u left) (sym same)
          (settled_joins (items_view vs) t u (view v) left rest here typ plain suited),
    )

pub returns : goal.returns
returns c =
    let vs = c.args.items.now in
    let t = typ_of c.loop-i.typ in
    let rest = items_view (drop c.loop-i.from vs) in
    let done : AreSettled (items_view vs) t no_items rest =
    subst (λ ws. AreSettled (items_view vs) t (items_view ws) rest)
    (drop_all c.loop-i.i vs (omega (arith, c.loop-i-test.false))) c.loop-i.invariant.1 in
    let all = settled_all (items_view vs) t rest done in
    record { from = c.loop-i.invariant.0; typ = all.0; plain = all.1; suited = all.2 }
