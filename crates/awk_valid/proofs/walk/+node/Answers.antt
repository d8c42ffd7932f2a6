-- A node is told with its own break, then with those of its contents in order, and is its own part
-- over them.
use Rattle.std.proofs.Common.{◌≡◌, ◌<◌, ◌≤◌, ◌+◌, ◌++◌, ◌∷◌, [], Ok, arith, rules, sym, ap, ap₂}
use Rattle.std.proofs.Common.{◌∙◌, subst}
use Rattle.awk_types.specs.Gives.{Told}
use Rattle.awk_layout.specs.Valid.{IsValid}
use Rattle.awk_form.specs.Induction.{nodes-contents}
use Rattle.awk_form.specs.FormTree.{contents_of}
use Rattle.awk_form.specs.Lawful.{AreLawful, count}
use Rattle.awk_form.specs.Measures.{nodes_of}
use Rattle.awk_form.specs.View.{form_of}
use Rattle.awk_form.specs.declared.form.Shape.{the_lemmas}
use Rattle.awk_valid.specs.Loading.{told}
use Rattle.awk_valid.specs.Parts.{own_of, over}
use Rattle.awk_valid.specs.Walked.{given, container_in, node_said, left_said}
use Rattle.awk_valid.proofs.FaultLaws.{Gives-fails}
use Rattle.awk_valid.proofs.WalkLaws.{steps-own, steps-within, steps-first, steps-next, told-own}
use Rattle.awk_valid.proofs.WalkLaws.{left-all, own-count, own-length, rest-all, rest-none}
use Rattle.awk_valid.proofs.WalkLaws.{rest-lawful, rest-nodes, lawful-over, left-told, left-next}
use Rattle.awk_valid.proofs.WalkLaws.{left-none, said-valid}
use Rattle.awk_valid.proofs.walk.+node.Goals as goal

pub returns-in_err-own-clause-answer : goal.returns-in_err-own-clause-answer
returns-in_err-own-clause-answer g t' c =
    let e = c.in_err-own.field-0.0 in
    let f = form_of c.args.form.now in
    let t = given c.args.walk.now.reader.now.big c.args.store.now.held in
    Gives-fails (λ x. x) c.from_residual-in_err-own.result e
    (node_said f c.args.next.now c.args.n t)
    c.from_residual-in_err-own.ensures.1
    (told-own (told e) f c.args.next.now c.args.n t c.in_err-own.ensures.answer)

pub returns-in_err-own-clause-cost : goal.returns-in_err-own-clause-cost
returns-in_err-own-clause-cost g t' c =
    let f = form_of c.args.form.now in
    let t = given c.args.walk.now.reader.now.big c.args.store.now.held in
    steps-within _ _ _ (steps-own f t _ _ c.in_err-own.ensures.cost)

pub loop-i-init : goal.loop-i-init
loop-i-init g t' c =
    let f = form_of c.args.form.now in
    let t = given c.args.walk.now.reader.now.big c.args.store.now.held in
    let n = c.args.n in
    let own =
    left-all f c.args.next.now n t c.in_ok-own.own c.in_ok-own.lengths.items
    c.in_ok-own.ensures.answer in
    let next : c.in_ok-next.field-0 ≡ c.args.next.now + 1 = first_of (cc, grind arith) in
    record {
      lawful = subst AreLawful (sym (rest-all f)) (lawful-over f c.requires.lawful);
      own = own.1;
      said =
          own.0
          ∙ ap₂ (λ j xs. left_said f n 0 j xs t) (sym next) (sym c.new-contents.ensures.items);
      next = omega (arith, next, ap nodes_of (rest-all f), nodes-contents f);
      held = c.in_ok-own.ensures.held;
      cost = steps-first f t _ _ c.in_ok-own.ensures.cost;
    }

pub content_at-requires : goal.content_at-requires
content_at-requires g t' c =
    let f = form_of c.args.form.now in
    let t = given c.args.walk.now.reader.now.big c.args.store.now.held in
    let n = c.args.n in
    let counted =
    own-count f c.args.next.now n t c.in_ok-own.own c.in_ok-own.lengths.items
    c.in_ok-own.ensures.answer in
    let within : c.loop-i.i < count (contents_of f) =
    omega (arith, counted, c.loop-i-test.true, c.len-i-end.ensures) in
    record { within = within }

pub node-requires : goal.node-requires
node-requires g t' c =
    let below = c.content_at.ensures.below in
    let lawful =
    (rest-lawful (form_of c.args.form.now) (form_of c.content_at.result.now) c.loop-i.i
    c.content_at.ensures.item c.loop-i.invariant.lawful).0 in
    search (rules, the_lemmas)

pub returns-in_err-content-clause-answer : goal.returns-in_err-content-clause-answer
returns-in_err-content-clause-answer g t' c =
    let e = c.in_err-content.field-0.0 in
    let f = form_of c.args.form.now in
    let t = given c.args.walk.now.reader.now.big c.args.store.now.held in
    let n = c.args.n in
    let counted =
    own-count f c.args.next.now n t c.in_ok-own.own c.in_ok-own.lengths.items
    c.in_ok-own.ensures.answer in
    let within : c.loop-i.i < count (contents_of f) =
    omega (arith, counted, c.loop-i-test.true, c.len-i-end.ensures) in
    let size =
    own-length f c.args.next.now n t c.in_ok-own.own c.in_ok-own.lengths.items c.loop-i.i
    c.index.result.now c.in_ok-own.ensures.answer within c.index.ensures in
    Gives-fails (λ x. x) c.from_residual-in_err-content.result e (node_said f c.args.next.now n t)
    c.from_residual-in_err-content.ensures.1
    (subst (Told (told e)) (sym c.loop-i.invariant.said)
    (left-told (told e) f (form_of c.content_at.result.now) n c.loop-i.i c.loop-i.next
    c.index.result.now c.loop-i.contents.items t (given c.args.walk.now.reader.now.big
    c.loop-i.store.held) c.content_at.ensures.item
    size (ap (given c.args.walk.now.reader.now.big) c.loop-i.invariant.held)
    c.in_err-content.ensures.answer))

pub returns-in_err-content-clause-cost : goal.returns-in_err-content-clause-cost
returns-in_err-content-clause-cost g t' c =
    let f = form_of c.args.form.now in
    let t = given c.args.walk.now.reader.now.big c.args.store.now.held in
    let later =
    steps-next f (form_of c.content_at.result.now) c.loop-i.i t
    (given c.args.walk.now.reader.now.big c.loop-i.store.held) _ _ _
    c.content_at.ensures.item (ap (given c.args.walk.now.reader.now.big) c.loop-i.invariant.held)
    c.loop-i.invariant.cost
    c.in_err-content.ensures.cost in
    steps-within _ _ _ later

pub returns-in_err-push-clause-cost : goal.returns-in_err-push-clause-cost
returns-in_err-push-clause-cost g t' c =
    let f = form_of c.args.form.now in
    let t = given c.args.walk.now.reader.now.big c.args.store.now.held in
    let later =
    steps-next f (form_of c.content_at.result.now) c.loop-i.i t
    (given c.args.walk.now.reader.now.big c.loop-i.store.held) _ _ _
    c.content_at.ensures.item (ap (given c.args.walk.now.reader.now.big) c.loop-i.invariant.held)
    c.loop-i.invariant.cost
    c.in_ok-content.ensures.cost in
    steps-within _ _ _ later

pub loop-i-preserved : goal.loop-i-preserved
loop-i-preserved g t' c =
    let f = form_of c.args.form.now in
    let t = given c.args.walk.now.reader.now.big c.args.store.now.held in
    let n = c.args.n in
    let counted =
    own-count f c.args.next.now n t c.in_ok-own.own c.in_ok-own.lengths.items
    c.in_ok-own.ensures.answer in
    let within : c.loop-i.i < count (contents_of f) =
    omega (arith, counted, c.loop-i-test.true, c.len-i-end.ensures) in
    let size =
    own-length f c.args.next.now n t c.in_ok-own.own c.in_ok-own.lengths.items c.loop-i.i
    c.index.result.now c.in_ok-own.ensures.answer within c.index.ensures in
    let i = c.loop-i.i in
    let at = c.content_at.ensures.item in
    let x = form_of c.content_at.result.now in
    let pushed : c.push.new.self.items ≡ c.loop-i.contents.items ++ c.in_ok-content.content ∷ [] =
    first_of (cc, grind (arith, c.in_ok-push.ensures.items)) in
    record {
      lawful = (rest-lawful f x i at c.loop-i.invariant.lawful).1;
      own = c.loop-i.invariant.own;
      said =
          c.loop-i.invariant.said
          ∙ left-next f x n i c.loop-i.next c.node.new.next c.index.result.now
          c.loop-i.contents.items c.push.new.self.items c.in_ok-content.content t
          (given c.args.walk.now.reader.now.big c.loop-i.store.held) at size
          (ap (given c.args.walk.now.reader.now.big) c.loop-i.invariant.held)
          c.in_ok-content.ensures.answer
          c.in_ok-content.ensures.next pushed;
      next =
          omega (
            arith,
            rest-nodes f x i at,
            c.in_ok-content.ensures.next,
            c.loop-i.invariant.next,
          );
      held = c.in_ok-content.ensures.held ∙ c.loop-i.invariant.held;
      cost =
          steps-next f x i t (given c.args.walk.now.reader.now.big c.loop-i.store.held) _ _ _ at
          (ap (given c.args.walk.now.reader.now.big) c.loop-i.invariant.held)
          c.loop-i.invariant.cost c.in_ok-content.ensures.cost;
    }

pub over-requires : goal.over-requires
over-requires g t' c =
    let f = form_of c.args.form.now in
    let t = given c.args.walk.now.reader.now.big c.args.store.now.held in
    let n = c.args.n in
    let counted =
    own-count f c.args.next.now n t c.in_ok-own.own c.in_ok-own.lengths.items
    c.in_ok-own.ensures.answer in
    let past : count (contents_of f) ≤ c.loop-i.i =
    omega (arith, counted, c.loop-i-test.false, c.len-i-end.ensures) in
    let said =
    c.loop-i.invariant.said
    ∙ left-none f n c.loop-i.i c.loop-i.next c.loop-i.contents.items t past in
    record {
      valid =
          subst (λ q. IsValid (over n q c.loop-i.contents.items)) c.loop-i.invariant.own
          (said-valid f c.args.next.now n t
          (over n (own_of f n (container_in t)) c.loop-i.contents.items) c.requires.lawful said);
    }

pub returns-clause-answer : goal.returns-clause-answer
returns-clause-answer g t' c =
    let f = form_of c.args.form.now in
    let t = given c.args.walk.now.reader.now.big c.args.store.now.held in
    let n = c.args.n in
    let counted =
    own-count f c.args.next.now n t c.in_ok-own.own c.in_ok-own.lengths.items
    c.in_ok-own.ensures.answer in
    let past : count (contents_of f) ≤ c.loop-i.i =
    omega (arith, counted, c.loop-i-test.false, c.len-i-end.ensures) in
    c.loop-i.invariant.said
    ∙ left-none f n c.loop-i.i c.loop-i.next c.loop-i.contents.items t past
    ∙ ap (λ q. Ok (over n q c.loop-i.contents.items)) c.loop-i.invariant.own
    ∙ ap Ok (sym c.in_ok-over.ensures.node)

pub returns-clause-next : goal.returns-clause-next
returns-clause-next g t' c =
    let f = form_of c.args.form.now in
    let t = given c.args.walk.now.reader.now.big c.args.store.now.held in
    let n = c.args.n in
    let counted =
    own-count f c.args.next.now n t c.in_ok-own.own c.in_ok-own.lengths.items
    c.in_ok-own.ensures.answer in
    let past : count (contents_of f) ≤ c.loop-i.i =
    omega (arith, counted, c.loop-i-test.false, c.len-i-end.ensures) in
    omega (arith, ap nodes_of (rest-none f c.loop-i.i past), c.loop-i.invariant.next)
