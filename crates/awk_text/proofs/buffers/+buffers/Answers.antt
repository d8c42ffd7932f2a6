use Rattle.std.proofs.Common.{◌≡◌, ◌+◌, ◌++◌, [], None, OnOk, length, drop, refl, sym, ap, ap₂}
use Rattle.std.proofs.Common.{subst, ◌∙◌, arith, rules, append-nil, append_assoc}
use Rattle.std.proofs.lemmas.List.{length-append, drop_all}
use Rattle.awk_base.proofs.Lists.{drop-get}
use Rattle.awk_edge.proofs.Known.{Appends-none}
use Rattle.awk_json.proofs.Joins.{stops_at, goes_to, puts_same}
use Rattle.awk_json.proofs.Puts.{goes}
use Rattle.awk_form.specs.FormTree.{contents_of, forms_from}
use Rattle.awk_form.specs.View.{form_of, forms_of}
use Rattle.awk_form.specs.declared.form.Shape.{the_lemmas}
use Rattle.awk_form.specs.declared.form.Shape.TheViews.{out-Form}
use Rattle.awk_form.proofs.Views.{form_of-shape}
use Rattle.awk_text.specs.Buffers.{own_keys, buffer_keys, keys_of, texts_from}
use Rattle.awk_text.proofs.BufferKeys.{keys-contents, content-keys, contents-keys}
use Rattle.awk_text.proofs.BufferTexts.{texts_from-append, texts_from-between, texts_from-more}
use Rattle.awk_text.proofs.buffers.+buffers.Goals as goal

-- ---- a form

pub write_buffers-returns-in_err-write_own-clause-bytes :
    goal.write_buffers-returns-in_err-write_own-clause-bytes
write_buffers-returns-in_err-write_own-clause-bytes g t c =
    let f = form_of c.args.form.now in
    let n = c.args.next.now in
    let cs = c.args.lanes.now in
    let whole = ap (λ ks. texts_from n ks cs) (keys-contents f) ∙ texts_from-append n (own_keys f)
    (keys_of (contents_of f)) cs in
    puts_same _ whole
    (stops_at _ (texts_from n (own_keys f) cs) _ c.in_err-write_own.ensures.bytes (grind arith))

pub write_buffers-returns-clause-bytes : goal.write_buffers-returns-clause-bytes
write_buffers-returns-clause-bytes g t c =
    let f = form_of c.args.form.now in
    let n = c.args.next.now in
    let cs = c.args.lanes.now in
    let key = (out-Form c.args.form.now).key in
    let whole = ap (λ ks. texts_from n ks cs) (keys-contents f) ∙ texts_from-append n (own_keys f)
    (keys_of (contents_of f)) cs in
    let shaped = form_of-shape c.args.form.now (out-Form c.args.form.now).shape refl in
    let below = ap₂ (λ m g. texts_from m (keys_of (contents_of g)) cs)
    (sym c.in_ok-write_own.ensures.next) shaped in
    puts_same _ whole
    (goes_to _ (texts_from n (own_keys f) cs) _ c.in_ok-write_own.ensures.bytes
    (puts_same _ below (c.write_below.ensures.bytes key)))

pub write_buffers-returns-clause-next : goal.write_buffers-returns-clause-next
write_buffers-returns-clause-next g t c =
    let f = form_of c.args.form.now in
    let key = (out-Form c.args.form.now).key in
    let shaped = form_of-shape c.args.form.now (out-Form c.args.form.now).shape refl in
    let below = ap (λ g. length (keys_of (contents_of g))) shaped in
    let all = ap length (keys-contents f) ∙ length-append (own_keys f) (keys_of (contents_of f)) in
    subst (λ n. OnOk c.write_below.result (c.write_below.new.next ≡ n))
    (omega (arith, below, all, c.in_ok-write_own.ensures.next)) (c.write_below.ensures.next key)

-- ---- its contents

pub write_below-write_all-requires : goal.write_below-write_all-requires
write_below-write_all-requires g t c κs within =
    let key = None in
    let keys = contents-keys c.args.shape.now c.in-Row.contents key c.in-Row.is in (
      search (rules, the_lemmas),
      (
        within.0,
        (within.1, (c.requires.open, omega (arith, ap length keys, c.requires.enough key))),
      ),
    )

pub write_below-write_buffers-requires : goal.write_below-write_buffers-requires
write_below-write_buffers-requires g t c κs within =
    let key = None in
    let keys = content-keys c.args.shape.now c.in-Regular.content key c.in-Regular.is
    ∙ ap (λ f. buffer_keys (form_of f)) (sym c.deref.ensures) in (
      search (rules, the_lemmas),
      (
        within.0,
        (within.1, (c.requires.open, omega (arith, ap length keys, c.requires.enough key))),
      ),
    )

pub write_below-returns-in-Row-clause-bytes : goal.write_below-returns-in-Row-clause-bytes
write_below-returns-in-Row-clause-bytes g t c =
    λ key. puts_same _
    (ap (λ ks. texts_from c.args.next.now ks c.args.lanes.now)
    (contents-keys c.args.shape.now c.in-Row.contents key c.in-Row.is))
    c.write_all.ensures.bytes

pub write_below-returns-in-Row-clause-next : goal.write_below-returns-in-Row-clause-next
write_below-returns-in-Row-clause-next g t c =
    λ key.
    let keys = contents-keys c.args.shape.now c.in-Row.contents key c.in-Row.is in
    subst (λ ks. OnOk c.write_all.result (c.write_all.new.next ≡ c.args.next.now + length ks))
    (sym keys) c.write_all.ensures.next

pub write_below-returns-in-Regular-clause-bytes : goal.write_below-returns-in-Regular-clause-bytes
write_below-returns-in-Regular-clause-bytes g t c =
    λ key.
    let keys = content-keys c.args.shape.now c.in-Regular.content key c.in-Regular.is
    ∙ ap (λ f. buffer_keys (form_of f)) (sym c.deref.ensures) in
    puts_same _ (ap (λ ks. texts_from c.args.next.now ks c.args.lanes.now) keys)
    c.write_buffers.ensures.bytes

pub write_below-returns-in-Regular-clause-next : goal.write_below-returns-in-Regular-clause-next
write_below-returns-in-Regular-clause-next g t c =
    λ key.
    let keys = content-keys c.args.shape.now c.in-Regular.content key c.in-Regular.is
    ∙ ap (λ f. buffer_keys (form_of f)) (sym c.deref.ensures) in
    subst (λ ks. OnOk c.write_buffers.result
    (c.write_buffers.new.next ≡ c.args.next.now + length ks)) (sym keys)
    c.write_buffers.ensures.next

-- ---- forms

pub write_all-loop-i-init : goal.write_all-loop-i-init
write_all-loop-i-init g t c = record {
  done = [];
  put =
      record {
        gone = [];
        rest = c.args.out.now.held;
        appends =
            Appends-none (g.K.Sink.written c.args.sink.now);
        all = append-nil c.args.out.now.held;
        held =
            refl;
        is_open = c.requires.open;
      };
  left = refl;
  next = omega arith;
  flushes = refl;
  later = omega arith;
  cost = omega arith;
}

pub write_all-write_buffers-requires : goal.write_all-write_buffers-requires
write_all-write_buffers-requires g t c κs within =
    let v = c.loop-i.invariant in
    let fs = forms_of c.args.forms.now in
    let i = c.loop-i.i in
    let ks = buffer_keys (form_of c.get.result.now) in
    let rest = keys_of (forms_from (drop (i + 1) fs)) in
    let left = v.left ∙ ap (λ gs. v.done ++ keys_of (forms_from gs))
    (drop-get fs i _ c.get.ensures.item) in
    let all = ap length left ∙ length-append v.done (ks ++ rest) in (
      omega (arith, c.get.ensures.below, c.decreases),
      (
        within.0,
        (
          within.1,
          (search rules, omega (arith, all, length-append ks rest, v.next, c.requires.enough)),
        ),
      ),
    )

pub write_all-returns-in_err-write_buffers-clause-bytes :
    goal.write_all-returns-in_err-write_buffers-clause-bytes
write_all-returns-in_err-write_buffers-clause-bytes g t c =
    let v = c.loop-i.invariant in
    let fs = forms_of c.args.forms.now in
    let i = c.loop-i.i in
    let n = c.args.next.now in
    let m = c.loop-i.next in
    let cs = c.args.lanes.now in
    let ks = buffer_keys (form_of c.get.result.now) in
    let rest = keys_of (forms_from (drop (i + 1) fs)) in
    let left = v.left ∙ ap (λ gs. v.done ++ keys_of (forms_from gs))
    (drop-get fs i _ c.get.ensures.item) in
    let whole =
    ap (λ ls. texts_from n ls cs) left ∙ texts_from-between n m v.done ks rest cs v.next in
    puts_same _ whole
    (goes_to _ (texts_from n v.done cs) _ v.put
    (stops_at _ (texts_from m ks cs) _ c.in_err-write_buffers.ensures.bytes (grind arith)))

pub write_all-loop-i-preserved : goal.write_all-loop-i-preserved
write_all-loop-i-preserved g t c =
    let v = c.loop-i.invariant in
    let fs = forms_of c.args.forms.now in
    let i = c.loop-i.i in
    let n = c.args.next.now in
    let m = c.loop-i.next in
    let cs = c.args.lanes.now in
    let ks = buffer_keys (form_of c.get.result.now) in
    let rest = keys_of (forms_from (drop (i + 1) fs)) in
    record {
      done = v.done ++ ks;
      put = goes v.put c.in_ok-write_buffers.ensures.bytes (texts_from m ks cs) refl
          (texts_from-more n m v.done ks cs c.args.out.now.held v.next);
      left = v.left ∙ ap (λ gs. v.done ++ keys_of (forms_from gs))
          (drop-get fs i _ c.get.ensures.item) ∙ sym (append_assoc v.done ks rest);
      next = omega (arith, v.next, c.in_ok-write_buffers.ensures.next, length-append v.done ks);
      flushes = c.write_buffers.ensures.flushes ∙ v.flushes;
      later = omega (arith, v.later, c.write_buffers.ensures.cause.later);
      cost = omega (arith, v.cost, c.write_buffers.ensures.cost);
    }

pub write_all-returns-clause-bytes : goal.write_all-returns-clause-bytes
write_all-returns-clause-bytes g t c =
    let v = c.loop-i.invariant in
    let fs = forms_of c.args.forms.now in
    let left = v.left ∙ ap (λ gs. v.done ++ keys_of (forms_from gs))
    (drop_all c.loop-i.i fs (omega arith)) ∙ append-nil v.done in
    puts_same _ (ap (λ ks. texts_from c.args.next.now ks c.args.lanes.now) left) v.put

pub write_all-returns-clause-next : goal.write_all-returns-clause-next
write_all-returns-clause-next g t c =
    let v = c.loop-i.invariant in
    let fs = forms_of c.args.forms.now in
    let left = v.left ∙ ap (λ gs. v.done ++ keys_of (forms_from gs))
    (drop_all c.loop-i.i fs (omega arith)) ∙ append-nil v.done in
    omega (arith, ap length left, v.next)
