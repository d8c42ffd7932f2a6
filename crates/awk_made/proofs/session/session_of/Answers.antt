use Rattle.std.proofs.Common.{◌≡◌, ◌++◌, ◌∷◌, List, ℕ, ap, sym, ◌∙◌, refl, append_assoc, codes}
use Rattle.base64.specs.Engines.{standard}
use Rattle.base64.specs.GeneralPurpose.{encode_of}
use Rattle.awk_edge.specs.Lines.{unlines}
use Rattle.awk_made.specs.Draws.{events}
use Rattle.awk_made.specs.Session.{session_of, later_lines, offsets_bytes, pts_bytes, charges_bytes}
use Rattle.awk_made.proofs.session.session_of.Goals as goal

-- a text that is longer by a part
longer : {t0 t1 w p q : List ℕ} → t0 ≡ w → t1 ≡ t0 ++ p → p ≡ q → t1 ≡ w ++ q
longer {w = w} {p = p} e0 e1 e2 = e1 ∙ ap (λ z. z ++ p) e0 ∙ ap (λ z. w ++ z) e2

-- and by the end of the load line and the lines behind it
ended : {t0 t1 w p : List ℕ} → t0 ≡ w → t1 ≡ t0 ++ p → p ≡ codes "\"}}" ++ 10 ∷ unlines later_lines
    → t1 ≡ (w ++ codes "\"}}") ++ 10 ∷ unlines later_lines
ended {w = w} {p = p} e0 e1 e2 = longer e0 e1 e2 ∙ sym
    (append_assoc w (codes "\"}}") (10 ∷ unlines later_lines))

pub returns : goal.returns
unfolding session_of
returns c =
    let es = events c.args.events c.args.seed in
    let made = c.in_ok-made.ensures in
    let same : events c.from-2.result c.from.result ≡ es = ap (λ n. events n c.from.result)
    c.from-2.ensures ∙ ap (events c.args.events) c.from.ensures in
    let t1 = longer c.new-text.ensures.bytes c.in_ok-push_str.ensures.bytes refl in
    let t2 = longer t1 c.in_ok-push_str-2.ensures.bytes c.format.ensures.text in
    let t3 = longer t2 c.in_ok-push_str-3.ensures.bytes refl in
    let t4 = longer t3 c.in_ok-encode_string.ensures.ok
    (ap (encode_of standard) (c.deref.ensures.value ∙ made.offsets ∙ ap offsets_bytes same)) in
    let t5 = longer t4 c.in_ok-push_str-4.ensures.bytes refl in
    let t6 = longer t5 c.in_ok-encode_string-2.ensures.ok
    (ap (encode_of standard) (c.deref-2.ensures.value ∙ made.pts ∙ ap pts_bytes same)) in
    let t7 = longer t6 c.in_ok-push_str-5.ensures.bytes refl in
    let t8 = longer t7 c.in_ok-encode_string-3.ensures.ok
    (ap (encode_of standard) (c.deref-3.ensures.value ∙ made.charges ∙ ap charges_bytes
    same)) in
    ap (λ v. v.items) c.into_bytes.ensures.value ∙ ended t8 c.in_ok-push_str-6.ensures.bytes refl
