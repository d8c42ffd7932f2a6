-- The escaped bytes of a text, part by part.
use Rattle.std.proofs.Common.{◌≡◌, ◌<◌, ◌≤◌, ℕ, ◌+◌, ◌-◌, true, false, List, [], ◌∷◌, ◌++◌, length}
use Rattle.std.proofs.Common.{get_or, drop, slice_range, refl, sym, ap, ◌∙◌, arith, append_assoc}
use Rattle.std.proofs.lemmas.List.{take_more, drop_more, get_or-drop, drop_all, length-drop}
use Rattle.std.proofs.lemmas.List.{append-nil}
use Rattle.awk_json.specs.Text.{is_special, escape, escaped, escaped_all}

escaped-plain : (b : ℕ) → is_special b ≡ false → escaped b ≡ b ∷ []
escaped-plain b plain = rw plain

escaped-special : (b : ℕ) → is_special b ≡ true → escaped b ≡ escape b
escaped-special b special = rw special

-- the part from `start` to `i`, with the next byte
grown : (bytes : List ℕ) (start i : ℕ) → start ≤ i → i < length bytes
    → slice_range bytes start (i + 1) ≡ slice_range bytes start i ++ get_or bytes i 0 ∷ []
grown bytes start i ordered within =
    let more : i + 1 - start ≡ i - start + 1 = omega arith in
    let at : start + (i - start) ≡ i = omega arith in
    let inside : i - start < length (drop start bytes) = simp length-drop (omega arith) in
    rw (
      more,
      take_more (drop start bytes) (i - start) 0 inside,
      get_or-drop start bytes (i - start)
          0,
      at,
    ) refl

-- a byte that stands as it is joins the part before it
pub plain_on : (bytes : List ℕ) (start i : ℕ) → start ≤ i → i < length bytes
    → is_special (get_or bytes i 0) ≡ false
    → slice_range bytes start (i + 1) ++ escaped_all (drop (i + 1) bytes) ≡ slice_range bytes start
    i ++ escaped_all (drop i bytes)
plain_on bytes start i ordered within plain =
    ap (λ z. z ++ escaped_all (drop (i + 1) bytes)) (grown bytes start i ordered within)
    ∙ append_assoc (slice_range bytes start i) (get_or bytes i 0 ∷ [])
    (escaped_all (drop (i + 1) bytes))
    ∙ ap (λ z. slice_range bytes start i ++ (z ++ escaped_all (drop (i + 1) bytes)))
    (sym (escaped-plain (get_or bytes i 0) plain))
    ∙ ap (λ z. slice_range bytes start i ++ escaped_all z) (sym (drop_more bytes i 0 within))

-- a special byte begins the rest
pub special_next : (bytes : List ℕ) (i : ℕ) → i < length bytes
    → is_special (get_or bytes i 0) ≡ true
    → escaped_all (drop i bytes) ≡ escape (get_or bytes i 0) ++ escaped_all (drop (i + 1) bytes)
special_next bytes i within special =
    ap escaped_all (drop_more bytes i 0 within) ∙ ap (λ z. z ++ escaped_all (drop (i + 1) bytes))
    (escaped-special (get_or bytes i 0) special)

-- at the end the part is all that is left
pub last_part : (bytes : List ℕ) (start i : ℕ) → i ≡ length bytes
    → slice_range bytes start i ++ escaped_all (drop i bytes) ≡ slice_range bytes start
    (length bytes)
last_part bytes start i ended =
    let none : drop i bytes ≡ [] = drop_all i bytes (omega arith) in
    ap (λ z. slice_range bytes start i ++ escaped_all z) none ∙ append-nil
    (slice_range bytes start i) ∙ ap (slice_range bytes start) ended

-- two texts, joined
pub escaped_all-append : (xs ys : List ℕ)
    → escaped_all (xs ++ ys) ≡ escaped_all xs ++ escaped_all ys
escaped_all-append [] ys = refl
escaped_all-append (x ∷ xs) ys =
    ap (λ z. escaped x ++ z) (escaped_all-append xs ys)
    ∙ sym (append_assoc (escaped x) (escaped_all xs) (escaped_all ys))
