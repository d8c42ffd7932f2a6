-- The texts of buffers, one after another.
use Rattle.std.proofs.Common.{◌≡◌, ℕ, suc, ◌+◌, false, cond, List, [], ◌∷◌, ◌++◌, length, map, drop}
use Rattle.std.proofs.Common.{refl, ap, sym, ◌∙◌, arith, add-one, append_assoc, append-nil, codes}
use Rattle.std.specs.Prelude.{◌==◌}
use Rattle.std.proofs.lemmas.List.{drop_more}
use Rattle.awk_types.specs.DataType.{Name}
use Rattle.awk_lanes.specs.Column.{Column}
use Rattle.awk_json.specs.Text.{comma_joined}
use Rattle.awk_json.proofs.Joins.{joined_after, joined_after-nothing}
use Rattle.awk_text.specs.Buffers.{no_lane, keyed_bytes, lane_bytes, buffer_text, separator}
use Rattle.awk_text.specs.Buffers.{lane_at, texts_from}

regrouped : (s t a b : List ℕ) → s ++ (t ++ (a ++ b)) ≡ (s ++ (t ++ a)) ++ b
regrouped s t a b = simp append_assoc

-- what is put for one buffer
pub one_text : (held s t : List ℕ) → held ++ (s ++ (t ++ [])) ≡ (held ++ s) ++ t
one_text held s t = simp (append_assoc, append-nil)

pub texts_from-append : (n : ℕ) (ks ls : List Name) (cs : List Column)
    → texts_from n (ks ++ ls) cs ≡ texts_from n ks cs ++ texts_from (n + length ks) ls cs
texts_from-append n [] ls cs = let e : n + 0 ≡ n = omega arith in rw e refl
texts_from-append n (k ∷ ks) ls cs =
    let e : suc n + length ks ≡ n + suc (length ks) = omega arith in
    let text = buffer_text (k, lane_bytes (lane_at cs n)) in
    ap (λ z. separator n ++ (text ++ z))
    (texts_from-append (suc n) ks ls cs
    ∙ ap (λ m. texts_from (suc n) ks cs ++ texts_from m ls cs) e) ∙ regrouped (separator n) text
    (texts_from (suc n) ks cs) (texts_from (n + suc (length ks)) ls cs)

later-separator : (n : ℕ) → separator (suc n) ≡ codes ","
later-separator n = let no : (suc n == 0) ≡ false = grind arith in
    ap (λ b. cond b [] (codes ",")) no

lists_joined : (n : ℕ) (ks : List Name) (cs : List Column) → n + length ks ≡ length cs
    → texts_from n ks cs ≡ joined_after (separator n) (codes ",")
    (map buffer_text (keyed_bytes ks (drop n cs)))
lists_joined n [] cs e = refl
lists_joined n (k ∷ ks) cs e =
    let first : drop n cs ≡ lane_at cs n ∷ drop (suc n) cs =
    drop_more cs n no_lane (omega arith) ∙ ap (λ m. lane_at cs n ∷ drop m cs) (add-one n) in
    let others = lists_joined (suc n) ks cs (omega arith)
    ∙ ap (λ s. joined_after s (codes ",") (map buffer_text (keyed_bytes ks (drop (suc n) cs))))
    (later-separator n) in
    ap (λ z. separator n ++ (buffer_text (k, lane_bytes (lane_at cs n)) ++ z)) others
    ∙ ap
    (λ ds. joined_after (separator n) (codes ",") (map buffer_text (keyed_bytes (k ∷ ks) ds)))
    (sym first)

-- of as many keys as lanes
pub texts_from-all : (ks : List Name) (cs : List Column) → length ks ≡ length cs
    → texts_from 0 ks cs ≡ comma_joined (map buffer_text (keyed_bytes ks cs))
texts_from-all ks cs e = lists_joined 0 ks cs (omega arith)
    ∙ sym (joined_after-nothing (codes ",") (map buffer_text (keyed_bytes ks cs)))

-- the buffers of a part of the keys, between those done and those left
pub texts_from-between : (n m : ℕ) (done ks left : List Name) (cs : List Column)
    → m ≡ n + length done
    → texts_from n (done ++ (ks ++ left)) cs
    ≡ texts_from n done cs ++ (texts_from m ks cs ++ texts_from (m + length ks) left cs)
texts_from-between n m done ks left cs e =
    texts_from-append n done (ks ++ left) cs
    ∙ ap (λ k. texts_from n done cs ++ texts_from k (ks ++ left) cs) (sym e)
    ∙ ap (λ z. texts_from n done cs ++ z) (texts_from-append m ks left cs)

pub texts_from-more : (n m : ℕ) (done ks : List Name) (cs : List Column) (held : List ℕ)
    → m ≡ n + length done
    → held ++ texts_from n (done ++ ks) cs ≡ (held ++ texts_from n done cs) ++ texts_from m ks cs
texts_from-more n m done ks cs held e =
    ap (λ z. held ++ z)
    (texts_from-append n done ks cs ∙ ap (λ k. texts_from n done cs ++ texts_from k ks cs)
    (sym e))
    ∙ sym (append_assoc held (texts_from n done cs) (texts_from m ks cs))
