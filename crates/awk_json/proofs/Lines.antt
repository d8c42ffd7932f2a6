-- No piece of a JSON text holds a byte that ends a line.
use Rattle.std.proofs.Common.{◌≡◌, ◌≢◌, ℕ, zero, suc, ℤ, pos, negsuc, ◌/◌, ◌%◌, ◌==◌, ◌&&◌, Bool}
use Rattle.std.proofs.Common.{true, false, cond, not, List, [], ◌∷◌, ◌++◌, codes, arith, refl}
use Rattle.std.proofs.Common.{true≢false, decimal, sym, ap, ◌∙◌}
use Rattle.std.proofs.lemmas.Bool.{eqb-false}
use Rattle.std.proofs.lemmas.Bool.Decides.{nat_tests}
use Rattle.std.specs.Fmt.{digits, digits_onto, digit_glyph, signed_decimal}
use Rattle.std.specs.List.{AllByRecursion, list_all}
use Rattle.awk_edge.specs.Lines.{Unbroken}
use Rattle.awk_edge.proofs.LineLaws.{Unbroken-append, Unbroken-cond}
use Rattle.awk_json.specs.Text.{hex_digit, is_special, escape, escaped, escaped_all, quoted, joined}
use Rattle.awk_json.specs.Text.{comma_joined, list_text, truth_text}

first_passes : (x : ℕ) (t u : Bool) → (x == 10) ≡ t → (not t && u) ≡ true → (x ≢ 10) × (u ≡ true)
first_passes x true u e h = absurd (true≢false (sym h))
first_passes x false u e h = (eqb-false x 10 e, h)

-- a text that is written out: the test computes
pub literal-unbroken : (xs : List ℕ) → list_all (λ b. not (b == 10)) xs ≡ true → Unbroken xs
literal-unbroken [] h = tt
literal-unbroken (x ∷ xs) h =
    let first = first_passes x (x == 10) (list_all (λ b. not (b == 10)) xs) refl h in
    (first.0, literal-unbroken xs first.1)

hex_digit-unbroken : (d : ℕ) → hex_digit d ≢ 10
hex_digit-unbroken d = grind (arith, nat_tests)

-- the text of a byte without a short escape
code-unbroken : (b : ℕ) → Unbroken (codes "\\u00" ++ hex_digit (b / 16) ∷ hex_digit (b % 16) ∷ [])
code-unbroken b =
    Unbroken-append (codes "\\u00") (hex_digit (b / 16) ∷ hex_digit (b % 16) ∷ [])
    (literal-unbroken (codes "\\u00") refl) (
      hex_digit-unbroken (b / 16),
      (hex_digit-unbroken (b % 16), tt),
    )

escape-unbroken : (b : ℕ) → Unbroken (escape b)
escape-unbroken b =
    Unbroken-cond (b == 34) (codes "\\\"") _ (literal-unbroken (codes "\\\"") refl)
    (Unbroken-cond (b == 92) (codes "\\\\") _ (literal-unbroken (codes "\\\\") refl)
    (Unbroken-cond (b == 8) (codes "\\b") _ (literal-unbroken (codes "\\b") refl)
    (Unbroken-cond (b == 9) (codes "\\t") _ (literal-unbroken (codes "\\t") refl)
    (Unbroken-cond (b == 10) (codes "\\n") _ (literal-unbroken (codes "\\n") refl)
    (Unbroken-cond (b == 12) (codes "\\f") _ (literal-unbroken (codes "\\f") refl)
    (Unbroken-cond (b == 13) (codes "\\r") _ (literal-unbroken (codes "\\r") refl)
    (code-unbroken b)))))))

escaped-unbroken : (b : ℕ) (t : Bool) → is_special b ≡ t → Unbroken (cond t (escape b) (b ∷ []))
escaped-unbroken b true special = escape-unbroken b
escaped-unbroken b false plain = ((λ e. absurd (true≢false (ap is_special (sym e) ∙ plain))), tt)

escaped_all-unbroken : (bytes : List ℕ) → Unbroken (escaped_all bytes)
escaped_all-unbroken [] = tt
escaped_all-unbroken (b ∷ bytes) =
    Unbroken-append (escaped b) (escaped_all bytes) (escaped-unbroken b (is_special b) refl)
    (escaped_all-unbroken bytes)

pub quoted-unbroken : (bytes : List ℕ) → Unbroken (quoted bytes)
quoted-unbroken bytes =
    let quote = literal-unbroken (codes "\"") refl in
    Unbroken-append (codes "\"" ++ escaped_all bytes) (codes "\"")
    (Unbroken-append (codes "\"") (escaped_all bytes) quote (escaped_all-unbroken bytes)) quote

pub joined-unbroken : (separator : List ℕ) (pieces : List (List ℕ)) → Unbroken separator
    → AllByRecursion Unbroken pieces → Unbroken (joined separator pieces)
joined-unbroken separator [] u h = tt
joined-unbroken separator (first ∷ []) u h = h.0
joined-unbroken separator (first ∷ second ∷ others) u h =
    Unbroken-append (first ++ separator) (joined separator (second ∷ others))
    (Unbroken-append first separator h.0 u) (joined-unbroken separator (second ∷ others) u h.1)

pub comma_joined-unbroken : (pieces : List (List ℕ)) → AllByRecursion Unbroken pieces
    → Unbroken (comma_joined pieces)
comma_joined-unbroken pieces h =
    joined-unbroken (codes ",") pieces (literal-unbroken (codes ",") refl) h

pub list_text-unbroken : (texts : List (List ℕ)) → AllByRecursion Unbroken texts
    → Unbroken (list_text texts)
list_text-unbroken texts h =
    Unbroken-append (codes "[") (comma_joined texts ++ codes "]")
    (literal-unbroken (codes "[") refl) (Unbroken-append (comma_joined texts) (codes "]")
    (comma_joined-unbroken texts h) (literal-unbroken (codes "]") refl))

pub truth_text-unbroken : (b : Bool) → Unbroken (truth_text b)
truth_text-unbroken true = literal-unbroken (codes "true") refl
truth_text-unbroken false = literal-unbroken (codes "false") refl

-- ---- numbers

glyph-unbroken : (d : ℕ) → digit_glyph false d ≢ 10
glyph-unbroken d = grind (arith, nat_tests)

digits_onto-unbroken : (k n : ℕ) (behind : List ℕ) → Unbroken behind
    → Unbroken (digits_onto k 10 false n behind)
digits_onto-unbroken zero n behind u = u
digits_onto-unbroken (suc k) n behind u =
    let more : Unbroken (digit_glyph false (n % 10) ∷ behind) = (glyph-unbroken (n % 10), u) in
    Unbroken-cond (n / 10 == 0) (digit_glyph false (n % 10) ∷ behind) _ more
    (digits_onto-unbroken k (n / 10) (digit_glyph false (n % 10) ∷ behind) more)

pub decimal-unbroken : (n : ℕ) → Unbroken (decimal n)
unfolding digits
decimal-unbroken n = digits_onto-unbroken 64 n [] tt

pub signed_decimal-unbroken : (z : ℤ) → Unbroken (signed_decimal z)
signed_decimal-unbroken (pos n) = decimal-unbroken n
signed_decimal-unbroken (negsuc n) = ((λ e. absurd (cc)), decimal-unbroken (suc n))
