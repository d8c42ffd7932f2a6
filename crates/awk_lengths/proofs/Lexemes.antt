-- The strings of a text's lexemes and tokens are together no longer than the text.
use Rattle.std.proofs.Common.{◌≡◌, ◌≤◌, ℕ, ◌+◌, ◌-◌, Bool, true, false, cond, ◌&&◌, ◌==◌, nat_eq}
use Rattle.std.proofs.Common.{List, [], ◌∷◌, length, take, drop, Option, Some, None, refl, arith}
use Rattle.std.specs.List.{starts_with}
use Rattle.json.specs.Token.{Token}
use Rattle.json.specs.Ascii as ascii
use Rattle.json.specs.Text.{plain}
use Rattle.json.specs.Word.{word, literal, number_before, after_number, head, ends_word}
use Rattle.json.specs.Align.{span, span_byte}
use Rattle.json.specs.Lex.{Lexeme, token, comma, colon, Class, quote, backslash, operator, space}
use Rattle.json.specs.Lex.{other, class, operator_lexeme, string_token, Mode, between, in_word}
use Rattle.json.specs.Lex.{in_string, in_escape, lex_byte, lex, Place, fresh, after_value}
use Rattle.json.specs.Lex.{after_comma, after_key, begins_colon, if_allowed, place_token, punctuate}
use Rattle.json.specs.Lex.{tokens}
use Rattle.awk_lengths.proofs.Contents.{IsShort, content-span}

abbrev pub token_len : Token → ℕ
token_len Token.begin_object = 0
token_len Token.end_object = 0
token_len Token.begin_array = 0
token_len Token.end_array = 0
token_len (Token.key s) = 0
token_len (Token.string s) = length s
token_len (Token.number s) = 0
token_len (Token.boolean b) = 0
token_len Token.null = 0
token_len Token.bad = 0

abbrev pub tokens_len : List Token → ℕ
tokens_len [] = 0
tokens_len (t ∷ ts) = token_len t + tokens_len ts

abbrev lexeme_len : Lexeme → ℕ
lexeme_len (token t) = token_len t
lexeme_len comma = 0
lexeme_len colon = 0

abbrev lexemes_len : List Lexeme → ℕ
lexemes_len [] = 0
lexemes_len (l ∷ ls) = lexeme_len l + lexemes_len ls

-- ---- what is no string has no length

one_of_six : (a b c d e : Bool)
    → lexeme_len (cond a (token Token.begin_object)
    (cond b (token Token.end_object) (cond c (token Token.begin_array)
    (cond d (token Token.end_array) (cond e comma colon))))) ≡ 0
one_of_six true b c d e = refl
one_of_six false true c d e = refl
one_of_six false false true d e = refl
one_of_six false false false true e = refl
one_of_six false false false false true = refl
one_of_six false false false false false = refl

operator_len : (x : ℕ) → lexeme_len (operator_lexeme x) ≡ 0
operator_len x =
    one_of_six (x == ascii.open_brace) (x == ascii.close_brace) (x == ascii.open_bracket)
    (x == ascii.close_bracket) (x == ascii.comma)

either : (b : Bool) (x y : Token) → token_len x ≡ 0 → token_len y ≡ 0 → token_len (cond b x y) ≡ 0
either true x y p q = p
either false x y p q = q

number_len : (t : List ℕ) (o : Option (List ℕ)) → token_len (number_before t o) ≡ 0
number_len t None = refl
number_len t (Some rest) =
    either (ends_word rest) (Token.number (take (length t - length rest) t)) Token.bad refl refl

literal_len : (name t : List ℕ) (k : Token) → token_len k ≡ 0 → token_len (literal name k t) ≡ 0
literal_len name t k e =
    either (starts_with nat_eq t name && ends_word (drop (length name) t)) k Token.bad e refl

word_len : (t : List ℕ) → token_len (word t) ≡ 0
unfolding word
word_len t =
    let true_word = literal ascii.true_text (Token.boolean true) t in
    let false_word = literal ascii.false_text (Token.boolean false) t in
    let null_word = literal ascii.null_text Token.null t in
    let number_word = number_before t (after_number t) in
    either (head t == ascii.lower_t) true_word
    (cond (head t == ascii.lower_f) false_word
    (cond (head t == ascii.lower_n) null_word number_word))
    (literal_len ascii.true_text t (Token.boolean true) refl)
    (either (head t == ascii.lower_f) false_word
    (cond (head t == ascii.lower_n) null_word number_word)
    (literal_len ascii.false_text t (Token.boolean false) refl)
    (either (head t == ascii.lower_n) null_word number_word
    (literal_len ascii.null_text t Token.null refl) (number_len t (after_number t))))

string_len : (n : ℕ) (o : Option (List ℕ)) → IsShort n o → token_len (string_token o) ≤ n
string_len n None h = omega arith
string_len n (Some s) h = h

-- ---- lexemes

by_byte : (m : Mode) (c : Class) (x : ℕ) (xs : List ℕ)
    → ((n : Mode) → lexemes_len (lex n xs) + span n xs ≤ length xs)
    → lexemes_len (lex_byte m c x xs (λ n. lex n xs)) + span_byte m c (λ n. span n xs) ≤ length xs +
    1
by_byte between quote x xs h = omega (arith, h in_string, string_len _ _ (content-span plain xs))
by_byte between backslash x xs h = omega (arith, h in_word)
by_byte between operator x xs h = omega (arith, h between, operator_len x)
by_byte between space x xs h = omega (arith, h between)
by_byte between other x xs h = omega (arith, h in_word, word_len (x ∷ xs))
by_byte in_word quote x xs h = omega (arith, h in_word)
by_byte in_word backslash x xs h = omega (arith, h in_word)
by_byte in_word operator x xs h = omega (arith, h between, operator_len x)
by_byte in_word space x xs h = omega (arith, h between)
by_byte in_word other x xs h = omega (arith, h in_word)
by_byte in_string quote x xs h = omega (arith, h between)
by_byte in_string backslash x xs h = omega (arith, h in_escape)
by_byte in_string operator x xs h = omega (arith, h in_string)
by_byte in_string space x xs h = omega (arith, h in_string)
by_byte in_string other x xs h = omega (arith, h in_string)
by_byte in_escape c x xs h = omega (arith, h in_string)

lexemes-span : (xs : List ℕ) (m : Mode) → lexemes_len (lex m xs) + span m xs ≤ length xs
unfolding lex span
lexemes-span [] m = omega arith
lexemes-span (x ∷ xs) m = omega (arith, by_byte m (class x) x xs (lexemes-span xs))

-- ---- tokens

allowed : (b : Bool) (t : Token) (k : Place → List Token) (next : Place) (m n : ℕ)
    → token_len t ≤ m → tokens_len (k next) ≤ n → tokens_len (if_allowed b t k next) ≤ m + n
allowed true t k next m n p q = omega (arith, p, q)
allowed false t k next m n p q = omega arith

placed : (p : Place) (t : Token) (b : Bool) (k : Place → List Token) (n : ℕ)
    → ((q : Place) → tokens_len (k q) ≤ n) → tokens_len (place_token p t b k) ≤ token_len t + n
placed p Token.begin_object b k n h =
    allowed _ Token.begin_object k fresh 0 n (omega arith) (h fresh)
placed p Token.end_object b k n h =
    allowed _ Token.end_object k after_value 0 n (omega arith) (h after_value)
placed p Token.begin_array b k n h = allowed _ Token.begin_array k fresh 0 n (omega arith) (h fresh)
placed p Token.end_array b k n h =
    allowed _ Token.end_array k after_value 0 n (omega arith) (h after_value)
placed p (Token.key s) b k n h = omega arith
placed p (Token.string s) true k n h =
    allowed _ (Token.key s) k after_key (length s) n (omega arith) (h after_key)
placed p (Token.string s) false k n h =
    allowed _ (Token.string s) k after_value (length s) n (omega arith) (h after_value)
placed p (Token.number s) b k n h =
    allowed _ (Token.number s) k after_value 0 n (omega arith) (h after_value)
placed p (Token.boolean c) b k n h =
    allowed _ (Token.boolean c) k after_value 0 n (omega arith) (h after_value)
placed p Token.null b k n h = allowed _ Token.null k after_value 0 n (omega arith) (h after_value)
placed p Token.bad b k n h = omega arith

punctuated : (ls : List Lexeme) (p : Place) → tokens_len (punctuate p ls) ≤ lexemes_len ls
unfolding punctuate
punctuated [] fresh = omega arith
punctuated [] after_value = omega arith
punctuated [] after_comma = omega arith
punctuated [] after_key = omega arith
punctuated (token t ∷ ls) fresh =
    placed fresh t (begins_colon ls) (λ next. punctuate next ls) (lexemes_len ls) (punctuated ls)
punctuated (token t ∷ ls) after_value =
    placed after_value t (begins_colon ls) (λ next. punctuate next ls) (lexemes_len ls)
    (punctuated ls)
punctuated (token t ∷ ls) after_comma =
    placed after_comma t (begins_colon ls) (λ next. punctuate next ls) (lexemes_len ls)
    (punctuated ls)
punctuated (token t ∷ ls) after_key =
    placed after_key t (begins_colon ls) (λ next. punctuate next ls) (lexemes_len ls)
    (punctuated ls)
punctuated (comma ∷ ls) fresh = omega arith
punctuated (comma ∷ ls) after_value = omega (arith, punctuated ls after_comma)
punctuated (comma ∷ ls) after_comma = omega arith
punctuated (comma ∷ ls) after_key = omega arith
punctuated (colon ∷ ls) fresh = omega arith
punctuated (colon ∷ ls) after_value = omega arith
punctuated (colon ∷ ls) after_comma = omega arith
punctuated (colon ∷ ls) after_key = omega (arith, punctuated ls fresh)

pub tokens_len-tokens : (text : List ℕ) → tokens_len (tokens text) ≤ length text
tokens_len-tokens text =
    omega (arith, punctuated (lex between text) fresh, lexemes-span text between)
