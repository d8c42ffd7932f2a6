-- JSON texts: escaped and in quotes.
use Rattle.std.specs.Prelude.{◌≡◌, ℕ, ◌+◌, ◌/◌, ◌%◌, ◌||◌, ◌==◌, nat_lt, Bool, true, false, List}
use Rattle.std.specs.Prelude.{[], ◌∷◌, ◌++◌, if◌then◌else◌, codes, refl}

-- a digit of a hexadecimal number, in lower case
abbrev pub hex_digit : ℕ → ℕ
hex_digit d = if nat_lt d 10 then 48 + d else 87 + d

-- whether a byte may not stand as it is: a quote, a backslash, or a byte below 32
abbrev pub is_special : ℕ → Bool
is_special b = b == 34 || b == 92 || nat_lt b 32

-- a byte that may not stand as it is, as an escape
abbrev pub escape : ℕ → List ℕ
escape b =
    if b == 34 then codes "\\\""
    else if b == 92 then codes "\\\\"
    else if b == 8 then codes "\\b"
    else if b == 9 then codes "\\t"
    else if b == 10 then codes "\\n"
    else if b == 12 then codes "\\f"
    else if b == 13 then codes "\\r"
    else codes "\\u00" ++ hex_digit (b / 16) ∷ hex_digit (b % 16) ∷ []

-- a byte of a text; all that is not special stands as it is
abbrev pub escaped : ℕ → List ℕ
escaped b = if is_special b then escape b else b ∷ []

abbrev pub escaped_all : List ℕ → List ℕ
escaped_all [] = []
escaped_all (b ∷ bytes) = escaped b ++ escaped_all bytes

-- a text in quotes
abbrev pub quoted : List ℕ → List ℕ
quoted bytes = codes "\"" ++ escaped_all bytes ++ codes "\""

-- pieces with a separator between each two
abbrev pub joined : List ℕ → List (List ℕ) → List ℕ
joined separator [] = []
joined separator (first ∷ []) = first
joined separator (first ∷ second ∷ others) =
    first ++ separator ++ joined separator (second ∷ others)

-- pieces with a comma between each two
abbrev pub comma_joined : List (List ℕ) → List ℕ
comma_joined pieces = joined (codes ",") pieces

-- texts in brackets, with a comma between each two
abbrev pub list_text : List (List ℕ) → List ℕ
list_text texts = codes "[" ++ (comma_joined texts ++ codes "]")

-- what stands before a piece: the separator, unless the piece is the first
abbrev pub separator_before : List ℕ → Bool → List ℕ
separator_before separator is_first = if is_first then [] else separator

-- what stands before a text of a list
abbrev pub comma_before : Bool → List ℕ
comma_before is_first = separator_before (codes ",") is_first

abbrev pub truth_text : Bool → List ℕ
truth_text true = codes "true"
truth_text false = codes "false"

-- ---- worked examples

plain_text : quoted (codes "pt_1") ≡ codes "\"pt_1\""
plain_text = refl

quotes_and_backslashes : quoted (codes "a\"b\\c") ≡ codes "\"a\\\"b\\\\c\""
quotes_and_backslashes = refl

short_escapes : quoted (8 ∷ 9 ∷ 10 ∷ 12 ∷ 13 ∷ []) ≡ codes "\"\\b\\t\\n\\f\\r\""
short_escapes = refl

-- 127 and the bytes of a character above it stand as they are
other_bytes : quoted (0 ∷ 11 ∷ 31 ∷ 127 ∷ 195 ∷ 169 ∷ [])
    ≡ codes "\"\\u0000\\u000b\\u001f" ++ 127 ∷ 195 ∷ 169 ∷ codes "\""
other_bytes = refl

three_pieces : comma_joined (codes "a" ∷ [] ∷ codes "b" ∷ []) ≡ codes "a,,b"
three_pieces = refl

wider_separator : joined (codes ", ") (codes "a" ∷ codes "b" ∷ codes "c" ∷ []) ≡ codes "a, b, c"
wider_separator = refl

list_of_two : list_text (codes "1" ∷ codes "null" ∷ []) ≡ codes "[1,null]"
list_of_two = refl

empty_list : list_text [] ≡ codes "[]"
empty_list = refl
