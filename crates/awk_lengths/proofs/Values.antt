-- The texts in a value that was read are together no longer than its text.
use Rattle.std.proofs.Common.{◌≡◌, ℕ, ◌+◌, ◌≤◌, List, [], ◌∷◌, length, Option, Some, None}
use Rattle.std.proofs.Common.{option_and_then, Ordering, Less, Equal, Greater, refl, subst, arith}
use Rattle.std.specs.Ordering.{match_ordering}
use Rattle.json.specs.Token.{Token}
use Rattle.json.specs.Lex.{tokens}
use Rattle.json.specs.Json as json
use Rattle.serde_json.specs.Data.{Data, number, array, object, item, Members, no_members, member}
use Rattle.serde_json.specs.Data.{put}
use Rattle.serde_json.specs.Find.{get_member}
use Rattle.serde_json.specs.Read.{number_of, of_json, of_items, of_members, max_depth, read}
use Rattle.awk_lengths.specs.TextBytes.{text_bytes, items_bytes, members_bytes}
use Rattle.awk_lengths.proofs.AtMost.{AtMost, AtMost-wider, AtMost-map, AtMost-and_then}
use Rattle.awk_lengths.proofs.AtMost.{AtMost-ordering}
use Rattle.awk_lengths.proofs.Lexemes.{tokens_len-tokens}
use Rattle.awk_lengths.proofs.Grammar as grammar
use Rattle.awk_lengths.proofs.Grammar.{json_bytes, value-bytes}

flat : {A : Type 0} (o : Option A) → AtMost (λ a. 0) 0 o
flat None = tt
flat (Some a) = omega arith

one_of : (o : Ordering) (a b c : Members) (n : ℕ) → members_bytes a ≤ n → members_bytes b ≤ n
    → members_bytes c ≤ n → members_bytes (match_ordering o a b c) ≤ n
one_of Less a b c n p q r = p
one_of Equal a b c n p q r = q
one_of Greater a b c n p q r = r

-- a value takes the place of that of its key
put-bytes : (k : List ℕ) (d : Data) (ms : Members)
    → members_bytes (put k d ms) ≤ text_bytes d + members_bytes ms
put-bytes k d no_members = omega arith
put-bytes k d (member l e ms) =
    one_of _ (member k d (member l e ms)) (member l d ms) (member l e (put k d ms)) _ (omega arith)
    (omega arith) (omega (arith, put-bytes k d ms))

mutual
  of_json-bytes : (j : json.Json) → AtMost text_bytes (json_bytes j) (of_json j)
  of_json-bytes json.null = omega arith
  of_json-bytes (json.boolean b) = omega arith
  of_json-bytes (json.number s) =
      AtMost-map (λ a. 0) text_bytes 0 0 number (λ a x. omega arith) (number_of s) (flat _)
  of_json-bytes (json.string s) = omega arith
  of_json-bytes (json.array js) =
      AtMost-map items_bytes text_bytes (grammar.items_bytes js) _ array (λ a x. x) _
      (of_items-bytes js)
  of_json-bytes (json.object ms) =
      AtMost-map members_bytes text_bytes (grammar.members_bytes ms + 0) _ object
      (λ a x. omega (arith, x)) _ (of_members-bytes ms no_members 0 (omega arith))

  of_items-bytes : (js : json.Items) → AtMost items_bytes (grammar.items_bytes js) (of_items js)
  of_items-bytes json.no_items = omega arith
  of_items-bytes (json.item j js) =
      AtMost-and_then text_bytes items_bytes (json_bytes j) _ _
      (λ d x. AtMost-map items_bytes items_bytes (grammar.items_bytes js) _ (item d)
      (λ ds y. omega (arith, x, y)) _ (of_items-bytes js)) _ (of_json-bytes j)

  of_members-bytes : (ms : json.Members) (found : Members) (n : ℕ) → members_bytes found ≤ n
      → AtMost members_bytes (grammar.members_bytes ms + n) (of_members ms found)
  of_members-bytes json.no_members found n h = omega (arith, h)
  of_members-bytes (json.member k j ms) found n h =
      AtMost-and_then text_bytes members_bytes (json_bytes j) _ _
      (λ d x. subst (λ z. AtMost members_bytes z (of_members ms (put k d found))) (omega arith)
      (of_members-bytes ms (put k d found) (json_bytes j + n)
      (omega (arith, put-bytes k d found, x, h)))) _ (of_json-bytes j)

last : (o : Option (json.Json × List Token)) (n : ℕ)
    → ((j : json.Json) (r : List Token) → o ≡ Some (j, r) → json_bytes j ≤ n)
    → AtMost json_bytes n (option_and_then (λ p. json.if_last p.0 p.1) o)
last None n h = tt
last (Some (j, [])) n h = h j [] refl
last (Some (j, t ∷ r)) n h = tt

json_within : (text : List ℕ)
    → AtMost json_bytes (length text) (option_and_then (λ p. json.if_last p.0 p.1)
    (json.value max_depth (tokens text)))
json_within text =
    let measured = tokens_len-tokens text in
    last (json.value max_depth (tokens text)) (length text)
    (λ j r f. omega (arith, value-bytes max_depth (tokens text) r j f, measured))

pub text_bytes-read : (text : List ℕ) (d : Data) → read text ≡ Some d → text_bytes d ≤ length text
text_bytes-read text d e =
    subst (AtMost text_bytes (length text)) e
    (AtMost-and_then json_bytes text_bytes (length text) (length text) of_json
    (λ j x. AtMost-wider text_bytes _ _ (of_json j) (of_json-bytes j) x) _
    (json_within text))

-- ---- the value under a key

pub get_member-bytes : (k : List ℕ) (ms : Members)
    → AtMost text_bytes (members_bytes ms) (get_member k ms)
get_member-bytes k no_members = tt
get_member-bytes k (member l e ms) =
    let more = AtMost-wider text_bytes (members_bytes ms) (members_bytes (member l e ms))
    (get_member k ms) (get_member-bytes k ms) (omega arith) in
    AtMost-ordering text_bytes _ _ (get_member k ms) (Some e) (get_member k ms) more (omega arith)
    more
