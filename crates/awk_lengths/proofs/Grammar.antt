-- The texts in what is read are together no longer than those of the tokens that were taken.
use Rattle.std.proofs.Common.{◌≡◌, ℕ, zero, suc, ◌+◌, ◌≤◌, List, [], ◌∷◌, length, Option, Some}
use Rattle.std.proofs.Common.{None, option_and_then, refl, subst, arith}
use Rattle.json.specs.Token.{Token}
use Rattle.json.specs.Json.{Json, null, boolean, number, string, array, object, Items, no_items}
use Rattle.json.specs.Json.{item, Members, no_members, member, Parse, parse_map, after_end_array}
use Rattle.json.specs.Json.{read_key, items_step, members_step, items, members, value_with, value}
use Rattle.awk_lengths.proofs.AtMost.{AtMost, AtMost-wider}
use Rattle.awk_lengths.proofs.Lexemes.{tokens_len}

abbrev mutual
  pub json_bytes : Json → ℕ
  json_bytes null = 0
  json_bytes (boolean b) = 0
  json_bytes (number s) = 0
  json_bytes (string s) = length s
  json_bytes (array js) = items_bytes js
  json_bytes (object ms) = members_bytes ms

  pub items_bytes : Items → ℕ
  items_bytes no_items = 0
  items_bytes (item j js) = json_bytes j + items_bytes js

  pub members_bytes : Members → ℕ
  members_bytes no_members = 0
  members_bytes (member k j ms) = json_bytes j + members_bytes ms

-- what was read and what is left are no longer than n
abbrev Leaves : {A : Type 0} → (A → ℕ) → ℕ → Option (A × List Token) → Type 0
Leaves f n o = AtMost (λ p. f p.0 + tokens_len p.1) n o

abbrev Within : {A : Type 0} → (A → ℕ) → Parse A → Type 0
Within f p = (ts : List Token) → Leaves f (tokens_len ts) (p ts)

mapped : {A B : Type 0} (f : A → ℕ) (g : B → ℕ) (n m : ℕ) (h : A → B) → ((a : A) → g (h a) ≡ f a)
    → n ≤ m → (o : Option (A × List Token)) → Leaves f n o → Leaves g m (parse_map h o)
mapped f g n m h k le None x = tt
mapped f g n m h k le (Some p) x = omega (arith, k p.0, x, le)

-- after a value of some length, more
joined : {B : Type 0} (g : B → ℕ) (n : ℕ) (j : Json) (h : B → B)
    → ((b : B) → g (h b) ≡ json_bytes j + g b) → (m : ℕ) → json_bytes j + m ≤ n
    → (o : Option (B × List Token)) → Leaves g m o → Leaves g n (parse_map h o)
joined g n j h is m le None x = tt
joined g n j h is m le (Some p) x = omega (arith, is p.0, le, x)

and_more : {B : Type 0} (g : B → ℕ) (n : ℕ) (h : Json → B → B)
    → ((j : Json) (b : B) → g (h j b) ≡ json_bytes j + g b) → (more : Parse B) → Within g more
    → (o : Option (Json × List Token)) → Leaves json_bytes n o
    → Leaves g n (option_and_then (λ q. parse_map (h q.0) (more q.1)) o)
and_more g n h is more within None x = tt
and_more g n h is more within (Some q) x =
    joined g n q.0 (h q.0) (is q.0) (tokens_len q.1) x (more q.1) (within q.1)

abbrev IsLeft : ℕ → Option (List Token) → Type 0
IsLeft n o = AtMost tokens_len n o

end_array : (ts : List Token) → IsLeft (tokens_len ts) (after_end_array ts)
end_array [] = tt
end_array (Token.begin_object ∷ ts) = tt
end_array (Token.end_object ∷ ts) = tt
end_array (Token.begin_array ∷ ts) = tt
end_array (Token.end_array ∷ ts) = omega arith
end_array (Token.key s ∷ ts) = tt
end_array (Token.string s ∷ ts) = tt
end_array (Token.number s ∷ ts) = tt
end_array (Token.boolean b ∷ ts) = tt
end_array (Token.null ∷ ts) = tt
end_array (Token.bad ∷ ts) = tt

key : (ts : List Token) → Leaves (λ k. 0) (tokens_len ts) (read_key ts)
key [] = tt
key (Token.begin_object ∷ ts) = tt
key (Token.end_object ∷ ts) = omega arith
key (Token.begin_array ∷ ts) = tt
key (Token.end_array ∷ ts) = tt
key (Token.key s ∷ ts) = omega arith
key (Token.string s ∷ ts) = tt
key (Token.number s ∷ ts) = tt
key (Token.boolean b ∷ ts) = tt
key (Token.null ∷ ts) = tt
key (Token.bad ∷ ts) = tt

module _ (p : Parse Json) (within : Within json_bytes p) where
  item_turn : (more : Parse Items) → Within items_bytes more
      → (ts : List Token) (o : Option (List Token)) → IsLeft (tokens_len ts) o
      → Leaves items_bytes (tokens_len ts) (items_step p more ts o)
  item_turn more again ts (Some r) e = omega (arith, e)
  item_turn more again ts None e =
      and_more items_bytes (tokens_len ts) item (λ j b. refl) more again (p ts) (within ts)

  Within-items : (n : ℕ) → Within items_bytes (items p n)
  unfolding items
  Within-items zero ts = tt
  Within-items (suc n) ts =
      item_turn (items p n) (Within-items n) ts (after_end_array ts) (end_array ts)

  member_turn : (more : Parse Members) → Within members_bytes more
      → (n : ℕ) (o : Option (Option (List ℕ) × List Token)) → Leaves (λ k. 0) n o
      → Leaves members_bytes n (option_and_then (λ q. members_step p more q.0 q.1) o)
  member_turn more again n None e = tt
  member_turn more again n (Some (None, s)) e = omega (arith, e)
  member_turn more again n (Some (Some k, s)) e =
      AtMost-wider (λ (p : Members × List Token). members_bytes p.0 + tokens_len p.1) (tokens_len s)
      n _ (and_more members_bytes (tokens_len s) (member k) (λ j b. refl) more again (p s)
      (within s)) (omega (arith, e))

  Within-members : (n : ℕ) → Within members_bytes (members p n)
  unfolding members
  Within-members zero ts = tt
  Within-members (suc n) ts =
      member_turn (members p n) (Within-members n) (tokens_len ts) (read_key ts) (key ts)

one_level : (a : Parse Items) (o : Parse Members) → Within items_bytes a → Within members_bytes o
    → Within json_bytes (value_with a o)
one_level a o p q [] = tt
one_level a o p q (Token.begin_object ∷ ts) =
    mapped members_bytes json_bytes (tokens_len ts) _ object (λ ms. refl) (omega arith) (o ts)
    (q ts)
one_level a o p q (Token.end_object ∷ ts) = tt
one_level a o p q (Token.begin_array ∷ ts) =
    mapped items_bytes json_bytes (tokens_len ts) _ array (λ js. refl) (omega arith) (a ts) (p ts)
one_level a o p q (Token.end_array ∷ ts) = tt
one_level a o p q (Token.key s ∷ ts) = tt
one_level a o p q (Token.string s ∷ ts) = omega arith
one_level a o p q (Token.number s ∷ ts) = omega arith
one_level a o p q (Token.boolean b ∷ ts) = omega arith
one_level a o p q (Token.null ∷ ts) = omega arith
one_level a o p q (Token.bad ∷ ts) = tt

pub Within-value : (d : ℕ) → Within json_bytes (value d)
unfolding value
Within-value zero = one_level (λ ts. None) (λ ts. None) (λ ts. tt) (λ ts. tt)
Within-value (suc d) =
    one_level (λ ts. items (value d) (length ts) ts) (λ ts. members (value d) (length ts) ts)
    (λ ts. Within-items (value d) (Within-value d) (length ts) ts)
    (λ ts. Within-members (value d) (Within-value d) (length ts) ts)

pub value-bytes : (d : ℕ) (ts r : List Token) (j : Json) → value d ts ≡ Some (j, r)
    → json_bytes j ≤ tokens_len ts
value-bytes d ts r j e =
    let h = subst (Leaves json_bytes (tokens_len ts)) e (Within-value d ts) in omega (arith, h)
