-- Texts in parts.
use Rattle.std.proofs.Common.{◌≡◌, ℕ, List, [], ◌∷◌, ◌++◌, codes, append_assoc, sym, subst, Option}
use Rattle.std.proofs.Common.{Result}
use Rattle.awk_edge.specs.Pending.{Pending}
use Rattle.awk_edge.specs.Put.{Moves}

-- three parts behind what is held, put one after another
pub three_parts : (held a b c : List ℕ) → held ++ ((a ++ b) ++ c) ≡ ((held ++ a) ++ b) ++ c
three_parts held a b c = simp append_assoc

pub first_part : (held a b c : List ℕ) → held ++ ((a ++ b) ++ c) ≡ (held ++ a) ++ (b ++ c)
first_part held a b c = simp append_assoc

-- a place and its end, behind a node and a rule
pub node_then_place : (held head node member rule place tail : List ℕ)
    → tail ≡ (member ++ rule) ++ codes "\""
    → held
    ++ (((((((head ++ node) ++ member) ++ rule) ++ codes "\",\"place\":") ++ place)
    ++ codes "}") ++ 10 ∷ []) ≡ (held ++ ((head ++ node) ++ tail))
    ++ ((codes ",\"place\":" ++ place) ++ (125 ∷ 10 ∷ []))
node_then_place held head node member rule place tail e = rw e (simp append_assoc)

-- a text between a head and a tail, with the line's end
pub moves_line : {E : Type 0} {w0 w1 : Option (List ℕ)} {new : Pending}
    {r : Result (Unit {0}) E} (held head text tail : List ℕ)
    → Moves w0 w1 new (held ++ (head ++ text ++ (tail ++ 10 ∷ []))) r
    → Moves w0 w1 new (held ++ ((head ++ text ++ tail) ++ 10 ∷ [])) r
moves_line {w0 = w0} {w1 = w1} {new = new} {r = r} held head text tail m =
    subst (λ z. Moves w0 w1 new (held ++ z) r)
    (sym (append_assoc (head ++ text) tail (10 ∷ []))) m
