-- Several texts put one after another.
use Rattle.std.proofs.Common.{◌≡◌, ◌<◌, ◌+◌, ℕ, List, ◌++◌, length, get_or, drop, Bor, Option, Ok}
use Rattle.std.proofs.Common.{Result, sym, ap, ◌∙◌, subst}
use Rattle.std.proofs.lemmas.List.{drop_more}
use Rattle.std.specs.List.{flat_map}
use Rattle.awk_edge.specs.Pending.{Pending}
use Rattle.awk_edge.specs.Put.{Moves}
use Rattle.awk_edge.proofs.Puts.{moved_on}
pub use Rattle.awk_edge.proofs.Puts.{stops}

-- a part was put, and then more
pub goes : {written0 written1 written2 : Option (List ℕ)} {mid new : Pending} {E F : Type 0}
    {u : Unit {0}} {r : Result (Unit {0}) F} {whole part next : List ℕ}
    → Moves {E = E} written0 written1 mid part (Ok u) → Moves {E = F} written1 written2 new next r
    → (more : List ℕ) → next ≡ mid.held ++ more → whole ≡ part ++ more
    → Moves {E = F} written0 written2 new whole r
goes {written0 = written0} {written2 = written2} {new = new} {F = F} {r = r} m n more follows e =
    subst (λ z. Moves {E = F} written0 written2 new z r) (sym e) (moved_on more m n follows)

-- the piece at a place begins what is left there
pub piece_at : (pieces : List (Bor (List ℕ))) (i : ℕ) (d : Bor (List ℕ)) (piece : List ℕ)
    → i < length pieces → piece ≡ (get_or pieces i d).now
    → flat_map (λ p. p.now) (drop i pieces) ≡ piece ++ flat_map (λ p. p.now) (drop (i + 1) pieces)
piece_at pieces i d piece within read =
    ap (flat_map (λ p. p.now)) (drop_more pieces i d within) ∙ ap
    (λ z. z ++ flat_map (λ p. p.now) (drop (i + 1) pieces)) (sym read)
