-- A longer text costs more.
use Rattle.std.proofs.Common.{◌≤◌, ℕ, List, ◌++◌, length, length-append, arith}
use Rattle.awk_base.proofs.Numbers.{times}
use Rattle.awk_answer.specs.Sending.{text_cost}

-- a text within another costs no more
pub text_cost-around : (width height : ℕ) (head text tail : List ℕ)
    → text_cost width height (length text)
    ≤ text_cost width height (length (head ++ text ++ tail))
text_cost-around width height head text tail =
    let all = length (head ++ text ++ tail) in
    let more : length text ≤ all =
    omega (arith, length-append (head ++ text) tail, length-append head text) in
    omega (arith, times height (length text) height all (omega arith) more)
