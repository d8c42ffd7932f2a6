use Rattle.std.proofs.Common.{◌≡◌, ◌<◌, ℕ, ◌∷◌, [], false, not, get_or, List, length, rules, tests}
use Rattle.std.proofs.Common.{arith, ◌&&◌, ap, sym, ◌∙◌}
use Rattle.std.specs.Char.{is_ascii_digit}
use Rattle.std.specs.List.{list_all}
use Rattle.std.proofs.lemmas.Iterator.{YieldsList-from_slice}
use Rattle.std.proofs.lemmas.Iterator.Search.{all_from_yields_List}
use Rattle.awk_text.specs.TypeText.{is_bare, is_word}
use Rattle.awk_text.proofs.typ.is_bare.Goals as goal

-- a name that begins with no digit stands bare where it has words alone
words_alone : (n : List ℕ) → 0 < length n → is_ascii_digit (get_or n 0 0) ≡ false
    → is_bare n ≡ list_all is_word n
words_alone [] some first = absurd (omega arith)
words_alone (b ∷ bytes) some first = ap (λ t. not t && list_all is_word (b ∷ bytes)) first

pub returns-then-not-is_ascii_digit : goal.returns-then-not-is_ascii_digit
returns-then-not-is_ascii_digit c =
    let name = c.args.name.now in
    let all : c.all.result ≡ list_all is_word name = all_from_yields_List is_word _ _ c.all.result
    c.all.ensures.ran (YieldsList-from_slice _ c.iter.ensures.rest)
    (λ x b q k. search (rules, tests)) in
    let first : is_ascii_digit (get_or name 0 0) ≡ false =
    sym c.is_ascii_digit.ensures.value ∙ c.if-not-is_ascii_digit.true in
    all ∙ sym (words_alone name (search rules) first)
