-- What a line asks for, and how the next one is read, where it is blank and where it is not.
use Rattle.std.proofs.Common.{◌≡◌, ℕ, ◌+◌, true, false, List, refl, ap, ◌∙◌, drop, slice_get, Some}
use Rattle.std.proofs.lemmas.List.Sums.{sum_by-cons}
use Rattle.awk_base.proofs.Lists.{drop-get}
use Rattle.awk_query.specs.Line.{line_said}
use Rattle.awk_query.specs.declared.reading.RawPart.{RawPart}
use Rattle.awk_query.specs.declared.reading.Reading.{Reading}
use Rattle.awk_framing.specs.Framing.{is_blank, total, asked_by, reading_behind, raw_asked}
use Rattle.awk_framing.specs.Framing.{read_behind}

-- a blank line asks for nothing, and changes nothing
pub raw_asked-blank : (r : Reading) (line : List ℕ) → is_blank line ≡ true → raw_asked r line ≡ 0
unfolding raw_asked
raw_asked-blank r line e = rw e refl

pub raw_asked-line : (r : Reading) (line : List ℕ) → is_blank line ≡ false
    → raw_asked r line ≡ asked_by (line_said r line)
unfolding raw_asked
raw_asked-line r line e = rw e refl

pub read_behind-blank : (r : Reading) (line : List ℕ) → is_blank line ≡ true
    → read_behind r line ≡ r
unfolding read_behind
read_behind-blank r line e = rw e refl

pub read_behind-line : (r : Reading) (line : List ℕ) → is_blank line ≡ false
    → read_behind r line ≡ reading_behind r (line_said r line)
unfolding read_behind
read_behind-line r line e = rw e refl

-- one part more
pub total-drop : (ps : List RawPart) (i : ℕ) (p : RawPart) → slice_get ps i ≡ Some p
    → total (drop i ps) ≡ p.count + total (drop (i + 1) ps)
total-drop ps i p at =
    ap total (drop-get ps i p at) ∙ sum_by-cons (λ (q : RawPart). q.count) p (drop (i + 1) ps)
