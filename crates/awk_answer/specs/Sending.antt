-- What putting an answer takes, by the nodes of what it shows.
use Rattle.std.specs.Prelude.{ℕ, ◌+◌, ◌*◌, length}
use Rattle.awk_layout.specs.Layout.{weight, height}
use Rattle.awk_layout.specs.declared.datum.Datum.{Datum}
use Rattle.awk_layout.specs.declared.datum.Datum.TheVariants.{Arr, One}
use Rattle.awk_text.specs.Buffers.{numbers_in}
use Rattle.awk_answer.specs.Answer.{answer_text}
use Rattle.awk_answer.specs.AnswerView.{answer_view}
use Rattle.awk_answer.specs.declared.answer.Answer as code
use Rattle.awk_answer.specs.declared.answer.Answer.TheVariants as variant

-- how many nodes a datum has, and how many on its longest path
abbrev pub width_of : Datum → ℕ
width_of (Arr x) = weight x
width_of (One x) = weight x

abbrev pub height_of : Datum → ℕ
height_of (Arr x) = height x
height_of (One x) = height x

-- the same of what an answer shows; packed buffers are as wide as they have numbers
abbrev pub shown_width : code.Answer → ℕ
shown_width (variant.Value d) = width_of d
shown_width (variant.Packed p) = numbers_in p.lanes
shown_width _ = 0

abbrev pub shown_height : code.Answer → ℕ
shown_height (variant.Value d) = height_of d
shown_height _ = 0

-- a text of so many bytes, of what is so wide and high
abbrev pub text_cost : ℕ → ℕ → ℕ → ℕ
text_cost width height bytes = 8 * (width + height * bytes)

-- what putting an answer takes
abbrev pub sent_cost : code.Answer → ℕ
sent_cost a =
    text_cost (shown_width a) (shown_height a) (length (answer_text (answer_view a)))
