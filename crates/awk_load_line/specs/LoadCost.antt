-- What a load takes, and how large its array is, by the nodes of its form.
use Rattle.std.specs.Prelude.{◌≤◌, ℕ, ◌+◌, ◌*◌, Result, Ok, Err}
use Rattle.serde_json.specs.Data.{Data}
use Rattle.awk_form.specs.FormTree.{FormTree}
use Rattle.awk_form.specs.Measures as form
use Rattle.awk_form.specs.Reading.{Refusal, reading}
use Rattle.awk_layout.specs.Layout.{Layout, weight, height}

-- how many nodes and inner numbers a form that is read has, and how many on its longest path
abbrev pub width_read : Result FormTree Refusal → ℕ
width_read (Ok f) = form.width f
width_read (Err refusal) = 0

abbrev pub height_read : Result FormTree Refusal → ℕ
height_read (Ok f) = form.height f
height_read (Err refusal) = 0

abbrev pub form_width : Data → ℕ
form_width d = width_read (reading d)

abbrev pub form_height : Data → ℕ
form_height d = height_read (reading d)

-- an array has no more nodes than its form, and is no higher
abbrev pub IsOfForm : Data → Layout → Type 0
IsOfForm d x = (weight x ≤ form_width d) × (height x ≤ form_height d)

-- a load of so many bytes
abbrev pub load_cost : ℕ → ℕ → ℕ
load_cost width bytes = 8 * (width + 1) * (bytes + 1)

-- what it takes, by its form and the bytes of its buffers, or of their texts
abbrev pub IsLoaded : Data → ℕ → ℕ → ℕ → Type 0
IsLoaded form bytes steps0 steps1 = steps1 ≤ steps0 + load_cost (form_width form) bytes
