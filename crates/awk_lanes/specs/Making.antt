-- A lane that is being made.
use Rattle.std.specs.Prelude.{ℕ, List, [], ◌∷◌, ◌++◌, ℤ}
use Rattle.awk_lanes.specs.declared.kind.Kind.{Kind}

-- its kind, how many numbers it has room for, and the numbers so far
pub record Making : Type 0 where
  pub kind : Kind
  pub room : ℕ
  pub items : List ℤ

-- with one more number
abbrev pub with_item : Making → ℤ → Making
with_item m z = record { kind = m.kind; room = m.room; items = m.items ++ z ∷ [] }

-- with more numbers
abbrev pub with_items : Making → List ℤ → Making
with_items m zs = record { kind = m.kind; room = m.room; items = m.items ++ zs }
