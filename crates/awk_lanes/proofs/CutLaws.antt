-- A part of a lane: how many numbers it has, and which.
use Rattle.std.proofs.Common.{◌-◌, arith, drop, length-drop, length-take, ℕ, ◌≡◌, ◌≤◌, ◌+◌, ◌<◌, ap}
use Rattle.std.proofs.Common.{get_or-drop, get_or-take, ◌∙◌}
use Rattle.std.specs.Prelude.{pos}
use Rattle.awk_lanes.specs.Column.{Column}
use Rattle.awk_lanes.specs.Cut.{cut_of}
use Rattle.awk_lanes.specs.Places.{size_of, at}
use Rattle.awk_lanes.specs.Numbers.{element}

pub size-cut : (c : Column) (lo hi : ℕ) → lo ≤ hi → hi ≤ size_of c
    → size_of (cut_of c lo hi) ≡ hi - lo
size-cut c lo hi h l =
    omega (arith, length-take (hi - lo) (drop lo c.items), length-drop lo c.items)

pub at-cut : (c : Column) (lo hi i : ℕ) → i < hi - lo → at (cut_of c lo hi) i ≡ at c (lo + i)
at-cut c lo hi i h =
    ap (element c.kind) (get_or-take (hi - lo) (drop lo c.items) i (pos 0) h ∙ get_or-drop lo
    c.items i (pos 0))
