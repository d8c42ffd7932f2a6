-- A load of more bytes costs more.
use Rattle.std.proofs.Common.{◌≤◌, ℕ, ◌+◌, ◌*◌, arith}
use Rattle.awk_base.proofs.Numbers.{times}
use Rattle.awk_load_line.specs.LoadCost.{load_cost}

pub load_cost-bytes : (width m n : ℕ) → m ≤ n → load_cost width m ≤ load_cost width n
load_cost-bytes width m n h =
    times (8 * (width + 1)) (m + 1) (8 * (width + 1)) (n + 1) (omega arith) (omega arith)
