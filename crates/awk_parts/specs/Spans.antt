-- Numbers in parts, each from a start below a stop.
use Rattle.std.specs.Prelude.{◌≡◌, ℕ, ◌-◌, ◌<◌, ◌≤◌, ℤ, List, [], get_or, length}
use Rattle.std.specs.List.{slice_range}
use Rattle.awk_lanes.specs.Numbers.{number, nat_of}
use Rattle.awk_lanes.specs.Places.{IsSpan}
use Rattle.awk_lanes.specs.declared.kind.Kind.TheVariants.{I64}
use Rattle.awk_parts.specs.declared.parts.Spans.{Spans}

-- the number that group i of bytes is
abbrev pub end_at : List (List ℕ) → ℕ → ℤ
end_at gs i = number I64 (get_or gs i [])

abbrev pub span_count : Spans → ℕ
span_count p = length p.starts.now

-- where part i begins, and where it ends
abbrev pub start_of : Spans → ℕ → ℕ
start_of p i = nat_of (end_at p.starts.now i)

abbrev pub stop_of : Spans → ℕ → ℕ
stop_of p i = nat_of (end_at p.stops.now i)

abbrev pub span_size : Spans → ℕ → ℕ
span_size p i = stop_of p i - start_of p i

-- part i
abbrev pub span_part : List ℤ → Spans → ℕ → List ℤ
span_part zs p i = slice_range zs (start_of p i) (stop_of p i)

-- parts of m numbers
pub record AreOrdered (m : ℕ) (p : Spans) : Type 0 where
  pub same : length p.stops.now ≡ length p.starts.now
  pub spans : (i : ℕ) → i < span_count p
      → IsSpan m (end_at p.starts.now i) (end_at p.stops.now i)

-- parts of numbers, each with no more than the limit
pub record AreSpanned (zs : List ℤ) (p : Spans) : Type 0 where
  pub ordered : AreOrdered (length zs) p
  pub few : (i : ℕ) → i < span_count p → span_size p i ≤ 1073741824

-- n parts, by the numbers where each begins and ends
pub record AreEnds (n : ℕ) (f g : ℕ → ℤ) (p : Spans) : Type 0 where
  pub starts : length p.starts.now ≡ n
  pub stops : length p.stops.now ≡ n
  pub start : (i : ℕ) → i < n → end_at p.starts.now i ≡ f i
  pub stop : (i : ℕ) → i < n → end_at p.stops.now i ≡ g i
