-- What a line is read as.
use Rattle.std.specs.Prelude.{Result, Ok, Err}
use Rattle.awk_query.specs.Line.{Line}
use Rattle.awk_query.specs.LineView.{line_view}
use Rattle.awk_expr.specs.Told.{Unread, json, query}
use Rattle.awk_framing.specs.declared.read.Read as code
use Rattle.awk_framing.specs.declared.read.Read.TheVariants as variant

abbrev pub read_view : code.Read → Result Line Unread
read_view (variant.Line line) = Ok (line_view line)
read_view variant.Json = Err json
read_view variant.Query = Err query
