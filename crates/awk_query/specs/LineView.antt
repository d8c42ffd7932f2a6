-- The line that a line in code is.
use Rattle.serde_json.specs.View.{view, members_view}
use Rattle.awk_expr.specs.View.{expr_of}
use Rattle.awk_query.specs.declared.line.Line as code
use Rattle.awk_query.specs.declared.line.Line.TheVariants as variant
use Rattle.awk_query.specs.Line.{Line, load, texts, parts, session, bind, values, show, type_of}
use Rattle.awk_query.specs.Line.{pack, names}

abbrev pub line_view : code.Line → Line
line_view (variant.Load name form length big buffers) =
    load name (view form) length big (texts (members_view buffers.entries))
line_view (variant.LoadRaw name form length big raw) =
    load name (view form) length big (parts raw)
line_view variant.Session = session
line_view (variant.Let name be) = bind name (expr_of be)
line_view (variant.Values name from) = values name (view from)
line_view (variant.Show e) = show (expr_of e)
line_view (variant.TypeOf e) = type_of (expr_of e)
line_view (variant.Pack e) = pack (expr_of e)
line_view variant.Names = names
