-- Which lines evaluation takes: their expressions are allowed, and each buffer is a text or has a
-- key of its own.
use Rattle.std.specs.Prelude.{◌≡◌, true}
use Rattle.awk_types.specs.Names.{are_distinct}
use Rattle.awk_expr.specs.Allowed.{IsAllowed}
use Rattle.awk_query.specs.Line as lines

-- the buffers of a load line are texts, or bytes under distinct keys, and the expression of another
-- line is allowed
abbrev pub IsAllowedLine : lines.Line → Type 0
IsAllowedLine (lines.load name form length big (lines.texts ms)) = lines.are_texts ms ≡ true
IsAllowedLine (lines.load name form length big (lines.parts ps)) =
    are_distinct (lines.keys_of ps) ≡ true
IsAllowedLine lines.session = Unit {0}
IsAllowedLine (lines.bind name e) = IsAllowed e
IsAllowedLine (lines.values name list) = Unit {0}
IsAllowedLine (lines.show e) = IsAllowed e
IsAllowedLine (lines.type_of e) = IsAllowed e
IsAllowedLine (lines.pack e) = IsAllowed e
IsAllowedLine lines.names = Unit {0}
