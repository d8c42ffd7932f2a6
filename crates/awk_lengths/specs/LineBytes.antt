-- The bytes of the texts in a line.
use Rattle.std.specs.Prelude.{ℕ, ◌≤◌}
use Rattle.awk_store.specs.Buffers.{texts_of, total_len}
use Rattle.awk_query.specs.Line.{Buffers, texts, parts}
use Rattle.awk_query.specs.Line.{Line, load, session, bind, values, show, type_of, pack, names}

-- the bytes of the texts that a load line has; what follows the line is no text of it
abbrev pub text_len : Buffers → ℕ
text_len (texts ms) = total_len (texts_of ms)
text_len (parts ps) = 0

-- the texts of the buffers that a line loads are together of at most n bytes
abbrev pub HasBytes : ℕ → Line → Type 0
HasBytes n (load name form count big buffers) = text_len buffers ≤ n
HasBytes n session = Unit {0}
HasBytes n (bind name e) = Unit {0}
HasBytes n (values name list) = Unit {0}
HasBytes n (show e) = Unit {0}
HasBytes n (type_of e) = Unit {0}
HasBytes n (pack e) = Unit {0}
HasBytes n names = Unit {0}
