-- Worked lines, computed from their bytes.
use Rattle.std.proofs.Common.{◌≡◌, ℕ, pos, negsuc, true, false, List, [], ◌∷◌, map, codes, Result}
use Rattle.std.proofs.Common.{Ok, Err, refl}
use Rattle.serde_json.specs.Data.{string, number, null, array, item, no_items}
use Rattle.serde_json.specs.Data.{no_members, member, unsigned}
use Rattle.serde_json.specs.Read.{read}
use Rattle.serde_json.proofs.OnLiterals.{serde_json_on_literals}
use Rattle.awk_expr.specs.ExprTree.{ExprTree, var, whole, truth, call, no_exprs, expr}
use Rattle.awk_expr.specs.Operations.{row_of}
use Rattle.awk_expr.specs.Reading.{expr_said}
use Rattle.awk_expr.specs.Told.{Unread, json, query}
use Rattle.awk_expr.specs.declared.op.Op.TheVariants as op
use Rattle.awk_expr.specs.declared.op.PlaceOp.TheVariants as place_op
use Rattle.awk_expr.specs.declared.fixed.FixedArg.TheVariants.{Place, Text}
use Rattle.awk_query.specs.Line.{Line, load, texts, parts, session, bind, values, show, type_of}
use Rattle.awk_query.specs.Line.{pack, names, or_json, line_or_unread}
use Rattle.awk_query.specs.declared.reading.Reading.{Reading}
use Rattle.awk_query.specs.declared.reading.Reading.TheVariants.{First, One, Two}

abbrev x : ExprTree
x = var (codes "x")

-- what a line of UTF-8 is read as
abbrev read_as : Reading → List ℕ → Result Line Unread
read_as reading text = line_or_unread reading (or_json (read text))

abbrev line_in : List ℕ → Result Line Unread
line_in = read_as One

abbrev said : List (List ℕ) → List (Result Line Unread)
said = map line_in

-- ---- numbers

pub numbers :
    said (
    codes "{\"show\":18446744073709551615}"
    ∷ codes "{\"show\":-9223372036854775808}"
    ∷ codes "{\"show\":0}"
    ∷ [])
    ≡ Ok (show (whole (pos 18446744073709551615)))
    ∷ Ok (show (whole (negsuc 9223372036854775807)))
    ∷ Ok (show (whole (pos 0)))
    ∷ []
unfolding serde_json_on_literals row_of expr_said
numbers = refl

pub no_numbers :
    said (
    codes "{\"show\":-0}"
    ∷ codes "{\"show\":1.0}"
    ∷ codes "{\"show\":1e2}"
    ∷ codes "{\"show\":18446744073709551616}"
    ∷ codes "{\"show\":-9223372036854775809}"
    ∷ codes "{\"show\":[\"at\",\"x\",-9223372036854775809]}"
    ∷ codes "{\"show\":[\"pad_none\",\"x\",18446744073709551616,1,true]}"
    ∷ [])
    ≡ Err query ∷ Err query ∷ Err query ∷ Err query ∷ Err query ∷ Err query ∷ Err query ∷ []
unfolding serde_json_on_literals row_of expr_said
no_numbers = refl

-- ---- expressions

pub nested :
    line_in (codes "{\"type\":[\"field\",[\"at\",\"x\",-1],\"0\"]}")
    ≡ Ok (type_of
    (call op.Field
    (expr (call (op.Place place_op.At) (expr x no_exprs) (Place (negsuc 0) ∷ [])) no_exprs)
    (Text (codes "0") ∷ [])))
unfolding serde_json_on_literals row_of expr_said
nested = refl

pub no_calls :
    said (
    codes "{\"show\":[]}"
    ∷ codes "{\"show\":[\"plus\",\"x\",1]}"
    ∷ codes "{\"show\":[\"a\",\"x\",1]}"
    ∷ codes "{\"show\":[\"attic\",\"x\",1]}"
    ∷ codes "{\"show\":[[\"at\"],\"x\",1]}"
    ∷ codes "{\"show\":null}"
    ∷ codes "{\"show\":{}}"
    ∷ [])
    ≡ Err query ∷ Err query ∷ Err query ∷ Err query ∷ Err query ∷ Err query ∷ Err query ∷ []
unfolding serde_json_on_literals row_of expr_said
no_calls = refl

-- ---- lines

pub lines :
    said (
    codes "{\"let\":\"y\",\"be\":true}"
    ∷ codes "{\"be\":\"x\",\"let\":\"y\"}"
    ∷ codes "{\"show\":\"\"}"
    ∷ codes "{\"pack\":1,\"pack\":\"x\"}"
    ∷ codes " {\"names\":null}\r"
    ∷ [])
    ≡ Ok (bind (codes "y") (truth true))
    ∷ Ok (bind (codes "y") x)
    ∷ Ok (show (var []))
    ∷ Ok (pack x)
    ∷ Ok names
    ∷ []
unfolding serde_json_on_literals row_of expr_said
lines = refl

pub loads :
    line_in (codes "{\"buffers\":{\"k\":\"AA==\"},\"form\":null,\"load\":\"x\",\"length\":3}")
    ≡ Ok (load (codes "x") null 3 false
    (texts (member (codes "k") (string (codes "AA==")) no_members)))
unfolding serde_json_on_literals row_of expr_said
loads = refl

pub no_lines :
    said (
    codes "{\"load\":\"\",\"form\":null,\"length\":3,\"buffers\":{}}"
    ∷ codes "{\"load\":\"x\",\"form\":null,\"length\":-1,\"buffers\":{}}"
    ∷ codes "{\"load\":\"x\",\"form\":null,\"length\":3,\"buffers\":{\"k\":null}}"
    ∷ codes "{\"load\":\"x\",\"form\":null,\"length\":3,\"buffers\":[]}"
    ∷ codes "{\"load\":\"x\",\"form\":null,\"length\":3}"
    ∷ codes "{\"load\":\"x\",\"form\":null,\"length\":3,\"buffers\":{},\"more\":1}"
    ∷ codes "{\"let\":\"\",\"be\":1}"
    ∷ codes "{\"let\":\"x\",\"show\":1}"
    ∷ codes "{\"show\":\"x\",\"type\":\"x\"}"
    ∷ codes "{\"names\":0}"
    ∷ codes "{\"other\":null}"
    ∷ codes "{}"
    ∷ codes "[]"
    ∷ [])
    ≡ Err query ∷ Err query ∷ Err query ∷ Err query ∷ Err query ∷ Err query ∷ Err query
    ∷ Err query ∷ Err query ∷ Err query ∷ Err query ∷ Err query ∷ Err query ∷ []
unfolding serde_json_on_literals row_of expr_said
no_lines = refl

-- ---- readings

abbrev version_2 : List ℕ
version_2 = codes "{\"session\":2}"

-- the line that begins version 2 stands first
pub session_lines :
    read_as First version_2 ∷ read_as One version_2 ∷ read_as Two version_2
    ∷ read_as First (codes "{\"session\":1}") ∷ []
    ≡ Ok session ∷ Err query ∷ Err query ∷ Err query ∷ []
unfolding serde_json_on_literals row_of expr_said
session_lines = refl

abbrev raw_load : List ℕ
raw_load =
    codes "{\"load\":\"x\",\"form\":null,\"length\":1,\"byteorder\":\">\",\"raw\":[[\"k\",16]]}"

pub raw_loads :
    read_as Two raw_load ∷ read_as One raw_load ∷ []
    ≡ Ok (load (codes "x") null 1 true (parts (record { key = codes "k"; count = 16 } ∷ [])))
    ∷ Err query ∷ []
unfolding serde_json_on_literals row_of expr_said
raw_loads = refl

-- a key twice, a count below 0, an order that is none, bytes without an order
pub no_raw_loads :
    map (read_as Two) (
    codes "{\"load\":\"x\",\"form\":1,\"length\":1,\"byteorder\":\"<\",\"raw\":[[\"k\",1],[\"k\",2]]}"
    ∷ codes "{\"load\":\"x\",\"form\":1,\"length\":1,\"byteorder\":\"<\",\"raw\":[[\"k\",-1]]}"
    ∷ codes "{\"load\":\"x\",\"form\":1,\"length\":1,\"byteorder\":\"=\",\"raw\":[]}"
    ∷ codes "{\"load\":\"x\",\"form\":1,\"length\":1,\"raw\":[]}"
    ∷ [])
    ≡ Err query ∷ Err query ∷ Err query ∷ Err query ∷ []
unfolding serde_json_on_literals row_of expr_said
no_raw_loads = refl

pub values_lines :
    said (
    codes "{\"from\":[1],\"values\":\"x\"}"
    ∷ codes "{\"values\":\"x\",\"from\":3}"
    ∷ codes "{\"values\":\"\",\"from\":[]}"
    ∷ [])
    ≡ Ok (values (codes "x") (array (item (number (unsigned 1)) no_items)))
    ∷ Err query ∷ Err query ∷ []
unfolding serde_json_on_literals row_of expr_said
values_lines = refl

pub no_json :
    said ([] ∷ codes "{" ∷ codes "{\"show\":1} 2" ∷ [])
    ≡ Err json ∷ Err json ∷ Err json ∷ []
unfolding serde_json_on_literals row_of expr_said
no_json = refl
