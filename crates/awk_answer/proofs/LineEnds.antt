-- No text of a value, of a fault or of an answer holds a byte that ends a line.
use Rattle.std.proofs.Common.{ℕ, List, ◌++◌, map, refl, codes, decimal}
use Rattle.awk_types.specs.Datum.{Datum, arr, one}
use Rattle.awk_edge.specs.Lines.{Unbroken}
use Rattle.awk_json.specs.Text.{quoted, list_text}
use Rattle.awk_json.proofs.Lines.{literal-unbroken, quoted-unbroken, list_text-unbroken}
use Rattle.awk_json.proofs.Lines.{decimal-unbroken}
use Rattle.awk_form.specs.declared.fault.FormWhy.{FormWhy}
use Rattle.awk_form.specs.declared.fault.FormWhy.TheVariants as why
use Rattle.awk_valid.specs.declared.fault.BufferFault.{BufferFault}
use Rattle.awk_valid.specs.declared.fault.BufferFault.TheVariants as buffers
use Rattle.awk_valid.specs.declared.fault.Rule.{Rule}
use Rattle.awk_valid.specs.declared.fault.Rule.TheVariants as rules
use Rattle.awk_text.proofs.LineEnds as evaluations
use Rattle.awk_text.proofs.PackedLines.{packed_text-unbroken, quoted_all-unbroken}
use Rattle.awk_text.proofs.LineEnds.{value_text-unbroken, values_text-unbroken, between}
use Rattle.awk_answer.specs.declared.fault.AnswerFault.{AnswerFault}
use Rattle.awk_answer.specs.declared.fault.AnswerFault.TheVariants as faults
use Rattle.awk_answer.specs.FaultText.{why_text, buffer_text, rule_text, fault_text}
use Rattle.awk_answer.specs.Answer.{Answer, begun, bound, value, typ, packed, names, fault}
use Rattle.awk_answer.specs.Answer.{answer_text, datum_text}

-- five texts, one after another
around : (head a middle b tail : List ℕ) → Unbroken head → Unbroken a → Unbroken middle → Unbroken b
    → Unbroken tail →
    Unbroken (head ++ a ++ middle ++ b ++ tail)
around head a middle b tail h p m q l =
    between (head ++ a ++ middle) b tail (between head a middle h p m) q l

-- ---- faults

why_text-unbroken : (cause : FormWhy) → Unbroken (why_text cause)
why_text-unbroken why.Class = literal-unbroken (codes "class") refl
why_text-unbroken why.Key = literal-unbroken (codes "key") refl
why_text-unbroken why.Kind = literal-unbroken (codes "kind") refl
why_text-unbroken why.Primitive = literal-unbroken (codes "primitive") refl
why_text-unbroken why.Parameter = literal-unbroken (codes "parameter") refl
why_text-unbroken why.Repeated = literal-unbroken (codes "repeated") refl
why_text-unbroken why.Alternatives = literal-unbroken (codes "alternatives") refl
why_text-unbroken why.FormKey = literal-unbroken (codes "form_key") refl

buffer_text-unbroken : (cause : BufferFault) → Unbroken (buffer_text cause)
buffer_text-unbroken buffers.Absent = literal-unbroken (codes "absent") refl
buffer_text-unbroken buffers.Base64 = literal-unbroken (codes "base64") refl
buffer_text-unbroken buffers.Short = literal-unbroken (codes "short") refl

rule_text-unbroken : (rule : Rule) → Unbroken (rule_text rule)
rule_text-unbroken rules.Empty = literal-unbroken (codes "empty") refl
rule_text-unbroken rules.Order = literal-unbroken (codes "order") refl
rule_text-unbroken rules.Start = literal-unbroken (codes "start") refl
rule_text-unbroken rules.Negative = literal-unbroken (codes "negative") refl
rule_text-unbroken rules.Tag = literal-unbroken (codes "tag") refl

-- a text behind a head that is written out, and a brace
member-unbroken : (head text : List ℕ) → Unbroken head → Unbroken text
    → Unbroken (head ++ text ++ codes "}")
member-unbroken head text h t =
    between head text (codes "}") h t (literal-unbroken (codes "}") refl)

fault_text-unbroken : (f : AnswerFault) → Unbroken (fault_text f)
fault_text-unbroken faults.Json = literal-unbroken (codes "{\"fault\":\"json\"}") refl
fault_text-unbroken faults.Query = literal-unbroken (codes "{\"fault\":\"query\"}") refl
fault_text-unbroken (faults.Form node cause) =
    let head = codes "{\"fault\":\"form\",\"node\":" in
    let middle = codes ",\"why\":\"" in
    around head (decimal node) middle (why_text cause) (codes "\"}") (literal-unbroken head refl)
    (decimal-unbroken node)
    (literal-unbroken middle refl) (why_text-unbroken cause) (literal-unbroken (codes "\"}") refl)
fault_text-unbroken (faults.Buffer key cause) =
    let head = codes "{\"fault\":\"buffer\",\"key\":" in
    let middle = codes ",\"why\":\"" in
    around head (quoted key) middle (buffer_text cause) (codes "\"}") (literal-unbroken head refl)
    (quoted-unbroken key)
    (literal-unbroken middle refl) (buffer_text-unbroken cause)
    (literal-unbroken (codes "\"}") refl)
fault_text-unbroken (faults.Cut key) =
    let head = codes "{\"fault\":\"buffer\",\"key\":" in
    let tail = codes ",\"why\":\"cut\"}" in
    between head (quoted key) tail (literal-unbroken head refl) (quoted-unbroken key)
    (literal-unbroken tail refl)
fault_text-unbroken (faults.Invalid node rule place) =
    let head = codes "{\"fault\":\"invalid\",\"node\":" in
    let middle = codes ",\"rule\":\"" in
    let last = codes "\",\"place\":" in
    between (head ++ decimal node ++ middle ++ rule_text rule ++ last) (decimal place) (codes "}")
    (around head (decimal node) middle (rule_text rule) last (literal-unbroken head refl)
    (decimal-unbroken node)
    (literal-unbroken middle refl) (rule_text-unbroken rule) (literal-unbroken last refl))
    (decimal-unbroken place) (literal-unbroken (codes "}") refl)
fault_text-unbroken (faults.Evaluation f) = evaluations.fault_text-unbroken f

-- ---- answers

datum_text-unbroken : (d : Datum) → Unbroken (datum_text d)
datum_text-unbroken (arr t vs) = values_text-unbroken t vs
datum_text-unbroken (one t v) = value_text-unbroken t v

pub answer_text-unbroken : (a : Answer) → Unbroken (answer_text a)
answer_text-unbroken begun = literal-unbroken (codes "{\"session\":2}") refl
answer_text-unbroken (bound n) = member-unbroken (codes "{\"bound\":") (quoted n)
    (literal-unbroken (codes "{\"bound\":") refl) (quoted-unbroken n)
answer_text-unbroken (value d) = member-unbroken (codes "{\"value\":") (datum_text d)
    (literal-unbroken (codes "{\"value\":") refl) (datum_text-unbroken d)
answer_text-unbroken (typ text) = member-unbroken (codes "{\"type\":") (quoted text)
    (literal-unbroken (codes "{\"type\":") refl) (quoted-unbroken text)
answer_text-unbroken (packed p) = packed_text-unbroken p
answer_text-unbroken (names ns) = member-unbroken (codes "{\"names\":") (list_text (map quoted ns))
    (literal-unbroken (codes "{\"names\":") refl)
    (list_text-unbroken (map quoted ns) (quoted_all-unbroken ns))
answer_text-unbroken (fault f) = fault_text-unbroken f
