-- The texts of the faults that answer a line.
use Rattle.std.specs.Prelude.{List, ℕ, ◌++◌, codes, decimal}
use Rattle.awk_json.specs.Text.{quoted}
use Rattle.awk_form.specs.declared.fault.FormWhy.{FormWhy}
use Rattle.awk_form.specs.declared.fault.FormWhy.TheVariants as why
use Rattle.awk_valid.specs.declared.fault.BufferFault.{BufferFault}
use Rattle.awk_valid.specs.declared.fault.BufferFault.TheVariants as buffers
use Rattle.awk_valid.specs.declared.fault.Rule.{Rule}
use Rattle.awk_valid.specs.declared.fault.Rule.TheVariants as rules
use Rattle.awk_text.specs.FaultText as evaluation
use Rattle.awk_answer.specs.declared.fault.AnswerFault.{AnswerFault}
use Rattle.awk_answer.specs.declared.fault.AnswerFault.TheVariants as fault

-- the cause against a node of a form
abbrev pub why_text : FormWhy → List ℕ
why_text why.Class = codes "class"
why_text why.Key = codes "key"
why_text why.Kind = codes "kind"
why_text why.Primitive = codes "primitive"
why_text why.Parameter = codes "parameter"
why_text why.Repeated = codes "repeated"
why_text why.Alternatives = codes "alternatives"
why_text why.FormKey = codes "form_key"

-- the cause against a buffer
abbrev pub buffer_text : BufferFault → List ℕ
buffer_text buffers.Absent = codes "absent"
buffer_text buffers.Base64 = codes "base64"
buffer_text buffers.Short = codes "short"

-- the rule that a place breaks
abbrev pub rule_text : Rule → List ℕ
rule_text rules.Empty = codes "empty"
rule_text rules.Order = codes "order"
rule_text rules.Start = codes "start"
rule_text rules.Negative = codes "negative"
rule_text rules.Tag = codes "tag"

-- any fault; those of evaluation have texts of their own
abbrev pub fault_text : AnswerFault → List ℕ
fault_text fault.Json = codes "{\"fault\":\"json\"}"
fault_text fault.Query = codes "{\"fault\":\"query\"}"
fault_text (fault.Form node cause) =
    codes "{\"fault\":\"form\",\"node\":" ++ decimal node
    ++ codes ",\"why\":\"" ++ why_text cause ++ codes "\"}"
fault_text (fault.Buffer key cause) =
    codes "{\"fault\":\"buffer\",\"key\":" ++ quoted key
    ++ codes ",\"why\":\"" ++ buffer_text cause ++ codes "\"}"
fault_text (fault.Cut key) =
    codes "{\"fault\":\"buffer\",\"key\":" ++ quoted key ++ codes ",\"why\":\"cut\"}"
fault_text (fault.Invalid node rule place) =
    codes "{\"fault\":\"invalid\",\"node\":" ++ decimal node
    ++ codes ",\"rule\":\"" ++ rule_text rule
    ++ codes "\",\"place\":" ++ decimal place ++ codes "}"
fault_text (fault.Evaluation f) = evaluation.fault_text f
