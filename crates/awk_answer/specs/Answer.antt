-- The answers to lines, and their texts.
use Rattle.std.specs.Prelude.{Bool, true, false, List, ℕ, map, ◌++◌, codes}
use Rattle.awk_types.specs.DataType.{Name}
use Rattle.awk_types.specs.Datum.{Datum, arr, one}
use Rattle.awk_json.specs.Text.{quoted, list_text}
use Rattle.awk_pack.specs.Canon.{Pack}
use Rattle.awk_text.specs.PackedText.{packed_text}
use Rattle.awk_text.specs.ValueText.{value_text}
use Rattle.awk_answer.specs.declared.fault.AnswerFault.{AnswerFault}
use Rattle.awk_answer.specs.FaultText.{fault_text}

-- version 2 was begun, a name was bound, a value, the text of a type or packed buffers are shown,
-- names are listed, or a fault is told
pub data Answer : Type 0 where
  begun : Answer
  bound : Name → Answer
  value : Datum → Answer
  typ : List ℕ → Answer
  packed : Pack → Answer
  names : List Name → Answer
  fault : AnswerFault → Answer

abbrev pub is_fault : Answer → Bool
is_fault begun = false
is_fault (bound n) = false
is_fault (value d) = false
is_fault (typ text) = false
is_fault (packed p) = false
is_fault (names ns) = false
is_fault (fault f) = true

-- an array is shown as the list of its items
abbrev pub datum_text : Datum → List ℕ
datum_text (arr t vs) = list_text (map (value_text t) vs)
datum_text (one t v) = value_text t v

abbrev pub answer_text : Answer → List ℕ
answer_text begun = codes "{\"session\":2}"
answer_text (bound n) = codes "{\"bound\":" ++ quoted n ++ codes "}"
answer_text (value d) = codes "{\"value\":" ++ datum_text d ++ codes "}"
answer_text (typ text) = codes "{\"type\":" ++ quoted text ++ codes "}"
answer_text (packed p) = packed_text p
answer_text (names ns) = codes "{\"names\":" ++ list_text (map quoted ns) ++ codes "}"
answer_text (fault f) = fault_text f
