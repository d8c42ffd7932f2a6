-- Why a load is refused, as a fault that answers its line.
use Rattle.awk_types.specs.Limit.{depth_limit, size_limit}
use Rattle.awk_types.specs.declared.fault.Fault.TheVariants.{Depth, Size}
use Rattle.awk_form.specs.Reading as forms
use Rattle.awk_valid.specs.Broken as walk
use Rattle.awk_answer.specs.declared.fault.AnswerFault.{AnswerFault}
use Rattle.awk_answer.specs.declared.fault.AnswerFault.TheVariants.{Form, Buffer, Invalid}
use Rattle.awk_answer.specs.declared.fault.AnswerFault.TheVariants.{Evaluation}

-- a form is refused by its first break, or by the limit that its type passes
abbrev pub form_fault : forms.Refusal → AnswerFault
form_fault (forms.broken b) = Form b.node b.why
form_fault (forms.limited depth_limit) = Evaluation Depth
form_fault (forms.limited size_limit) = Evaluation Size

-- a form that is read is refused by the limit of its type, or by the first break of the walk
abbrev pub walk_fault : walk.Refusal → AnswerFault
walk_fault walk.too_deep = Evaluation Depth
walk_fault walk.too_many = Evaluation Size
walk_fault (walk.buffer key why) = Buffer key why
walk_fault (walk.invalid node rule place) = Invalid node rule place
