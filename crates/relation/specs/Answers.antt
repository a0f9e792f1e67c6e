-- The numbers of what a store answers to a triple, and the refusals that its faults are. Assumes nothing.
use Rattle.std.specs.Prelude.{ℕ, Result}
use Rattle.graph.specs.Refusals.{refusal_number, answer_number}
use Rattle.graph.specs.declared.counts.RangeFault.{RangeFault}
use Rattle.graph.specs.declared.counts.RangeFault.TheVariants.{Label as LabelOut, Node as NodeOut}
use Rattle.graph.specs.declared.refusal.Refusal.{Refusal}
use Rattle.graph.specs.declared.refusal.Refusal.TheVariants.{Label as LABEL, Node as NODE, Full as FULL}
use Rattle.relation.specs.declared.answer.Grant.{Grant}
use Rattle.relation.specs.declared.answer.Grant.TheVariants.{Known, New}
use Rattle.relation.specs.declared.answer.StoreFault.{StoreFault}
use Rattle.relation.specs.declared.answer.StoreFault.TheVariants.{Label, Node, Full}

abbrev pub grant_number : Grant → ℕ
grant_number Known = 0
grant_number New = 1

-- what is out of range is refused so
abbrev pub range_fault : RangeFault → StoreFault
range_fault LabelOut = Label
range_fault NodeOut = Node

abbrev pub fault_refusal : StoreFault → Refusal
fault_refusal Label = LABEL
fault_refusal Node = NODE
fault_refusal Full = FULL

abbrev pub fault_number : StoreFault → ℕ
fault_number fault = refusal_number (fault_refusal fault)

abbrev pub put_number : Result Grant StoreFault → ℕ
put_number = answer_number grant_number fault_number
