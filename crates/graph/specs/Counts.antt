-- How many labels and nodes a store may have, which triples are in range of some, and what the checks of both answer. Assumes nothing.
use Rattle.std.specs.Prelude.{ℕ, ◌<◌, Bool, cond, ◌&&◌, Ok, Err, Result, ⊤, nat_le, nat_lt}
use Rattle.graph.specs.declared.counts.Counts.{Counts}
use Rattle.graph.specs.declared.counts.FitFault.{FitFault}
use Rattle.graph.specs.declared.counts.FitFault.TheVariants.{Counts as WrongCounts, Memory as LittleMemory}
use Rattle.graph.specs.declared.counts.RangeFault.{RangeFault}
use Rattle.graph.specs.declared.counts.RangeFault.TheVariants.{Label, Node}
use Rattle.graph.specs.declared.refusal.Refusal.{Refusal}
use Rattle.graph.specs.declared.refusal.Refusal.TheVariants.{Counts as COUNTS, Memory as MEMORY, Label as LABEL, Node as NODE}
use Rattle.graph.specs.Graph.{Triples}
use Rattle.graph.specs.Refusals.{refusal_number}

abbrev pub counts : ℕ → ℕ → Counts
counts l n = record { labels = l; nodes = n }

-- 1 to 64 labels and 1 to 1,024 nodes
abbrev pub counts_fit : ℕ → ℕ → Bool
counts_fit l n = nat_le 1 l && (nat_le l 64 && (nat_le 1 n && nat_le n 1024))

abbrev pub counts_answer : ℕ → ℕ → Result ⊤ FitFault
counts_answer l n = cond (counts_fit l n) (Ok tt) (Err WrongCounts)

abbrev pub fit_refusal : FitFault → Refusal
fit_refusal WrongCounts = COUNTS
fit_refusal LittleMemory = MEMORY

abbrev pub fit_fault_number : FitFault → ℕ
fit_fault_number fault = refusal_number (fit_refusal fault)

-- the label is below l and the nodes are below n
abbrev pub in_range? : ℕ → ℕ → Triples
in_range? l n a u v = nat_lt a l && (nat_lt u n && nat_lt v n)

-- what that test tests
pub record Ranged (l n a u v : ℕ) : Type 0 where
  pub label : a < l
  pub from : u < n
  pub to : v < n

-- a label out of range is told first, then a node
abbrev pub range_answer : ℕ → ℕ → ℕ → ℕ → ℕ → Result ⊤ RangeFault
range_answer l n a u v = cond (nat_lt a l) (cond (nat_lt u n && nat_lt v n) (Ok tt) (Err Node)) (Err Label)

abbrev pub range_refusal : RangeFault → Refusal
range_refusal Label = LABEL
range_refusal Node = NODE
