-- The numbers of the refusals, and of answers. Every promise that speaks of such a number takes it from here. Assumes nothing.
use Rattle.std.specs.Prelude.{ℕ, ⊤, Ok, Err, Result}
use Rattle.graph.specs.declared.refusal.Refusal.{Refusal}
use Rattle.graph.specs.declared.refusal.Refusal.TheVariants.{Counts, Memory, Shape, Match, Long, Label, Rules, Node, Full, Short}

abbrev pub refusal_number : Refusal → ℕ
refusal_number Counts = 1
refusal_number Memory = 2
refusal_number Shape = 3
refusal_number Match = 4
refusal_number Long = 5
refusal_number Label = 6
refusal_number Rules = 7
refusal_number Node = 8
refusal_number Full = 9
refusal_number Short = 10

-- what is granted, with nothing beside to tell, has the number 0
abbrev pub granted_number : ⊤ → ℕ
granted_number _ = 0

-- an answer has the number of what was granted, or that of the refusal
abbrev pub answer_number : {T E : Type 0} → (T → ℕ) → (E → ℕ) → Result T E → ℕ
answer_number granted refused (Ok t) = granted t
answer_number granted refused (Err e) = refused e
