-- What the copy of a file answers, and what it leaves in the output memory. Assumes nothing.
use Rattle.std.specs.Prelude.{◌≡◌, ℕ, cond, ◌⊎◌, List, length, Ok, Err, Result, nat_lt}
use Rattle.graph.specs.declared.refusal.Refusal.{Refusal}
use Rattle.graph.specs.declared.refusal.Refusal.TheVariants.{Shape, Short}
use Rattle.records.specs.declared.copy.Fault.{Fault}
use Rattle.records.specs.Format.{IsFile}
use Rattle.records.specs.Shape.{Stops}
use Rattle.records.specs.Writing.{after_put}

-- why, and where
abbrev pub fault : Refusal → ℕ → Fault
fault refusal place = record { refusal = refusal; place = place }

-- the length of the file, or SHORT at that place where the memory is shorter
abbrev pub copy_answer : List ℕ → List ℕ → Result ℕ Fault
copy_answer bytes memory = cond (nat_lt (length memory) (length bytes)) (Err (fault Short (length bytes))) (Ok (length bytes))

-- Bytes that are a file come back byte for byte at the front of the memory, or are refused for want of room; all others are refused with the place where they stop being one. A refusal leaves the memory as it was.
pub record Copies (bytes was is : List ℕ) (r : Result ℕ Fault) : Type 0 where
  pub either : IsFile bytes ⊎ ((place : ℕ) × Stops bytes place)
  pub file : IsFile bytes → (r ≡ copy_answer bytes was) × (is ≡ after_put bytes was)
  pub other : (place : ℕ) → Stops bytes place → (r ≡ Err (fault Shape place)) × (is ≡ was)
