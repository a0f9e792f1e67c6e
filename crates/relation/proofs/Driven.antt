-- What is left of a script after some of its puts, and how it ends.
-- Assumes nothing.
use Rattle.std.proofs.Common.{◌≡◌, ℕ, ◌+◌, List, drop, Option}
use Rattle.std.specs.Option.{option_map}
use Rattle.relation.specs.declared.script.Put.{Put}
use Rattle.relation.specs.Meaning.{Meaning}
use Rattle.relation.specs.Driving.{first_wrong, driven}

-- an index that counts from the i-th put, counted from the first
abbrev later : ℕ → Option ℕ → Option ℕ
later i o = option_map (λ k. i + k) o

-- what is left of the script from i on ends at the store m as the whole script does at the first store
pub record Left (start : Meaning) (script : List Put) (i : ℕ) (m : Meaning) : Type 0 where
  pub answer : later i (first_wrong m (drop i script)) ≡ first_wrong start script
  pub after : driven m (drop i script) ≡ driven start script
