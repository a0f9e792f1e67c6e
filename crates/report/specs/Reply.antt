-- What the program answers to an input. Assumes nothing.
use Rattle.std.specs.Prelude.{◌≡◌, ℕ, ◌<◌, ◌≤◌, ◌⊎◌, List, length, Err, Result}
use Rattle.graph.specs.declared.refusal.Refusal.{Refusal}
use Rattle.graph.specs.declared.refusal.Refusal.TheVariants.{Shape, Short}
use Rattle.records.specs.declared.copy.Fault.{Fault}
use Rattle.records.specs.declared.record.Output.TheVariants.{No}
use Rattle.records.specs.Copying.{fault, Copies}
use Rattle.records.specs.Format.{IsFile, encode_output}
use Rattle.records.specs.Shape.{Stops}
use Rattle.records.specs.Writing.{put_answer, after_put}

-- the most bytes that an input may have
abbrev pub limit : ℕ
limit = 65535

-- the one record that says why an input is refused, and at which place
abbrev pub refusal_record : Refusal → ℕ → List ℕ
refusal_record refusal place = encode_output (No refusal place)

-- the answer to an input, where there is so much room for it
pub record Answers (room : ℕ) (input answer : List ℕ) : Type 0 where
  pub over : limit < length input → answer ≡ refusal_record Shape limit
  pub either : length input ≤ limit → IsFile input ⊎ ((place : ℕ) × Stops input place)
  pub file : length input ≤ limit → IsFile input → length input ≤ room → answer ≡ input
  pub short : length input ≤ limit → IsFile input → room < length input → answer ≡ refusal_record Short (length input)
  pub other : length input ≤ limit → (place : ℕ) → Stops input place → answer ≡ refusal_record Shape place

-- that answer is put at the front of the memory, and all else stays; where it has no room, the memory stays as it was
pub record Replies (input was is : List ℕ) (r : Result ℕ Refusal) : Type 0 where
  pub bytes : List ℕ
  pub answers : Answers (length was) input bytes
  pub answer : r ≡ put_answer bytes was
  pub memory : is ≡ after_put bytes was

-- a copy that comes to nothing where the input is over the limit
pub record Limited (input was is : List ℕ) (r : Result ℕ Fault) : Type 0 where
  pub over : limit < length input → (r ≡ Err (fault Shape limit)) × (is ≡ was)
  pub copies : length input ≤ limit → Copies input was is r
