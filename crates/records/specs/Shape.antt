-- Where bytes that are no file stop being one. Assumes nothing.
use Rattle.std.specs.Prelude.{◌≡◌, ℕ, List, [], ◌∷◌, ◌++◌, length, ◌≢◌}
use Rattle.records.specs.Format.{Entry, encode, encode_all, FileOf}

-- a file can begin with these records
abbrev pub Opens : List Entry → Type 0
Opens es = (more : List Entry) × FileOf (es ++ more)

-- the first record with a wrong or misplaced mark, or cut short: behind the records that a file can begin with stands something, and no whole record that can come next
pub record BadRecord (bytes : List ℕ) (place : ℕ) : Type 0 where
  pub before : List Entry
  pub rest : List ℕ
  pub opens : Opens before
  pub unended : FileOf before → ⊥
  pub front : bytes ≡ encode_all before ++ rest
  pub something : rest ≡ [] → ⊥
  pub none : (e : Entry) (t : List ℕ) → Opens (before ++ e ∷ []) → rest ≢ encode e ++ t
  pub here : place ≡ length (encode_all before)

-- the first byte behind a whole file
pub record AfterEnd (bytes : List ℕ) (place : ℕ) : Type 0 where
  pub before : List Entry
  pub rest : List ℕ
  pub file : FileOf before
  pub front : bytes ≡ encode_all before ++ rest
  pub something : rest ≡ [] → ⊥
  pub here : place ≡ length (encode_all before)

-- the bytes' length, where they are records that a file can begin with, and the end is missing
pub record NoEnd (bytes : List ℕ) (place : ℕ) : Type 0 where
  pub before : List Entry
  pub opens : Opens before
  pub unended : FileOf before → ⊥
  pub front : bytes ≡ encode_all before
  pub here : place ≡ length bytes

-- the place where bytes that are no file stop being one. A reading of bytes finds just one such place, or that they are a file
pub data Stops (bytes : List ℕ) (place : ℕ) : Type 0 where
  bad_record : BadRecord bytes place → Stops bytes place
  after_end : AfterEnd bytes place → Stops bytes place
  no_end : NoEnd bytes place → Stops bytes place
