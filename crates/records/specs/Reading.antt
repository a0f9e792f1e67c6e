-- What the values of the reader stand for, and what its calls answer. Assumes nothing.
use Rattle.std.specs.Prelude.{◌≡◌, ℕ, ◌+◌, true, List, ◌++◌, length, drop, is_ok, Some, None, Ok, Err, Option, Result, ◌≢◌}
use Rattle.std.specs.Iterator.{AlwaysYields}
use Rattle.std.specs.List.{AllByRecursion}
use Rattle.records.specs.declared.file.File.{File}
use Rattle.records.specs.declared.file.Misshapen.{Misshapen}
use Rattle.records.specs.declared.reader.Records.{Records}
use Rattle.records.specs.declared.record.Record.{Record}
use Rattle.records.specs.declared.record.Record.TheVariants.{Header, Rule, Edge, End}
use Rattle.records.specs.declared.record.Token.{Token}
use Rattle.records.specs.Format.{Entry, header, rule, edge, end, encode, encode_all, InRange, FileOf, IsFile, placed}
use Rattle.records.specs.Shape.{Stops}

-- what a record says
abbrev pub entry : Record → Entry
entry (Header c) = header c.labels c.nodes
entry (Rule head items) = rule head items.now
entry (Edge t) = edge t.label t.from t.to
entry End = end

-- what a token says, with its place
abbrev pub told : Token → ℕ × Entry
told t = (t.place, entry t.record)

-- the bytes of a file
abbrev pub bytes_of : File → List ℕ
bytes_of f = f.bytes.now

-- the bytes begin with no record of a file
abbrev pub NoRecord : List ℕ → Type 0
NoRecord bytes = (e : Entry) (rest : List ℕ) → bytes ≢ encode e ++ rest

-- the record that the bytes begin with, if they begin with one
abbrev pub Front : List ℕ → Option Record → Type 0
Front bytes (Some r) = (rest : List ℕ) × (bytes ≡ encode (entry r) ++ rest)
Front bytes None = NoRecord bytes

-- what a pass over the records has not read yet
abbrev pub rest_of : Records → List ℕ
rest_of r = drop r.place r.input.now

-- a pass stands at the start of the bytes
pub record Begins (bytes : List ℕ) (r : Records) : Type 0 where
  pub input : r.input.now ≡ bytes
  pub place : r.place ≡ 0

-- the next record has been read, and the pass stands behind it now
pub record Reads (t : Token) (was is : Records) : Type 0 where
  pub input : is.input.now ≡ was.input.now
  pub here : t.place ≡ was.place
  pub place : is.place ≡ was.place + length (encode (entry t.record))
  pub front : rest_of was ≡ encode (entry t.record) ++ rest_of is

-- one call of next
abbrev pub Steps : Records → Option Token → Records → Type 0
Steps was (Some t) is = Reads t was is
Steps was None is = (is ≡ was) × NoRecord (rest_of was)

-- calls of next give just the records that the bytes encode, in order, each with its place, and then none
abbrev pub Passes : List ℕ → Records → Type 0
Passes bytes r = (es : List Entry) → bytes ≡ encode_all es → AlwaysYields Steps told r (placed 0 es)

-- the bytes are a file, and calls of next give just its records
abbrev pub Gives : List ℕ → Records → Type 0
Gives bytes r = (es : List Entry) × FileOf es × (bytes ≡ encode_all es) × AlwaysYields Steps told r (placed 0 es)

-- the fields of whatever records the bytes encode are in their ranges
abbrev pub Ranged : List ℕ → Type 0
Ranged bytes = (es : List Entry) → bytes ≡ encode_all es → AllByRecursion InRange es

-- a file is accepted, and anything else refused with the place where it stops being one
abbrev pub Reading : List ℕ → Result File Misshapen → Type 0
Reading bytes (Ok f) = IsFile bytes × (bytes_of f ≡ bytes)
Reading bytes (Err m) = Stops bytes m.place

-- and there is no other answer to the bytes
pub record Exact (bytes : List ℕ) (r : Result File Misshapen) : Type 0 where
  pub file : IsFile bytes → is_ok r ≡ true
  pub place : (p : ℕ) → Stops bytes p → r ≡ Err (record { place = p })
