-- The format of record files: what a record says, and the bytes that say it. Assumes nothing.
-- A field is a number of any size here, and its range (`InRange`) comes from the bytes: a field of 8 bits is itself one of the bytes, and a wider one that did not fit would have a high byte over 255.
use Rattle.std.specs.Prelude.{◌≡◌, ℕ, ◌+◌, ◌/◌, ◌%◌, ◌<◌, List, [], ◌∷◌, ◌++◌, length, codes}
use Rattle.std.specs.List.{flat_map, AllByRecursion}
use Rattle.graph.specs.Refusals.{refusal_number}
use Rattle.records.specs.declared.record.Output.{Output}
use Rattle.records.specs.declared.record.Output.TheVariants.{Pair, Listing, No}

-- numbers of 16 and of 32 bits, high byte first
abbrev pub two : ℕ → List ℕ
two n = n / 256 ∷ n % 256 ∷ []

abbrev pub four : ℕ → List ℕ
four n = n / 16777216 ∷ n / 65536 % 256 ∷ n / 256 % 256 ∷ n % 256 ∷ []

-- what one record of a file says: how many labels and nodes there are, a rule, an edge, or that the file ends
pub data Entry : Type 0 where
  header : (labels nodes : ℕ) → Entry
  rule : (head : ℕ) (items : List ℕ) → Entry
  edge : (label from to : ℕ) → Entry
  end : Entry

-- the bytes of a record: its mark, and then its fields
abbrev pub encode : Entry → List ℕ
encode (header labels nodes) = codes "GR" ++ (labels ∷ two nodes)
encode (rule head items) = codes "RL" ++ (head ∷ length items ∷ items)
encode (edge label from to) = codes "ED" ++ (label ∷ (two from ++ two to))
encode end = codes "EN"

-- the fields are of 8 and of 16 bits, and the items are bytes, at most 255 of them
abbrev pub InRange : Entry → Type 0
InRange (header labels nodes) = (labels < 256) × (nodes < 65536)
InRange (rule head items) = (head < 256) × (length items < 256) × AllByRecursion (λ item. item < 256) items
InRange (edge label from to) = (label < 256) × (from < 65536) × (to < 65536)
InRange end = Unit {0}

-- the bytes of a record that stands in output alone
abbrev pub encode_output : Output → List ℕ
encode_output (Pair from to) = codes "PR" ++ (two from ++ two to)
encode_output (Listing label pairs) = codes "LS" ++ (label ∷ four pairs)
encode_output (No refusal place) = codes "NO" ++ (refusal_number refusal ∷ four place)

-- records one after another
abbrev pub encode_all : List Entry → List ℕ
encode_all es = flat_map encode es

-- what may stand between the header and the end
abbrev pub Inner : Entry → Type 0
Inner (header labels nodes) = ⊥
Inner (rule head items) = Unit {0}
Inner (edge label from to) = Unit {0}
Inner end = ⊥

-- the records of a file: one header, then rules and edges in any mixture, then the end, then nothing
pub record FileOf (es : List Entry) : Type 0 where
  pub labels : ℕ
  pub nodes : ℕ
  pub body : List Entry
  pub inner : AllByRecursion Inner body
  pub whole : es ≡ header labels nodes ∷ (body ++ end ∷ [])

-- the bytes are those of a file
abbrev pub IsFile : List ℕ → Type 0
IsFile bytes = (es : List Entry) × FileOf es × (bytes ≡ encode_all es)

-- each record with the byte place where its mark stands, the first at the place given
abbrev pub placed : ℕ → List Entry → List (ℕ × Entry)
placed at [] = []
placed at (e ∷ es) = (at, e) ∷ placed (at + length (encode e)) es
