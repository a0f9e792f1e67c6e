-- A row of 64-bit words as bits, counted from the lowest bit of the first word, and the triples whose bits are set. Assumes nothing.
use Rattle.std.specs.Prelude.{ℕ, ◌+◌, ◌*◌, ◌/◌, ◌%◌, ◌^◌, Bool, cond, ◌&&◌, List, ◌==◌, bit_or, slice_index, slice_set}
use Rattle.graph.specs.Graph.{Triples}
use Rattle.graph.specs.Counts.{in_range?}

-- bit k is set
abbrev pub bit : List ℕ → ℕ → Bool
bit words k = slice_index words (k / 64) / 2 ^ (k % 64) % 2 == 1

-- the words with bit k set, and all else as it was
abbrev pub with_bit : List ℕ → ℕ → List ℕ
with_bit words k = slice_set words (k / 64) (bit_or (slice_index words (k / 64)) (2 ^ (k % 64)))

-- the bit of the triple (a, u, v) among n nodes
abbrev pub bit_of : ℕ → ℕ → ℕ → ℕ → ℕ
bit_of n a u v = (a * n + u) * n + v

-- the triples of l labels and n nodes whose bits are set
abbrev pub cell : List ℕ → ℕ → ℕ → Triples
cell words l n a u v = in_range? l n a u v && bit words (bit_of n a u v)

-- the words after the triple (a, u, v) is put: with its bit set, or as they were where it is out of range
abbrev pub words_after_put : List ℕ → ℕ → ℕ → ℕ → ℕ → ℕ → List ℕ
words_after_put words l n a u v = cond (in_range? l n a u v) (with_bit words (bit_of n a u v)) words
