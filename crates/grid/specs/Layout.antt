-- Whether a grid can be made in some words, how many it needs, and what the words are once it is made. Assumes nothing.
use Rattle.std.specs.Prelude.{ℕ, ◌+◌, ◌*◌, ◌/◌, Bool, cond, ◌&&◌, List, ◌++◌, length, drop, replicate, Ok, Err, Result, ⊤, nat_le}
use Rattle.graph.specs.Counts.{counts_fit}
use Rattle.graph.specs.declared.counts.FitFault.{FitFault}
use Rattle.graph.specs.declared.counts.FitFault.TheVariants.{Counts, Memory}

-- k words have a bit for each triple of l labels and n nodes
abbrev pub enough : ℕ → ℕ → ℕ → Bool
enough l n k = nat_le (l * n * n) (64 * k)

-- counts out of range are refused first, then too few words
abbrev pub fit_answer : ℕ → ℕ → ℕ → Result ⊤ FitFault
fit_answer l n k = cond (counts_fit l n) (cond (enough l n k) (Ok tt) (Err Memory)) (Err Counts)

-- a grid of l labels and n nodes can be made in k words
abbrev pub fitting : ℕ → ℕ → ℕ → Bool
fitting l n k = counts_fit l n && enough l n k

-- the fewest words that are enough
abbrev pub words_for : ℕ → ℕ → ℕ
words_for l n = (l * n * n + 63) / 64

-- the words with the first k of them 0, and all others as they were
abbrev pub with_zeros : ℕ → List ℕ → List ℕ
with_zeros k words = replicate k 0 ++ drop k words

-- the words after a grid is made in them: just as many as it needs are 0, and none where it cannot be made as asked
abbrev pub cleared : ℕ → ℕ → List ℕ → List ℕ
cleared l n words = cond (fitting l n (length words)) (with_zeros (words_for l n) words) words
